-- `call_compact::gather` meets its contract: where the active messages fill the data area, all stands as it has to.
-- Assumes nothing.
use Prim.Native.Nat.{ℕ, ◌+◌}
use native.Mathlib.Omega.{arith}
use mathlib.Core.Path.{◌≡◌, sym, ap, ◌∙◌, subst}
use borrow.Author.Rules.{rules}
use Rattle.spec_file.specs.Limits.{free_field}
use Rattle.spec_file.specs.Image.{field, layout_of}
use Rattle.law_file.proofs.Opened.{opened-facts}
use Rattle.header_layout.proofs.Shaped.{shape-area}
use Rattle.compact_stages.specs.Stages.{Stage, Begun}
use Rattle.compact_stages.proofs.Stages.{front-field}
use Rattle.compact_stages.proofs.Tight.{bytes_fit, tight-stage}
use Rattle.call_compact.proofs.gather.Statement.{statement}
use Rattle.call_compact.proofs.gather.Tie as tie

forget-dead-requires : tie.Need-forget_dead-bytes-requires
forget-dead-requires c κs = search rules

read-u32-requires : tie.Need-read_u32-free-requires
read-u32-requires c κs =
    let F = c in
    let S = c in
    omega (arith, F.forget_dead-bytes.auto.image, (opened-facts S.args.image.now S.requires.opened.accepted).size_low)

cast-free : tie.Need-overflow_cast-free
cast-free c = search rules

at-requires : tie.Need-at-requires
at-requires c κs = search rules

abbrev forgot : tie.After-at → tie.After-forget_dead-bytes
forgot c = c.before.before.before.before.before

abbrev start : tie.After-at → tie.Start
start c = c.before.before.before.before.before.before.before.before

-- D and X as they were read
area-is : (c : tie.After-at) → c.at.result ≡ (layout_of (start c).args.image.now).D
area-is c = c.at.ensures ∙ shape-area (start c).requires.opened

free-is : (c : tie.After-at) → c.read_u32-free.result ≡ field (start c).args.image.now free_field
free-is c =
    let F = (forgot c).forget_dead-bytes in
    c.read_u32-free.ensures
    ∙ front-field (start c).args.image.now F.new.image F.ensures.stage.size F.ensures.stage.front
    free_field (omega arith)

add-if1 : tie.Need-overflow_add-at
add-if1 c =
    let F = (forgot c).forget_dead-bytes in
    let S = start c in
    let img = S.args.image.now in
    let o = opened-facts img S.requires.opened.accepted in
    omega (
      arith,
      area-is c,
      bytes_fit img F.new.image S.args.shape F.result S.requires F.ensures,
      o.free-high,
      o.size-high,
    )

same_length : tie.Need-shape_of-image-then-at-bytes
same_length c = search rules

returns : tie.Need-returns-then-at-bytes
returns c =
    let T = c.before in
    let F = (forgot T).forget_dead-bytes in
    let S = start T in
    let img = S.args.image.now in
    subst (λ (n : ℕ). Stage (layout_of img) img F.new.image (field img free_field) n) (sym (free-is T))
    (tight-stage img F.new.image S.args.shape F.result S.requires F.ensures
    (ap (λ (n : ℕ). n + F.result) (sym (area-is T)) ∙ c.if-at-bytes.true ∙ free-is T))

-- the first stage, from which all are moved
begun : (c : tie.After-at)
    → Begun (start c).args.image.now (forgot c).forget_dead-bytes.new.image (start c).args.shape
begun c = record { sound = (start c).requires; low = omega arith; stage = (forgot c).forget_dead-bytes.ensures.stage }

move-all-requires : tie.Need-move_all-requires
move-all-requires c κs =
    let T = c.before.before in
    ((start T).args.image.now, begun T)

same-length-2 : tie.Need-shape_of-image
same-length-2 c = search rules

returns-2 : tie.Need-returns
returns-2 c =
    let P = c in
    let T = c.before.before.before.before.before in
    P.move_all.ensures (start T).args.image.now (begun T)

pub gather_spec : {M : Type 1} → statement M
gather_spec =
    tie.close
    (tie.spec
    forget-dead-requires
    read-u32-requires
    cast-free
    at-requires
    add-if1
    same_length
    returns
    move-all-requires
    same-length-2
    returns-2)
