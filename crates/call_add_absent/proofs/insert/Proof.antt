-- The bytes are placed at X, which the entry then names. Assumes nothing.
use Prim.Native.Nat.{ℕ, ◌+◌, ◌≤◌}
use native.Mathlib.Omega.{arith}
use mathlib.Core.Path.{◌≡◌, sym, ap, ◌∙◌}
use mathlib.Core.List.{◌++◌}
use lib.ListN.{length}
use borrow.Author.Rules.{rules}
use Rattle.spec_file.specs.Bytes.{Bytes, part}
use Rattle.spec_file.specs.Limits.{free_field}
use Rattle.spec_file.specs.Image.{field, layout_of}
use Rattle.spec_file.specs.Messages.{take_space}
use Rattle.law_file.proofs.Opened.{opened-facts}
use Rattle.bytes_words.proofs.Numbers.{part-zero}
use Rattle.table_search.proofs.Heads.{SameHead, same-open}
use Rattle.message_write.proofs.Steps.{head-space, inserted-steps}
use Rattle.call_add_absent.proofs.insert.Statement.{statement}
use Rattle.call_add_absent.proofs.insert.Tie as tie

abbrev start-at-read-u32-arg : tie.After-shared_slice_known-2-1 → tie.Start
start-at-read-u32-arg c = c.before.before.before

read-u32-requires : tie.Need-read_u32-requires
read-u32-requires c κs = omega (arith, (opened-facts _ (start-at-read-u32-arg c).requires.0.accepted).size_low)

cast-new : tie.Need-overflow_cast-read_u32
cast-new c = search rules

new-requires : tie.Need-new-free-requires
new-requires c κs = search rules

new-requires-2 : tie.Need-new-requires
new-requires-2 c κs = search rules

take-space-requires : tie.Need-take_space-requires
take-space-requires c κs = search rules

abbrev shared-slice-known-at-take-space : tie.After-take_space → tie.After-shared_slice_known-1
shared-slice-known-at-take-space c = c.before.before.before.before.before.before

abbrev start-at-take-space : tie.After-take_space → tie.Start
start-at-take-space c = c.before.before.before.before.before.before.before.before

-- ---- with the bytes placed
placed : (c : tie.After-take_space)
    → c.take_space.new.image
    ≡ take_space (layout_of (start-at-take-space c).args.image.now) (start-at-take-space c).args.image.now
    (start-at-take-space c).args.bytes.now
placed c =
    let A = (start-at-take-space c).args in
    c.take_space.ensures
    ∙ ap (λ (t : Bytes). take_space (layout_of A.image.now) A.image.now (t ++ A.bytes.now))
    (part-zero A.image.now _)

head : (c : tie.After-take_space) → SameHead (start-at-take-space c).args.image.now c.take_space.new.image
head c =
    head-space (start-at-take-space c).requires.0 c.take_space.new.image (start-at-take-space c).args.bytes.now
    (start-at-take-space c).requires.3.room (placed c)

abbrev start-at-new : tie.After-new-free → tie.Start
start-at-new c = c.before.before.before.before.before

free : (c : tie.After-new-free) → c.new-free.result.0 ≡ field (start-at-new c).args.image.now free_field
free c = c.new-free.ensures ∙ c.read_u32.ensures

abbrev read-u32-at-enter-arg : tie.After-enter-arg-1 → tie.After-read_u32
read-u32-at-enter-arg c = c.before.before.before.before.before.before.before

abbrev start-at-read-u32 : tie.After-read_u32 → tie.Start
start-at-read-u32 c = c.before.before.before.before

abbrev start-at-enter-arg : tie.After-enter-arg-1 → tie.Start
start-at-enter-arg c = c.before.before.before.before.before.before.before.before.before.before.before

abbrev new-at-enter-arg : tie.After-enter-arg-1 → tie.After-new-free
new-at-enter-arg c = c.before.before.before.before.before.before

enter-requires : tie.Need-enter-requires
enter-requires c κs =
    let S = (start-at-enter-arg c) in
    let f = opened-facts S.args.image.now S.requires.0.accepted in (
      same-open (head c.before.before.before) S.requires.0,
      S.requires.1,
      S.requires.2,
      omega (arith, free (new-at-enter-arg c), f.free-high, f.size-high),
    )

same_length : tie.Need-shape_of-image
same_length c = search rules

abbrev new2-at-slice-known3 : tie.After-slice_known-3-1 → tie.After-new
new2-at-slice-known3 c = c.before.before.before.before.before.before.before

abbrev slice-known-at-new2 : tie.After-new → tie.After-slice_known-1
slice-known-at-new2 c = c.before.before.before.before.before.before

abbrev start-at-new2 : tie.After-new → tie.Start
start-at-new2 c = c.before.before.before.before.before.before.before

abbrev start-at-slice-known3 : tie.After-slice_known-3-1 → tie.Start
start-at-slice-known3 c = c.before.before.before.before.before.before.before.before.before.before.before.before.before.before

abbrev take-space-at-slice-known3 : tie.After-slice_known-3-1 → tie.After-take_space
take-space-at-slice-known3 c = c.before.before.before.before.before.before

abbrev new-at-slice-known3 : tie.After-slice_known-3-1 → tie.After-new-free
new-at-slice-known3 c = c.before.before.before.before.before.before.before.before.before

returns : tie.Need-returns
returns c =
    let A = (start-at-slice-known3 c).args in
    let T = (take-space-at-slice-known3 c) in
    inserted-steps A.image.now T.take_space.new.image c.enter.new.image A.key.now
    A.bytes.now A.slot.0 _
    (placed T) (head T).layout (free (new-at-slice-known3 c)) c.enter.ensures

pub insert_spec : {M : Type 1} → statement M
insert_spec =
    tie.close
    (tie.spec
    read-u32-requires
    cast-new
    new-requires
    new-requires-2
    take-space-requires
    enter-requires
    same_length
    returns)
