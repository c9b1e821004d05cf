-- The slot that the search ended at is taken where C is below N. Else, and where no slot was empty, the answer is 10;
-- in mode 4 it is 14 before that. Assumes nothing.
use Prim.Native.Nat.{ℕ, ◌≤◌, ◌<◌}
use lib.Dec.{eqb}
use native.Mathlib.Omega.{arith}
use mathlib.Core.Path.{◌≡◌, refl, sym, ap, ap₂, ◌∙◌}
use mathlib.Core.Bool.{false}
use borrow.Author.Rules.{rules}
use borrow.Author.Tests.{le-ltb, lt-ltb, eq-eqb, ne_eqb}
use Rattle.spec_file.specs.Bytes.{Bytes}
use Rattle.spec_file.specs.Limits.{points_field}
use Rattle.spec_file.specs.Image.{field, layout_of}
use Rattle.spec_file.specs.Search.{Probe}
use Rattle.spec_file.specs.Messages.{fresh_text, inserted, added_at}
use Rattle.spec_file.specs.Questions.{first_no, point_asks}
use Rattle.spec_file.specs.Calls.{settled}
use Rattle.law_file.proofs.Opened.{opened-facts}
use Rattle.law_file.proofs.Outcomes.{settled-no, point-14, point-10-exhausted, point-10-full, point-fresh}
use Rattle.table_search.proofs.Headers.{layout-slots}
use Rattle.table_search.proofs.Taken.{other-empty, empty-is, empty-within}
use Rattle.call_add_absent.proofs.add_absent.Statement.{statement}
use Rattle.call_add_absent.proofs.add_absent.Tie as tie

-- ---- the number and the image, of a search that ended so
abbrev number : tie.Start → Probe → ℕ
number c p =
    first_no (point_asks (layout_of c.args.image.now) c.args.image.now p c.args.bytes.now c.args.mode)

abbrev after : tie.Start → Probe → Bytes
after c p =
    added_at (layout_of c.args.image.now) c.args.image.now p c.args.key.now c.args.bytes.now
    c.args.mode

ten : (c : tie.Start) (p q : Probe) → p ≡ q → number c q ≡ 10
    → (10 ≡ number c p) × (c.args.image.now ≡ settled 10 c.args.image.now (after c p))
ten c p q e h = (sym (ap (number c) e ∙ h), sym (settled-no 10 c.args.image.now (after c p) (λ z. omega arith)))

abbrev start-at-then1 : tie.Then-mode-eq-WITHDRAW → tie.Start
start-at-then1 c = c.before.before.before.before

returns : tie.Need-returns-then-mode-eq-WITHDRAW
returns c =
    let S = start-at-then1 c in
    let A = S.args in (
      sym (point-14 (layout_of A.image.now) A.image.now A.bytes.now A.mode _ S.requires.3
          (eq-eqb A.mode 4 c.if-mode-eq-WITHDRAW.true)),
      sym (settled-no 14 A.image.now _ (λ z. omega arith)),
    )

-- ---- in another mode

abbrev start-at-else1 : tie.Else-mode-eq-WITHDRAW → tie.Start
start-at-else1 c = c.before.before.before.before

other : (c : tie.Else-mode-eq-WITHDRAW) → eqb (start-at-else1 c).args.mode 4 ≡ false
other c = ne_eqb (start-at-else1 c).args.mode 4 c.if-mode-eq-WITHDRAW.false

enum-known-found : tie.Need-enum_known-found
enum-known-found c = search rules

returns-2 : tie.Need-returns-in_default
returns-2 c =
    let E = c.before in
    let S = start-at-else1 E in
    ten S _ _ (other-empty S.args.found c.in_default.in_default-own.keys2 S.requires.3)
    (point-10-exhausted _ _ S.args.bytes.now S.args.mode (other E))

abbrev else1-at-read-u32-arg : tie.In-Empty → tie.Else-mode-eq-WITHDRAW
else1-at-read-u32-arg c = c.before

abbrev start-at-read-u32-arg : tie.In-Empty → tie.Start
start-at-read-u32-arg c = c.before.before.before.before.before

read-u32-requires : tie.Need-read_u32-requires
read-u32-requires c κs = omega (arith, (opened-facts _ (start-at-read-u32-arg c).requires.0.accepted).size_low)

cast-if2 : tie.Need-overflow_cast-read_u32
cast-if2 c = search rules

same_length : tie.Need-shape_of-image-then-slots-read_u32
same_length c = search rules

abbrev else1-at-then2 : tie.Then-slots-read_u32 → tie.Else-mode-eq-WITHDRAW
else1-at-then2 c = c.before.before.before

abbrev found-at-then2 : tie.Then-slots-read_u32 → tie.In-Empty
found-at-then2 c = c.before.before

returns-3 : tie.Need-returns-then-slots-read_u32
returns-3 c =
    let E = else1-at-then2 c in
    let S = start-at-else1 E in
    let img = S.args.image.now in
    let full : (layout_of img).N ≤ field img points_field =
    omega (arith, c.if-slots-read_u32.true, c.read_u32.ensures, layout-slots img S.args.shape S.requires.0.shape) in
    ten S _ _ (empty-is (found-at-then2 c).in-Empty.is)
    (point-10-full (layout_of img) img S.args.bytes.now S.args.mode _ (other E)
    (le-ltb (field img points_field) (layout_of img).N full))

abbrev else1-at-insert-fresh-arg : tie.After-insert_fresh-arg-1 → tie.Else-mode-eq-WITHDRAW
else1-at-insert-fresh-arg c = c.before.before.before.before

abbrev start-at-insert-fresh-arg : tie.After-insert_fresh-arg-1 → tie.Start
start-at-insert-fresh-arg c = c.before.before.before.before.before.before.before.before

abbrev found-at-insert-fresh-arg : tie.After-insert_fresh-arg-1 → tie.In-Empty
found-at-insert-fresh-arg c = c.before.before.before

insert-fresh-requires : tie.Need-insert_fresh-requires
insert-fresh-requires c κs =
    let S = (start-at-insert-fresh-arg c) in
    (S.requires.0, empty-within (found-at-insert-fresh-arg c).in-Empty.is S.requires.1, S.requires.2)

same-length-2 : tie.Need-shape_of-image
same-length-2 c = search rules

abbrev known-told-at-slice-known2 : tie.After-slice_known-2-1 → tie.In-Empty
known-told-at-slice-known2 c = c.before.before.before.before.before.before

abbrev else1-at-slice-known2 : tie.After-slice_known-2-1 → tie.Else-mode-eq-WITHDRAW
else1-at-slice-known2 c = c.before.before.before.before.before.before.before

abbrev found-at-slice-known2 : tie.After-slice_known-2-1 → tie.In-Empty
found-at-slice-known2 c = c.before.before.before.before.before.before

abbrev else2-at-slice-known2 : tie.After-slice_known-2-1 → tie.Else-slots-read_u32
else2-at-slice-known2 c = c.before.before.before.before

abbrev read-u32-at-slice-known2 : tie.After-slice_known-2-1 → tie.After-read_u32
read-u32-at-slice-known2 c = c.before.before.before.before.before

returns-4 : tie.Need-returns
unfolding added_at
returns-4 c =
    let E = else1-at-slice-known2 c in
    let S = start-at-else1 E in
    let A = S.args in
    let img = A.image.now in
    let d = c.insert_fresh in
    let is = empty-is (found-at-slice-known2 c).in-Empty.is in
    let less : field img points_field < (layout_of img).N =
    omega (
      arith,
      (else2-at-slice-known2 c).if-slots-read_u32.false,
      (read-u32-at-slice-known2 c).read_u32.ensures,
      layout-slots img A.shape S.requires.0.shape,
    ) in (
      d.ensures.0
          ∙ sym (ap (number S) is
          ∙ point-fresh (layout_of img) img A.bytes.now A.mode _ (other E)
          (lt-ltb (field img points_field) (layout_of img).N less)),
      d.ensures.1 ∙ ap (settled d.result img) (sym (ap (after S) is)),
    )

pub add_absent_spec : {M : Type 1} → statement M
add_absent_spec =
    tie.close
    (tie.spec
    returns
    enum-known-found
    returns-2
    read-u32-requires
    cast-if2
    same_length
    returns-3
    insert-fresh-requires
    same-length-2
    returns-4)
