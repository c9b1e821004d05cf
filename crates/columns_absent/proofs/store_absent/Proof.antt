-- The slot that the search ended at is taken where C is below N and the columns have room. Else, and where no slot was
-- empty, the answer is 10, or 12 or 13. Assumes nothing.
use Prim.Native.Nat.{ℕ, ◌+◌, ◌≤◌, ◌<◌}
use native.Mathlib.Omega.{arith}
use mathlib.Core.Path.{◌≡◌, refl, sym, ap, ◌∙◌}
use mathlib.Core.Option.{some}
use lib.ListN.{length}
use borrow.Author.Rules.{rules}
use borrow.Author.Tests.{le-ltb, lt-ltb}
use Rattle.spec_file.specs.Bytes.{Bytes}
use Rattle.spec_file.specs.Limits.{points_field}
use Rattle.spec_file.specs.Image.{field, layout_of}
use Rattle.spec_file.specs.Search.{Probe, empty}
use Rattle.spec_file.specs.Messages.{fresh_text, inserted, added_at}
use Rattle.spec_file.specs.Questions.{first_no, point_asks, place_number}
use Rattle.spec_file.specs.Calls.{settled}
use Rattle.law_file.proofs.Opened.{opened-facts}
use Rattle.law_file.proofs.Outcomes.{settled-yes, settled-no, point-10-exhausted, point-10-full, point-fresh}
use Rattle.spec_columns.specs.Columns.{columns}
use Rattle.law_columns.proofs.Turned.{length-stored}
use Rattle.table_search.proofs.Headers.{layout-slots}
use Rattle.table_search.proofs.Taken.{other-empty, empty-is, empty-within}
use Rattle.message_write.specs.Fits.{Fits}
use Rattle.message_write.proofs.Steps.{place-fits}
use Rattle.columns_absent.proofs.store_absent.Statement.{statement}
use Rattle.columns_absent.proofs.store_absent.Tie as tie

-- ---- what is stored; the number and the image, of a search that ended so
abbrev text : tie.Start → Bytes
text c = columns c.args.width c.args.records.now

abbrev number : tie.Start → Probe → ℕ
number c p = first_no (point_asks (layout_of c.args.image.now) c.args.image.now p (text c) 2)

abbrev after : tie.Start → Probe → Bytes
after c p = added_at (layout_of c.args.image.now) c.args.image.now p c.args.key.now (text c) 2

-- the answer r, other than 0, of a search that ended as q says
refused : (c : tie.Start) (p q : Probe) (r : ℕ) → p ≡ q → r ≡ number c q → (r ≡ 0 → ⊥)
    → (r ≡ number c p) × (c.args.image.now ≡ settled r c.args.image.now (after c p))
refused c p q r e h z = (h ∙ sym (ap (number c) e), sym (settled-no r c.args.image.now (after c p) z))

long : (c : tie.Start) → length (text c) ≡ 1 + length c.args.records.now
long c = length-stored c.args.width c.args.records.now c.requires.4

enum-known-found : tie.Need-enum_known-found
enum-known-found c = search rules

returns : tie.Need-returns-in_default
returns c =
    let S = c.before.before.before.before in
    refused S _ _ 10 (other-empty S.args.found c.in_default.in_default-own.keys2 S.requires.3)
    (sym (point-10-exhausted _ _ (text S) 2 refl)) (λ z. omega arith)

-- ---- an empty slot was met

abbrev start-at-found : tie.In-Empty → tie.Start
start-at-found c = c.before.before.before.before

read-u32-requires : tie.Need-read_u32-requires
read-u32-requires c κs =
    omega (arith, (opened-facts _ (start-at-found c).requires.0.accepted).size_low)

cast-if1 : tie.Need-overflow_cast-read_u32
cast-if1 c = search rules

same_length : tie.Need-shape_of-image-then-slots-read_u32
same_length c = search rules

returns-2 : tie.Need-returns-then-slots-read_u32
returns-2 c =
    let F = c.before.before in
    let S = start-at-found F in
    let img = S.args.image.now in
    let full : (layout_of img).N ≤ field img points_field =
    omega (arith, c.if-slots-read_u32.true, c.read_u32.ensures, layout-slots img S.args.shape S.requires.0.shape) in
    refused S _ _ 10 (empty-is F.in-Empty.is)
    (sym (point-10-full (layout_of img) img (text S) 2 _ refl (le-ltb (field img points_field) (layout_of img).N full)))
    (λ z. omega arith)

-- ---- C is below N

abbrev found-at-else1 : tie.Else-slots-read_u32 → tie.In-Empty
found-at-else1 c = c.before.before

abbrev start-at-else1 : tie.Else-slots-read_u32 → tie.Start
start-at-else1 c = c.before.before.before.before.before.before

abbrev slot_at : tie.Else-slots-read_u32 → ℕ
slot_at c = (found-at-else1 c).in-Empty.slot.0

-- the number is that of 12 and 13
placing : (c : tie.Else-slots-read_u32)
    → let S : tie.Start = start-at-else1 c in
    let img : Bytes = S.args.image.now in
    number S (empty (slot_at c)) ≡ place_number (layout_of img) img (some (text S))
unfolding fresh_text
placing c =
    let S = start-at-else1 c in
    let img = S.args.image.now in
    let less : field img points_field < (layout_of img).N =
    omega (arith, c.if-slots-read_u32.false, c.read_u32.ensures, layout-slots img S.args.shape S.requires.0.shape) in
    point-fresh (layout_of img) img (text S) 2 _ refl (lt-ltb (field img points_field) (layout_of img).N less)

add-room-number : tie.Need-overflow_add-records
add-room-number c = search rules

room-number-requires : tie.Need-room_number-number-requires
room-number-requires c κs = search rules

same-length-2 : tie.Need-shape_of-image-then-number-ne0
same-length-2 c = search rules

abbrev else1-at-room : tie.After-room_number-number → tie.Else-slots-read_u32
else1-at-room c = c.before

-- as the code has asked for it
asked : (c : tie.After-room_number-number)
    → let S : tie.Start = start-at-else1 (else1-at-room c) in
    let img : Bytes = S.args.image.now in
    c.room_number-number.result ≡ place_number (layout_of img) img (some (text S))
asked c = let S = start-at-else1 (else1-at-room c) in c.room_number-number.ensures (text S) (long S)

returns-3 : tie.Need-returns-then-number-ne0
returns-3 c =
    let R = c.before in
    let E = else1-at-room R in
    refused (start-at-else1 E) _ _ R.room_number-number.result (empty-is (found-at-else1 E).in-Empty.is)
    (asked R ∙ sym (placing E)) c.if-number-ne0.true

insert-records-requires : tie.Need-insert_records-requires
insert-records-requires c κs =
    let Z = c in
    let R = c.before.before in
    let E = else1-at-room R in
    let S = start-at-else1 E in
    let fits = place-fits S.requires.0 (text S) (sym (asked R) ∙ Z.if-number-ne0.false) in (
      S.requires.0,
      empty-within (found-at-else1 E).in-Empty.is S.requires.1,
      S.requires.2,
      record { small = omega (arith, long S, fits.small); room = omega (arith, long S, fits.room) },
      S.requires.4,
    )

same-length-3 : tie.Need-shape_of-image
same-length-3 c = search rules

abbrev else2-at-end : tie.After-slice_known-2-1 → tie.Else-number-ne0
else2-at-end c = c.before.before.before.before

returns-4 : tie.Need-returns
unfolding added_at fresh_text
returns-4 c =
    let Z = else2-at-end c in
    let R = Z.before in
    let E = else1-at-room R in
    let S = start-at-else1 E in
    let img = S.args.image.now in
    let is = empty-is (found-at-else1 E).in-Empty.is in (
      sym Z.if-number-ne0.false ∙ asked R ∙ sym (ap (number S) is ∙ placing E),
      c.insert_records.ensures
          ∙ sym (settled-yes 0 img (after S (empty (slot_at E))) refl)
          ∙ ap (settled 0 img) (sym (ap (after S) is)),
    )

pub store_absent_spec : {M : Type 1} → statement M
store_absent_spec =
    tie.close
    (tie.spec
    enum-known-found
    returns
    read-u32-requires
    cast-if1
    same_length
    returns-2
    add-room-number
    room-number-requires
    same-length-2
    returns-3
    insert-records-requires
    same-length-3
    returns-4)
