-- What the call answers and leaves, by the check's verdict.
--     told-refused, told-sound, told-slot, told-count      number and image for each verdict
--     check-refused, check-unsound      the header, for each verdict
--     compact-leaves, compact-small      a refused call leaves the image; an accepted one's is below 2^32
-- Assumes nothing.
use mathlib.Core.Path.{◌≡◌, refl, sym, ap, ap₂, ◌∙◌}
use Prim.Native.Nat.{ℕ, ◌^◌, ◌<◌}
use native.Mathlib.Omega.{arith}
use mathlib.Core.Bool.{Bool, true, false}
use mathlib.Core.Option.{Option, none, some}
use mathlib.Core.List.{[], ◌∷◌}
use lib.ListN.{length}
use borrow.Author.Tests.{ne_eqb, eq-eqb}
use Rattle.spec_file.specs.Bytes.{Bytes}
use Rattle.spec_file.specs.Image.{layout_of}
use Rattle.spec_file.specs.Questions.{ask, first_no, open_number}
use Rattle.spec_file.specs.Calls.{plain, settled}
use Rattle.spec_file.specs.Inspect.{lowest, slot_fails, count_sound, Verdict, sound, verdict_of, table_verdict, check}
use Rattle.spec_compaction.specs.Compact.{is_sound, compact_number, compacted, compact}
use Rattle.law_file.proofs.Tests.{by-eq, zero-yes, zero-no}
use Rattle.law_file.proofs.Opened.{first_no-none, first_no-yes, first_no-no, first_no-opened, first_no-refused, opened-facts}
use Rattle.law_file.proofs.Verdict.{check-open}

-- the call from its number
module _ (img : Bytes) (n : ℕ) (e : compact_number img ≡ n) where
  number_is : (compact img).answer.number ≡ n
  unfolding compact plain
  number_is = e

  changed : n ≡ 0 → (compact img).after ≡ compacted (layout_of img) img
  unfolding compact settled
  changed z = zero-yes (compact_number img) (compacted (layout_of img) img) img (e ∙ z)

  unchanged : (n ≡ 0 → ⊥) → (compact img).after ≡ img
  unfolding compact settled
  unchanged z = zero-no (compact_number img) (compacted (layout_of img) img) img (λ q. z (sym e ∙ q))

-- a table's verdict is no refusal
table-opens : (c : Bool) (o : Option ℕ) (n : ℕ) → Verdict.refused n ≡ verdict_of c o → ⊥
unfolding verdict_of
table-opens c (some i) n e = let z : ◌≡◌ {A = ℕ} 0 1 = cc in absurd (omega arith)
table-opens true none n e = let z : ◌≡◌ {A = ℕ} 0 1 = cc in absurd (omega arith)
table-opens false none n e = let z : ◌≡◌ {A = ℕ} 0 1 = cc in absurd (omega arith)

check-closed : (img : Bytes) → (open_number img ≡ 0 → ⊥) → check img ≡ Verdict.refused (open_number img)
unfolding check
check-closed img z = rw (ne_eqb (open_number img) 0 z) refl

check-opened : (img : Bytes) → open_number img ≡ 0 → check img ≡ table_verdict img
unfolding check
check-opened img z = rw (eq-eqb (open_number img) 0 z) refl

-- the call's number: the opening's, or that of question 15
number-closed : (img : Bytes) → (open_number img ≡ 0 → ⊥) → compact_number img ≡ open_number img
unfolding compact_number
number-closed img z = first_no-refused img (ask 15 (is_sound (check img)) ∷ []) z

number-opened : (img : Bytes) → open_number img ≡ 0 → compact_number img ≡ first_no (ask 15 (is_sound (check img)) ∷ [])
unfolding compact_number
number-opened img z = first_no-opened img (ask 15 (is_sound (check img)) ∷ []) z

pub sound-yes : is_sound sound ≡ true
unfolding is_sound
sound-yes = refl

pub slot-no : (i : ℕ) → is_sound (Verdict.slot_bad i) ≡ false
unfolding is_sound
slot-no i = refl

pub count_no : is_sound Verdict.count_bad ≡ false
unfolding is_sound
count_no = refl

-- the check refuses with the opening's number; any other verdict is one of an opened image
pub check-refused : (img : Bytes) (n : ℕ) → Verdict.refused n ≡ check img
    → (n ≡ open_number img) × (open_number img ≡ 0 → ⊥)
check-refused img n e =
    by-eq (open_number img) 0
    (λ z. absurd (table-opens (count_sound (layout_of img) img)
    (lowest (slot_fails (layout_of img) img) (layout_of img).N 0) n (e ∙ check-opened img z)))
    (λ z.
    let f : Verdict.refused n ≡ Verdict.refused (open_number img) = e ∙ check-closed img z in
    let q : n ≡ open_number img = cc in
    (q, z))

pub check-unsound : (img : Bytes) (v : Verdict) → v ≡ check img → ((n : ℕ) → v ≡ Verdict.refused n → ⊥)
    → open_number img ≡ 0
check-unsound img v e open' =
    by-eq (open_number img) 0 (λ y. y) (λ y. absurd (open' (open_number img) (e ∙ check-closed img y)))

pub told-refused : (img : Bytes) (n : ℕ) → Verdict.refused n ≡ check img
    → (n ≡ (compact img).answer.number) × (img ≡ (compact img).after)
told-refused img n e =
    let w = check-refused img n e in
    let is : compact_number img ≡ n = number-closed img w.1 ∙ sym w.0 in
    (sym (number_is img n is), sym (unchanged img n is (λ y. w.1 (sym w.0 ∙ y))))

pub told-sound : (img : Bytes) → check img ≡ sound
    → (0 ≡ (compact img).answer.number) × (compacted (layout_of img) img ≡ (compact img).after)
told-sound img e =
    let is : compact_number img ≡ 0 =
    number-opened img (check-open img e)
    ∙ first_no-yes 15 (is_sound (check img)) [] (ap is_sound e ∙ sound-yes)
    ∙ first_no-none in
    (sym (number_is img 0 is), sym (changed img 0 is refl))

-- any other verdict
pub told-unsound : (img : Bytes) (v : Verdict) → v ≡ check img → is_sound v ≡ false
    → ((n : ℕ) → v ≡ Verdict.refused n → ⊥)
    → (15 ≡ (compact img).answer.number) × (img ≡ (compact img).after)
told-unsound img v e no' open' =
    let is : compact_number img ≡ 15 =
    number-opened img (check-unsound img v e open')
    ∙ first_no-no 15 (is_sound (check img)) [] (ap is_sound (sym e) ∙ no') in
    (sym (number_is img 15 is), sym (unchanged img 15 is (λ y. omega (arith, y))))

pub told-slot : (img : Bytes) (i : ℕ) → Verdict.slot_bad i ≡ check img
    → (15 ≡ (compact img).answer.number) × (img ≡ (compact img).after)
told-slot img i e =
    told-unsound img (Verdict.slot_bad i) e (slot-no i)
    (λ n q. let z : ◌≡◌ {A = ℕ} 0 1 = cc in absurd (omega arith))

pub told-count : (img : Bytes) → Verdict.count_bad ≡ check img
    → (15 ≡ (compact img).answer.number) × (img ≡ (compact img).after)
told-count img e =
    told-unsound img Verdict.count_bad e count_no
    (λ n q. let z : ◌≡◌ {A = ℕ} 0 1 = cc in absurd (omega arith))

-- ---- by the number

pub compact-leaves : (img : Bytes) → ((compact img).answer.number ≡ 0 → ⊥) → (compact img).after ≡ img
compact-leaves img z = unchanged img (compact_number img) refl (λ h. z (number_is img (compact_number img) refl ∙ h))

pub compact-small : (img : Bytes) → (compact img).answer.number ≡ 0 → length img < 2 ^ 32
compact-small img z =
    let o : open_number img ≡ 0 =
    by-eq (open_number img) 0 (λ e. e)
    (λ e. absurd (e (sym (number-closed img e) ∙ sym (number_is img (compact_number img) refl) ∙ z))) in
    omega (arith, (opened-facts img o).size-high)
