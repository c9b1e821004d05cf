-- What the call answers and leaves, by the check's verdict.
--     number-length, number-refused, number-unsound, number-sound      the number
--     asks-20, asks-13, asks-0      questions 20 and 13
--     into-refused, into-same      the target
--     other-head, other-most       the other version's header
-- Assumes nothing.
use mathlib.Core.Path.{◌≡◌, refl, sym, ap, ◌∙◌}
use Prim.Native.Nat.{ℕ, ◌+◌, ◌-◌, ◌≤◌, ◌<◌}
use native.Mathlib.Omega.{arith}
use mathlib.Core.Bool.{Bool, true, false}
use mathlib.Core.List.{[], ◌∷◌}
use lib.ListN.{length}
use borrow.Author.Tests.{le-leb, lt-leb, not-true}
use Rattle.spec_file.specs.Bytes.{Bytes}
use Rattle.spec_file.specs.Image.{major_of, wide, width_of, most_of, layout_of}
use Rattle.spec_file.specs.Messages.{head_size}
use Rattle.spec_file.specs.Questions.{ask, first_no, size_allowed, version_known, header_sound, open_number, opened}
use Rattle.spec_file.specs.Calls.{settled}
use Rattle.spec_file.specs.Inspect.{taken, Verdict, sound, check}
use Rattle.spec_compaction.specs.Compact.{is_sound}
use Rattle.spec_conversion.specs.Convert.{other_major, recast, other_layout, needs_from, told_from, lengths_told, target_holds, converted, convert_number, convert_into}
use Rattle.law_file.proofs.Tests.{by_bool}
use Rattle.law_file.proofs.Opened.{first_no-yes, first_no-no, first_no-none, first_no-opened, first_no-refused}
use Rattle.law_file.proofs.Outcomes.{settled-yes, settled-no}
use Rattle.law_file.proofs.Verdict.{check-open, check-messages}
use Rattle.header_layout.specs.Shapes.{most_by}
use Rattle.header_layout.specs.declared.shape.Shape.{Shape}
use Rattle.table_search.proofs.Headers.{layout-slots}
use Rattle.message_stretch.specs.Checked.{Checked}
use Rattle.compact_stages.specs.Stages.{Sound}
use Rattle.call_compact.proofs.Told.{check-refused, check-unsound, sound-yes}

module _ (img : Bytes) (L : ℕ) where
  pub number-length : size_allowed L ≡ false → 1 ≡ convert_number img L
  unfolding convert_number
  number-length n =
      sym (by_bool (size_allowed (length img))
      (λ y. first_no-yes 1 _ _ y ∙ first_no-no 1 _ _ n)
      (λ m. first_no-no 1 _ _ m))

  -- the target's 1 said, the number is that of the questions to the source
  asked : size_allowed L ≡ true → convert_number img L
      ≡ first_no (opened img (ask 15 (is_sound (check img)) ∷ ask 20 (lengths_told img) ∷ ask 13 (target_holds img L) ∷ []))
  unfolding convert_number opened
  asked y =
      by_bool (size_allowed (length img))
      (λ s. first_no-yes 1 _ _ s ∙ first_no-yes 1 _ _ y ∙ sym (first_no-yes 1 _ _ s))
      (λ n. first_no-no 1 _ _ n ∙ sym (first_no-no 1 _ _ n))

  module _ (y : size_allowed L ≡ true) where
    pub number-refused : (n : ℕ) → Verdict.refused n ≡ check img → (n ≡ convert_number img L) × (n ≡ 0 → ⊥)
    number-refused n e =
        let w = check-refused img n e in
        (w.0 ∙ sym (asked y ∙ first_no-refused img _ w.1), λ z. w.1 (sym w.0 ∙ z))

    pub number-unsound : (v : Verdict) → v ≡ check img → is_sound v ≡ false
        → ((n : ℕ) → v ≡ Verdict.refused n → ⊥) → 15 ≡ convert_number img L
    number-unsound v e no' open' =
        sym (asked y
        ∙ first_no-opened img _ (check-unsound img v e open')
        ∙ first_no-no 15 (is_sound (check img)) _ (ap is_sound (sym e) ∙ no'))

    pub number-sound : check img ≡ sound
        → first_no (ask 20 (lengths_told img) ∷ ask 13 (target_holds img L) ∷ []) ≡ convert_number img L
    number-sound e =
        sym (asked y
        ∙ first_no-opened img _ (check-open img e)
        ∙ first_no-yes 15 (is_sound (check img)) _ (ap is_sound e ∙ sound-yes))

-- ---- questions 20 and 13, by the numbers that the code reckons

module _ (img : Bytes) (L bytes : ℕ) (told : Bool)
    (eb : bytes ≡ needs_from (layout_of img) (other_layout img) img (layout_of img).N 0)
    (et : told ≡ told_from (layout_of img) (other_layout img) img (layout_of img).N 0) where
  abbrev asks : ℕ
  asks = first_no (ask 20 (lengths_told img) ∷ ask 13 (target_holds img L) ∷ [])

  lengths : (b : Bool) → told ≡ b → lengths_told img ≡ b
  unfolding lengths_told
  lengths b e = sym et ∙ e

  pub asks-20 : told ≡ false → 20 ≡ asks
  asks-20 n = sym (first_no-no 20 (lengths_told img) _ (lengths false n))

  short : L < (layout_of img).D + bytes → target_holds img L ≡ false
  unfolding target_holds
  short l = lt-leb _ L (omega (arith, l, eb))

  holds : (layout_of img).D + bytes ≤ L → target_holds img L ≡ true
  unfolding target_holds
  holds l = le-leb _ L (omega (arith, l, eb))

  pub asks-13 : told ≡ true → L < (layout_of img).D + bytes → 13 ≡ asks
  asks-13 y l =
      sym (first_no-yes 20 (lengths_told img) _ (lengths true y) ∙ first_no-no 13 (target_holds img L) [] (short l))

  pub asks-0 : told ≡ true → (layout_of img).D + bytes ≤ L → 0 ≡ asks
  asks-0 y l =
      sym (first_no-yes 20 (lengths_told img) _ (lengths true y)
      ∙ first_no-yes 13 (target_holds img L) [] (holds l)
      ∙ first_no-none)

-- ---- the target

pub into-refused : (img t : Bytes) (n : ℕ) → n ≡ convert_number img (length t) → (n ≡ 0 → ⊥) → t ≡ convert_into img t
unfolding convert_into
into-refused img t n e z =
    sym (settled-no (convert_number img (length t)) t (converted img (length t)) (λ q. z (e ∙ q)))

pub into-same : (img t t' : Bytes) (n : ℕ) → n ≡ convert_number img (length t)
    → t' ≡ settled n t (converted img (length t)) → t' ≡ convert_into img t
unfolding convert_into
into-same img t t' n e q = q ∙ ap (λ (k : ℕ). settled k t (converted img (length t))) e

-- ---- the other version's header

-- 5 for 4, and 4 for 5
pub other-head : (img : Bytes) (head : ℕ) → head ≡ head_size (layout_of img) → 9 - head ≡ head_size (other_layout img)
unfolding head_size layout_of other_layout recast width_of other_major wide
other-head img head e =
    by_bool (wide (major_of img))
    (λ y. let w : head ≡ 5 = e ∙ rw y refl in rw (w, y) refl)
    (λ n. let w : head ≡ 4 = e ∙ rw n refl in rw (w, n) refl)

pub other-most : (img : Bytes) (head : ℕ) → head ≡ head_size (other_layout img) → most_by head ≡ (other_layout img).most
unfolding head_size other_layout recast width_of most_of most_by
other-most img head e =
    by_bool (wide (other_major (major_of img)))
    (λ y. let w : head ≡ 5 = e ∙ rw y refl in rw (w, y) refl)
    (λ n. let w : head ≡ 4 = e ∙ rw n refl in rw (w, n) refl)

-- ---- every slot of a sound image can be read

pub checked-all : (img : Bytes) (s : Shape) → Sound img s → Checked img s s.slots
checked-all img s h =
    record {
      opened = h.opened;
      low = omega arith;
      messages = λ i l t.
          check-messages img h.checked i (omega (arith, l, layout-slots img s h.opened.shape))
          (unfold taken in not-true _ t);
    }
