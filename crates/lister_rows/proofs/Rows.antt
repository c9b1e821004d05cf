-- Lines of slots: their cases, their turns in the loop over slots, and their lengths.
--     text-bad, text-sound      the length of a slot's message
--     row-taken, row-vacant, lines_step, lines_end      a slot's line, and the lines from slot i on
--     listed-closed, listed-open      the whole text
--     line-length      of a line's pieces
-- Assumes nothing.
use mathlib.Core.Path.{◌≡◌, sym, ap, ◌∙◌}
use Prim.Native.Nat.{ℕ, suc, ◌+◌, ◌-◌, ◌≤◌, ◌<◌}
use native.Mathlib.Omega.{arith}
use mathlib.Core.Bool.{Bool, true, false, cond}
use mathlib.Core.List.{[], ◌++◌}
use lib.ListN.{length, length-append}
use Rattle.spec_file.specs.Bytes.{Bytes}
use Rattle.spec_file.specs.Image.{Layout, layout_of, slot, key_of, offset_of}
use Rattle.spec_file.specs.Messages.{shown_length}
use Rattle.spec_file.specs.Questions.{message_sound, open_number}
use Rattle.spec_file.specs.Inspect.{taken}
use Rattle.law_file.proofs.Tests.{zero-yes, zero-no}
use Rattle.lister_text.specs.Text.{decimal, hexes}
use Rattle.lister_rows.specs.Listed.{heading, bad, length_text, line, row, lines, refused_text, listed}

-- o is the offset that stands in the slot
module _ (g : Layout) (img : Bytes) (o o' : ℕ) (q : o ≡ o') where
  pub text-bad : message_sound g img o ≡ false → length_text g img o' ≡ bad
  unfolding length_text
  text-bad s = rw (← q, s)

  pub text-sound : message_sound g img o ≡ true → (m : ℕ) → m ≡ shown_length g img o → length_text g img o' ≡ decimal m
  unfolding length_text
  text-sound s m e = rw (← q, s, e)

module _ (g : Layout) (img : Bytes) where
  pub row-taken : (i : ℕ) → taken g img i ≡ true → row g img i ≡ line g img i
  unfolding row
  row-taken i t = ap (λ (b : Bool). cond b (line g img i) []) t

  pub row-vacant : (i : ℕ) → taken g img i ≡ false → row g img i ≡ []
  unfolding row
  row-vacant i t = ap (λ (b : Bool). cond b (line g img i) []) t

  pub lines_step : (n i : ℕ) → i < n → lines g img (n - i) i ≡ row g img i ++ lines g img (n - (i + 1)) (i + 1)
  unfolding lines
  lines_step n i l =
      let q : n - i ≡ suc (n - (i + 1)) = omega arith in
      let r : suc i ≡ i + 1 = omega arith in
      ap (λ (m : ℕ). lines g img m i) q ∙ ap (λ (k : ℕ). row g img i ++ lines g img (n - (i + 1)) k) r

  pub lines_end : (n i : ℕ) → n ≤ i → lines g img (n - i) i ≡ []
  unfolding lines
  lines_end n i l =
      let q : n - i ≡ 0 = omega arith in
      ap (λ (m : ℕ). lines g img m i) q

  pub lines_start : (n : ℕ) → lines g img (n - 0) 0 ≡ lines g img n 0
  lines_start n =
      let q : n - 0 ≡ n = omega arith in
      ap (λ (m : ℕ). lines g img m 0) q

  pub line-length : (i : ℕ) → length (line g img i)
      ≡ length (decimal i) + 1 + length (hexes (key_of g (slot g img i))) + 1
      + length (length_text g img (offset_of g (slot g img i))) + 1
  unfolding line
  line-length i = simp length-append

pub refused-length : (n : ℕ) → length (refused_text n) ≡ 8 + length (decimal n) + 1
unfolding refused_text
refused-length n = simp length-append

pub listed-closed : (img : Bytes) (n : ℕ) → n ≡ open_number img → (n ≡ 0 → ⊥) → listed img ≡ refused_text n
unfolding listed
listed-closed img n q h =
    zero-no (open_number img) (heading ++ lines (layout_of img) img (layout_of img).N 0) (refused_text (open_number img))
    (λ z. h (q ∙ z))
    ∙ ap refused_text (sym q)

pub listed-open : (img : Bytes) (slots : ℕ) → open_number img ≡ 0 → (layout_of img).N ≡ slots
    → listed img ≡ heading ++ lines (layout_of img) img slots 0
unfolding listed
listed-open img slots h q =
    zero-yes (open_number img) (heading ++ lines (layout_of img) img (layout_of img).N 0) (refused_text (open_number img)) h
    ∙ ap (λ (n : ℕ). heading ++ lines (layout_of img) img n 0) q
