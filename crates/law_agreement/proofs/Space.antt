-- New space at X: the file as before, every point as before, and a message at the old X that belongs to no point yet.
--     Written g img p t      the message t stands at p, active
--     space-is, space-change, space-file      what stays, and X afterwards
--     space-written, space-lies, space-away      the new message
-- Assumes nothing.
use mathlib.Core.Path.{◌≡◌, refl, sym, ap, ◌∙◌}
use Prim.Native.Nat.{ℕ, ◌+◌, ◌^◌, ◌≤◌, ◌<◌}
use native.Mathlib.Omega.{arith}
use native.Mathlib.Nat.{add-zero}
use native.Mathlib.Numerals.{add-one}
use mathlib.Core.Logic.{inr}
use mathlib.Core.List.{List, [], ◌∷◌, ◌++◌}
use mathlib.Core.Option.{some}
use lib.ListN.{length, take, drop}
use lib.Seq.{take_at, drop_at, take-length}
use borrow.Author.Tests.{ne_eqb}
use Rattle.spec_file.specs.Bytes.{Bytes, part, number, digits}
use Rattle.spec_file.specs.Limits.{active, free_field}
use Rattle.spec_file.specs.Image.{field, Layout, offset_of}
use Rattle.spec_file.specs.Messages.{head_size, letter_at, length_at, text_at, is_active, shown, held, message, take_space}
use Rattle.spec_book.specs.Book.{noting}
use Rattle.law_file.proofs.Bytes.{Apart, part-part, length_digits, number-digits-fits}
use Rattle.law_file.proofs.Kept.{kept-known}
use Rattle.law_file.proofs.Effects.{Spaced, spaced}
use Rattle.law_file.proofs.Table.{entry_of}
use Rattle.law_file.proofs.Probe.{entry_of-frame}
use Rattle.law_file.proofs.Stretch.{span, Lies, sound-lies, span_same}
use Rattle.law_agreement.proofs.Data.{file-above, frame-change}
use Rattle.law_agreement.proofs.File.{Allowed, not-allowed, value_of, File, file-data, file-some, Change, file-change}

-- ---- a message that was written

pub record Written (g : Layout) (img : Bytes) (p : ℕ) (t : Bytes) : Type 0 where
  pub letter : letter_at img p ≡ active
  pub count : length_at g img p ≡ length t
  pub text : text_at g img p ≡ t

-- what is read of a message's bytes, wherever they stand
module _ (g : Layout) (img : Bytes) (p : ℕ) (t : Bytes) (small : length t < 256 ^ g.W)
    (there : part img p (head_size g + length t) ≡ message g.W t) where
  inside : (q m : ℕ) → q + m ≤ head_size g + length t → part img (p + q) m ≡ part (message g.W t) q m
  inside q m h = sym (part-part img p (head_size g + length t) q m h) ∙ ap (λ (l : Bytes). part l q m) there

  pub written : Written g img p t
  unfolding letter_at length_at text_at head_size part message number
  written =
      let l : letter_at img p ≡ active =
      ap (λ (x : ℕ). number (part img x 1)) (sym (add-zero p)) ∙ ap number (inside 0 1 (omega arith)) in
      let d : List ℕ = digits g.W (length t) in
      let c : length_at g img p ≡ length t =
      ap number (inside 1 g.W (omega arith) ∙ take_at d t g.W (length_digits g.W (length t)))
      ∙ number-digits-fits g.W (length t) small in
      record {
        letter = l;
        count = c;
        text =
            ap (λ (x : ℕ). part img (p + (g.W + 1)) x) c
            ∙ inside (g.W + 1) (length t) (omega arith)
            ∙ ap (λ (x : ℕ). take (length t) (drop x ((active ∷ d) ++ t))) (add-one g.W)
            ∙ ap (take (length t)) (drop_at d t g.W (length_digits g.W (length t)))
            ∙ take-length t;
      }

module _ (g : Layout) (img : Bytes) (p : ℕ) (t : Bytes) (w : Written g img p t) (z : p ≡ 0 → ⊥) where
  pub written-value : (key : Bytes) → value_of g img key p ≡ noting key t
  unfolding shown held is_active noting
  written-value key = rw (w.letter, w.text, w.count, ne_eqb p 0 z) refl

  pub written-lies : g.D ≤ p → p + (head_size g + length t) ≤ field img free_field → Lies g img p
  written-lies lo hi = record { low = lo; letter = rw w.letter refl; end = rw w.count hi }

-- ---- new space

module _ (g : Layout) (img : Bytes) (f : File g img) (t : Bytes) (small : length t < 256 ^ g.W)
    (fits : field img free_field + head_size g + length t ≤ length img) where
  pub space-is : Spaced g img t
  space-is = rw f.layout at (spaced img f.opened t (rw f.layout fits))

  low : g.D ≤ field img free_field
  low = omega (arith, f.opened.free-low, file-data f)

  -- other points' messages end at or below X
  below : (key s : Bytes) → Allowed g key → entry_of g img key ≡ some s → (offset_of g s ≡ 0 → ⊥)
      → offset_of g s + span g img (offset_of g s) ≤ field img free_field
  below key s a e z = (sound-lies g img (offset_of g s) (f.messages key s a e).sound z).end

  pub space-change : Change g img (take_space g img t) []
  space-change =
      frame-change g img (take_space g img t) f space-is.kept.fixed (kept-known space-is.kept f.opened)
      space-is.slots space-is.points
      (rw space-is.free (omega arith)) (rw space-is.free fits) []
      (λ key s a n e z.
      let lo = (sound-lies g img (offset_of g s) (f.messages key s a e).sound z).low in
      let hi = below key s a e z in
      record { on = λ q m l h. space-is.below q m (omega arith) (omega arith) })
      (λ s a e. absurd (not-allowed f a))
      (λ s key' s' a a' n e e' z z'. absurd (not-allowed f a))

  pub space-file : File g (take_space g img t)
  space-file = file-change g img (take_space g img t) [] f space-change

  pub space-written : Written g (take_space g img t) (field img free_field) t
  space-written = written g (take_space g img t) (field img free_field) t small space-is.there

  pub space-some : field img free_field ≡ 0 → ⊥
  space-some z = omega (arith, low, file-above f)

  pub space-lies : Lies g (take_space g img t) (field img free_field)
  space-lies =
      written-lies g (take_space g img t) (field img free_field) t space-written space-some low
      (rw space-is.free (omega arith))

  -- no point's message meets it
  pub space-away : (key s : Bytes) → Allowed g key → entry_of g (take_space g img t) key ≡ some s → (offset_of g s ≡ 0 → ⊥)
      → Apart (field img free_field) (span g (take_space g img t) (field img free_field)) (offset_of g s)
      (span g (take_space g img t) (offset_of g s))
  space-away key s a e z =
      let e' : entry_of g img key ≡ some s =
      sym (entry_of-frame g img (take_space g img t) key (file-some f) space-is.slots) ∙ e in
      let same-on = space-change.still key s a (λ q. not-allowed f (rw q at a)) e' z in
      inr (rw (span_same g img (take_space g img t) (offset_of g s) same-on) (below key s a e' z))
