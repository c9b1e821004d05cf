-- The text that each mode places in new space, and the image that each case of an add leaves.
--     by_mode, mode-three             the modes are four
--     fresh-none, fresh-some          of a point that is absent
--     replaced-.., appended-.., withdrawn-..      of a point that is present, modes 2, 3 and 4
--     renewed-moved                   where a text is placed, whatever the mode
-- Assumes nothing.
use mathlib.Core.Path.{◌≡◌, refl, sym, ◌∙◌}
use Prim.Native.Nat.{ℕ, ◌≤◌}
use native.Mathlib.Omega.{arith}
use mathlib.Core.Bool.{Bool, true, false, ◌&&◌, not}
use mathlib.Core.List.{◌++◌}
use mathlib.Core.Option.{none, some, none-ne-some}
use lib.ListN.{length}
use lib.Dec.{eqb, leb}
use borrow.Author.Tests.{leb-true, eq-eqb, ne_eqb, not-true}
use Rattle.spec_file.specs.Bytes.{Bytes}
use Rattle.spec_file.specs.Image.{Layout}
use Rattle.spec_file.specs.Messages.{shown, bytes_of, held, retire, overwrite, relocated, fresh_text, renewed_text, renewed, renewed_at}
use Rattle.spec_file.specs.Questions.{mode_known}
use Rattle.law_file.proofs.Tests.{by_bool, by-eq, and_left, and_right, not-both}

-- ---- the modes

pub by_mode {ℓ} : {A : Type ℓ} (mode : ℕ) → mode_known mode ≡ true → (mode ≡ 1 → A) → (mode ≡ 2 → A) → (mode ≡ 3 → A)
    → (mode ≡ 4 → A) → A
unfolding mode_known
by_mode mode k one two three four =
    let lo : 1 ≤ mode = leb-true 1 mode (and_left (leb 1 mode) (leb mode 4) k) in
    let hi : mode ≤ 4 = leb-true mode 4 (and_right (leb 1 mode) (leb mode 4) k) in
    by-eq mode 1 one (λ n₁. by-eq mode 2 two (λ n₂. by-eq mode 3 three (λ n₃. four (omega arith))))

pub mode-three : (mode : ℕ) → mode_known mode ≡ true → (mode ≡ 1 → ⊥) → (mode ≡ 2 → ⊥) → (mode ≡ 4 → ⊥) → mode ≡ 3
mode-three mode k n₁ n₂ n₄ =
    by_mode mode k (λ e. absurd (n₁ e)) (λ e. absurd (n₂ e)) (λ e. e) (λ e. absurd (n₄ e))

-- ---- a point that is absent

pub fresh-none : (bytes : Bytes) (mode : ℕ) → (eqb mode 3 && eqb (length bytes) 0) ≡ true → fresh_text bytes mode ≡ none
unfolding fresh_text
fresh-none bytes mode y = rw y refl

pub fresh-some : (bytes : Bytes) (mode : ℕ) → (eqb mode 3 && eqb (length bytes) 0) ≡ false
    → fresh_text bytes mode ≡ some bytes
unfolding fresh_text
fresh-some bytes mode n = rw n refl

-- ---- a point that is present, in slot i with message offset o

module _ (g : Layout) (img : Bytes) (i o : ℕ) (key bytes : Bytes) where
  -- mode 2
  abbrev in-place? : Bool
  in-place? = not (eqb o 0) && leb (length bytes) (held g img o)

  pub replaced-none : in-place? ≡ true → renewed_text g img o bytes 2 ≡ none
  unfolding renewed_text
  replaced-none y = rw y refl

  pub replaced-some : in-place? ≡ false → renewed_text g img o bytes 2 ≡ some bytes
  unfolding renewed_text
  replaced-some n = rw n refl

  -- where no text is placed there is an offset, and the data fits there
  pub replaced-held : renewed_text g img o bytes 2 ≡ none → (o ≡ 0 → ⊥) × (length bytes ≤ held g img o)
  replaced-held q =
      by_bool in-place?
      (λ y. (
        λ z. not-both (eqb o 0) (eq-eqb o 0 z) (not-true (eqb o 0) (and_left (not (eqb o 0)) _ y)),
        leb-true _ _ (and_right (not (eqb o 0)) _ y),
      ))
      (λ n. absurd (none-ne-some bytes (sym q ∙ replaced-some n)))

  pub replaced-written : renewed_text g img o bytes 2 ≡ none → renewed_at g img i o key bytes 2 ≡ overwrite g img o bytes
  unfolding renewed_at renewed
  replaced-written q = rw q refl

  -- mode 3
  pub appended-none : length bytes ≡ 0 → renewed_text g img o bytes 3 ≡ none
  unfolding renewed_text
  appended-none h = rw (eq-eqb (length bytes) 0 h) refl

  pub appended-some : (length bytes ≡ 0 → ⊥) → renewed_text g img o bytes 3 ≡ some (bytes_of (shown g img o) ++ bytes)
  unfolding renewed_text
  appended-some n = rw (ne_eqb (length bytes) 0 n) refl

  pub appended-same : length bytes ≡ 0 → renewed_at g img i o key bytes 3 ≡ img
  unfolding renewed_at renewed
  appended-same h = rw (appended-none h) refl

  -- mode 4
  pub withdrawn-none : renewed_text g img o bytes 4 ≡ none
  unfolding renewed_text
  withdrawn-none = refl

  pub withdrawn-retired : renewed_at g img i o key bytes 4 ≡ retire img o
  unfolding renewed_at renewed renewed_text
  withdrawn-retired = refl

  -- new space
  pub renewed-moved : (mode : ℕ) (t : Bytes) → renewed_text g img o bytes mode ≡ some t
      → renewed_at g img i o key bytes mode ≡ relocated g img i o key t
  unfolding renewed_at renewed
  renewed-moved mode t e = rw e refl
