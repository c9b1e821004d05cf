-- Question 5 of eight bytes, put as two numbers.
--     version-letters, version-narrow, version-wide      "BHTF" as one number, v and the version bytes as another
-- Assumes nothing.
use mathlib.Core.Path.{◌≡◌, refl, sym, ap, ◌∙◌}
use Prim.Native.Nat.{ℕ, ◌+◌, ◌*◌, ◌≤◌, ◌<◌}
use native.Mathlib.Omega.{arith}
use mathlib.Core.Bool.{Bool, true, false, ◌&&◌, ◌||◌}
use mathlib.Core.List.{[], ◌∷◌}
use lib.ListN.{length, get_or}
use lib.Dec.{eqb, leb}
use borrow.Author.Tests.{eqb-true, leb-true, eq-eqb, ne_eqb, le-leb}
use Rattle.spec_file.specs.Bytes.{Bytes, part, same}
use Rattle.spec_file.specs.Limits.{magic}
use Rattle.spec_file.specs.Image.{field}
use Rattle.spec_file.specs.Questions.{version_known}
use Rattle.law_file.proofs.Tests.{and_left, and_right, and-true, or_right, by-or}
use Rattle.law_file.proofs.Bytes.{AreBytes, same_true}
use Rattle.bytes_words.proofs.Numbers.{part-cons, part-four, number-four}

-- two tests of which each follows from the other
both_ways : (x y : Bool) → (x ≡ true → y ≡ true) → (y ≡ true → x ≡ true) → x ≡ y
both_ways true y f g = sym (f refl)
both_ways false true f g = g refl
both_ways false false f g = refl

module _ (a b c d e f g h : ℕ) (la : a < 256) (lb : b < 256) (lc : c < 256) (ld : d < 256) (le : e < 256) (lf : f < 256)
    (lg : g < 256) (lh : h < 256) where
  abbrev first : ℕ
  first = a * 16777216 + (b * 65536 + (c * 256 + d))

  abbrev second : ℕ
  second = e * 16777216 + (f * 65536 + (g * 256 + h))

  abbrev narrow : Bool
  narrow = leb 0x76010000 second && leb second 0x76010002

  abbrev words : Bool
  words = eqb first 0x42485446 && (narrow || eqb second 0x76020000)

  abbrev one : Bool
  one = eqb f 1 && eqb g 0 && leb h 2

  abbrev two : Bool
  two = eqb f 2 && eqb g 0 && eqb h 0

  abbrev bytes : Bool
  bytes = same (a ∷ b ∷ c ∷ d ∷ e ∷ []) magic && (one || two)

  -- "BHTFv" by numbers
  letters : first ≡ 0x42485446 → e ≡ 118 → same (a ∷ b ∷ c ∷ d ∷ e ∷ []) magic ≡ true
  unfolding same
  letters n ee =
      let ea : a ≡ 66 = omega arith in
      let eb : b ≡ 72 = omega arith in
      let ec : c ≡ 84 = omega arith in
      let ed : d ≡ 70 = omega arith in
      rw (ea, eb, ec, ed, ee) refl

  forth : words ≡ true → bytes ≡ true
  forth t =
      let n : first ≡ 0x42485446 =
      eqb-true first 0x42485446 (and_left (eqb first 0x42485446) (narrow || eqb second 0x76020000) t) in
      by-or narrow (eqb second 0x76020000) (and_right (eqb first 0x42485446) (narrow || eqb second 0x76020000) t)
      (λ r.
      let l : 0x76010000 ≤ second =
      leb-true 0x76010000 second (and_left (leb 0x76010000 second) (leb second 0x76010002) r) in
      let u : second ≤ 0x76010002 =
      leb-true second 0x76010002 (and_right (leb 0x76010000 second) (leb second 0x76010002) r) in
      let ee : e ≡ 118 = omega arith in
      let ef : f ≡ 1 = omega arith in
      let eg : g ≡ 0 = omega arith in
      let eh : h ≤ 2 = omega arith in
      rw (letters n ee, ef, eg) (rw (le-leb h 2 eh) refl))
      (λ no' r.
      let q : second ≡ 0x76020000 = eqb-true second 0x76020000 r in
      let ee : e ≡ 118 = omega arith in
      let ef : f ≡ 2 = omega arith in
      let eg : g ≡ 0 = omega arith in
      let eh : h ≡ 0 = omega arith in
      rw (letters n ee, ef, eg, eh) refl)

  back : bytes ≡ true → words ≡ true
  back t =
      let S : Bool = same (a ∷ b ∷ c ∷ d ∷ e ∷ []) magic in
      let m : a ∷ b ∷ c ∷ d ∷ e ∷ [] ≡ magic =
      same_true (a ∷ b ∷ c ∷ d ∷ e ∷ []) magic (and_left S (one || two) t) in
      let ea : a ≡ 66 = ap (λ (l : Bytes). get_or l 0 0) m in
      let eb : b ≡ 72 = ap (λ (l : Bytes). get_or l 1 0) m in
      let ec : c ≡ 84 = ap (λ (l : Bytes). get_or l 2 0) m in
      let ed : d ≡ 70 = ap (λ (l : Bytes). get_or l 3 0) m in
      let ee : e ≡ 118 = ap (λ (l : Bytes). get_or l 4 0) m in
      let n : eqb first 0x42485446 ≡ true = eq-eqb first 0x42485446 (omega arith) in
      by-or one two (and_right S (one || two) t)
      (λ r.
      let ef : f ≡ 1 = eqb-true f 1 (and_left (eqb f 1) (eqb g 0) (and_left (eqb f 1 && eqb g 0) (leb h 2) r)) in
      let eg : g ≡ 0 = eqb-true g 0 (and_right (eqb f 1) (eqb g 0) (and_left (eqb f 1 && eqb g 0) (leb h 2) r)) in
      let eh : h ≤ 2 = leb-true h 2 (and_right (eqb f 1 && eqb g 0) (leb h 2) r) in
      let lo : leb 0x76010000 second ≡ true = le-leb 0x76010000 second (omega arith) in
      let hi : leb second 0x76010002 ≡ true = le-leb second 0x76010002 (omega arith) in
      rw (n, lo, hi) refl)
      (λ no' r.
      let ef : f ≡ 2 = eqb-true f 2 (and_left (eqb f 2) (eqb g 0) (and_left (eqb f 2 && eqb g 0) (eqb h 0) r)) in
      let eg : g ≡ 0 = eqb-true g 0 (and_right (eqb f 2) (eqb g 0) (and_left (eqb f 2 && eqb g 0) (eqb h 0) r)) in
      let eh : h ≡ 0 = eqb-true h 0 (and_right (eqb f 2 && eqb g 0) (eqb h 0) r) in
      let q : eqb second 0x76020000 ≡ true = eq-eqb second 0x76020000 (omega arith) in
      and-true (eqb first 0x42485446) (narrow || eqb second 0x76020000) n (or_right narrow _ q))

  words-bytes : words ≡ bytes
  words-bytes = both_ways words bytes forth back

version-words : (img : Bytes) → AreBytes img → 8 ≤ length img
    → (eqb (field img 0) 0x42485446
    && ((leb 0x76010000 (field img 4) && leb (field img 4) 0x76010002) || eqb (field img 4) 0x76020000))
    ≡ version_known img
unfolding field version_known
version-words img bytes l =
    let at : ℕ → ℕ = λ i. get_or img i 0 in
    let p₀ : part img 0 4 ≡ at 0 ∷ at 1 ∷ at 2 ∷ at 3 ∷ [] = part-four img 0 (omega arith) in
    let p₄ : part img 4 4 ≡ at 4 ∷ at 5 ∷ at 6 ∷ at 7 ∷ [] = part-four img 4 (omega arith) in
    let p : part img 0 5 ≡ at 0 ∷ at 1 ∷ at 2 ∷ at 3 ∷ at 4 ∷ [] =
    part-cons img 0 4 (omega arith) ∙ ap (λ (t : Bytes). at 0 ∷ t) (part-four img 1 (omega arith)) in
    rw (p₀, p₄, p, number-four (at 0) (at 1) (at 2) (at 3), number-four (at 4) (at 5) (at 6) (at 7))
    (words-bytes (at 0) (at 1) (at 2) (at 3) (at 4) (at 5) (at 6) (at 7) (bytes 0) (bytes 1) (bytes 2) (bytes 3)
    (bytes 4) (bytes 5) (bytes 6) (bytes 7))

-- ---- asked one after the other
module _ (img : Bytes) (bytes : AreBytes img) (l : 8 ≤ length img) where
  abbrev first_kind : Bool
  first_kind = leb 0x76010000 (field img 4) && leb (field img 4) 0x76010002

  pub version-letters : (field img 0 ≡ 0x42485446 → ⊥) → false ≡ version_known img
  version-letters n = sym (sym (version-words img bytes l) ∙ rw (ne_eqb (field img 0) 0x42485446 n) refl)

  pub version-narrow : field img 0 ≡ 0x42485446 → first_kind ≡ true → true ≡ version_known img
  version-narrow e y = sym (sym (version-words img bytes l) ∙ rw (eq-eqb (field img 0) 0x42485446 e, y) refl)

  pub version-wide : field img 0 ≡ 0x42485446 → first_kind ≡ false → eqb (field img 4) 0x76020000 ≡ version_known img
  version-wide e n = sym (sym (version-words img bytes l) ∙ rw (eq-eqb (field img 0) 0x42485446 e, n) refl)
