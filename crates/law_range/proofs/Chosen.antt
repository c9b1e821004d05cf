-- The numbers for which a test holds, in rising order, and the bytes of a list of slot numbers.
--     chosen-few, chosen-each, chosen-all, chosen-rising      how many, which, and in which order
--     chosen-yes, chosen-no      one number looked at
--     chosen-take, chosen-pass, chosen-end      the same, as a loop from i up to n has it
--     length-numbers, number-listed      of the numbers of some slots
-- Assumes nothing.
use mathlib.Core.Path.{◌≡◌, refl, sym, ap, ◌∙◌, subst}
use Prim.Native.Nat.{ℕ, zero, suc, ◌+◌, ◌-◌, ◌*◌, ◌^◌, ◌≤◌, ◌<◌}
use native.Mathlib.Omega.{arith}
use mathlib.Core.Bool.{Bool, true, false}
use mathlib.Core.List.{List, [], ◌∷◌, ◌++◌}
use lib.ListN.{length, get_or, take, drop, length-append}
use lib.Seq.{take_at, drop_at, drop-drop}
use Rattle.spec_file.specs.Bytes.{part, number, digits}
use Rattle.law_file.proofs.Bytes.{length_digits, number-digits-fits}
use Rattle.law_file.proofs.Tests.{by_bool, by-eq}
use Rattle.spec_range.specs.Ranges.{chosen_from, slot_numbers}
use Rattle.spec_range.specs.Listed.{number_at}

module _ (p : ℕ → Bool) where
  -- ---- one number looked at

  pub chosen-yes : (left i : ℕ) → p i ≡ true → chosen_from p (suc left) i ≡ i ∷ chosen_from p left (suc i)
  unfolding chosen_from
  chosen-yes left i e = rw (e, chosen_from)

  pub chosen-no : (left i : ℕ) → p i ≡ false → chosen_from p (suc left) i ≡ chosen_from p left (suc i)
  unfolding chosen_from
  chosen-no left i e = rw (e, chosen_from)

  pub chosen-take : (n i : ℕ) → i < n → p i ≡ true → chosen_from p (n - i) i ≡ i ∷ chosen_from p (n - (i + 1)) (i + 1)
  chosen-take n i l e =
      let q : n - i ≡ suc (n - (i + 1)) = omega arith in
      let r : suc i ≡ i + 1 = omega arith in
      ap (λ (m : ℕ). chosen_from p m i) q ∙ chosen-yes (n - (i + 1)) i e
      ∙ ap (λ (k : ℕ). i ∷ chosen_from p (n - (i + 1)) k) r

  pub chosen-pass : (n i : ℕ) → i < n → p i ≡ false → chosen_from p (n - i) i ≡ chosen_from p (n - (i + 1)) (i + 1)
  chosen-pass n i l e =
      let q : n - i ≡ suc (n - (i + 1)) = omega arith in
      let r : suc i ≡ i + 1 = omega arith in
      ap (λ (m : ℕ). chosen_from p m i) q ∙ chosen-no (n - (i + 1)) i e ∙ ap (chosen_from p (n - (i + 1))) r

  pub chosen-end : (n i : ℕ) → n ≤ i → chosen_from p (n - i) i ≡ []
  chosen-end n i l =
      let q : n - i ≡ 0 = omega arith in
      ap (λ (m : ℕ). chosen_from p m i) q ∙ (unfold chosen_from in refl)

  -- ---- which numbers

  pub chosen-few : (left i : ℕ) → length (chosen_from p left i) ≤ left
  chosen-few zero i = unfold chosen_from in (omega arith)
  chosen-few (suc left) i =
      let ih : length (chosen_from p left (suc i)) ≤ left = chosen-few left (suc i) in
      by_bool (p i)
      (λ y. omega (arith, ap length (chosen-yes left i y)))
      (λ n. omega (arith, ap length (chosen-no left i n)))

  -- each number of l is one of `left` from i on, and the test holds for it
  abbrev Each : List ℕ → ℕ → ℕ → Type 0
  Each l left i =
      (j : ℕ) → j < length l → (i ≤ get_or l j 0) × (get_or l j 0 < i + left) × (p (get_or l j 0) ≡ true)

  each-wider : (l : List ℕ) (left i : ℕ) → Each l left (suc i) → Each l (suc left) i
  each-wider l left i f j h = let w = f j h in (omega (arith, w.0), omega (arith, w.1), w.2)

  each_more : (l : List ℕ) (left i : ℕ) → p i ≡ true → Each l left (suc i) → Each (i ∷ l) (suc left) i
  each_more l left i y f zero h = (omega arith, omega arith, y)
  each_more l left i y f (suc j) h = each-wider l left i f j (omega arith)

  pub chosen-each : (left i : ℕ) → Each (chosen_from p left i) left i
  chosen-each zero i = unfold chosen_from in (λ j h. absurd (omega arith))
  chosen-each (suc left) i =
      let rest = chosen_from p left (suc i) in
      let ih : Each rest left (suc i) = chosen-each left (suc i) in
      by_bool (p i)
      (λ y. subst (λ (l : List ℕ). Each l (suc left) i) (sym (chosen-yes left i y)) (each_more rest left i y ih))
      (λ n. subst (λ (l : List ℕ). Each l (suc left) i) (sym (chosen-no left i n)) (each-wider rest left i ih))

  -- k stands in l
  abbrev Has : ℕ → List ℕ → Type 0
  Has k l = (j : ℕ) × (j < length l) × (get_or l j 0 ≡ k)

  has_more : (k i : ℕ) (l : List ℕ) → Has k l → Has k (i ∷ l)
  has_more k i l w = (suc w.0, omega (arith, w.1), w.2)

  pub chosen-all : (left i k : ℕ) → i ≤ k → k < i + left → p k ≡ true → Has k (chosen_from p left i)
  chosen-all zero i k a b y = absurd (omega arith)
  chosen-all (suc left) i k a b y =
      let rest = chosen_from p left (suc i) in
      let ih : suc i ≤ k → Has k rest = λ c. chosen-all left (suc i) k c (omega arith) y in
      by-eq i k
      (λ e. subst (Has k) (sym (chosen-yes left i (ap p e ∙ y))) (0, omega arith, e))
      (λ e. by_bool (p i)
      (λ z. subst (Has k) (sym (chosen-yes left i z)) (has_more k i rest (ih (omega arith))))
      (λ n. subst (Has k) (sym (chosen-no left i n)) (ih (omega arith))))

  -- ---- their order

  abbrev Rising : List ℕ → Type 0
  Rising l = (j k : ℕ) → j < k → k < length l → get_or l j 0 < get_or l k 0

  rising-more : (left i : ℕ) (l : List ℕ) → Each l left (suc i) → Rising l → Rising (i ∷ l)
  rising-more left i l f r zero zero a b = absurd (omega arith)
  rising-more left i l f r zero (suc k) a b = omega (arith, (f k (omega arith)).0)
  rising-more left i l f r (suc j) zero a b = absurd (omega arith)
  rising-more left i l f r (suc j) (suc k) a b = r j k (omega arith) (omega arith)

  pub chosen-rising : (left i : ℕ) → Rising (chosen_from p left i)
  chosen-rising zero i = unfold chosen_from in (λ j k a b. absurd (omega arith))
  chosen-rising (suc left) i =
      let rest = chosen_from p left (suc i) in
      let ih : Rising rest = chosen-rising left (suc i) in
      by_bool (p i)
      (λ y. subst Rising (sym (chosen-yes left i y)) (rising-more left i rest (chosen-each left (suc i)) ih))
      (λ n. subst Rising (sym (chosen-no left i n)) ih)

-- ---- numbers of 4 bytes

pub length-numbers : (is : List ℕ) → length (slot_numbers is) ≡ 4 * length is
unfolding slot_numbers
length-numbers [] = refl
length-numbers (i ∷ is) =
    let ih : length (slot_numbers is) ≡ 4 * length is = length-numbers is in
    omega (arith, length-append (digits 4 i) (slot_numbers is), length_digits 4 i)

part-numbers : (is : List ℕ) (j : ℕ) → j < length is → part (slot_numbers is) (4 * j) 4 ≡ digits 4 (get_or is j 0)
unfolding slot_numbers part
part-numbers [] j h = absurd (omega arith)
part-numbers (i ∷ is) zero h = take_at (digits 4 i) (slot_numbers is) 4 (length_digits 4 i)
part-numbers (i ∷ is) (suc j) h =
    let ih : take 4 (drop (4 * j) (slot_numbers is)) ≡ digits 4 (get_or is j 0) = part-numbers is j (omega arith) in
    let q : 4 * suc j ≡ 4 + 4 * j = omega arith in
    ap (take 4)
    (ap (λ (n : ℕ). drop n (digits 4 i ++ slot_numbers is)) q
    ∙ sym (drop-drop (4 * j) 4 (digits 4 i ++ slot_numbers is))
    ∙ ap (drop (4 * j)) (drop_at (digits 4 i) (slot_numbers is) 4 (length_digits 4 i)))
    ∙ ih

pub number-listed : (is : List ℕ) (j : ℕ) → j < length is → get_or is j 0 < 2 ^ 32
    → number_at (slot_numbers is) j ≡ get_or is j 0
number-listed is j h l = ap number (part-numbers is j h) ∙ number-digits-fits 4 (get_or is j 0) (omega arith)
