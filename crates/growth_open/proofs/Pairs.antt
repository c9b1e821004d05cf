-- Questions 1, 5 and 6 of a pair's old image and 21 of its new one, by where they end.
--     pair-closed, pair-21-closed, pair-21-kind, pair-0      the number of these alone, as the code comes to it
--     pair-stop, pair-on      the number with further questions: the same, or theirs
--     PairOpen, pair-open     what is known where none of them is answered no
-- Assumes nothing.
use mathlib.Core.Path.{◌≡◌, refl, sym, ap, ◌∙◌}
use Prim.Native.Nat.{ℕ}
use native.Mathlib.Omega.{arith}
use mathlib.Core.Bool.{Bool, true, false, ◌&&◌}
use mathlib.Core.List.{List, [], ◌∷◌}
use lib.Dec.{eqb}
use borrow.Author.Tests.{eqb-true, eq-eqb, ne_eqb}
use Rattle.spec_file.specs.Bytes.{Bytes}
use Rattle.spec_file.specs.Image.{major_of, layout_of}
use Rattle.spec_file.specs.Questions.{Question, ask, first_no, open_number}
use Rattle.spec_moves.specs.Moves.{Pair, same_kind}
use Rattle.spec_growth.specs.Growth.{second_known, pair_opened, pair_number}
use Rattle.law_file.proofs.Tests.{by_bool, by-eq, and_left, and_right, and-true}
use Rattle.law_file.proofs.Opened.{first_no-none, first_no-yes, first_no-no, first_no-opened, first_no-refused}

module _ (p : Pair) (more : List Question) where
  pub pair-closed : (open_number p.old ≡ 0 → ⊥) → pair_number p more ≡ open_number p.old
  unfolding pair_number pair_opened
  pair-closed z = first_no-refused p.old (ask 21 (second_known p) ∷ more) z

  module _ (o : open_number p.old ≡ 0) where
    -- behind 1, 5 and 6
    asked : pair_number p more ≡ first_no (ask 21 (second_known p) ∷ more)
    unfolding pair_number pair_opened
    asked = first_no-opened p.old (ask 21 (second_known p) ∷ more) o

    unknown : second_known p ≡ false → pair_number p more ≡ 21
    unknown n = asked ∙ first_no-no 21 (second_known p) more n

    pub pair-21-closed : (open_number p.new ≡ 0 → ⊥) → pair_number p more ≡ 21
    pair-21-closed z = unknown (unfold second_known in (rw (ne_eqb (open_number p.new) 0 z) refl))

    module _ (o' : open_number p.new ≡ 0) where
      known_is : (b : Bool) → same_kind p.old p.new ≡ b → second_known p ≡ b
      unfolding second_known
      known_is b k = rw (eq-eqb (open_number p.new) 0 o') k

      pub pair-21-kind : same_kind p.old p.new ≡ false → pair_number p more ≡ 21
      pair-21-kind k = unknown (known_is false k)

      pub pair-known : same_kind p.old p.new ≡ true → pair_number p more ≡ first_no more
      pair-known k = asked ∙ first_no-yes 21 (second_known p) more (known_is true k)

-- ---- what is known where none is answered no

pub record PairOpen (p : Pair) : Type 0 where
  pub first : open_number p.old ≡ 0
  pub second : open_number p.new ≡ 0
  pub kind : same_kind p.old p.new ≡ true
  pub major-is : major_of p.new ≡ major_of p.old
  pub key-is : (layout_of p.new).K ≡ (layout_of p.old).K

module _ (p : Pair) where
  pub pair-0 : open_number p.old ≡ 0 → open_number p.new ≡ 0 → same_kind p.old p.new ≡ true
      → pair_number p [] ≡ 0
  pair-0 o o' k = pair-known p [] o o' k ∙ first_no-none

  kinds : same_kind p.old p.new ≡ true
      → (major_of p.new ≡ major_of p.old) × ((layout_of p.new).K ≡ (layout_of p.old).K)
  unfolding same_kind
  kinds k =
      let a : Bool = eqb (major_of p.new) (major_of p.old) in
      let b : Bool = eqb (layout_of p.new).K (layout_of p.old).K in (
        eqb-true (major_of p.new) (major_of p.old) (and_left a b k),
        eqb-true (layout_of p.new).K (layout_of p.old).K (and_right a b k),
      )

  pub pair-facts : open_number p.old ≡ 0 → open_number p.new ≡ 0 → same_kind p.old p.new ≡ true → PairOpen p
  pair-facts o o' k =
      record { first = o; second = o'; kind = k; major-is = (kinds k).0; key-is = (kinds k).1 }

  pub pair-open : pair_number p [] ≡ 0 → PairOpen p
  pair-open z =
      by-eq (open_number p.old) 0
      (λ o. by-eq (open_number p.new) 0
      (λ o'. by_bool (same_kind p.old p.new)
      (λ k. pair-facts o o' k)
      (λ k. absurd (omega (arith, z, pair-21-kind p [] o o' k))))
      (λ n. absurd (omega (arith, z, pair-21-closed p [] o n))))
      (λ n. absurd (n (sym (pair-closed p [] n) ∙ z)))

  pub pair-on : pair_number p [] ≡ 0 → (more : List Question) → pair_number p more ≡ first_no more
  pair-on z more = let f = pair-open z in pair-known p more f.first f.second f.kind

  pub pair-stop : (pair_number p [] ≡ 0 → ⊥) → (more : List Question) → pair_number p more ≡ pair_number p []
  pair-stop z more =
      by-eq (open_number p.old) 0
      (λ o. by-eq (open_number p.new) 0
      (λ o'. by_bool (same_kind p.old p.new)
      (λ k. absurd (z (pair-0 o o' k)))
      (λ k. pair-21-kind p more o o' k ∙ sym (pair-21-kind p [] o o' k)))
      (λ n. pair-21-closed p more o n ∙ sym (pair-21-closed p [] o n)))
      (λ n. pair-closed p more n ∙ sym (pair-closed p [] n))
