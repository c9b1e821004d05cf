-- The messages that begin below a place, past places where none or one begins.
--     below-start      none is carried at first
--     below-skip       no live slot's message begins from p up to q
--     below_one        one does
-- Assumes nothing.
use mathlib.Core.Path.{◌≡◌, ap, ◌∙◌}
use Prim.Native.Nat.{ℕ, ◌+◌, ◌-◌, ◌≤◌, ◌<◌}
use native.Mathlib.Omega.{arith}
use Rattle.spec_file.specs.Bytes.{Bytes}
use Rattle.spec_file.specs.Image.{Layout, layout_of, slot, key_of}
use Rattle.spec_file.specs.Messages.{text_at}
use Rattle.spec_conversion.specs.Convert.{other_layout, bare_image, carried, carried_from}
use Rattle.law_compaction.proofs.Packing.{start_at, Live, Stretches}
use Rattle.law_conversion.proofs.Places.{from-append, from-nowhere, from-live}
use Rattle.convert_stages.specs.Stages.{carried_below}

module _ (img : Bytes) (L : ℕ) where
  abbrev g : Layout
  g = layout_of img

  abbrev h : Layout
  h = other_layout img

  pub below-start : carried_below img L g.D ≡ bare_image img L
  unfolding carried_below carried_from
  below-start =
      let z : g.D - g.D ≡ 0 = omega arith in
      ap (λ (n : ℕ). carried_from g h img n g.D (bare_image img L)) z

  pub below-skip : (p q : ℕ) → g.D ≤ p → p ≤ q
      → ((i : ℕ) → Live g img i → p ≤ start_at g img i → start_at g img i < q → ⊥)
      → carried_below img L q ≡ carried_below img L p
  unfolding carried_below
  below-skip p q d l n =
      let e : q - g.D ≡ (p - g.D) + (q - p) = omega (arith, d, l) in
      let at : g.D + (p - g.D) ≡ p = omega (arith, d) in
      let t : Bytes = carried_from g h img (p - g.D) g.D (bare_image img L) in
      ap (λ (k : ℕ). carried_from g h img k g.D (bare_image img L)) e
      ∙ from-append g h img (p - g.D) (q - p) g.D (bare_image img L)
      ∙ from-nowhere g h img (q - p) (g.D + (p - g.D)) t
      (λ i v a b. n i v (omega (arith, at, a)) (omega (arith, at, b, l)))

  module _ (S : Stretches g img) where
    pub below_one : (p q i : ℕ) → g.D ≤ p → Live g img i → p ≤ start_at g img i → start_at g img i < q
        → ((j : ℕ) → Live g img j → p ≤ start_at g img j → start_at g img j < q → j ≡ i)
        → carried_below img L q
        ≡ carried h (carried_below img L p) i (key_of g (slot g img i)) (text_at g img (start_at g img i))
    unfolding carried_below
    below_one p q i d v a b only =
        let s = start_at g img i in
        let e : s + 1 - g.D ≡ (p - g.D) + ((s - p) + 1) = omega (arith, d, a) in
        let at : g.D + (p - g.D) ≡ p = omega (arith, d) in
        let t : Bytes = carried_from g h img (p - g.D) g.D (bare_image img L) in
        below-skip (s + 1) q (omega (arith, d, a)) (omega (arith, b))
        (λ j w x y. omega (arith, x, ap (start_at g img) (only j w (omega (arith, a, x)) y)))
        ∙ ap (λ (k : ℕ). carried_from g h img k g.D (bare_image img L)) e
        ∙ from-append g h img (p - g.D) ((s - p) + 1) g.D (bare_image img L)
        ∙ from-live g h img S.alone i v (s - p) (g.D + (p - g.D)) t (omega (arith, at, a))
        (λ j w x y. omega (arith, y, ap (start_at g img) (only j w (omega (arith, at, x)) (omega (arith, y, b)))))
