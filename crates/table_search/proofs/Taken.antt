-- The search's answer taken apart by `let Found::Met(slot) = found else`, on an image of shape s.
--     named-yes, named-no      question 7, which comes before
--     met-is, met-within, met-key, other-met      in the arm of `Found::Met`, and in the other
--     empty-is, empty-within, other-empty    so of `Found::Empty`
--     met-slot, not-met        the same of a search's answer
--     search-within, search-key      the slot where a search ended is one of the table's; the key it met is its own
-- Assumes nothing.
use mathlib.Core.Path.{◌≡◌, refl, sym, ap, ◌∙◌, subst}
use Prim.Native.Nat.{ℕ, ◌<◌}
use native.Mathlib.Omega.{arith}
use mathlib.Core.Bool.{Bool, true, false, not, true≢false}
use mathlib.Core.List.{[], ◌∷◌}
use borrow.Author.Tests.{not-true, not-false}
use denote.Enum.Declared.{tag_of}
use types.Run.{OneOf}
use Rattle.spec_file.specs.Bytes.{Bytes}
use Rattle.spec_file.specs.Image.{layout_of}
use Rattle.spec_file.specs.Questions.{name_allowed}
use Rattle.spec_file.specs.Search.{met, empty, exhausted, search, is_met}
use Rattle.law_file.proofs.Tests.{by-either}
use Rattle.law_file.proofs.Probe.{by-search, search-met, search-empty}
use Rattle.header_layout.specs.Shapes.{shape_of, Open}
use Rattle.header_layout.specs.declared.places.Slot.{Slot}
use Rattle.header_layout.specs.declared.shape.Shape.{Shape}
use Rattle.table_search.specs.declared.Found.{Found}
use Rattle.table_search.specs.declared.Found.TheVariants.{Met, Empty, Exhausted}
use Rattle.table_search.specs.Probes.{probe_of, Within, MetKey}
use Rattle.table_search.specs.Slots.{key_in}
use Rattle.table_search.specs.contracts.Found.{the_type}
use Rattle.table_search.proofs.Headers.{header, layout-key, layout-slots}

-- ---- the arms of a pattern: the variants' numbers are 0, 1 and 2
pub other-met : (f : Found) → OneOf (1 ∷ 2 ∷ []) (tag_of the_type f) → is_met (probe_of f) ≡ false
unfolding probe_of is_met
other-met (Met s) h = absurd (by-either h (λ (z : ◌≡◌ {A = ℕ} 0 1). omega arith) (λ (z : ◌≡◌ {A = ℕ} 0 2). omega arith))
other-met (Empty s) h = refl
other-met Exhausted h = refl

pub other-empty : (f : Found) → OneOf (0 ∷ 2 ∷ []) (tag_of the_type f) → is_met (probe_of f) ≡ false
    → probe_of f ≡ exhausted
unfolding probe_of is_met
other-empty (Met s) h n = absurd (true≢false n)
other-empty (Empty s) h n =
    absurd (by-either h (λ (z : ◌≡◌ {A = ℕ} 1 0). omega arith) (λ (z : ◌≡◌ {A = ℕ} 1 2). omega arith))
other-empty Exhausted h n = refl

pub met-is : {f : Found} {t : Slot} → f ≡ Met t → probe_of f ≡ met t.0
unfolding probe_of
met-is e = ap probe_of e

pub empty-is : {f : Found} {t : Slot} → f ≡ Empty t → probe_of f ≡ empty t.0
unfolding probe_of
empty-is e = ap probe_of e

pub met-within : {n : ℕ} {f : Found} {t : Slot} → f ≡ Met t → Within n (probe_of f) → t.0 < n
unfolding Within
met-within {n} e w = subst (Within n) (met-is e) w

pub met-key : (img : Bytes) {key : Bytes} {f : Found} {t : Slot} → f ≡ Met t → MetKey img key (probe_of f)
    → key_in img t.0 ≡ key
unfolding MetKey
met-key img {key} e w = subst (MetKey img key) (met-is e) w

pub empty-within : {n : ℕ} {f : Found} {t : Slot} → f ≡ Empty t → Within n (probe_of f) → t.0 < n
unfolding Within
empty-within {n} e w = subst (Within n) (empty-is e) w

module _ (img key : Bytes) (s : Shape) (is : s ≡ shape_of img) where
  -- ---- question 7, with r what `name_allowed` answered
  pub named-no : {r : Bool} → r ≡ name_allowed s.keylen key → r ≡ false → name_allowed (layout_of img).K key ≡ false
  named-no e t = ap (λ (k : ℕ). name_allowed k key) (layout-key img s is) ∙ sym e ∙ t

  pub named-yes : {r : Bool} → r ≡ name_allowed s.keylen key → r ≡ true → name_allowed (layout_of img).K key ≡ true
  named-yes e t = ap (λ (k : ℕ). name_allowed k key) (layout-key img s is) ∙ sym e ∙ t

  -- ---- the search
  module _ (f : Found) (e : probe_of f ≡ search (layout_of img) img key) where
    pub not-met : OneOf (1 ∷ 2 ∷ []) (tag_of the_type f) → is_met (search (layout_of img) img key) ≡ false
    not-met h = ap is_met (sym e) ∙ other-met f h

    pub met-slot : (t : Slot) → f ≡ Met t → search (layout_of img) img key ≡ met t.0
    met-slot t m = sym e ∙ met-is m

-- the slot where a search ended is one of the table's
pub search-within : (img key : Bytes) (s : Shape) → Open img s → Within s.slots (search (layout_of img) img key)
unfolding Within
search-within img key s o =
    let n = layout-slots img s o.shape in
    let some' : 0 < (layout_of img).N = omega (arith, (header img s o).slots-low) in
    by-search (layout_of img) img key some'
    (λ i m. subst (Within s.slots) (sym m) (omega (arith, (search-met (layout_of img) img key some' i m).0)))
    (λ i m. subst (Within s.slots) (sym m) (omega (arith, (search-empty (layout_of img) img key some' i m).0)))
    (λ m. subst (Within s.slots) (sym m) tt)

pub search-key : (img key : Bytes) (s : Shape) → Open img s → MetKey img key (search (layout_of img) img key)
unfolding MetKey
search-key img key s o =
    let n = layout-slots img s o.shape in
    let some' : 0 < (layout_of img).N = omega (arith, (header img s o).slots-low) in
    by-search (layout_of img) img key some'
    (λ i m. subst (MetKey img key) (sym m) (search-met (layout_of img) img key some' i m).1)
    (λ i m. subst (MetKey img key) (sym m) tt)
    (λ m. subst (MetKey img key) (sym m) tt)
