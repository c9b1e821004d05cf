-- The book's entries while messages are carried over: their space.
--     space-with      an entry with a text in the place of one that had none
--     space-le        entries that take no more space, name by name
-- Assumes nothing.
use mathlib.Core.Path.{◌≡◌, refl, sym, ap, ap₂, ◌∙◌}
use Prim.Native.Nat.{ℕ, suc, ◌+◌, ◌≤◌}
use native.Mathlib.Omega.{arith}
use mathlib.Core.List.{List, [], ◌∷◌}
use mathlib.Core.Option.{Option, none, some, none-ne-some, some-injective}
use lib.ListN.{length}
use Rattle.spec_file.specs.Bytes.{Bytes}
use Rattle.spec_book.specs.Book.{Entry, find, without, with_entry, space_for, space_for_all}
use Rattle.law_file.proofs.Bytes.{by-same}
use Rattle.law_agreement.proofs.Entries.{Distinct, find_none, find-here, find-on, without-here, without_on, find-without-other, find-without-same, distinct_without, find-same}

module _ (head : ℕ) where
  -- one entry and the others
  pub space-without : (name : Bytes) (es : List Entry) (x : Entry) → find name es ≡ some x
      → space_for_all head es ≡ space_for head x.text + space_for_all head (without name es)
  unfolding space_for_all
  space-without name [] x h = absurd (none-ne-some x (sym (find_none name) ∙ h))
  space-without name (e ∷ es) x h =
      let ih : find name es ≡ some x
      → space_for_all head es ≡ space_for head x.text + space_for_all head (without name es) = space-without name es x in
      by-same e.name name
      (λ q.
      ap₂ (λ (y : Entry) (l : List Entry). space_for head y.text + space_for_all head l)
      (some-injective e x (sym (find-here e es name q) ∙ h)) (sym (without-here e es name q)))
      (λ n. omega (
        arith,
        ih (sym (find-on e es name n) ∙ h),
        ap (space_for_all head) (without_on e es name n),
      ))

  -- an entry in the place of one without a text
  pub space-with : (new x : Entry) (es : List Entry) → find new.name es ≡ some x → x.text ≡ none
      → space_for_all head (with_entry new es) ≡ space_for head new.text + space_for_all head es
  unfolding with_entry space_for_all space_for
  space-with new x es h z =
      let w = space-without new.name es x h in
      let n : space_for head x.text ≡ 0 = ap (space_for head) z in
      omega (arith, w, n)

  -- no more space, name by name
  pub space-le : (es fs : List Entry) → Distinct es → Distinct fs
      → ((name : Bytes) (e : Entry) → find name es ≡ some e
      → (f : Entry) × (find name fs ≡ some f) × (space_for head e.text ≤ space_for head f.text))
      → space_for_all head es ≤ space_for_all head fs
  unfolding space_for_all
  space-le [] fs d c le = omega arith
  space-le (e ∷ es) fs d c le =
      let name = e.name in
      let w = le name e (find-here e es name refl) in
      let ih : ((n : Bytes) (x : Entry) → find n es ≡ some x
      → (f : Entry) × (find n (without name fs) ≡ some f) × (space_for head x.text ≤ space_for head f.text))
      → space_for_all head es ≤ space_for_all head (without name fs)
      = space-le es (without name fs) d.1 (distinct_without name fs c) in
      let rest : space_for_all head es ≤ space_for_all head (without name fs) =
      ih (λ n x h.
      let other : n ≡ name → ⊥ = λ q. none-ne-some x (sym d.0 ∙ ap (λ (k : Bytes). find k es) (sym q) ∙ h) in
      let v = le n x (find-on e es n (λ q. other (sym q)) ∙ h) in
      (v.0, find-without-other name n fs other ∙ v.1, v.2)) in
      omega (arith, rest, w.2, space-without name fs w.0 w.1)
