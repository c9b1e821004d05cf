-- The book's entries after a compaction, and sums over entries.
--     find-trimmed, distinct-trimmed, length-trimmed      the entries by name, and how many
--     sum_same      books that say the same of every name have the same sums; so space-same, of their texts' space
-- Assumes nothing.
use mathlib.Core.Path.{◌≡◌, refl, sym, ap, ap₂, ◌∙◌}
use Prim.Native.Nat.{ℕ, suc, ◌+◌}
use native.Mathlib.Omega.{arith}
use mathlib.Core.List.{List, [], ◌∷◌}
use mathlib.Core.Option.{Option, none, some, none-ne-some, some-injective}
use lib.ListN.{length}
use Rattle.spec_file.specs.Bytes.{Bytes}
use Rattle.spec_book.specs.Book.{Entry, find, without, trimmed, trimmed_all, space_for, space_for_all}
use Rattle.law_file.proofs.Bytes.{by-same}
use Rattle.law_agreement.proofs.Entries.{Distinct, find_none, find-here, find-on, without-here, without_on, find-without-other, find-without-same, distinct_without}

-- ---- the entries

abbrev pub trimmed_of : Option Entry → Option Entry
trimmed_of none = none
trimmed_of (some e) = some (trimmed e)

trimmed-name : (e : Entry) → (trimmed e).name ≡ e.name
unfolding trimmed
trimmed-name e = refl

pub find-trimmed : (name : Bytes) (es : List Entry) → find name (trimmed_all es) ≡ trimmed_of (find name es)
unfolding trimmed_all find
find-trimmed name [] = refl
find-trimmed name (e ∷ es) =
    let ih : find name (trimmed_all es) ≡ trimmed_of (find name es) = find-trimmed name es in
    by-same e.name name
    (λ q.
    find-here (trimmed e) (trimmed_all es) name (trimmed-name e ∙ q) ∙ ap trimmed_of (sym (find-here e es name q)))
    (λ n.
    find-on (trimmed e) (trimmed_all es) name (λ q. n (sym (trimmed-name e) ∙ q))
    ∙ ih
    ∙ ap trimmed_of (sym (find-on e es name n)))

pub distinct-trimmed : (es : List Entry) → Distinct es → Distinct (trimmed_all es)
unfolding trimmed_all
distinct-trimmed [] d = tt
distinct-trimmed (e ∷ es) d = (
  ap (λ (n : Bytes). find n (trimmed_all es)) (trimmed-name e) ∙ find-trimmed e.name es ∙ ap trimmed_of d.0,
  distinct-trimmed es d.1,
)

pub length-trimmed : (es : List Entry) → length (trimmed_all es) ≡ length es
unfolding trimmed_all
length-trimmed [] = refl
length-trimmed (e ∷ es) = ap suc (length-trimmed es)

-- ---- sums over entries

module _ (w : Entry → ℕ) (sum : List Entry → ℕ) (nil : sum [] ≡ 0)
    (more : (e : Entry) (es : List Entry) → sum (e ∷ es) ≡ w e + sum es) where
  -- one entry and the others
  sum-without : (name : Bytes) (es : List Entry) (x : Entry) → find name es ≡ some x
      → sum es ≡ w x + sum (without name es)
  sum-without name [] x h = absurd (none-ne-some x (sym (find_none name) ∙ h))
  sum-without name (e ∷ es) x h =
      let ih : find name es ≡ some x → sum es ≡ w x + sum (without name es) = sum-without name es x in
      by-same e.name name
      (λ q.
      more e es
      ∙ ap₂ (λ (y : Entry) (l : List Entry). w y + sum l)
      (some-injective e x (sym (find-here e es name q) ∙ h)) (sym (without-here e es name q)))
      (λ n. omega (
        arith,
        more e es,
        ih (sym (find-on e es name n) ∙ h),
        ap sum (without_on e es name n),
        more e (without name es),
      ))

  -- two books that say the same of every name have the same sums
  pub sum_same : (es fs : List Entry) → Distinct es → Distinct fs → ((name : Bytes) → find name es ≡ find name fs)
      → sum es ≡ sum fs
  sum_same [] [] d c same = refl
  sum_same [] (f ∷ fs) d c same =
      absurd (none-ne-some f
      (sym (find_none f.name) ∙ same f.name ∙ find-here f fs f.name refl))
  sum_same (e ∷ es) fs d c same =
      let name = e.name in
      let there : find name fs ≡ some e = sym (same name) ∙ find-here e es name refl in
      let ih : ((n : Bytes) → find n es ≡ find n (without name fs)) → sum es ≡ sum (without name fs)
      = sum_same es (without name fs) d.1 (distinct_without name fs c) in
      more e es
      ∙ ap (λ (n : ℕ). w e + n)
      (ih (λ n. by-same n name
      (λ q.
      ap (λ (x : Bytes). find x es) q ∙ d.0
      ∙ sym (ap (λ (x : Bytes). find x (without name fs)) q ∙ find-without-same name fs c))
      (λ q.
      sym (find-on e es n (λ r. q (sym r))) ∙ same n ∙ sym (find-without-other name n fs q))))
      ∙ sym (sum-without name fs e there)

-- the space of the texts is one
pub space-same : (head : ℕ) (es fs : List Entry) → Distinct es → Distinct fs
    → ((name : Bytes) → find name es ≡ find name fs) → space_for_all head es ≡ space_for_all head fs
unfolding space_for_all
space-same head = sum_same (λ e. space_for head e.text) (space_for_all head) refl (λ e es. refl)
