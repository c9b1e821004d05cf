-- Laws of the book's entries: find, without and with_entry, by name.
--     Distinct es       no name stands twice
--     removed name b    the book without the entry of that name
-- Assumes nothing.
use mathlib.Core.Path.{◌≡◌, refl, sym, ap, ◌∙◌}
use Prim.Native.Nat.{suc}
use mathlib.Core.Bool.{false}
use mathlib.Core.List.{List, [], ◌∷◌}
use mathlib.Core.Option.{none, some, none-ne-some, some-injective}
use lib.ListN.{length}
use Rattle.spec_file.specs.Bytes.{Bytes, same}
use Rattle.spec_book.specs.Book.{Entry, Book, find, without, with_entry}
use Rattle.law_file.proofs.Tests.{by_bool}
use Rattle.law_file.proofs.Bytes.{same_refl, same_true, by-same}

abbrev pub Distinct : List Entry → Type 0
Distinct [] = Unit {0}
Distinct (e ∷ es) = (find e.name es ≡ none) × Distinct es

-- the book without the entry of that name
abbrev pub removed : Bytes → Book → Book
removed name b = record { terms = b.terms; entries = without name b.entries; used = b.used }

-- ---- the first entry

same-no : (a b : Bytes) → (a ≡ b → ⊥) → same a b ≡ false
same-no a b n = by_bool (same a b) (λ h. absurd (n (same_true a b h))) (λ h. h)

pub find-here : (e : Entry) (es : List Entry) (name : Bytes) → e.name ≡ name → find name (e ∷ es) ≡ some e
unfolding find
find-here e es name q = rw (ap (λ (x : Bytes). same x name) q ∙ same_refl name) refl

pub find-on : (e : Entry) (es : List Entry) (name : Bytes) → (e.name ≡ name → ⊥) → find name (e ∷ es) ≡ find name es
unfolding find
find-on e es name n = rw (same-no e.name name n) refl

pub without-here : (e : Entry) (es : List Entry) (name : Bytes) → e.name ≡ name → without name (e ∷ es) ≡ es
unfolding without
without-here e es name q = rw (ap (λ (x : Bytes). same x name) q ∙ same_refl name) refl

pub without_on : (e : Entry) (es : List Entry) (name : Bytes) → (e.name ≡ name → ⊥)
    → without name (e ∷ es) ≡ e ∷ without name es
unfolding without
without_on e es name n = rw (same-no e.name name n) refl

-- ---- without

pub find_none : (name : Bytes) → find name [] ≡ none
unfolding find
find_none name = refl

pub without-absent : (name : Bytes) (es : List Entry) → find name es ≡ none → without name es ≡ es
unfolding find without
without-absent name [] h = refl
without-absent name (e ∷ es) h =
    let ih : find name es ≡ none → without name es ≡ es = without-absent name es in
    by-same e.name name
    (λ q. absurd (none-ne-some e (sym h ∙ find-here e es name q)))
    (λ n. without_on e es name n ∙ ap (◌∷◌ e) (ih (sym (find-on e es name n) ∙ h)))

pub find-without-other : (name name' : Bytes) (es : List Entry) → (name' ≡ name → ⊥)
    → find name' (without name es) ≡ find name' es
unfolding find without
find-without-other name name' [] n = refl
find-without-other name name' (e ∷ es) n =
    let ih : find name' (without name es) ≡ find name' es = find-without-other name name' es n in
    by-same e.name name
    (λ q. ap (find name') (without-here e es name q) ∙ sym (find-on e es name' (λ r. n (sym r ∙ q))))
    (λ m. ap (find name') (without_on e es name m)
    ∙ by-same e.name name'
    (λ r. find-here e (without name es) name' r ∙ sym (find-here e es name' r))
    (λ r. find-on e (without name es) name' r ∙ ih ∙ sym (find-on e es name' r)))

pub find-without-same : (name : Bytes) (es : List Entry) → Distinct es → find name (without name es) ≡ none
unfolding find without
find-without-same name [] d = refl
find-without-same name (e ∷ es) d =
    let ih : find name (without name es) ≡ none = find-without-same name es d.1 in
    by-same e.name name
    (λ q. ap (find name) (without-here e es name q) ∙ ap (λ (x : Bytes). find x es) (sym q) ∙ d.0)
    (λ n. ap (find name) (without_on e es name n) ∙ find-on e (without name es) name n ∙ ih)

pub distinct_without : (name : Bytes) (es : List Entry) → Distinct es → Distinct (without name es)
unfolding without
distinct_without name [] d = tt
distinct_without name (e ∷ es) d =
    let ih : Distinct (without name es) = distinct_without name es d.1 in
    by-same e.name name
    (λ q. rw (without-here e es name q) d.1)
    (λ n. rw (without_on e es name n) (find-without-other name e.name es n ∙ d.0, ih))

pub length_without : (name : Bytes) (es : List Entry) (x : Entry) → find name es ≡ some x
    → suc (length (without name es)) ≡ length es
unfolding find without
length_without name [] x h = absurd (none-ne-some x h)
length_without name (e ∷ es) x h =
    let ih : find name es ≡ some x → suc (length (without name es)) ≡ length es = length_without name es x in
    by-same e.name name
    (λ q. ap (λ (l : List Entry). suc (length l)) (without-here e es name q))
    (λ n.
    ap (λ (l : List Entry). suc (length l)) (without_on e es name n)
    ∙ ap suc (ih (sym (find-on e es name n) ∙ h)))

-- ---- with_entry

pub find-with_entry : (e : Entry) (es : List Entry) → find e.name (with_entry e es) ≡ some e
unfolding with_entry
find-with_entry e es = find-here e (without e.name es) e.name refl

pub find-with_entry-other : (e : Entry) (es : List Entry) (name : Bytes) → (name ≡ e.name → ⊥)
    → find name (with_entry e es) ≡ find name es
unfolding with_entry
find-with_entry-other e es name n =
    find-on e (without e.name es) name (λ q. n (sym q)) ∙ find-without-other e.name name es n

pub distinct-with_entry : (e : Entry) (es : List Entry) → Distinct es → Distinct (with_entry e es)
unfolding with_entry
distinct-with_entry e es d = (find-without-same e.name es d, distinct_without e.name es d)

pub length-with_entry-new : (e : Entry) (es : List Entry) → find e.name es ≡ none
    → length (with_entry e es) ≡ suc (length es)
unfolding with_entry
length-with_entry-new e es h = ap (λ (l : List Entry). suc (length l)) (without-absent e.name es h)

pub length-with_entry-old : (e : Entry) (es : List Entry) (x : Entry) → find e.name es ≡ some x
    → length (with_entry e es) ≡ length es
unfolding with_entry
length-with_entry-old e es x h = length_without e.name es x h

-- ---- the entry found has the name asked for
pub find-same : (name : Bytes) (es : List Entry) (x : Entry) → find name es ≡ some x → x.name ≡ name
unfolding find
find-same name [] x h = absurd (none-ne-some x h)
find-same name (e ∷ es) x h =
    let ih : find name es ≡ some x → x.name ≡ name = find-same name es x in
    by-same e.name name
    (λ q. ap (λ (y : Entry). y.name) (sym (some-injective e x (sym (find-here e es name q) ∙ h))) ∙ q)
    (λ n. ih (sym (find-on e es name n) ∙ h))
