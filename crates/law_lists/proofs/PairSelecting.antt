-- Document 02, Job 13, during growth, after every list of calls: the names of the slots that are listed, of the old
-- image and of the new one, are the book's names in the ranges, each in one image, and they are as many.
--     both-many           as many as the book has
--     reached-both        the law, of every pair that calls have reached
-- Assumes nothing.
use mathlib.Core.Path.{◌≡◌, refl, sym, ap, ◌∙◌, subst}
use Prim.Native.Nat.{ℕ, suc, ◌+◌}
use native.Mathlib.Omega.{arith}
use mathlib.Core.Bool.{Bool, true, false, cond}
use mathlib.Core.List.{List, [], ◌∷◌, ◌++◌}
use mathlib.Core.Logic.{◌⊎◌, inl, inr}
use mathlib.Core.Option.{Option, none, some, none-ne-some}
use lib.ListN.{length}
use Rattle.spec_file.specs.Bytes.{Bytes}
use Rattle.spec_file.specs.Image.{Layout, layout_of}
use Rattle.spec_file.specs.Search.{is_met, search}
use Rattle.spec_range.specs.Ranges.{key_in_ranges, selected}
use Rattle.spec_range.specs.Listed.{Wanted, slot_key, names_in, Among}
use Rattle.spec_moves.specs.Moves.{Pair}
use Rattle.spec_growth.specs.Growth.{grow_select}
use Rattle.spec_book.specs.Steps.{growing}
use Rattle.spec_book.specs.Book.{Entry, Book, find, trimmed, trimmed_all}
use Rattle.law_file.proofs.Bytes.{by-same}
use Rattle.law_agreement.proofs.Entries.{Distinct, find_none, find-here, find-on}
use Rattle.law_agreement.proofs.Reflect.{Reflects}
use Rattle.law_agreement.proofs.Trimmed.{trimmed_of, find-trimmed, distinct-trimmed}
use Rattle.law_growth.proofs.Joins.{joined, Joins, by-find}
use Rattle.law_growth.proofs.Moving.{Grown, GrownIn}
use Rattle.law_lists.proofs.Theorem.{Held}
use Rattle.law_lists.proofs.Reached.{Reached, reached-held}
use Rattle.law_lists.proofs.Selecting.{names_of, within, many, many_more, many-same, many_is, among-known, known_among, wanted-among, known-wanted}

-- ---- two lists of entries, one after the other

else_in : Option Entry → Option Entry → Option Entry
else_in none f = f
else_in (some e) f = some e

find-both : (name : Bytes) (es fs : List Entry) → find name (es ++ fs) ≡ else_in (find name es) (find name fs)
unfolding else_in find
find-both name [] fs = refl
find-both name (e ∷ es) fs =
    let ih : find name (es ++ fs) ≡ else_in (find name es) (find name fs) = find-both name es fs in
    by-same e.name name
    (λ q.
    find-here e (es ++ fs) name q ∙ sym (ap (λ (f : Option Entry). else_in f (find name fs)) (find-here e es name q)))
    (λ n.
    find-on e (es ++ fs) name n ∙ ih
    ∙ sym (ap (λ (f : Option Entry). else_in f (find name fs)) (find-on e es name n)))

-- no name in both
abbrev Apart : List Entry → List Entry → Type 0
Apart es fs = (name : Bytes) (e : Entry) → find name es ≡ some e → find name fs ≡ none

distinct-both : (es fs : List Entry) → Distinct es → Distinct fs → Apart es fs → Distinct (es ++ fs)
unfolding else_in
distinct-both [] fs de df a = df
distinct-both (e ∷ es) fs de df a = (
  find-both e.name es fs
      ∙ ap (λ (f : Option Entry). else_in f (find e.name fs)) de.0
      ∙ a e.name e (find-here e es e.name refl),
  distinct-both es fs de.1 df (λ name x f.
      by-same e.name name
      (λ q. absurd (none-ne-some x (sym de.0 ∙ ap (λ (k : Bytes). find k es) q ∙ f)))
      (λ n. a name x (find-on e es name n ∙ f))),
)

module _ (lowest highest : Bytes) where
  many-both : (es fs : List Entry) → many lowest highest (es ++ fs) ≡ many lowest highest es + many lowest highest fs
  many-both [] fs =
      let zero-many : many lowest highest [] ≡ 0 = unfold names_of names_in in refl in
      omega (arith, zero-many)
  many-both (e ∷ es) fs =
      omega (
        arith,
        many_more lowest highest e (es ++ fs),
        many_more lowest highest e es,
        many-both es fs,
      )

  abbrev weighed : Entry → ℕ
  weighed e = cond (key_in_ranges lowest highest e.name) 1 0

  -- trimming changes no name
  many-trimmed : (es : List Entry) → many lowest highest (trimmed_all es) ≡ many lowest highest es
  many-trimmed [] = unfold trimmed_all in refl
  many-trimmed (e ∷ es) =
      let ih : many lowest highest (trimmed_all es) ≡ many lowest highest es = many-trimmed es in
      let one : many lowest highest (trimmed_all (e ∷ es)) ≡ many lowest highest (trimmed e ∷ trimmed_all es) =
      unfold trimmed_all in refl in
      let same : weighed (trimmed e) ≡ weighed e = unfold trimmed in refl in
      omega (
        arith,
        one,
        ih,
        same,
        many_more lowest highest (trimmed e) (trimmed_all es),
        many_more lowest highest e es,
      )

-- ---- two books joined

module _ (c d b : Book) (j : Joins c d b) (dc : Distinct c.entries) (dd : Distinct d.entries) where
  abbrev all : List Entry
  all = trimmed_all c.entries ++ d.entries

  found_all : (name : Bytes) → find name b.entries ≡ find name all
  unfolding else_in
  found_all name =
      j.points name ∙ same (find name c.entries) (find name d.entries)
      ∙ sym (find-both name (trimmed_all c.entries) d.entries
      ∙ ap (λ (f : Option Entry). else_in f (find name d.entries)) (find-trimmed name c.entries))
    where
      same : (f f' : Option Entry) → joined f f' ≡ else_in (trimmed_of f) f'
      same none f' = unfold else_in in refl
      same (some e) f' = unfold else_in in refl

  apart-all : Apart (trimmed_all c.entries) d.entries
  apart-all name e f =
      by-find (find name c.entries)
      (λ n. absurd (none-ne-some e (sym (find-trimmed name c.entries ∙ ap trimmed_of n) ∙ f)))
      (λ x q. j.apart name x q)

  pub both-many : (lowest highest : Bytes)
      → many lowest highest b.entries ≡ many lowest highest c.entries + many lowest highest d.entries
  both-many lowest highest =
      many-same lowest highest b.entries all j.distinct
      (distinct-both _ _ (distinct-trimmed c.entries dc) dd apart-all) found_all
      ∙ many-both lowest highest (trimmed_all c.entries) d.entries
      ∙ ap (λ (n : ℕ). n + many lowest highest d.entries) (many-trimmed lowest highest c.entries)

-- ---- every pair that calls have reached

-- what an accepted call on a pair lists: the slots wanted in the old image, then those in the new one
pub record BothListed (p : Pair) (names : List Bytes) (lowest highest : Bytes) (old_found new_found : ℕ) : Type 0 where
  pub number_is : old_found + new_found ≡ length (names_in lowest highest names)
  pub old-only : (i : ℕ) → Wanted p.old lowest highest i → Among (slot_key p.old i) (names_in lowest highest names)
  pub new-only : (i : ℕ) → Wanted p.new lowest highest i → Among (slot_key p.new i) (names_in lowest highest names)
  pub all : (name : Bytes) → Among name (names_in lowest highest names)
      → ((i : ℕ) × Wanted p.old lowest highest i × (slot_key p.old i ≡ name))
      ⊎ ((i : ℕ) × Wanted p.new lowest highest i × (slot_key p.new i ≡ name))
  pub once : (i k : ℕ) → Wanted p.old lowest highest i → Wanted p.new lowest highest k
      → slot_key p.old i ≡ slot_key p.new k → ⊥

module _ (p : Pair) (b : Book) (reached : Reached (growing p) b) (lowest highest list : Bytes)
    (ok : (grow_select p lowest highest list).number ≡ 0) where
  grown : GrownIn p b
  unfolding Held
  grown = reached-held (growing p) b reached

  abbrev c : Book
  c = grown.0

  abbrev d : Book
  d = grown.1

  w : Grown p c d b
  w = grown.2

  -- the two numbers
  numbers : ((grow_select p lowest highest list).old_found ≡ length (selected (layout_of p.old) p.old lowest highest))
      × ((grow_select p lowest highest list).new_found ≡ length (selected (layout_of p.new) p.new lowest highest))
  unfolding grow_select
  numbers = (rw ok refl, rw ok refl)

  -- an entry of either book is one of the list's
  from_old : (name : Bytes) → Among name (within lowest highest c.entries) → Among name
      (within lowest highest b.entries)
  from_old name a =
      let k = among-known lowest highest name c.entries a in
      known_among lowest highest name b.entries _
      (w.joins.points name ∙ ap (λ (f : Option Entry). joined f (find name d.entries)) k.1) k.2

  from-new : (name : Bytes) → Among name (within lowest highest d.entries) → Among name
      (within lowest highest b.entries)
  from-new name a =
      let k = among-known lowest highest name d.entries a in
      known_among lowest highest name b.entries _
      (w.joins.points name
      ∙ ap (λ (f : Option Entry). joined f (find name d.entries)) (none_old name k.0 k.1) ∙ k.1) k.2
    where
      none_old : (name : Bytes) (e : Entry) → find name d.entries ≡ some e → find name c.entries ≡ none
      none_old name e q =
          by-find (find name c.entries) (λ n. n)
          (λ x f. absurd (none-ne-some e (sym (w.joins.apart name x f) ∙ q)))

  pub reached-both : BothListed p (names_of b.entries) lowest highest (grow_select p lowest highest list).old_found
      (grow_select p lowest highest list).new_found
  reached-both =
      record {
        number_is = omega (
          arith,
          numbers.0,
          numbers.1,
          many_is p.old c lowest highest w.old,
          many_is p.new d lowest highest w.new,
          both-many c d b w.joins w.old.distinct w.new.distinct lowest highest,
        );
        old-only = λ i x. from_old _ (wanted-among p.old c lowest highest w.old i x);
        new-only = λ i x. from-new _ (wanted-among p.new d lowest highest w.new i x);
        all = λ name a.
            let k = among-known lowest highest name b.entries a in
            by-find (find name c.entries)
            (λ n. inr (known-wanted p.new d lowest highest w.new name k.0
            (sym (w.joins.points name ∙ ap (λ (f : Option Entry). joined f (find name d.entries)) n) ∙ k.1)
            k.2))
            (λ e q. inl (known-wanted p.old c lowest highest w.old name e q k.2));
        once = λ i k x y e.
            let a = among-known lowest highest (slot_key p.old i) c.entries
            (wanted-among p.old c lowest highest w.old i x) in
            let b' = among-known lowest highest (slot_key p.new k) d.entries
            (wanted-among p.new d lowest highest w.new k y) in
            none-ne-some b'.0
            (sym (w.joins.apart (slot_key p.old i) a.0 a.1)
            ∙ ap (λ (u : Bytes). find u d.entries) e ∙ b'.1);
      }
