-- A file that has the invariant is in the relation with the book that is read off it.
--     length-entries, find-entry, find-nothing      the book read off, by slots
--     file-reflects      the relation
-- Assumes nothing.
use mathlib.Core.Path.{◌≡◌, refl, sym, ap, ◌∙◌, subst}
use Prim.Native.Nat.{ℕ, zero, suc, ◌+◌, ◌≤◌, ◌<◌}
use native.Mathlib.Omega.{arith}
use mathlib.Core.Bool.{true, false, not}
use mathlib.Core.List.{List, [], ◌∷◌}
use mathlib.Core.Option.{none, some}
use lib.ListN.{length}
use borrow.Author.Tests.{not-true}
use Rattle.spec_file.specs.Bytes.{Bytes, all_zero}
use Rattle.spec_file.specs.Image.{Layout, layout_of, slot, offset_of, vacant}
use Rattle.spec_file.specs.Search.{met, search, is_met}
use Rattle.spec_file.specs.Questions.{name_allowed}
use Rattle.spec_file.specs.Inspect.{taken, taken_from}
use Rattle.spec_book.specs.Book.{Entry, find}
use Rattle.spec_book.specs.Reopened.{entry_at, entries_from, book_of}
use Rattle.law_file.proofs.Tests.{by_bool, by-eq, not-both}
use Rattle.law_file.proofs.Bytes.{by-same}
use Rattle.law_file.proofs.Table.{Taken, key_at, entry_of, slot_met}
use Rattle.law_file.proofs.Probe.{by-search, search-met, search-finds}
use Rattle.law_file.proofs.Insert.{count-taken}
use Rattle.law_agreement.proofs.File.{Allowed, allowed-zero, File, file-some, file-data, point_of, point_of-some, point_of-none, value_of}
use Rattle.law_agreement.proofs.Entries.{Distinct, find_none, find-here, find-on}
use Rattle.law_agreement.proofs.Reflect.{Reflects}
use Rattle.law_agreement.proofs.Checked.{taken-allowed}

module _ (g : Layout) (img : Bytes) where
  pub from-taken : (left i : ℕ) → taken g img i ≡ true
      → entries_from g img (suc left) i ≡ entry_at g img i ∷ entries_from g img left (suc i)
  unfolding entries_from
  from-taken left i t = rw t refl

  pub from-vacant : (left i : ℕ) → taken g img i ≡ false
      → entries_from g img (suc left) i ≡ entries_from g img left (suc i)
  unfolding entries_from
  from-vacant left i t = rw t refl

  pub length-entries : (left i : ℕ) → length (entries_from g img left i) ≡ taken_from g img left i
  unfolding taken_from
  length-entries zero i = unfold entries_from in refl
  length-entries (suc left) i =
      let ih = length-entries left (suc i) in
      by_bool (taken g img i)
      (λ t. ap length (from-taken left i t) ∙ rw t (omega (arith, ih)))
      (λ t. ap length (from-vacant left i t) ∙ rw t (omega (arith, ih)))

  -- a name that no taken slot has
  pub find-nothing : (name : Bytes) (left i : ℕ)
      → ((k : ℕ) → i ≤ k → k < i + left → taken g img k ≡ true → key_at g img k ≡ name → ⊥)
      → find name (entries_from g img left i) ≡ none
  unfolding entry_at
  find-nothing name zero i no' = unfold entries_from in find_none name
  find-nothing name (suc left) i no' =
      let ih = find-nothing name left (suc i) (λ k a b. no' k (omega arith) (omega arith)) in
      by_bool (taken g img i)
      (λ t.
      ap (find name) (from-taken left i t)
      ∙ find-on (entry_at g img i) (entries_from g img left (suc i)) name (no' i (omega arith) (omega arith) t)
      ∙ ih)
      (λ t. ap (find name) (from-vacant left i t) ∙ ih)

  -- a name that taken slot k has, and no other
  pub find-entry : (name : Bytes) (k : ℕ) → taken g img k ≡ true → key_at g img k ≡ name
      → ((j : ℕ) → j < g.N → taken g img j ≡ true → key_at g img j ≡ name → j ≡ k)
      → (left i : ℕ) → i ≤ k → k < i + left → i + left ≤ g.N
      → find name (entries_from g img left i) ≡ some (entry_at g img k)
  unfolding entry_at
  find-entry name k t e only zero i lo hi in' = absurd (omega arith)
  find-entry name k t e only (suc left) i lo hi in' =
      by-eq i k
      (λ q.
      ap (find name) (from-taken left i (ap (taken g img) q ∙ t))
      ∙ find-here (entry_at g img i) (entries_from g img left (suc i)) name (ap (key_at g img) q ∙ e)
      ∙ ap (λ (j : ℕ). some (entry_at g img j)) q)
      (λ n.
      let ih = find-entry name k t e only left (suc i) (omega (arith, n)) (omega arith) (omega arith) in
      by_bool (taken g img i)
      (λ ti.
      ap (find name) (from-taken left i ti)
      ∙ find-on (entry_at g img i) (entries_from g img left (suc i)) name (λ q. n (only i (omega arith) ti q))
      ∙ ih)
      (λ ti. ap (find name) (from-vacant left i ti) ∙ ih))

module _ (g : Layout) (img : Bytes) (f : File g img) where
  is-taken : (i : ℕ) → taken g img i ≡ true → Taken g img i
  unfolding taken
  is-taken i t = not-true (vacant g (slot g img i)) t

  only_one : (name : Bytes) (i : ℕ) → i < g.N → taken g img i ≡ true → key_at g img i ≡ name
      → (j : ℕ) → j < g.N → taken g img j ≡ true → key_at g img j ≡ name → j ≡ i
  only_one name i l t e j lj tj ej = f.table.distinct j i lj l (is-taken j tj) (is-taken i t) (ej ∙ sym e)

  -- no name stands twice in the rest of the book
  distinct_from : (left i : ℕ) → i + left ≤ g.N → Distinct (entries_from g img left i)
  unfolding entry_at
  distinct_from zero i l = unfold entries_from in tt
  distinct_from (suc left) i l =
      let ih = distinct_from left (suc i) (omega arith) in
      by_bool (taken g img i)
      (λ t. subst Distinct (sym (from-taken g img left i t)) (
        find-nothing g img (key_at g img i) left (suc i)
            (λ k a b tk ek. omega (arith, only_one (key_at g img i) i (omega arith) t refl k (omega arith) tk ek)),
        ih,
      ))
      (λ t. subst Distinct (sym (from-vacant g img left i t)) ih)

  -- a name that is not met stands in no slot
  absent-from : (name : Bytes) → is_met (search g img name) ≡ false → find name (entries_from g img g.N 0) ≡ none
  unfolding is_met
  absent-from name h =
      find-nothing g img name g.N 0
      (λ k lo hi t e.
      not-both (is_met (search g img name))
      (ap is_met (search-finds g img name (file-some f) k f.table (omega arith) (is-taken k t) e)) h)

  met-from : (name : Bytes) → Allowed g name → (i : ℕ) → search g img name ≡ met i
      → point_of g img name ≡ find name (entries_from g img g.N 0)
  unfolding entry_of slot_met entry_at vacant taken
  met-from name a i m =
      let s = search-met g img name (file-some f) i m in
      let t : taken g img i ≡ true = ap not (ap all_zero s.1 ∙ allowed-zero g name a) in
      point_of-some g img name (slot g img i) (ap (slot_met g img) m)
      ∙ ap (λ (x : Bytes). some (value_of g img x (offset_of g (slot g img i)))) (sym s.1)
      ∙ sym (find-entry g img name i t s.1 (only_one name i s.0 t s.1) g.N 0
      (omega arith) (omega (arith, s.0)) (omega arith))

  points-from : (name : Bytes) → Allowed g name → point_of g img name ≡ find name (entries_from g img g.N 0)
  unfolding entry_of slot_met is_met
  points-from name a =
      by-search g img name (file-some f)
      (λ i m. met-from name a i m)
      (λ i m. point_of-none g img name (ap (slot_met g img) m) ∙ sym (absent-from name (ap is_met m)))
      (λ m. point_of-none g img name (ap (slot_met g img) m) ∙ sym (absent-from name (ap is_met m)))

  others-from : (name : Bytes) → name_allowed g.K name ≡ false → find name (entries_from g img g.N 0) ≡ none
  others-from name h =
      find-nothing g img name g.N 0
      (λ k lo hi t e.
      not-both (name_allowed g.K name)
      (subst (λ (x : Bytes). Allowed g x) e (taken-allowed g img f k (omega arith) (is-taken k t))) h)

-- the relation, of a file and the book that is read off it
pub file-reflects : (img : Bytes) → File (layout_of img) img → Reflects (layout_of img) img (book_of img)
unfolding book_of
file-reflects img f =
    let g = layout_of img in
    record {
      file = f;
      terms = refl;
      used = omega (arith, f.opened.free-low, file-data f);
      number = length-entries g img g.N 0 ∙ count-taken g img ∙ sym f.counted;
      points = points-from g img f;
      others = others-from g img f;
      distinct = distinct_from g img f g.N 0 (omega arith);
    }
