-- The book and the file say the same: the relation that every call keeps.
--     Reflects g img b      the file img, of layout g, holds what the book b says; Reflected img b: of some layout
--     reflect-entered, reflect-without      kept by a change to one point; reflect-same: by a step that concerns none
-- Assumes nothing.
use mathlib.Core.Path.{◌≡◌, sym, ap, ◌∙◌}
use Prim.Native.Nat.{ℕ, ◌+◌, ◌-◌}
use native.Mathlib.Omega.{arith}
use mathlib.Core.Bool.{false}
use mathlib.Core.List.{List, []}
use mathlib.Core.Option.{none, some}
use lib.ListN.{length}
use Rattle.spec_file.specs.Bytes.{Bytes}
use Rattle.spec_file.specs.Limits.{points_field, free_field}
use Rattle.spec_file.specs.Image.{field, Layout}
use Rattle.spec_file.specs.Messages.{head_size}
use Rattle.spec_file.specs.Questions.{name_allowed}
use Rattle.spec_book.specs.Book.{Entry, Terms, Book, find, without, with_entry, entered}
use Rattle.law_file.proofs.Tests.{not-both}
use Rattle.law_file.proofs.Bytes.{by-same}
use Rattle.law_agreement.proofs.File.{Allowed, point_of, not-allowed, File, Change, file-change, point-other}
use Rattle.law_agreement.proofs.Entries.{Distinct, removed, find-without-other, find-without-same, distinct_without, find-with_entry, find-with_entry-other, distinct-with_entry}

-- the book's terms of a file of L bytes
abbrev pub terms_for : Layout → ℕ → Terms
terms_for g L = record { K = g.K; N = g.N; R = L - g.D; head = head_size g; most = g.most }

pub record Reflects (g : Layout) (img : Bytes) (b : Book) : Type 0 where
  pub file : File g img
  pub terms : b.terms ≡ terms_for g (length img)
  pub used : field img free_field ≡ g.D + b.used
  pub number : length b.entries ≡ field img points_field
  pub points : (name : Bytes) → Allowed g name → point_of g img name ≡ find name b.entries
  pub others : (name : Bytes) → name_allowed g.K name ≡ false → find name b.entries ≡ none
  pub distinct : Distinct b.entries

-- in some layout: a call may change it within a list
abbrev pub Reflected : Bytes → Book → Type 0
Reflected img b = (g : Layout) × Reflects g img b

-- a name that is not allowed is not one that is
pub other_name : (g : Layout) (key name : Bytes) → Allowed g key → name_allowed g.K name ≡ false → name ≡ key → ⊥
other_name g key name a h q = not-both (name_allowed g.K name) (rw q a) h

module _ (g : Layout) (img img' key : Bytes) (b : Book) (r : Reflects g img b) (a : Allowed g key)
    (c : Change g img img' key) where
  -- the book with other entries, which tell the point as the file does and others as before, and another amount used
  reflect-change : (es : List Entry) (u : ℕ) → point_of g img' key ≡ find key es
      → ((name : Bytes) → (name ≡ key → ⊥) → find name es ≡ find name b.entries) → Distinct es
      → field img' free_field ≡ g.D + u → length es ≡ field img' points_field
      → Reflects g img' (record { terms = b.terms; entries = es; used = u })
  reflect-change es u p old d x n =
      record {
        file = file-change g img img' key r.file c;
        terms = rw c.kept.size r.terms;
        used = x;
        number = n;
        points =
            λ name a'.
            by-same name key
            (λ q. ap (point_of g img') q ∙ p ∙ sym (ap (λ (k : Bytes). find k es) q))
            (λ q. point-other g img img' key r.file c name a' q ∙ r.points name a' ∙ sym (old name q));
        others = λ name h. old name (other_name g key name a h) ∙ r.others name h;
        distinct = d;
      }

  -- the point is as an entry has it
  pub reflect-entered : (new : Entry) (more : ℕ) → new.name ≡ key → point_of g img' key ≡ some new
      → field img' free_field ≡ field img free_field + more
      → length (with_entry new b.entries) ≡ field img' points_field
      → Reflects g img' (entered b new more)
  unfolding entered
  reflect-entered new more q p x n =
      reflect-change (with_entry new b.entries) (b.used + more)
      (p ∙ sym (ap (λ (k : Bytes). find k (with_entry new b.entries)) (sym q) ∙ find-with_entry new b.entries))
      (λ name m. find-with_entry-other new b.entries name (λ e. m (e ∙ q)))
      (distinct-with_entry new b.entries r.distinct)
      (omega (arith, x, r.used)) n

  -- the point is gone
  pub reflect-without : point_of g img' key ≡ none → field img' free_field ≡ field img free_field
      → length (without key b.entries) ≡ field img' points_field
      → Reflects g img' (removed key b)
  reflect-without p x n =
      reflect-change (without key b.entries) b.used (p ∙ sym (find-without-same key b.entries r.distinct))
      (λ name q. find-without-other key name b.entries q) (distinct_without key b.entries r.distinct)
      (x ∙ r.used) n

-- a step that concerns no point, and changes neither X nor C, keeps the relation
pub reflect-same : (g : Layout) (img img' : Bytes) (b : Book) → Reflects g img b → Change g img img' []
    → field img' free_field ≡ field img free_field → field img' points_field ≡ field img points_field → Reflects g img' b
reflect-same g img img' b r c x n =
    record {
      file = file-change g img img' [] r.file c;
      terms = rw c.kept.size r.terms;
      used = x ∙ r.used;
      number = r.number ∙ sym n;
      points =
          λ name a. point-other g img img' [] r.file c name a (λ q. not-allowed r.file (rw q at a))
          ∙ r.points name a;
      others = r.others;
      distinct = r.distinct;
    }
