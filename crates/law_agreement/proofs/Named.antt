-- A file's slots and its book, by name.
-- Assumes nothing.
use mathlib.Core.Path.{◌≡◌, sym, ap, ◌∙◌}
use Prim.Native.Nat.{ℕ, ◌<◌}
use mathlib.Core.Bool.{true, not}
use mathlib.Core.Option.{none, some, none-ne-some}
use borrow.Author.Tests.{not-true}
use Rattle.spec_file.specs.Bytes.{Bytes}
use Rattle.spec_file.specs.Image.{Layout, slot, vacant}
use Rattle.spec_file.specs.Questions.{name_allowed}
use Rattle.spec_file.specs.Inspect.{taken}
use Rattle.spec_book.specs.Book.{Entry, Book, find}
use Rattle.law_file.proofs.Tests.{by_bool}
use Rattle.law_file.proofs.Table.{Taken, key_at, entry_of}
use Rattle.law_file.proofs.Insert.{entry-taken}
use Rattle.law_compaction.proofs.Packing.{start_at}
use Rattle.law_agreement.proofs.File.{Allowed, file-some, point_of-some, point_of-none, value_of, by-entry}
use Rattle.law_agreement.proofs.Reflect.{Reflects}
use Rattle.law_agreement.proofs.Checked.{taken-allowed, entry-slot}

module _ (g : Layout) (img : Bytes) (b : Book) (r : Reflects g img b) where
  pub is-taken : (i : ℕ) → taken g img i ≡ true → Taken g img i
  unfolding taken
  is-taken i t = not-true (vacant g (slot g img i)) t

  pub allowed_at : (i : ℕ) → i < g.N → taken g img i ≡ true → Allowed g (key_at g img i)
  allowed_at i l t = taken-allowed g img r.file i l (is-taken i t)

  -- what the book has under a taken slot's key
  pub book-has : (i : ℕ) → i < g.N → taken g img i ≡ true
      → find (key_at g img i) b.entries ≡ some (value_of g img (key_at g img i) (start_at g img i))
  book-has i l t =
      sym (r.points (key_at g img i) (allowed_at i l t))
      ∙ point_of-some g img (key_at g img i) (slot g img i)
      (entry-taken g img i (file-some r.file) r.file.table l (is-taken i t))

  -- and a slot for every name that it has
  pub book-slot : (name : Bytes) (e : Entry) → find name b.entries ≡ some e
      → (i : ℕ) × (i < g.N) × (taken g img i ≡ true) × (key_at g img i ≡ name)
  book-slot name e h₀ =
      by_bool (name_allowed g.K name)
      (λ a. by-entry (entry_of g img name)
      (λ n. absurd (none-ne-some e (sym (point_of-none g img name n) ∙ r.points name a ∙ h₀)))
      (λ s q.
      let w = entry-slot g img name s (file-some r.file) a q in
      (w.0, w.1, (unfold taken in ap not w.2), w.3)))
      (λ n. absurd (none-ne-some e (sym (r.others name n) ∙ h₀)))
