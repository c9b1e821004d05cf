-- Add: the file's answer is the book's, and the relation is kept.
-- Assumes nothing.
use mathlib.Core.Path.{◌≡◌, sym, ◌∙◌}
use Prim.Native.Nat.{ℕ}
use native.Mathlib.Omega.{arith}
use mathlib.Core.Bool.{true, false}
use mathlib.Core.List.{List, []}
use Rattle.spec_file.specs.Bytes.{Bytes}
use Rattle.spec_file.specs.Image.{Layout}
use Rattle.spec_file.specs.Questions.{Question, first_no, name_allowed, mode_known, named, add_number}
use Rattle.spec_file.specs.Calls.{Outcome, add}
use Rattle.spec_book.specs.Book.{Book, find, add_found, guarded, book_add}
use Rattle.law_file.proofs.Tests.{by_bool}
use Rattle.law_file.proofs.Opened.{first_no-none, first_no-yes, first_no-no}
use Rattle.law_file.proofs.Outcomes.{add-7, add-8}
use Rattle.law_agreement.proofs.File.{Allowed}
use Rattle.law_agreement.proofs.Reflect.{Reflects}
use Rattle.law_agreement.proofs.Simple.{Same, same-refused, guarded-yes, guarded-no, book-key, open₀, by-met}
use Rattle.law_agreement.proofs.Present.{same-present}
use Rattle.law_agreement.proofs.Absent.{same-absent}

-- ---- the book's questions 7 and 8

module _ (g : Layout) (img : Bytes) (b : Book) (r : Reflects g img b) (key bytes : Bytes) (mode : ℕ) where
  abbrev asks : List Question
  asks = named b.terms.K key mode []

  book-7 : name_allowed g.K key ≡ false → first_no asks ≡ 7
  unfolding named
  book-7 h = rw (book-key r) (first_no-no 7 _ _ h)

  book-8 : Allowed g key → mode_known mode ≡ false → first_no asks ≡ 8
  unfolding named
  book-8 a h = rw (book-key r) (first_no-yes 7 _ _ a ∙ first_no-no 8 _ [] h)

  book-0 : Allowed g key → mode_known mode ≡ true → first_no asks ≡ 0
  unfolding named
  book-0 a h = rw (book-key r) (first_no-yes 7 _ _ a ∙ first_no-yes 8 _ [] h ∙ first_no-none)

  -- ---- add

  abbrev found : Outcome Book
  found = add_found b key bytes mode (find key b.entries)

  refuse : {n : ℕ} → first_no asks ≡ n → (n ≡ 0 → ⊥) → add_number img key bytes mode ≡ n
      → Same g (add img key bytes mode) (guarded b asks found)
  unfolding add
  refuse e z q =
      rw (guarded-no b asks found (λ w. z (sym e ∙ w)))
      (same-refused g img b r (add_number img key bytes mode) _ asks b (q ∙ sym e) (λ w. z (sym e ∙ w)))

  pub same_add : Same g (add img key bytes mode) (book_add b key bytes mode)
  unfolding book_add
  same_add =
      by_bool (name_allowed g.K key)
      (λ a. by_bool (mode_known mode)
      (λ k. rw (guarded-yes b _ found (book-0 a k)) (by-met g img b r key
      (λ i m. same-present g img b r key a bytes i m mode k)
      (λ h. same-absent g img b r key a bytes mode k h)))
      (λ k. refuse (book-8 a k) (λ z. omega arith) (add-8 img key (open₀ r) bytes mode (rw r.file.layout a) k)))
      (λ h. refuse (book-7 h) (λ z. omega arith) (add-7 img key (open₀ r) bytes mode (rw r.file.layout h)))
