-- Document 02, Job 10: storing and reading records by column keep the relation of file and book, with equal answers:
-- the number, the count and the records.
-- Assumes nothing.
use mathlib.Core.Path.{◌≡◌, refl, sym, ap, ap₂, ◌∙◌}
use Prim.Native.Nat.{ℕ}
use native.Mathlib.Omega.{arith}
use mathlib.Core.Bool.{Bool, true, false}
use mathlib.Core.List.{List, [], ◌∷◌}
use mathlib.Core.Option.{Option, none}
use lib.ListN.{length}
use borrow.Author.Tests.{ne_eqb}
use Rattle.spec_file.specs.Bytes.{Bytes}
use Rattle.spec_file.specs.Image.{Layout, slot, offset_of}
use Rattle.spec_file.specs.Search.{met, search, is_met}
use Rattle.spec_file.specs.Messages.{shown, bytes_of}
use Rattle.spec_file.specs.Questions.{Question, ask, first_no, name_allowed, mode_known, named, seek_number, lookup_number}
use Rattle.spec_file.specs.Calls.{Answer, Outcome, plain, settled, lookup}
use Rattle.spec_columns.specs.Columns.{whole_records, columns}
use Rattle.spec_records.specs.Records.{store_number, store_records, stored_bytes, readable, read_number, records_answer, read_records}
use Rattle.spec_book.specs.Book.{Book, find, step_of, guarded, add_found, book_add, book_store, read_found, book_read}
use Rattle.law_file.proofs.Tests.{by_bool}
use Rattle.law_file.proofs.Opened.{first_no-none, first_no-yes, first_no-no}
use Rattle.law_file.proofs.Outcomes.{lookup-7, lookup-14}
use Rattle.law_file.proofs.Sought.{seek-7, seek-0}
use Rattle.law_records.proofs.Numbers.{store-stop, store-19, store-add, read-stop, read-on, records-refused}
use Rattle.law_agreement.proofs.File.{Allowed, value_of}
use Rattle.law_agreement.proofs.Reflect.{Reflects}
use Rattle.law_agreement.proofs.Simple.{Same, same-refused, guarded-yes, guarded-no, book-key, open₀, found-met, found_none, by-met, lookup-is}
use Rattle.law_agreement.proofs.Add.{same_add}

module _ (g : Layout) (img : Bytes) (b : Book) (r : Reflects g img b) (key : Bytes) where
  -- ---- storing

  module _ (recs : Bytes) (W : ℕ) where
    abbrev whole : Bool
    whole = whole_records W (length recs)

    abbrev asks : List Question
    asks = ask 7 (name_allowed b.terms.K key) ∷ ask 19 whole ∷ []

    -- whole records: the book's add of what is stored
    store-is-add : whole ≡ true → book_store b key recs W ≡ book_add b key (columns W recs) 2
    unfolding book_store book_add guarded step_of named mode_known first_no ask
    store-is-add h = rw h refl

    refuse : {n : ℕ} → first_no asks ≡ n → (n ≡ 0 → ⊥) → store_number img key recs W ≡ n
        → Same g (store_records img key recs W) (book_store b key recs W)
    unfolding store_records book_store
    refuse e z q =
        rw (guarded-no b asks (add_found b key (columns W recs) 2 (find key b.entries)) (λ w. z (sym e ∙ w)))
        (same-refused g img b r (store_number img key recs W) _ asks b (q ∙ sym e) (λ w. z (sym e ∙ w)))

    pub same_store : Same g (store_records img key recs W) (book_store b key recs W)
    same_store =
        by_bool whole
        (λ h. rw (store-add img key recs W h, store-is-add h) (same_add g img b r key (columns W recs) 2))
        (λ h. by_bool (name_allowed g.K key)
        (λ a.
        let asked = seek-0 img key true (open₀ r) (rw r.file.layout a) refl in
        refuse (rw (book-key r) (first_no-yes 7 _ _ a ∙ first_no-no 19 _ [] h)) (λ z. omega arith)
        (store-19 img key recs W asked h))
        (λ n.
        let seven = seek-7 img key true (open₀ r) (rw r.file.layout n) in
        refuse (rw (book-key r) (first_no-no 7 _ _ n)) (λ z. omega arith)
        (store-stop img key recs W (λ z. omega (arith, z, seven)) ∙ seven)))

  -- ---- reading

  module _ (room : ℕ) where
    -- both refuse with lookup's number
    read-both : (asks : List Question) (y : Book) → lookup_number img key ≡ first_no asks → (first_no asks ≡ 0 → ⊥)
        → Same g (read_records img key room) (step_of b asks y)
    unfolding step_of read_records
    read-both asks y e z =
        let stop = read-stop img key room (λ q. z (sym e ∙ q)) in
        record {
          answer =
              records-refused (read_number img key room) (stored_bytes img key) (λ q. z (sym e ∙ sym stop ∙ q))
              ∙ ap plain (stop ∙ e);
          after = rw (ne_eqb (first_no asks) 0 z) r;
        }

    -- 14
    absent-both : Allowed g key → is_met (search g img key) ≡ false
        → Same g (read_records img key room) (read_found b room none)
    unfolding read_found
    absent-both a h =
        let absent = lookup-14 img key (open₀ r) (rw r.file.layout a) (rw r.file.layout h) in
        let fourteen : first_no (ask 14 false ∷ []) ≡ 14 = first_no-no 14 false [] refl in
        read-both (ask 14 false ∷ []) b (absent ∙ sym fourteen) (λ z. omega (arith, z, fourteen))

    -- the point's text is what is stored
    module _ (a : Allowed g key) (i : ℕ) (m : search g img key ≡ met i) where
      abbrev text : Option Bytes
      text = shown g img (offset_of g (slot g img i))

      stored_is : stored_bytes img key ≡ bytes_of text
      unfolding stored_bytes lookup
      stored_is = ap (λ (x : Answer). bytes_of x.text) (lookup-is g img b r key a i m)

      accepted : lookup_number img key ≡ 0
      unfolding lookup
      accepted = ap (λ (x : Answer). x.number) (lookup-is g img b r key a i m)

      met-answer : (read_records img key room).answer
          ≡ records_answer (first_no (ask 19 (readable (bytes_of text) room) ∷ [])) (bytes_of text)
      unfolding read_records
      met-answer =
          ap (λ (n : ℕ). records_answer n (stored_bytes img key)) (read-on img key room accepted)
          ∙ ap (λ (t : Bytes). records_answer (first_no (ask 19 (readable t room) ∷ [])) t) stored_is

    pub same_read : Same g (read_records img key room) (book_read b key room)
    unfolding book_read
    same_read =
        let found = find key b.entries in
        by_bool (name_allowed g.K key)
        (λ a.
        let named₀ : first_no (ask 7 (name_allowed b.terms.K key) ∷ []) ≡ 0 =
        rw (book-key r) (first_no-yes 7 _ [] a ∙ first_no-none) in
        rw (guarded-yes b _ (read_found b room found) named₀)
        (by-met g img b r key
        (λ i m.
        rw (found-met g img b r key a i m)
        (record { answer = unfold read_found in met-answer a i m; after = unfold read_records read_found in r }))
        (λ h. rw (found_none g img b r key a h) (absent-both a h))))
        (λ n.
        let refused = lookup-7 img key (open₀ r) (rw r.file.layout n) in
        let asks₇ = ask 7 (name_allowed b.terms.K key) ∷ [] in
        let seven : first_no asks₇ ≡ 7 = rw (book-key r) (first_no-no 7 _ [] n) in
        let no : first_no asks₇ ≡ 0 → ⊥ = λ z. omega (arith, z, seven) in
        rw (guarded-no b asks₇ (read_found b room found) no) (read-both asks₇ b (refused ∙ sym seven) no))
