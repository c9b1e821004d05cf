-- Which numbers a step of the book may answer.
--     add-number       of an add, by the questions that it puts; step-of: of any step
--     room-number      of the questions 12 and 13; room-left: not 13 where there is room
-- Assumes nothing.
use mathlib.Core.Path.{◌≡◌, refl}
use Prim.Native.Nat.{ℕ, ◌+◌, ◌≤◌}
use native.Mathlib.Omega.{arith}
use mathlib.Core.Bool.{Bool, true, false, cond, ◌&&◌}
use mathlib.Core.List.{List, [], ◌∷◌, ◌++◌}
use mathlib.Core.Option.{Option, none, some}
use lib.ListN.{length}
use lib.Dec.{eqb, leb}
use borrow.Author.Tests.{le-leb, eqb-false}
use Rattle.spec_file.specs.Bytes.{Bytes}
use Rattle.spec_file.specs.Messages.{bytes_of}
use Rattle.spec_file.specs.Questions.{Question, ask, first_no, name_allowed, named}
use Rattle.spec_file.specs.Calls.{Outcome, plain}
use Rattle.spec_file.specs.Lists.{Call, adding, deleting, looking, counting}
use Rattle.spec_changes.specs.Changes.{list_allowed, work_allowed}
use Rattle.spec_columns.specs.Columns.{columns}
use Rattle.spec_records.specs.Records.{readable}
use Rattle.law_records.proofs.Numbers.{records-number}
use Rattle.spec_book.specs.Steps.{Change, adds, deletes, compacts, Step, calling, compacting, listing, journaling, storing, reading, converting, dating, starting, second_of}
use Rattle.spec_book.specs.Book.{Entry, Book, find, step_of, room_asks, add_absent, replace, append, add_present, add_found, guarded, book_add, delete_found, book_delete, lookup_found, book_lookup, book_store, read_found, book_read, book_count, book_compact, convert_asks, book_convert, book_call, latest_entry, dated_found, book_at_epoch, book_start}
use Rattle.spec_book.specs.Told.{book_changed, image_length, told_number, book_step}
use Rattle.spec_book.specs.Demand.{no_start}
use Rattle.law_file.proofs.Tests.{by_bool}
use Rattle.law_file.proofs.Opened.{first_no-none, first_no-yes, first_no-no}

module _ (P : ℕ → Type 0) where
  -- of a question's number and of those behind it
  either : (n : ℕ) (b : Bool) (qs : List Question) → P n → P (first_no qs) → P (first_no (ask n b ∷ qs))
  either n b qs p q =
      by_bool b (λ y. rw (first_no-yes n b qs y) q) (λ m. rw (first_no-no n b qs m) p)

  none-asked : P 0 → P (first_no [])
  none-asked z = rw first_no-none z

  step-number : (b : Book) (asks : List Question) (y : Book) → P (first_no asks) → P (step_of b asks y).answer.number
  unfolding step_of plain
  step-number b asks y p = p

  guarded-number : (b : Book) (asks : List Question) (s : Outcome Book) → P (first_no asks) → P s.answer.number
      → P (guarded b asks s).answer.number
  unfolding guarded
  guarded-number b asks s p q =
      by_bool (eqb (first_no asks) 0) (λ h. rw h q) (λ h. rw h (step-number b asks b p))

  -- of one of two outcomes
  cond-number : (c : Bool) (s t : Outcome Book) → (c ≡ true → P s.answer.number)
      → (c ≡ false → P t.answer.number)
      → P (cond c s t).answer.number
  cond-number c s t p q = by_bool c (λ h. rw h (p h)) (λ h. rw h (q h))

  -- an add's numbers other than those for room, and room's for the text that is placed
  module _ (b : Book) (name bytes : Bytes) (mode : ℕ) (few : (n : ℕ) → n ≤ 10 → P n) (absent : P 14)
      (room : P (first_no (room_asks b (length bytes))))
      (more : (e : Entry) → find name b.entries ≡ some e → (mode ≡ 1 → ⊥) → (mode ≡ 2 → ⊥)
      → P (first_no (room_asks b (length (bytes_of e.text ++ bytes))))) where
    zero-asked : P (first_no [])
    zero-asked = none-asked (few 0 (omega arith))

    absent-number : P (add_absent b name bytes mode).answer.number
    unfolding add_absent
    absent-number =
        cond-number (eqb mode 4) _ _
        (λ h. step-number b _ b (either 14 false [] absent zero-asked))
        (λ h. cond-number (eqb mode 3 && eqb (length bytes) 0) _ _
        (λ h'. step-number b _ _ (either 10 _ [] (few 10 (omega arith)) zero-asked))
        (λ h'. step-number b _ _ (either 10 _ _ (few 10 (omega arith)) room)))

    replace-number : (e : Entry) → P (replace b e bytes).answer.number
    unfolding replace
    replace-number e =
        cond-number (e.offset? && leb (length bytes) e.held) _ _
        (λ h. step-number b [] _ zero-asked)
        (λ h. step-number b _ _ room)

    append-number : (e : Entry) → P (first_no (room_asks b (length (bytes_of e.text ++ bytes))))
        → P (append b e bytes).answer.number
    unfolding append
    append-number e p =
        cond-number (eqb (length bytes) 0) _ _
        (λ h. step-number b [] _ zero-asked)
        (λ h. step-number b _ _ p)

    present-number : (e : Entry) → find name b.entries ≡ some e → P (add_present b e bytes mode).answer.number
    unfolding add_present
    present-number e f =
        cond-number (eqb mode 1) _ _
        (λ h. step-number b _ b (either 9 false [] (few 9 (omega arith)) zero-asked))
        (λ n₁. cond-number (eqb mode 2) _ _
        (λ h. replace-number e)
        (λ n₂. cond-number (eqb mode 4) _ _
        (λ h. step-number b [] _ zero-asked)
        (λ n₄. append-number e (more e f (eqb-false mode 1 n₁) (eqb-false mode 2 n₂)))))

    found_number : (f : Option Entry) → find name b.entries ≡ f → P (add_found b name bytes mode f).answer.number
    unfolding add_found
    found_number none q = absent-number
    found_number (some e) q = present-number e q

    pub add-number : P (book_add b name bytes mode).answer.number
    unfolding book_add named
    add-number =
        guarded-number b _ _
        (either 7 _ _ (few 7 (omega arith)) (either 8 _ [] (few 8 (omega arith)) zero-asked))
        (found_number (find name b.entries) refl)

  -- ---- the other calls

  module _ (b : Book) (few : (n : ℕ) → n ≤ 10 → P n) (absent : P 14) where
    seven : (name : Bytes) (s : Outcome Book) → P s.answer.number
        → P (guarded b (ask 7 (name_allowed b.terms.K name) ∷ []) s).answer.number
    seven name s p =
        guarded-number b _ s (either 7 _ [] (few 7 (omega arith)) (none-asked (few 0 (omega arith)))) p

    fourteen : P (step_of b (ask 14 false ∷ []) b).answer.number
    fourteen = step-number b _ b (either 14 false [] absent (none-asked (few 0 (omega arith))))

    sixteen : P 16 → (y : Bool) (s : Outcome Book) → P s.answer.number
        → P (guarded b (ask 16 y ∷ []) s).answer.number
    sixteen p₁₆ y s p = guarded-number b _ s (either 16 y [] p₁₆ (none-asked (few 0 (omega arith)))) p

    told_of : P 17 → (t : Bool) (s : Outcome Book) → P s.answer.number → P (told_number t b s).answer.number
    unfolding told_number
    told_of p₁₇ t s p =
        cond-number (t && eqb s.answer.number 0) (step_of b (ask 17 false ∷ []) b) s
        (λ h. step-number b _ b (either 17 false [] p₁₇ (none-asked (few 0 (omega arith)))))
        (λ h. p)

    gone-number : (name : Bytes) (f : Option Entry) → P (delete_found b name f).answer.number
    unfolding delete_found
    gone-number name none = fourteen
    gone-number name (some e) = step-number b [] _ (none-asked (few 0 (omega arith)))

    shown-number : (f : Option Entry) → P (lookup_found b f).answer.number
    unfolding lookup_found
    shown-number none = fourteen
    shown-number (some e) = few 0 (omega arith)

    dated-number : (f : Option Entry) → P (dated_found b f).answer.number
    unfolding dated_found
    dated-number none = fourteen
    dated-number (some e) = few 0 (omega arith)

    -- where room's questions answer such a number
    module _ (room : (m : ℕ) → P (first_no (room_asks b m))) where
      add-of : (name bytes : Bytes) (mode : ℕ) → P (book_add b name bytes mode).answer.number
      add-of name bytes mode = add-number b name bytes mode few absent (room (length bytes)) (λ e f n₁ n₂. room _)

      delete-of : (name : Bytes) → P (book_delete b name).answer.number
      unfolding book_delete
      delete-of name = seven name _ (gone-number name (find name b.entries))

      call-of : (c : Call) → P (book_call c b).answer.number
      unfolding book_call book_lookup book_count
      call-of (adding name bytes mode) = add-of name bytes mode
      call-of (deleting name) = delete-of name
      call-of (looking name) = seven name _ (shown-number (find name b.entries))
      call-of counting = few 0 (omega arith)

      compact-of : P (book_compact b).answer.number
      unfolding book_compact plain
      compact-of = few 0 (omega arith)

      change-of : (c : Change) → P (book_changed c b).answer.number
      unfolding book_changed
      change-of (adds name bytes mode) = add-of name bytes mode
      change-of (deletes name) = delete-of name
      change-of compacts = compact-of

      -- 19, of storing and of reading
      store_of : P 19 → (name recs : Bytes) (W : ℕ) → P (book_store b name recs W).answer.number
      unfolding book_store
      store_of p₁₉ name recs W =
          guarded-number b _ _
          (either 7 _ _ (few 7 (omega arith)) (either 19 _ [] p₁₉ (none-asked (few 0 (omega arith)))))
          (found_number b name (columns W recs) 2 few absent (room (length (columns W recs))) (λ e f n₁ n₂. room _)
          (find name b.entries) refl)

      fetched-number : P 19 → (size : ℕ) (f : Option Entry) → P (read_found b size f).answer.number
      unfolding read_found
      fetched-number p₁₉ size none = fourteen
      fetched-number p₁₉ size (some e) =
          rw (records-number (first_no (ask 19 (readable (bytes_of e.text) size) ∷ [])) (bytes_of e.text))
          (either 19 (readable (bytes_of e.text) size) [] p₁₉ (none-asked (few 0 (omega arith))))

      read_of : P 19 → (name : Bytes) (size : ℕ) → P (book_read b name size).answer.number
      unfolding book_read
      read_of p₁₉ name size = seven name _ (fetched-number p₁₉ size (find name b.entries))

      convert-of : P 13 → P 20 → (L : ℕ) → P (book_convert b L).answer.number
      unfolding book_convert convert_asks
      convert-of p₁₃ p₂₀ L =
          step-number b _ _
          (either 1 _ _ (few 1 (omega arith))
          (either 20 _ _ p₂₀ (either 13 _ [] p₁₃ (none-asked (few 0 (omega arith))))))

      dated-of : P 23 → (name : Bytes) (t : ℕ) → P (book_at_epoch b name t).answer.number
      unfolding book_at_epoch
      dated-of p₂₃ name t =
          guarded-number b _ _
          (either 23 _ _ p₂₃ (either 7 _ [] (few 7 (omega arith)) (none-asked (few 0 (omega arith)))))
          (dated-number (latest_entry b.terms.K name t b.entries))

      start_of : P 21 → (new : Bytes) → P (book_start b new).answer.number
      unfolding book_start
      start_of p₂₁ new = step-number b _ _ (either 21 _ [] p₂₁ (none-asked (few 0 (omega arith))))

      -- of any step; 21 of a start alone
      pub step-of : P 13 → P 16 → P 17 → P 19 → P 20 → P 23 → (t : Bool) (c : Step) → (no_start c ≡ false → P 21) → P
          (book_step t c b).answer.number
      unfolding book_step no_start second_of
      step-of p₁₃ p₁₆ p₁₇ p₁₉ p₂₀ p₂₃ t (calling c) p₂₁ = call-of c
      step-of p₁₃ p₁₆ p₁₇ p₁₉ p₂₀ p₂₃ t compacting p₂₁ = compact-of
      step-of p₁₃ p₁₆ p₁₇ p₁₉ p₂₀ p₂₃ t (listing c work list) p₂₁ =
          sixteen p₁₆ (list_allowed (length list) && work_allowed (image_length b.terms) work) (book_changed c b)
          (change-of c)
      step-of p₁₃ p₁₆ p₁₇ p₁₉ p₂₀ p₂₃ t (journaling c work j) p₂₁ =
          told_of p₁₇ t _ (sixteen p₁₆ (work_allowed (image_length b.terms) work) (book_changed c b) (change-of c))
      step-of p₁₃ p₁₆ p₁₇ p₁₉ p₂₀ p₂₃ t (storing name recs W) p₂₁ = store_of p₁₉ name recs W
      step-of p₁₃ p₁₆ p₁₇ p₁₉ p₂₀ p₂₃ t (reading name size) p₂₁ = read_of p₁₉ name size
      step-of p₁₃ p₁₆ p₁₇ p₁₉ p₂₀ p₂₃ t (converting L) p₂₁ = convert-of p₁₃ p₂₀ L
      step-of p₁₃ p₁₆ p₁₇ p₁₉ p₂₀ p₂₃ t (dating name e) p₂₁ = dated-of p₂₃ name e
      step-of p₁₃ p₁₆ p₁₇ p₁₉ p₂₀ p₂₃ t (starting new) p₂₁ = start_of (p₂₁ refl) new

-- ---- 13

-- room's numbers: 12 or 13, and not 13 where there is room
pub room-number : (P : ℕ → Type 0) (b : Book) (m : ℕ) → P 0 → P 12 → P 13 → P (first_no (room_asks b m))
unfolding room_asks
room-number P b m z p q = either P 12 _ _ p (either P 13 _ [] q (none-asked P z))

pub room-left : (b : Book) (m : ℕ) → b.used + b.terms.head + m ≤ b.terms.R → first_no (room_asks b m) ≡ 13 → ⊥
unfolding room_asks
room-left b m h =
    either (λ (n : ℕ). n ≡ 13 → ⊥) 12 _ _ (λ q. omega arith)
    (λ q. omega (arith, first_no-yes 13 _ [] (le-leb _ _ h), first_no-none))
