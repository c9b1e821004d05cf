-- Corollaries in the words of a user: what was added and not deleted is found, what was deleted is not, a call changes
-- no other point, and C counts. Each is read off the book, which the file agrees with.
--     call-others         a call changes no point except the one that it adds or deletes, on one image or on two; so
--                         delete-others, add-others
--     added-found, replaced-found    after an accepted add in mode 1 or 2 the point is found with the data as its text,
--                         also where that is empty
--     appended-found, appended-new   in mode 3 with the data behind its text; with the data alone where it was absent
--     appended-same, appended-bare   without data: as it was; without a message where it was absent
--     withdrawn-found     in mode 4 the point is found, without a text
--     deleted-gone        after an accepted delete it is not found
--     count-added, count-replaced, count-deleted      C grows by 1, stays, falls by 1
--     stays-found         a point that is found stays so until it is deleted
--     stays-gone          a point that is not found stays so until it is added; so deleted-stays-gone
--     free-grows          X does not fall over calls other than compaction, conversion and the start of growth
--     compact-accepted, no-fifteen     in a list compaction answers 0, and no call 15
--     compact-texts       compaction changes no text; compact-free: X is then where the texts end; compact-once: doing
--                         it twice is doing it once
--     compact-room        where the texts leave room, no add is refused with 13
--     convert-texts       the converter changes no text; what it leaves, byte by byte: crates/law_conversion
-- Assumes nothing.
use mathlib.Core.Path.{◌≡◌, refl, sym, ap, ◌∙◌, subst}
use Prim.Native.Nat.{ℕ, suc, ◌+◌, ◌≤◌}
use native.Mathlib.Omega.{arith}
use mathlib.Core.Bool.{Bool, true}
use mathlib.Core.List.{List, [], ◌∷◌, ◌++◌}
use mathlib.Core.Option.{Option, none, some, none-ne-some, some-injective}
use lib.ListN.{length, length-append}
use Rattle.spec_file.specs.Bytes.{Bytes}
use Rattle.spec_file.specs.Limits.{free_field}
use Rattle.spec_file.specs.Image.{field, data_start, Layout, layout_of}
use Rattle.spec_file.specs.Messages.{head_size, bytes_of}
use Rattle.spec_file.specs.Calls.{Answer, Outcome, plain, add, delete, count}
use Rattle.spec_compaction.specs.Compact.{compacted, compact}
use Rattle.spec_conversion.specs.Convert.{convert}
use Rattle.spec_file.specs.Lists.{adding, deleting, state_after, call}
use Rattle.spec_book.specs.Steps.{Step, calling, compacting, converting, perform_on, State, alone, growing, second_of, goes_on, alone_after, perform}
use Rattle.spec_book.specs.Book.{Entry, Terms, Book, find, entered, book_delete, book_count, space_for_all, compacted_book, book_compact, book_call}
use Rattle.spec_book.specs.Told.{book_step, tells, told_by, book_told}
use Rattle.spec_book.specs.Demand.{file_text, state_text, book_text, text_of, no_start, permits, Permitted}
use Rattle.spec_growth.specs.Growth.{reckoned_place}
use Rattle.law_agreement.proofs.Entries.{Distinct, find-without-same, length_without}
use Rattle.law_agreement.proofs.File.{File}
use Rattle.law_agreement.proofs.Reflect.{terms_for, Reflects, Reflected}
use Rattle.law_agreement.proofs.Simple.{same_count}
use Rattle.law_agreement.proofs.Add.{same_add}
use Rattle.law_agreement.proofs.Compacting.{same-compact}
use Rattle.law_agreement.proofs.Forms.{same_step}
use Rattle.law_growth.proofs.Changing.{place_is}
use Rattle.law_lists.proofs.Theorem.{Held, book_at, book_after, same_answer, held-step, held_after, texts-agree}
use Rattle.law_agreement.proofs.Found.{points-agree}
use Rattle.law_lists.proofs.Reached.{Reached, reached-held, reached-reflects, reached-step}
use Rattle.law_agreement.proofs.Steps.{given-text, given-new, given-old, Added, refused, fresh, bared, replaced, appended, unchanged, withdrew, book-add, by-put, Deleted, gone, book-delete, as_plain, Effect, nothing, enters, leaves, trims, converts, begins, step-effect, NotDeleting, NotAdding, Has, Lacks, Keeping, effect-other, effect-has, effect-lacks, effect-used, compacted-text}
use Rattle.law_agreement.proofs.Compact.{file-compact, compact-after, compact-twice}
use Rattle.law_agreement.proofs.Numbers.{add-number, step-of, room-number, room-left}

-- ---- the book's texts

text-some : (f : Option Entry) (text : Option Bytes) → text_of f ≡ some text → (e : Entry) × (f ≡ some e)
unfolding text_of
text-some none text h = absurd (none-ne-some text h)
text-some (some e) text h = (e, refl)

text-none : (f : Option Entry) → text_of f ≡ none → f ≡ none
unfolding text_of
text-none none h = refl
text-none (some e) h = absurd (none-ne-some e.text (sym h))

module _ (b : Book) (name : Bytes) where
  found-entry : (text : Option Bytes) → book_text b name ≡ some text → (e : Entry) × (find name b.entries ≡ some e)
  unfolding book_text
  found-entry text h = text-some _ text h

  found-no : book_text b name ≡ none → find name b.entries ≡ none
  unfolding book_text
  found-no h = text-none _ h

  no_text : find name b.entries ≡ none → book_text b name ≡ none
  unfolding book_text text_of
  no_text h = ap text_of h

  the-text : (e : Entry) → find name b.entries ≡ some e → book_text b name ≡ some e.text
  unfolding book_text text_of
  the-text e h = ap text_of h

-- what count answers is the number of the book's entries
count-is : (img : Bytes) (b : Book) → Reflected img b → (count img).answer.amount ≡ length b.entries
unfolding book_count
count-is img b (g, r) = ap (λ (x : Answer). x.amount) (same_count g img b r).answer

-- ---- calls that are equal

same-deleted : {a b : Bytes} → calling (deleting a) ≡ calling (deleting b) → a ≡ b
same-deleted q = cc

same-added : {a b c d : Bytes} {m n : ℕ} → calling (adding a b m) ≡ calling (adding c d n) → a ≡ c
same-added q = cc

differ : {a b c : Bytes} {m : ℕ} → calling (deleting a) ≡ calling (adding b c m) → ⊥
differ q =
    let y : ◌≡◌ {A = ℕ} 0 1 = cc in
    omega arith

-- ---- an accepted add, by its mode

module _ {b : Book} {name bytes : Bytes} {o : Outcome Book} where
  book-added : Added b name bytes 1 o → o.answer.number ≡ 0 → book_text o.after name ≡ some (some bytes)
  book-added (refused z q) k = absurd (z k)
  book-added (fresh n n₄ s w) k = given-text w
  book-added (bared n m z w) k = absurd (omega arith)
  book-added (replaced e f m w) k = given-text w
  book-added (appended e f n₁ n₂ n₄ s w) k = absurd (n₁ refl)
  book-added (unchanged e f n₁ n₂ n₄ z q) k = absurd (n₁ refl)
  book-added (withdrew e f m w) k = absurd (omega arith)

  book-replaced : Added b name bytes 2 o → o.answer.number ≡ 0 → book_text o.after name ≡ some (some bytes)
  book-replaced (refused z q) k = absurd (z k)
  book-replaced (fresh n n₄ s w) k = given-text w
  book-replaced (bared n m z w) k = absurd (omega arith)
  book-replaced (replaced e f m w) k = given-text w
  book-replaced (appended e f n₁ n₂ n₄ s w) k = absurd (n₂ refl)
  book-replaced (unchanged e f n₁ n₂ n₄ z q) k = absurd (n₂ refl)
  book-replaced (withdrew e f m w) k = absurd (omega arith)

  -- of a point with the text old, or none
  book-appended : (old : Option Bytes) → (bytes ≡ [] → ⊥) → book_text b name ≡ some old → Added b name bytes 3 o
      → o.answer.number ≡ 0
      → book_text o.after name ≡ some (some (bytes_of old ++ bytes))
  book-appended old d h (refused z q) k = absurd (z k)
  book-appended old d h (fresh n n₄ s w) k = absurd (none-ne-some old (sym (no_text b name n) ∙ h))
  book-appended old d h (bared n m z w) k = absurd (d z)
  book-appended old d h (replaced e f m w) k = absurd (omega arith)
  book-appended old d h (appended e f n₁ n₂ n₄ s w) k =
      given-text w
      ∙ ap (λ (t : Option Bytes). some (some (bytes_of t ++ bytes)))
      (some-injective e.text old (sym (the-text b name e f) ∙ h))
  book-appended old d h (unchanged e f n₁ n₂ n₄ z q) k = absurd (d z)
  book-appended old d h (withdrew e f m w) k = absurd (omega arith)

  -- no data: as it was
  book-same : (old : Option Bytes) → bytes ≡ [] → book_text b name ≡ some old → Added b name bytes 3 o
      → book_text o.after name ≡ some old
  book-same old d h (refused z q) = ap (λ (x : Book). book_text x name) q ∙ h
  book-same old d h (fresh n n₄ s w) = absurd (s refl d)
  book-same old d h (bared n m z w) = absurd (none-ne-some old (sym (no_text b name n) ∙ h))
  book-same old d h (replaced e f m w) = absurd (omega arith)
  book-same old d h (appended e f n₁ n₂ n₄ s w) = absurd (s d)
  book-same old d h (unchanged e f n₁ n₂ n₄ z q) = ap (λ (x : Book). book_text x name) q ∙ h
  book-same old d h (withdrew e f m w) = absurd (omega arith)

  -- of a point that is absent: no message where there is no data, else one with the data
  book-new : book_text b name ≡ none → Added b name bytes 3 o → o.answer.number ≡ 0
      → ((bytes ≡ [] → ⊥) → book_text o.after name ≡ some (some bytes))
      × (bytes ≡ [] → book_text o.after name ≡ some none)
  book-new h (refused z q) k = absurd (z k)
  book-new h (fresh n n₄ s w) k = (λ d. given-text w, λ d. absurd (s refl d))
  book-new h (bared n m z w) k = (λ d. absurd (d z), λ d. given-text w)
  book-new h (replaced e f m w) k = absurd (none-ne-some e.text (sym h ∙ the-text b name e f))
  book-new h (appended e f n₁ n₂ n₄ s w) k = absurd (none-ne-some e.text (sym h ∙ the-text b name e f))
  book-new h (unchanged e f n₁ n₂ n₄ z q) k = absurd (none-ne-some e.text (sym h ∙ the-text b name e f))
  book-new h (withdrew e f m w) k = absurd (none-ne-some e.text (sym h ∙ the-text b name e f))

  -- in whichever mode: one entry more
  book-more : (mode : ℕ) → book_text b name ≡ none → Added b name bytes mode o → o.answer.number ≡ 0
      → length o.after.entries ≡ suc (length b.entries)
  book-more mode h (refused z q) k = absurd (z k)
  book-more mode h (fresh n n₄ s w) k = given-new w n
  book-more mode h (bared n m z w) k = given-new w n
  book-more mode h (replaced e f m w) k = absurd (none-ne-some e.text (sym h ∙ the-text b name e f))
  book-more mode h (appended e f n₁ n₂ n₄ s w) k = absurd (none-ne-some e.text (sym h ∙ the-text b name e f))
  book-more mode h (unchanged e f n₁ n₂ n₄ z q) k = absurd (none-ne-some e.text (sym h ∙ the-text b name e f))
  book-more mode h (withdrew e f m w) k = absurd (none-ne-some e.text (sym h ∙ the-text b name e f))

  book-withdrawn : Added b name bytes 4 o → o.answer.number ≡ 0 → book_text o.after name ≡ some none
  book-withdrawn (refused z q) k = absurd (z k)
  book-withdrawn (fresh n n₄ s w) k = absurd (n₄ refl)
  book-withdrawn (bared n m z w) k = given-text w
  book-withdrawn (replaced e f m w) k = absurd (omega arith)
  book-withdrawn (appended e f n₁ n₂ n₄ s w) k = absurd (n₄ refl)
  book-withdrawn (unchanged e f n₁ n₂ n₄ z q) k = absurd (n₄ refl)
  book-withdrawn (withdrew e f m w) k = given-text w

-- an accepted delete
book-gone : {b : Book} {name : Bytes} {o : Outcome Book} → Distinct b.entries → Deleted b name o
    → o.answer.number ≡ 0
    → (book_text o.after name ≡ none) × (suc (length o.after.entries) ≡ length b.entries)
book-gone d (refused z q) k = absurd (z k)
book-gone {b} {name} {o} d (gone e f q) k = (
  no_text o.after name (ap (λ (x : Book). find name x.entries) q ∙ find-without-same name b.entries d),
  ap (λ (x : Book). suc (length x.entries)) q ∙ length_without name b.entries e f,
)

-- ---- one call on what calls have reached

-- a call that neither adds nor deletes a point changes nothing of it, on one image or on two
pub call-others : (s : State) (b : Book) → Reached s b → (c : Step) → permits c s ≡ true → (other : Bytes)
    → NotAdding other c → NotDeleting other c → state_text (perform c s).after other ≡ state_text s other
call-others s b r c p other na nd =
    texts-agree _ _ (held-step c s b (reached-held s b r) p) other
    ∙ effect-other other (step-effect (tells c s) c b) na nd
    ∙ sym (texts-agree s b (reached-held s b r) other)

-- ---- one call on a file that calls have reached

module _ (img : Bytes) (b : Book) (r : Reached (alone img) b) where
  rel : Reflected img b
  rel = reached-reflects img b r

  book-has : (key : Bytes) (t : Option (Option Bytes)) → file_text img key ≡ t → book_text b key ≡ t
  book-has key t h = sym (points-agree img b rel key) ∙ h

  -- a step, of the image and of the book
  abbrev booked : Step → Outcome Book
  booked c = book_step (tells c (alone img)) c b

  same-now : (c : Step) → (perform_on c img).answer ≡ (booked c).answer
  unfolding perform alone_after Held permits
  same-now c = same_answer c (alone img) b rel refl

  -- of one that is no start
  rel-after : (c : Step) → no_start c ≡ true → Reflected (perform_on c img).after (booked c).after
  rel-after c k =
      let w = same_step rel.0 img b rel.1 c k in
      (w.0, w.1.after)

  -- the book accepts too
  number-too : (c : Step) → (perform_on c img).answer.number ≡ 0 → (booked c).answer.number ≡ 0
  number-too c ok = sym (ap (λ (x : Answer). x.number) (same-now c)) ∙ ok

  text-after : (c : Step) → no_start c ≡ true → (name : Bytes)
      → file_text (perform_on c img).after name ≡ book_text (booked c).after name
  text-after c k = points-agree _ _ (rel-after c k)

  count-now : (count img).answer.amount ≡ length b.entries
  count-now = count-is img b rel

  count-after : (c : Step) → no_start c ≡ true
      → (count (perform_on c img).after).answer.amount ≡ length (booked c).after.entries
  count-after c k = count-is _ _ (rel-after c k)

  pub delete-others : (key other : Bytes) → (other ≡ key → ⊥)
      → file_text (delete img key).after other ≡ file_text img other
  unfolding perform alone_after goes_on second_of state_text permits perform_on call as_plain
  delete-others key other n =
      call-others (alone img) b r (calling (deleting key)) refl other (λ bytes mode q. differ q)
      (λ q. n (sym (same-deleted q)))

  pub add-others : (key bytes other : Bytes) (mode : ℕ) → (other ≡ key → ⊥)
      → file_text (add img key bytes mode).after other ≡ file_text img other
  unfolding perform alone_after goes_on second_of state_text permits perform_on call as_plain
  add-others key bytes other mode n =
      call-others (alone img) b r (calling (adding key bytes mode)) refl other
      (λ bytes' mode' q. n (sym (same-added q))) (λ q. differ (sym q))

  -- an accepted add, in its four modes
  pub added-found : (key bytes : Bytes) → (add img key bytes 1).answer.number ≡ 0
      → file_text (add img key bytes 1).after key ≡ some (some bytes)
  unfolding no_start second_of perform_on call book_step book_call
  added-found key bytes ok =
      let c = calling (adding key bytes 1) in
      text-after c refl key ∙ book-added (book-add b key bytes 1) (number-too c ok)

  pub replaced-found : (key bytes : Bytes) → (add img key bytes 2).answer.number ≡ 0
      → file_text (add img key bytes 2).after key ≡ some (some bytes)
  unfolding no_start second_of perform_on call book_step book_call
  replaced-found key bytes ok =
      let c = calling (adding key bytes 2) in
      text-after c refl key ∙ book-replaced (book-add b key bytes 2) (number-too c ok)

  pub appended-found : (key bytes : Bytes) (old : Option Bytes) → (bytes ≡ [] → ⊥) → file_text img key ≡ some old
      → (add img key bytes 3).answer.number ≡ 0
      → file_text (add img key bytes 3).after key ≡ some (some (bytes_of old ++ bytes))
  unfolding no_start second_of perform_on call book_step book_call
  appended-found key bytes old d h ok =
      let c = calling (adding key bytes 3) in
      text-after c refl key ∙ book-appended old d (book-has key _ h) (book-add b key bytes 3) (number-too c ok)

  -- no data: the text is as it was, or there is none as before
  pub appended-same : (key : Bytes) (old : Option Bytes) → file_text img key ≡ some old
      → file_text (add img key [] 3).after key ≡ some old
  unfolding no_start second_of perform_on call book_step book_call
  appended-same key old h =
      text-after (calling (adding key [] 3)) refl key ∙ book-same old refl (book-has key _ h) (book-add b key [] 3)

  pub appended-new : (key bytes : Bytes) → (bytes ≡ [] → ⊥) → file_text img key ≡ none
      → (add img key bytes 3).answer.number ≡ 0
      → file_text (add img key bytes 3).after key ≡ some (some bytes)
  unfolding no_start second_of perform_on call book_step book_call
  appended-new key bytes d h ok =
      let c = calling (adding key bytes 3) in
      text-after c refl key ∙ (book-new (book-has key _ h) (book-add b key bytes 3) (number-too c ok)).0 d

  -- no data for a point that was absent: it is found, without a message
  pub appended-bare : (key : Bytes) → file_text img key ≡ none → (add img key [] 3).answer.number ≡ 0
      → file_text (add img key [] 3).after key ≡ some none
  unfolding no_start second_of perform_on call book_step book_call
  appended-bare key h ok =
      let c = calling (adding key [] 3) in
      text-after c refl key ∙ (book-new (book-has key _ h) (book-add b key [] 3) (number-too c ok)).1 refl

  -- whatever the data
  pub withdrawn-found : (key bytes : Bytes) → (add img key bytes 4).answer.number ≡ 0
      → file_text (add img key bytes 4).after key ≡ some none
  unfolding no_start second_of perform_on call book_step book_call
  withdrawn-found key bytes ok =
      let c = calling (adding key bytes 4) in
      text-after c refl key ∙ book-withdrawn (book-add b key bytes 4) (number-too c ok)

  -- an accepted delete
  pub deleted-gone : (key : Bytes) → (delete img key).answer.number ≡ 0 → file_text (delete img key).after key ≡ none
  unfolding no_start second_of perform_on call book_step book_call
  deleted-gone key ok =
      let c = calling (deleting key) in
      text-after c refl key ∙ (book-gone rel.1.distinct (book-delete b key) (number-too c ok)).0

  -- what count answers
  pub count-added : (key bytes : Bytes) (mode : ℕ) → file_text img key ≡ none
      → (add img key bytes mode).answer.number ≡ 0
      → (count (add img key bytes mode).after).answer.amount ≡ (count img).answer.amount + 1
  unfolding no_start second_of perform_on call book_step book_call
  count-added key bytes mode h ok =
      let c = calling (adding key bytes mode) in
      let new = book-more mode (book-has key _ h) (book-add b key bytes mode) (number-too c ok) in
      omega (arith, count-after c refl, count-now, new)

  -- accepted or refused
  pub count-replaced : (key bytes : Bytes) (old : Option Bytes) (mode : ℕ) → file_text img key ≡ some old
      → (count (add img key bytes mode).after).answer.amount ≡ (count img).answer.amount
  unfolding no_start second_of perform_on call book_step book_call
  count-replaced key bytes old mode h =
      let e = found-entry b key old (book-has key _ h) in
      count-after (calling (adding key bytes mode)) refl
      ∙ by-put (book-add b key bytes mode)
      (λ q. ap (λ (x : Book). length x.entries) q)
      (λ t w. given-old w e.0 e.1)
      ∙ sym count-now

  pub count-deleted : (key : Bytes) → (delete img key).answer.number ≡ 0
      → (count (delete img key).after).answer.amount + 1 ≡ (count img).answer.amount
  unfolding no_start second_of perform_on call book_step book_call
  count-deleted key ok =
      let c = calling (deleting key) in
      let gone = book-gone rel.1.distinct (book-delete b key) (number-too c ok) in
      omega (arith, count-after c refl, count-now, gone.1)

-- ---- lists of calls

-- every call of the list is such a call
abbrev pub Each : (Step → Type 0) → List Step → Type 0
Each p [] = Unit {0}
Each p (c ∷ cs) = p c × Each p cs

-- what each such step keeps, the list keeps
book-keeps : (p : Step → Type 0) (P : Book → Type 0)
    → ((t : Bool) (c : Step) (b : Book) → p c → P b → P (book_step t c b).after)
    → (steps : List Step) (s : State) (b : Book) → Each p steps → P b → P (book_after steps s b)
unfolding state_after told_by book_told
book-keeps p P one [] s b a h = h
book-keeps p P one (c ∷ cs) s b a h =
    book-keeps p P one cs (perform c s).after (book_at c s b) a.1 (one (tells c s) c b a.0 h)

-- where new space is taken: at X; during growth at the new X and what is still to move
unfoldable pub free_of : State → ℕ
free_of (alone img) = field img free_field
free_of (growing p) = reckoned_place p

-- it is where the book's terms and its space say
-- an image's D, by the terms of a book that has them
start_is : (g : Layout) (img : Bytes) (f : File g img) (t : Terms) → t ≡ terms_for g (length img)
    → g.D ≡ data_start t.K t.N
start_is g img f t e =
    let own : (layout_of img).D ≡ data_start (layout_of img).K (layout_of img).N =
    unfold layout_of in f.opened.data-at in
    ap (λ (l : Layout). l.D) (sym f.layout) ∙ own
    ∙ ap (λ (l : Layout). data_start l.K l.N) f.layout
    ∙ sym (ap (λ (u : Terms). data_start u.K u.N) e)

free-is : (s : State) (b : Book) → Held s b → free_of s ≡ data_start b.terms.K b.terms.N + b.used
unfolding Held free_of
free-is (alone img) b (g, r) =
    r.used ∙ ap (λ (D : ℕ). D + b.used) (start_is g img r.file b.terms r.terms)
free-is (growing p) b (c, d, r) =
    place_is p c d b r
    ∙ ap (λ (D : ℕ). D + b.used)
    (start_is (layout_of p.new) p.new r.new.file b.terms (r.joins.terms ∙ r.new.terms))

-- the terms stay over such a step
effect-terms : {b : Book} {c : Step} {b' : Book} → Effect b c b' → Keeping c → b'.terms ≡ b.terms
effect-terms (nothing q) k = ap (λ (x : Book). x.terms) q
effect-terms (enters name bytes mode text q w) k = ap (λ (x : Book). x.terms) w.is ∙ (unfold entered in refl)
effect-terms (leaves name e q f is) k = ap (λ (x : Book). x.terms) is
effect-terms (trims q is) k = absurd (k.no-compaction q)
effect-terms (converts L q is) k = absurd (k.no-conversion L q)
effect-terms (begins new q is) k = absurd (k.no_start new q)

free_step : (c : Step) (s : State) (b : Book) → Held s b → permits c s ≡ true → Keeping c
    → free_of s ≤ free_of (perform c s).after
free_step c s b h p k =
    let e = step-effect (tells c s) c b in
    let same : data_start (book_at c s b).terms.K (book_at c s b).terms.N ≡ data_start b.terms.K b.terms.N =
    ap (λ (t : Terms). data_start t.K t.N) (effect-terms e k) in
    omega (arith, free-is s b h, free-is _ _ (held-step c s b h p), same, effect-used e k)

free-keeps : (steps : List Step) (s : State) (b : Book) → Held s b → Permitted steps s → Each Keeping steps
    → free_of s ≤ free_of (state_after perform steps s)
unfolding state_after Permitted
free-keeps [] s b h p k = omega arith
free-keeps (c ∷ cs) s b h p k =
    omega (
      arith,
      free_step c s b h p.0 k.0,
      free-keeps cs (perform c s).after (book_at c s b) (held-step c s b h p.0) p.1 k.1,
    )

module _ (s : State) (b : Book) (r : Reached s b) where
  held-text : (key : Bytes) (t : Option (Option Bytes)) → state_text s key ≡ t → book_text b key ≡ t
  held-text key t h = sym (texts-agree s b (reached-held s b r) key) ∙ h

  text-after-all : (steps : List Step) → Permitted steps s → (name : Bytes)
      → state_text (state_after perform steps s) name ≡ book_text (book_after steps s b) name
  text-after-all steps p = texts-agree _ _ (held_after steps s b (reached-held s b r) p)

  -- a point that is found stays found until it is deleted, whatever else is called
  pub stays-found : (key : Bytes) (text : Option Bytes) → state_text s key ≡ some text → (steps : List Step)
      → Permitted steps s → Each (NotDeleting key) steps
      → (text' : Option Bytes) × (state_text (state_after perform steps s) key ≡ some text')
  stays-found key text h steps p n =
      let e = book-keeps (NotDeleting key) (Has key) (λ t c x. effect-has key (step-effect t c x)) steps s b n
      (found-entry b key text (held-text key _ h)) in
      (e.0.text, text-after-all steps p key ∙ the-text (book_after steps s b) key e.0 e.1)

  -- a point that is not found stays so until it is added
  pub stays-gone : (key : Bytes) → state_text s key ≡ none → (steps : List Step) → Permitted steps s
      → Each (NotAdding key) steps
      → state_text (state_after perform steps s) key ≡ none
  stays-gone key h steps p n =
      text-after-all steps p key
      ∙ no_text _ key
      (book-keeps (NotAdding key) (Lacks key) (λ t c x. effect-lacks key (step-effect t c x)) steps s b n
      (found-no b key (held-text key _ h)))

  -- between compactions, conversions and starts space once taken is never handed out again: new space is taken at X,
  -- and X does not fall
  pub free-grows : (steps : List Step) → Permitted steps s → Each Keeping steps
      → free_of s ≤ free_of (state_after perform steps s)
  free-grows steps p k = free-keeps steps s b (reached-held s b r) p k

-- ---- compaction

-- no call in a list answers 15, on one image or on two
pub no-fifteen : (s : State) (b : Book) → Reached s b → (c : Step) → permits c s ≡ true
    → (perform c s).answer.number ≡ 15 → ⊥
no-fifteen s b r c p q =
    step-of (λ (n : ℕ). n ≡ 15 → ⊥) b (λ n l e. omega arith) (λ e. omega arith)
    (λ m. room-number (λ (n : ℕ). n ≡ 15 → ⊥) b m (λ e. omega arith) (λ e. omega arith) (λ e. omega arith))
    (λ e. omega arith) (λ e. omega arith) (λ e. omega arith) (λ e. omega arith) (λ e. omega arith) (λ e. omega arith)
    (tells c s) c (λ h e. omega arith)
    (ap (λ (x : Answer). x.number) (sym (same_answer c s b (reached-held s b r) p)) ∙ q)

module _ (img : Bytes) (b : Book) (r : Reached (alone img) b) where
  -- "15 .. if the image isn't sound" never comes in a list: compaction is accepted
  pub compact-accepted : (compact img).answer.number ≡ 0
  unfolding no_start second_of perform_on call book_step book_call book_compact plain
  compact-accepted = ap (λ (x : Answer). x.number) (same-now img b r compacting)

  -- it changes no point's text, and finds no other points
  pub compact-texts : (name : Bytes) → file_text (compact img).after name ≡ file_text img name
  unfolding no_start second_of perform_on call book_step book_call book_compact
  compact-texts name =
      text-after img b r compacting refl name ∙ compacted-text b name ∙ sym (points-agree img b (rel img b r) name)

  -- "U the sum of 4 + length" over the texts: so far X stands above D
  pub compact-free : field (compact img).after free_field
      ≡ (layout_of img).D + space_for_all (head_size (layout_of img)) b.entries
  unfolding no_start second_of perform_on call book_step book_call book_compact compacted_book
  compact-free =
      let s = (rel img b r).1 in
      let g = (rel img b r).0 in
      (same-compact g img b s).after.used
      ∙ ap (λ (t : Terms). g.D + space_for_all t.head b.entries) s.terms
      ∙ ap (λ (l : Layout). l.D + space_for_all (head_size l) b.entries) (sym s.file.layout)

  -- "freed space is used again": where the texts leave room, an add is not refused with 13. A text that is appended to
  -- is placed anew with the data behind it.
  pub compact-room : (key bytes : Bytes) (mode m : ℕ) → length bytes ≤ m
      → ((text : Option Bytes) → file_text img key ≡ some text → (mode ≡ 1 → ⊥) → (mode ≡ 2 → ⊥)
      → length (bytes_of text) + length bytes ≤ m)
      → (layout_of img).D + space_for_all (head_size (layout_of img)) b.entries + head_size (layout_of img) + m ≤ length img
      → (add (compact img).after key bytes mode).answer.number ≡ 13 → ⊥
  unfolding no_start second_of perform_on call book_step book_call book_compact compacted_book
  compact-room key bytes mode m short long fits q =
      let b' = compacted_book b in
      add-number (λ (n : ℕ). n ≡ 13 → ⊥) b' key bytes mode (λ n l e. omega arith) (λ e. omega arith)
      (room-left b' (length bytes) (omega (arith, left, short)))
      (λ e f n₁ n₂.
      let there = sym (compact-texts key) ∙ text-after img b r compacting refl key ∙ the-text b' key e f in
      let t = long e.text there n₁ n₂ in
      room-left b' _ (omega (arith, left, t, length-append (bytes_of e.text) bytes)))
      (ap (λ (x : Answer). x.number)
      (sym (same_add reached.0 (compact img).after b' reached.1 key bytes mode).answer) ∙ q)
    where
      reached : Reflected (compact img).after (compacted_book b)
      reached = unfold no_start second_of perform_on book_step book_compact in rel-after img b r compacting refl

      g : Layout
      g = (rel img b r).0

      s : Reflects g img b
      s = (rel img b r).1

      fits' : g.D + space_for_all (head_size g) b.entries + head_size g + m ≤ length img
      fits' =
          subst (λ (l : Layout). l.D + space_for_all (head_size l) b.entries + head_size l + m ≤ length img)
          s.file.layout fits

      left : space_for_all b.terms.head b.entries + b.terms.head + m ≤ b.terms.R
      left = rw s.terms (omega (arith, fits'))

  -- compacting twice is compacting once
  pub compact-once : (compact (compact img).after).after ≡ (compact img).after
  compact-once =
      let f = (rel img b r).1.file in
      let g = (rel img b r).0 in
      let first = compact-after g img f in
      ap (λ (i : Bytes). (compact i).after) first
      ∙ compact-after g (compacted g img) (file-compact g img f)
      ∙ compact-twice g img f
      ∙ sym first

-- ---- conversion

not-adding : {L : ℕ} {a b : Bytes} {m : ℕ} → converting L ≡ calling (adding a b m) → ⊥
not-adding q =
    let y : ◌≡◌ {A = ℕ} 0 1 = cc in
    omega arith

not-deleting : {L : ℕ} {a : Bytes} → converting L ≡ calling (deleting a) → ⊥
not-deleting q =
    let y : ◌≡◌ {A = ℕ} 0 1 = cc in
    omega arith

-- the list goes on with the same points and texts, in the target or, refused, in the source
pub convert-texts : (img : Bytes) (b : Book) → Reached (alone img) b → (L : ℕ) (name : Bytes)
    → file_text (convert img L).after name ≡ file_text img name
unfolding perform alone_after goes_on second_of state_text permits perform_on as_plain
convert-texts img b r L name =
    call-others (alone img) b r (converting L) refl name (λ bytes mode q. not-adding q) (λ q. not-deleting q)

-- a point that was deleted stays so until it is added again
pub deleted-stays-gone : (img : Bytes) (b : Book) → Reached (alone img) b → (key : Bytes)
    → (delete img key).answer.number ≡ 0
    → (steps : List Step) → Permitted steps (alone (delete img key).after) → Each (NotAdding key) steps
    → state_text (state_after perform steps (alone (delete img key).after)) key ≡ none
deleted-stays-gone img b r key ok steps p n =
    stays-gone (alone (delete img key).after) (book_delete b key).after
    (unfold perform alone_after goes_on second_of perform_on call book_step book_call permits Permitted in
    reached-step (alone img) b r (calling (deleting key)) (refl, tt)) key
    (unfold state_text in deleted-gone img b r key ok) steps p n
