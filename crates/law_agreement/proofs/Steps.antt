-- What a step does to the book: nothing, or one entry is put in, or one is taken out.
--     Given name text b b'     b' is b with that text, or none, under the name
--     Added, book-add          what an add does, by cases; by-put: what they have in common
--     Deleted, book-delete     what a delete does, by cases
--     as_plain                  the plain call of a step in a form
--     Effect, step-effect      what any step does, in one list of all steps; effect-..: what follows from it
--     NotAdding, NotDeleting   the steps that do not add, or delete, a point; Keeping: those that give no space back
--     compacted-text           a compaction keeps every text; so does a conversion, converted-text, and the start of
--                              growth, grown-text
-- Assumes nothing.
use mathlib.Core.Path.{◌≡◌, refl, sym, ap, ◌∙◌}
use Prim.Native.Nat.{ℕ, suc, ◌≤◌}
use native.Mathlib.Omega.{arith}
use mathlib.Core.Bool.{Bool, false, ◌&&◌}
use mathlib.Core.List.{List, [], ◌∷◌, ◌++◌}
use mathlib.Core.Option.{Option, none, some, none-ne-some}
use lib.ListN.{length}
use lib.Dec.{eqb, leb}
use borrow.Author.Tests.{eq-eqb, ne_eqb}
use Rattle.spec_file.specs.Bytes.{Bytes}
use Rattle.spec_file.specs.Messages.{bytes_of}
use Rattle.spec_file.specs.Questions.{Question, ask, first_no, name_allowed}
use Rattle.spec_file.specs.Calls.{Outcome, plain}
use Rattle.spec_file.specs.Lists.{adding, deleting, looking, counting}
use Rattle.spec_columns.specs.Columns.{columns}
use Rattle.spec_book.specs.Steps.{Change, adds, deletes, compacts, Step, calling, compacting, listing, journaling, storing, reading, converting, dating, starting}
use Rattle.spec_book.specs.Book.{Entry, Book, find, with_entry, step_of, guarded, entered, noting, bare, placed, add_absent, replace, append, withdrawn, add_present, add_found, book_add, delete_found, book_delete, lookup_found, book_lookup, book_store, read_found, book_read, book_count, trimmed, compacted_book, book_compact, convert_asks, converted_book, book_convert, book_call, latest_entry, dated_found, book_at_epoch, grown_book, second_allowed, book_start}
use Rattle.spec_epoch.specs.Epochs.{key_dated, prism_allowed}
use Rattle.spec_book.specs.Told.{book_changed, told_number, book_step}
use Rattle.spec_book.specs.Demand.{book_text, text_of}
use Rattle.law_file.proofs.Tests.{by_bool, by-eq}
use Rattle.law_file.proofs.Bytes.{by-same}
use Rattle.law_file.proofs.Opened.{first_no-none, first_no-no}
use Rattle.law_agreement.proofs.Trimmed.{trimmed_of, find-trimmed}
use Rattle.law_agreement.proofs.Entries.{removed, find-same, find-without-other, find-with_entry, find-with_entry-other, length-with_entry-new, length-with_entry-old}

-- ---- a text given to a name

pub record Given (name : Bytes) (text : Option Bytes) (b b' : Book) : Type 0 where
  pub new : Entry
  pub more : ℕ
  pub named : new.name ≡ name
  pub told : new.text ≡ text
  pub is : b' ≡ entered b new more

module _ {name : Bytes} {text : Option Bytes} {b b' : Book} (w : Given name text b b') where
  abbrev new : Entry
  new = w.new

  pub given-find : find name b'.entries ≡ some new
  unfolding entered
  given-find =
      ap (λ (x : Book). find name x.entries) w.is
      ∙ ap (λ (k : Bytes). find k (with_entry new b.entries)) (sym w.named)
      ∙ find-with_entry new b.entries

  pub given-text : book_text b' name ≡ some text
  unfolding book_text text_of
  given-text = ap text_of given-find ∙ ap some w.told

  pub given-other : (other : Bytes) → (other ≡ name → ⊥) → find other b'.entries ≡ find other b.entries
  unfolding entered
  given-other other n = rw w.is (find-with_entry-other new b.entries other (λ e. n (e ∙ w.named)))

  pub given-used : b.used ≤ b'.used
  unfolding entered
  given-used = rw w.is (omega arith)

  pub given-new : find name b.entries ≡ none → length b'.entries ≡ suc (length b.entries)
  unfolding entered
  given-new h =
      rw w.is (length-with_entry-new new b.entries (ap (λ (k : Bytes). find k b.entries) w.named ∙ h))

  pub given-old : (e : Entry) → find name b.entries ≡ some e → length b'.entries ≡ length b.entries
  unfolding entered
  given-old e h =
      rw w.is (length-with_entry-old new b.entries e (ap (λ (k : Bytes). find k b.entries) w.named ∙ h))

-- ---- add, by cases

pub data Added (b : Book) (name bytes : Bytes) (mode : ℕ) (o : Outcome Book) : Type 0 where
  refused : (o.answer.number ≡ 0 → ⊥) → o.after ≡ b → Added b name bytes mode o
  fresh : find name b.entries ≡ none → (mode ≡ 4 → ⊥) → (mode ≡ 3 → bytes ≡ [] → ⊥)
      → Given name (some bytes) b o.after → Added b name bytes mode o
  bared : find name b.entries ≡ none → mode ≡ 3 → bytes ≡ [] → Given name none b o.after
      → Added b name bytes mode o
  replaced : (e : Entry) → find name b.entries ≡ some e → mode ≡ 2 → Given name (some bytes) b o.after
      → Added b name bytes mode o
  appended : (e : Entry) → find name b.entries ≡ some e → (mode ≡ 1 → ⊥) → (mode ≡ 2 → ⊥) → (mode ≡ 4 → ⊥)
      → (bytes ≡ [] → ⊥) → Given name (some (bytes_of e.text ++ bytes)) b o.after → Added b name bytes mode o
  unchanged : (e : Entry) → find name b.entries ≡ some e → (mode ≡ 1 → ⊥) → (mode ≡ 2 → ⊥) → (mode ≡ 4 → ⊥)
      → bytes ≡ [] → o.after ≡ b
      → Added b name bytes mode o
  withdrew : (e : Entry) → find name b.entries ≡ some e → mode ≡ 4 → Given name none b o.after
      → Added b name bytes mode o

no_bytes : (d : Bytes) → length d ≡ 0 → d ≡ []
no_bytes [] h = refl
no_bytes (x ∷ d) h = absurd (omega arith)

module _ (b : Book) (name bytes : Bytes) (mode : ℕ) where
  abbrev Here : Outcome Book → Type 0
  Here = Added b name bytes mode

  -- a step is refused and leaves the book, or leaves the next one
  step-cases : (asks : List Question) (y : Book)
      → ((step_of b asks y).after ≡ y → Here (step_of b asks y)) → Here (step_of b asks y)
  unfolding step_of plain
  step-cases asks y f =
      by-eq (first_no asks) 0
      (λ h. f (rw h refl))
      (λ h. refused h (rw (ne_eqb (first_no asks) 0 h) refl))

  step-refused : (n : ℕ) (y : Book) → (n ≡ 0 → ⊥) → Here (step_of b (ask n false ∷ []) y)
  unfolding step_of plain
  step-refused n y z =
      rw (first_no-no n false [] refl, ne_eqb n 0 z) (refused z refl)

  gives : (new : Entry) (more : ℕ) (b' : Book) → new.name ≡ name → b' ≡ entered b new more
      → Given name new.text b b'
  gives new more b' q e = record { new = new; more = more; named = q; told = refl; is = e }

  some_bytes : (length bytes ≡ 0 → ⊥) → bytes ≡ [] → ⊥
  some_bytes z q = z (ap length q)

  add-new : find name b.entries ≡ none → Here (add_absent b name bytes mode)
  unfolding add_absent placed noting bare
  add-new n =
      by-eq mode 4
      (λ h. rw (eq-eqb mode 4 h) (step-refused 14 b (λ z. omega arith)))
      (λ n₄. rw (ne_eqb mode 4 n₄) (by-eq mode 3
      (λ three. by-eq (length bytes) 0
      (λ z. rw (eq-eqb mode 3 three, eq-eqb (length bytes) 0 z)
      (step-cases _ _ (λ e. bared n three (no_bytes bytes z) (gives (bare name) 0 _ refl e))))
      (λ z. rw (eq-eqb mode 3 three, ne_eqb (length bytes) 0 z)
      (step-cases _ _ (λ e. fresh n n₄ (λ t. some_bytes z) (gives (noting name bytes) _ _ refl e)))))
      (λ n₃. rw (ne_eqb mode 3 n₃)
      (step-cases _ _ (λ e. fresh n n₄ (λ t. absurd (n₃ t)) (gives (noting name bytes) _ _ refl e))))))

  module _ (e : Entry) (f : find name b.entries ≡ some e) where
    is_name : e.name ≡ name
    is_name = find-same name b.entries e f

    add-replace : mode ≡ 2 → Here (replace b e bytes)
    unfolding replace placed noting
    add-replace two =
        let put : (more : ℕ) (b' : Book) → b' ≡ entered b (noting e.name bytes) more → Given name (some bytes) b b' =
        λ more b' q. gives (noting e.name bytes) more b' is_name q in
        by_bool (e.offset? && leb (length bytes) e.held)
        (λ y. rw y (step-cases _ _ (λ q. replaced e f two (put _ _ q))))
        (λ no'. rw no' (step-cases _ _ (λ q. replaced e f two (put _ _ q))))

    add-append : (mode ≡ 1 → ⊥) → (mode ≡ 2 → ⊥) → (mode ≡ 4 → ⊥) → Here (append b e bytes)
    unfolding append placed noting
    add-append n₁ n₂ n₄ =
        by-eq (length bytes) 0
        (λ z. rw (eq-eqb (length bytes) 0 z) (step-cases _ _ (λ q. unchanged e f n₁ n₂ n₄ (no_bytes bytes z) q)))
        (λ z. rw (ne_eqb (length bytes) 0 z)
        (step-cases _ _ (λ q. appended e f n₁ n₂ n₄ (some_bytes z)
        (gives (noting e.name (bytes_of e.text ++ bytes)) _ _ is_name q))))

    add-withdraw : mode ≡ 4 → Here (step_of b [] (entered b (withdrawn e) 0))
    unfolding withdrawn
    add-withdraw four = step-cases _ _ (λ q. withdrew e f four (gives (withdrawn e) 0 _ is_name q))

    add-present : Here (add_present b e bytes mode)
    unfolding add_present
    add-present =
        by-eq mode 1
        (λ h. rw (eq-eqb mode 1 h) (step-refused 9 b (λ z. omega arith)))
        (λ n₁. rw (ne_eqb mode 1 n₁) (by-eq mode 2
        (λ h. rw (eq-eqb mode 2 h) (add-replace h))
        (λ n₂. rw (ne_eqb mode 2 n₂) (by-eq mode 4
        (λ h. rw (eq-eqb mode 4 h) (add-withdraw h))
        (λ n₄. rw (ne_eqb mode 4 n₄) (add-append n₁ n₂ n₄))))))

  add-found : (f : Option Entry) → find name b.entries ≡ f → Here (add_found b name bytes mode f)
  unfolding add_found
  add-found none q = add-new q
  add-found (some e) q = add-present e q

  guarded-cases : (asks : List Question) (s : Outcome Book) → Here s → Here (guarded b asks s)
  unfolding guarded
  guarded-cases asks s h =
      by-eq (first_no asks) 0
      (λ z. rw (eq-eqb (first_no asks) 0 z) h)
      (λ z. rw (ne_eqb (first_no asks) 0 z) (unfold step_of plain in refused z (rw (ne_eqb (first_no asks) 0 z) refl)))

  pub book-add : Here (book_add b name bytes mode)
  unfolding book_add
  book-add = guarded-cases _ _ (add-found (find name b.entries) refl)

-- the book is as it was, or has a text under the name
pub by-put {ℓ} : {A : Type ℓ} {b : Book} {name bytes : Bytes} {mode : ℕ} {o : Outcome Book} → Added b name bytes mode o
    → (o.after ≡ b → A) → ((text : Option Bytes) → Given name text b o.after → A) → A
by-put (refused z q) kept given = kept q
by-put (fresh n n₄ s w) kept given = given _ w
by-put (bared n m z w) kept given = given _ w
by-put (replaced e f m w) kept given = given _ w
by-put (appended e f n₁ n₂ n₄ s w) kept given = given _ w
by-put (unchanged e f n₁ n₂ n₄ z q) kept given = kept q
by-put (withdrew e f m w) kept given = given _ w

-- ---- delete and lookup

pub data Deleted (b : Book) (name : Bytes) (o : Outcome Book) : Type 0 where
  refused : (o.answer.number ≡ 0 → ⊥) → o.after ≡ b → Deleted b name o
  gone : (e : Entry) → find name b.entries ≡ some e
      → o.after ≡ removed name b → Deleted b name o

module _ (b : Book) (name : Bytes) where
  delete-found : (f : Option Entry) → find name b.entries ≡ f → Deleted b name (delete_found b name f)
  unfolding delete_found step_of plain
  delete-found none q = rw (first_no-no 14 false [] refl) (refused (λ z. omega arith) refl)
  delete-found (some e) q = rw first_no-none (gone e q refl)

  pub book-delete : Deleted b name (book_delete b name)
  unfolding book_delete guarded step_of plain
  book-delete =
      by-eq (first_no (ask 7 (name_allowed b.terms.K name) ∷ [])) 0
      (λ z. rw (eq-eqb _ 0 z) (delete-found (find name b.entries) refl))
      (λ z. rw (ne_eqb _ 0 z) (refused z refl))

  lookup-found : (f : Option Entry) → (lookup_found b f).after ≡ b
  unfolding lookup_found step_of
  lookup-found none = rw (first_no-no 14 false [] refl) refl
  lookup-found (some e) = refl

  pub book-lookup : (book_lookup b name).after ≡ b
  unfolding book_lookup guarded step_of
  book-lookup =
      by_bool (eqb (first_no (ask 7 (name_allowed b.terms.K name) ∷ [])) 0)
      (λ h. rw h (lookup-found (find name b.entries)))
      (λ h. rw h refl)

  read-found : (room : ℕ) (f : Option Entry) → (read_found b room f).after ≡ b
  unfolding read_found step_of
  read-found room none = rw (first_no-no 14 false [] refl) refl
  read-found room (some e) = refl

  pub book-read : (room : ℕ) → (book_read b name room).after ≡ b
  unfolding book_read guarded step_of
  book-read room =
      by_bool (eqb (first_no (ask 7 (name_allowed b.terms.K name) ∷ [])) 0)
      (λ h. rw h (read-found room (find name b.entries)))
      (λ h. rw h refl)

  dated-found : (f : Option Entry) → (dated_found b f).after ≡ b
  unfolding dated_found step_of
  dated-found none = rw (first_no-no 14 false [] refl) refl
  dated-found (some e) = refl

  pub book-dated : (t : ℕ) → (book_at_epoch b name t).after ≡ b
  unfolding book_at_epoch guarded step_of
  book-dated t =
      by_bool (eqb (first_no (ask 23 (key_dated b.terms.K) ∷ ask 7 (prism_allowed b.terms.K name) ∷ [])) 0)
      (λ h. rw h (dated-found (latest_entry b.terms.K name t b.entries)))
      (λ h. rw h refl)

-- ---- any step, by its effect on the book

pub plain_step : Change → Step
plain_step (adds name bytes mode) = calling (adding name bytes mode)
plain_step (deletes name) = calling (deleting name)
plain_step compacts = compacting

-- the plain call of a step in a form; storing is an add of what is stored, reading a lookup
unfoldable pub as_plain : Step → Step
as_plain (calling c) = calling c
as_plain compacting = compacting
as_plain (listing c work list) = plain_step c
as_plain (journaling c work j) = plain_step c
as_plain (storing name recs W) = calling (adding name (columns W recs) 2)
as_plain (reading name room) = calling (looking name)
as_plain (converting L) = converting L
as_plain (dating name t) = dating name t
as_plain (starting new) = starting new

-- nothing, or a text is put under the name that it adds, or the entry of the name that it deletes goes, or all entries
-- are trimmed, on the same terms, on a target's, or on a larger table's
pub data Effect (b : Book) (c : Step) (b' : Book) : Type 0 where
  nothing : b' ≡ b → Effect b c b'
  enters : (name bytes : Bytes) (mode : ℕ) (text : Option Bytes) → as_plain c ≡ calling (adding name bytes mode)
      → Given name text b b'
      → Effect b c b'
  leaves : (name : Bytes) (e : Entry) → as_plain c ≡ calling (deleting name) → find name b.entries ≡ some e
      → b' ≡ removed name b → Effect b c b'
  trims : as_plain c ≡ compacting → b' ≡ compacted_book b → Effect b c b'
  converts : (L : ℕ) → as_plain c ≡ converting L → b' ≡ converted_book b L → Effect b c b'
  begins : (new : Bytes) → as_plain c ≡ starting new → b' ≡ grown_book b new → Effect b c b'

module _ {b : Book} {c : Step} where
  -- of a step whose plain call is an add, a delete or a compaction
  add-effect : (name bytes : Bytes) (mode : ℕ) → as_plain c ≡ calling (adding name bytes mode)
      → Effect b c (book_add b name bytes mode).after
  add-effect name bytes mode q =
      by-put (book-add b name bytes mode) (λ e. nothing e) (λ text w. enters name bytes mode text q w)

  delete-effect : (name : Bytes) (o : Outcome Book) → as_plain c ≡ calling (deleting name) → Deleted b name o
      → Effect b c o.after
  delete-effect name o q (refused z e) = nothing e
  delete-effect name o q (gone e f is) = leaves name e q f is

  change-effect : (d : Change) → as_plain c ≡ plain_step d → Effect b c (book_changed d b).after
  unfolding book_changed plain_step book_compact
  change-effect (adds name bytes mode) q = add-effect name bytes mode q
  change-effect (deletes name) q = delete-effect name _ q (book-delete b name)
  change-effect compacts q = trims q refl

  convert-effect : (L : ℕ) → as_plain c ≡ converting L → Effect b c (book_convert b L).after
  unfolding book_convert step_of
  convert-effect L q =
      by_bool (eqb (first_no (convert_asks b L)) 0)
      (λ y. rw y (converts L q refl))
      (λ n. rw n (nothing refl))

  start-effect : (new : Bytes) → as_plain c ≡ starting new → Effect b c (book_start b new).after
  unfolding book_start step_of
  start-effect new q =
      by_bool (eqb (first_no (ask 21 (second_allowed b new) ∷ [])) 0)
      (λ y. rw y (begins new q refl))
      (λ n. rw n (nothing refl))

  -- a form leaves what its plain call does, or the book
  guarded-effect : (asks : List Question) (o : Outcome Book) → Effect b c o.after
      → Effect b c (guarded b asks o).after
  unfolding guarded
  guarded-effect asks o h =
      by_bool (eqb (first_no asks) 0)
      (λ y. rw y h)
      (λ n. rw n (nothing (unfold step_of in rw n refl)))

  told-effect : (t : Bool) (o : Outcome Book) → Effect b c o.after → Effect b c (told_number t b o).after
  unfolding told_number
  told-effect t o h =
      by_bool (t && eqb o.answer.number 0)
      (λ y. rw y (nothing (unfold step_of first_no ask in refl)))
      (λ n. rw n h)

-- the one list of all steps: what follows goes by the effect
pub step-effect : (t : Bool) (c : Step) (b : Book) → Effect b c (book_step t c b).after
unfolding book_step book_call book_count book_compact as_plain
step-effect t (calling (adding name bytes mode)) b = add-effect name bytes mode refl
step-effect t (calling (deleting name)) b = delete-effect name _ refl (book-delete b name)
step-effect t (calling (looking name)) b = nothing (book-lookup b name)
step-effect t (calling counting) b = nothing refl
step-effect t compacting b = trims refl refl
step-effect t (listing c work list) b = guarded-effect _ _ (change-effect c refl)
step-effect t (journaling c work j) b = told-effect t _ (guarded-effect _ _ (change-effect c refl))
step-effect t (storing name recs W) b =
    unfold book_store in
    guarded-effect _ _
    (by-put (add-found b name (columns W recs) 2 (find name b.entries) refl)
    (λ e. nothing e) (λ text w. enters name (columns W recs) 2 text refl w))
step-effect t (reading name room) b = nothing (book-read b name room)
step-effect t (converting L) b = convert-effect L refl
step-effect t (dating name e) b = nothing (book-dated b name e)
step-effect t (starting new) b = start-effect new refl

-- the step does not delete, or does not add, a point of that name
abbrev pub NotDeleting : Bytes → Step → Type 0
NotDeleting key c = as_plain c ≡ calling (deleting key) → ⊥

abbrev pub NotAdding : Bytes → Step → Type 0
NotAdding key c = (bytes : Bytes) (mode : ℕ) → as_plain c ≡ calling (adding key bytes mode) → ⊥

-- a point of that name, or none
abbrev pub Has : Bytes → Book → Type 0
Has key b = (e : Entry) × (find key b.entries ≡ some e)

abbrev pub Lacks : Bytes → Book → Type 0
Lacks key b = find key b.entries ≡ none

-- a compaction keeps every text
trimmed-text : (f : Option Entry) → text_of (trimmed_of f) ≡ text_of f
unfolding text_of trimmed
trimmed-text none = refl
trimmed-text (some e) = refl

pub compacted-text : (b : Book) (key : Bytes) → book_text (compacted_book b) key ≡ book_text b key
unfolding book_text compacted_book
compacted-text b key =
    ap text_of (find-trimmed key b.entries) ∙ trimmed-text (find key b.entries)

-- so does a conversion
pub converted-text : (b : Book) (L : ℕ) (key : Bytes) → book_text (converted_book b L) key ≡ book_text b key
unfolding book_text converted_book
converted-text b L key =
    ap text_of (find-trimmed key b.entries) ∙ trimmed-text (find key b.entries)

-- and the start of growth
pub grown-text : (b : Book) (new key : Bytes) → book_text (grown_book b new) key ≡ book_text b key
unfolding book_text grown_book
grown-text b new key =
    ap text_of (find-trimmed key b.entries) ∙ trimmed-text (find key b.entries)

-- an entry of the compacted book, of the converted one, and of the grown one
trims-find : (b b' : Book) (key : Bytes) → b' ≡ compacted_book b
    → find key b'.entries ≡ trimmed_of (find key b.entries)
unfolding compacted_book
trims-find b b' key is = ap (λ (x : Book). find key x.entries) is ∙ find-trimmed key b.entries

converts-find : (b b' : Book) (L : ℕ) (key : Bytes) → b' ≡ converted_book b L
    → find key b'.entries ≡ trimmed_of (find key b.entries)
unfolding converted_book
converts-find b b' L key is = ap (λ (x : Book). find key x.entries) is ∙ find-trimmed key b.entries

begins-find : (b b' : Book) (new key : Bytes) → b' ≡ grown_book b new
    → find key b'.entries ≡ trimmed_of (find key b.entries)
unfolding grown_book
begins-find b b' new key is = ap (λ (x : Book). find key x.entries) is ∙ find-trimmed key b.entries

module _ {b : Book} {c : Step} {b' : Book} (key : Bytes) where
  -- a point that the call neither adds nor deletes keeps its text
  pub effect-other : Effect b c b' → NotAdding key c → NotDeleting key c → book_text b' key ≡ book_text b key
  effect-other (nothing q) na nd = ap (λ (x : Book). book_text x key) q
  effect-other (enters name bytes mode text q w) na nd =
      unfold book_text in
      ap text_of (given-other w key (λ s. na bytes mode (q ∙ ap (λ (x : Bytes). calling (adding x bytes mode)) (sym s))))
  effect-other (leaves name e q f is) na nd =
      ap (λ (x : Book). book_text x key) is
      ∙ without-text name (λ s. nd (q ∙ ap (λ (x : Bytes). calling (deleting x)) (sym s)))
    where
      without-text : (name : Bytes) → (key ≡ name → ⊥) → book_text (removed name b) key ≡ book_text b key
      without-text name n = unfold book_text in ap text_of (find-without-other name key b.entries n)
  effect-other (trims q is) na nd = ap (λ (x : Book). book_text x key) is ∙ compacted-text b key
  effect-other (converts L q is) na nd = ap (λ (x : Book). book_text x key) is ∙ converted-text b L key
  effect-other (begins new q is) na nd = ap (λ (x : Book). book_text x key) is ∙ grown-text b new key

  -- one that it does not delete stays
  pub effect-has : Effect b c b' → NotDeleting key c → Has key b → Has key b'
  effect-has (nothing q) nd h = (h.0, ap (λ (x : Book). find key x.entries) q ∙ h.1)
  effect-has (enters name bytes mode text q w) nd h =
      by-same key name
      (λ s. (_, ap (λ (x : Bytes). find x b'.entries) s ∙ given-find w))
      (λ n. (h.0, given-other w key n ∙ h.1))
  effect-has (leaves name e q f is) nd h =
      let other =
      find-without-other name key b.entries (λ s. nd (q ∙ ap (λ (x : Bytes). calling (deleting x)) (sym s))) in
      (h.0, ap (λ (x : Book). find key x.entries) is ∙ other ∙ h.1)
  effect-has (trims q is) nd h = (trimmed h.0, trims-find b b' key is ∙ ap trimmed_of h.1)
  effect-has (converts L q is) nd h = (trimmed h.0, converts-find b b' L key is ∙ ap trimmed_of h.1)
  effect-has (begins new q is) nd h = (trimmed h.0, begins-find b b' new key is ∙ ap trimmed_of h.1)

  -- one that it does not add stays absent
  pub effect-lacks : Effect b c b' → NotAdding key c → Lacks key b → Lacks key b'
  effect-lacks (nothing q) na h = ap (λ (x : Book). find key x.entries) q ∙ h
  effect-lacks (enters name bytes mode text q w) na h =
      given-other w key (λ s. na bytes mode (q ∙ ap (λ (x : Bytes). calling (adding x bytes mode)) (sym s))) ∙ h
  effect-lacks (leaves name e q f is) na h =
      let present : (key ≡ name → ⊥) =
      λ s. none-ne-some e (sym h ∙ ap (λ (x : Bytes). find x b.entries) s ∙ f) in
      ap (λ (x : Book). find key x.entries) is ∙ find-without-other name key b.entries present ∙ h
  effect-lacks (trims q is) na h = trims-find b b' key is ∙ ap trimmed_of h
  effect-lacks (converts L q is) na h = converts-find b b' L key is ∙ ap trimmed_of h
  effect-lacks (begins new q is) na h = begins-find b b' new key is ∙ ap trimmed_of h

-- the step gives no space back: every one except compaction, conversion and a start
pub record Keeping (c : Step) : Type 0 where
  pub no-compaction : as_plain c ≡ compacting → ⊥
  pub no-conversion : (L : ℕ) → as_plain c ≡ converting L → ⊥
  pub no_start : (new : Bytes) → as_plain c ≡ starting new → ⊥

pub effect-used : {b : Book} {c : Step} {b' : Book} → Effect b c b' → Keeping c → b.used ≤ b'.used
effect-used (nothing q) k = omega (arith, ap (λ (x : Book). x.used) q)
effect-used (enters name bytes mode text q w) k = given-used w
effect-used (leaves name e q f is) k = omega (arith, ap (λ (x : Book). x.used) is)
effect-used (trims q is) k = absurd (k.no-compaction q)
effect-used (converts L q is) k = absurd (k.no-conversion L q)
effect-used (begins new q is) k = absurd (k.no_start new q)
