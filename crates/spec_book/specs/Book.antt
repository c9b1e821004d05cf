-- Document 01, "The plain control book", as document 02 changes it (Job 4), with its steps for compaction (Job 2), for
-- the converter (Job 11) and for growth (Job 12), and its choice by epoch (Job 14): entries with distinct names, which
-- its steps keep so, and the space used. It knows nothing of slots or bytes of an image, except of the second one that
-- a start of growth is lent: "Each step is fed its call's arguments and nothing from the file."
-- Assumes nothing.
use Rattle.std.specs.Prelude.{ℕ, ◌+◌, ◌-◌, Bool, true, false, cond, ◌&&◌, List, [], ◌∷◌, ◌++◌, length, leb, ltb, eqb}
use Rattle.std.proofs.Math.Option.{Option, none, some}
use Rattle.spec_file.specs.Bytes.{Bytes, same}
use Rattle.spec_file.specs.Limits.{length_width, most_length, wide_width, most_wide}
use Rattle.spec_file.specs.Image.{data_start, Layout, layout_of}
use Rattle.spec_file.specs.Messages.{head_size, bytes_of, is_text}
use Rattle.spec_file.specs.Questions.{Question, ask, first_no, size_allowed, name_allowed, named}
use Rattle.spec_file.specs.Calls.{Answer, Outcome, plain}
use Rattle.spec_file.specs.Lists.{Call, adding, deleting, looking, counting}
use Rattle.spec_columns.specs.Columns.{whole_records, columns}
use Rattle.spec_records.specs.Records.{readable, records_answer}
use Rattle.spec_epoch.specs.Epochs.{epoch_of, dated_by, key_dated, prism_allowed}
use Rattle.spec_moves.specs.Moves.{unused}

-- "entries (name, text, held)"; 02: "The book's text is none or a list that may be empty, and an entry notes whether it
-- has an offset"
pub record Entry : Type 0 where
  pub name : Bytes
  pub text : Option Bytes
  pub held : ℕ
  pub offset? : Bool

-- "N and K are as created; R = L − D." head is the size of a message's header, most its largest length.
pub record Terms : Type 0 where
  pub K : ℕ
  pub N : ℕ
  pub R : ℕ
  pub head : ℕ
  pub most : ℕ

-- "a set of entries with distinct names; U, space used, 0 at first"
pub record Book : Type 0 where
  pub terms : Terms
  pub entries : List Entry
  pub used : ℕ

unfoldable pub new_book : Terms → Book
new_book t = record { terms = t; entries = []; used = 0 }

-- ---- entries by name
unfoldable pub find : Bytes → List Entry → Option Entry
find name [] = none
find name (e ∷ es) = cond (same e.name name) (some e) (find name es)

unfoldable pub without : Bytes → List Entry → List Entry
without name [] = []
without name (e ∷ es) = cond (same e.name name) es (e ∷ without name es)

unfoldable pub with_entry : Entry → List Entry → List Entry
with_entry e es = e ∷ without e.name es

-- ---- steps: the book afterwards, and the answer

-- "a refused call answers its number, shows an empty text and changes nothing"
unfoldable pub step_of : Book → List Question → Book → Outcome Book
step_of b asks next = record { after = cond (eqb (first_no asks) 0) next b; answer = plain (first_no asks) }

-- "12 if m is above 16,777,215 and 13 if U + 4 + m exceeds R". Job 11, here and below: "On a 2.0 image the book adds 5
-- where it added 4, and question 12's bound is 1,073,741,823"
unfoldable pub room_asks : Book → ℕ → List Question
room_asks b m = ask 12 (leb m b.terms.most) ∷ ask 13 (leb (b.used + b.terms.head + m) b.terms.R) ∷ []

-- the book with that entry, in place of one of its name, and so much more space used
unfoldable pub entered : Book → Entry → ℕ → Book
entered b e more = record { terms = b.terms; entries = with_entry e b.entries; used = b.used + more }

-- an entry with a text, and one without: "held = m"; "the text none and no offset"
unfoldable pub noting : Bytes → Bytes → Entry
noting name text = record { name = name; text = some text; held = length text; offset? = true }

unfoldable pub bare : Bytes → Entry
bare name = record { name = name; text = none; held = 0; offset? = false }

-- the book with a text in new space
unfoldable pub placed : Book → Bytes → Bytes → Book
placed b name text = entered b (noting name text) (b.terms.head + length text)

-- "Add of m bytes, name absent: 10 if there are N entries; then, for m above 0, 12 .. and 13 .. Otherwise the text is
-- the data, held = m, and U grows by 4 + m if m is above 0." 02: "where empty data takes new space the book puts 13 and
-- U grows by 4", "mode 3 with empty data gives an absent name the text none and no offset"; mode 4 "gives 14 for an
-- absent name".
unfoldable pub add_absent : Book → Bytes → Bytes → ℕ → Outcome Book
add_absent b name data' mode =
    cond (eqb mode 4) (step_of b (ask 14 false ∷ []) b)
    (cond (eqb mode 3 && eqb (length data') 0)
    (step_of b (ask 10 (ltb (length b.entries) b.terms.N) ∷ []) (entered b (bare name) 0))
    (step_of b (ask 10 (ltb (length b.entries) b.terms.N) ∷ room_asks b (length data')) (placed b name data')))

-- "Mode 2 with m at most held sets the text and held = m. Mode 2 with larger m sets both after 12 and 13, and U grows
-- by 4 + m." 02: "stores it, in new space of 4 bytes when the point has no offset", "mode 2 with empty data sets
-- held = 0 beside the empty text".
unfoldable pub replace : Book → Entry → Bytes → Outcome Book
replace b e data' =
    cond (e.offset? && leb (length data') e.held) (step_of b [] (entered b (noting e.name data') 0))
    (step_of b (room_asks b (length data')) (placed b e.name data'))

-- "Mode 3 with m = 0 changes nothing. Otherwise t = text length + m takes m's place in 12, 13 and the growth of U; the
-- text gets the data behind it and held = t."
unfoldable pub append : Book → Entry → Bytes → Outcome Book
append b e data' =
    let t : Bytes = bytes_of e.text ++ data' in
    cond (eqb (length data') 0) (step_of b [] b) (step_of b (room_asks b (length t)) (placed b e.name t))

-- 02: "mode 4 makes the text none and keeps held"
unfoldable pub withdrawn : Entry → Entry
withdrawn e = record { name = e.name; text = none; held = e.held; offset? = e.offset? }

-- "Name present: mode 1 gives 9."
unfoldable pub add_present : Book → Entry → Bytes → ℕ → Outcome Book
add_present b e data' mode =
    cond (eqb mode 1) (step_of b (ask 9 false ∷ []) b)
    (cond (eqb mode 2) (replace b e data')
    (cond (eqb mode 4) (step_of b [] (entered b (withdrawn e) 0)) (append b e data')))

unfoldable pub add_found : Book → Bytes → Bytes → ℕ → Option Entry → Outcome Book
add_found b name data' mode none = add_absent b name data' mode
add_found b name data' mode (some e) = add_present b e data' mode

-- "Before its own rules the book puts questions 7 and 8 as the file does, and answers their numbers."
unfoldable pub guarded : Book → List Question → Outcome Book → Outcome Book
guarded b asks s = cond (eqb (first_no asks) 0) s (step_of b asks b)

unfoldable pub book_add : Book → Bytes → Bytes → ℕ → Outcome Book
book_add b name data' mode =
    guarded b (named b.terms.K name mode []) (add_found b name data' mode (find name b.entries))

-- "Delete: 14 if absent, else the entry goes; U stays."
unfoldable pub delete_found : Book → Bytes → Option Entry → Outcome Book
delete_found b name none = step_of b (ask 14 false ∷ []) b
delete_found b name (some e) =
    step_of b [] (record { terms = b.terms; entries = without name b.entries; used = b.used })

unfoldable pub book_delete : Book → Bytes → Outcome Book
book_delete b name =
    guarded b (ask 7 (name_allowed b.terms.K name) ∷ []) (delete_found b name (find name b.entries))

-- an entry's text and length, and an epoch
abbrev pub telling : Entry → ℕ → Answer
telling e epoch = record { number = 0; amount = length (bytes_of e.text); text = e.text; epoch = epoch }

-- "Lookup: 14 if absent, else text and length."
unfoldable pub lookup_found : Book → Option Entry → Outcome Book
lookup_found b none = step_of b (ask 14 false ∷ []) b
lookup_found b (some e) = record { after = b; answer = telling e 0 }

unfoldable pub book_lookup : Book → Bytes → Outcome Book
book_lookup b name = guarded b (ask 7 (name_allowed b.terms.K name) ∷ []) (lookup_found b (find name b.entries))

-- Document 02, Job 10: "The book compares stored bytes and puts 19 as the file does, on reading by its text." Storing
-- is its add, in mode 2, of what is stored.
unfoldable pub book_store : Book → Bytes → Bytes → ℕ → Outcome Book
book_store b name recs W =
    guarded b (ask 7 (name_allowed b.terms.K name) ∷ ask 19 (whole_records W (length recs)) ∷ [])
    (add_found b name (columns W recs) 2 (find name b.entries))

unfoldable pub read_found : Book → ℕ → Option Entry → Outcome Book
read_found b room none = step_of b (ask 14 false ∷ []) b
read_found b room (some e) =
    let stored : Bytes = bytes_of e.text in
    record { after = b; answer = records_answer (first_no (ask 19 (readable stored room) ∷ [])) stored }

unfoldable pub book_read : Book → Bytes → ℕ → Outcome Book
book_read b name room =
    guarded b (ask 7 (name_allowed b.terms.K name) ∷ []) (read_found b room (find name b.entries))

-- "Count: the number of entries."
unfoldable pub book_count : Book → Outcome Book
book_count b =
    record { after = b; answer = record { number = 0; amount = length b.entries; text = none; epoch = 0 } }

-- Document 02, Job 14: "the entry of that name with the largest epoch at most t", among the book's own. Two of one name
-- and epoch would be one entry, for names are distinct.
unfoldable pub later_entry : ℕ → Entry → Option Entry → Option Entry
later_entry K e none = some e
later_entry K e (some f) = cond (leb (epoch_of K f.name) (epoch_of K e.name)) (some e) (some f)

unfoldable pub latest_entry : ℕ → Bytes → ℕ → List Entry → Option Entry
latest_entry K name t [] = none
latest_entry K name t (e ∷ es) =
    cond (dated_by K name t e.name) (later_entry K e (latest_entry K name t es)) (latest_entry K name t es)

-- "or 14 when none has one"
unfoldable pub dated_found : Book → Option Entry → Outcome Book
dated_found b none = step_of b (ask 14 false ∷ []) b
dated_found b (some e) = record { after = b; answer = telling e (epoch_of b.terms.K e.name) }

-- it puts 23 and 7 as the file does
unfoldable pub book_at_epoch : Book → Bytes → ℕ → Outcome Book
book_at_epoch b name t =
    guarded b (ask 23 (key_dated b.terms.K) ∷ ask 7 (prism_allowed b.terms.K name) ∷ [])
    (dated_found b (latest_entry b.terms.K name t b.entries))

-- Document 02, Job 2, of compaction: "In the book this step makes held the text's length and U the sum of 4 + length
-- over texts that are not empty", as Job 4 changes it: "after compaction an entry has an offset exactly when its text
-- is not none, and U sums 4 + length over those".
unfoldable pub trimmed : Entry → Entry
trimmed e =
    record { name = e.name; text = e.text; held = length (bytes_of e.text); offset? = is_text e.text }

unfoldable pub trimmed_all : List Entry → List Entry
trimmed_all [] = []
trimmed_all (e ∷ es) = trimmed e ∷ trimmed_all es

-- the space that a text takes, with its header; and all of them
unfoldable pub space_for : ℕ → Option Bytes → ℕ
space_for head none = 0
space_for head (some t) = head + length t

unfoldable pub space_for_all : ℕ → List Entry → ℕ
space_for_all head [] = 0
space_for_all head (e ∷ es) = space_for head e.text + space_for_all head es

unfoldable pub compacted_book : Book → Book
compacted_book b =
    record {
      terms = b.terms;
      entries = trimmed_all b.entries;
      used = space_for_all b.terms.head b.entries;
    }

-- it answers 0: a file in such a list is sound
unfoldable pub book_compact : Book → Outcome Book
book_compact b = record { after = compacted_book b; answer = plain 0 }

-- Document 02, Job 11, of the converter: "the book takes its compaction step with the other header size and the
-- target's R". Of 2.0: "On a 2.0 image the book adds 5 where it added 4, and question 12's bound is 1,073,741,823."
unfoldable pub other_terms : Terms → ℕ → Terms
other_terms t L =
    let narrow : Bool = eqb t.head (wide_width + 1) in
    record {
      K = t.K;
      N = t.N;
      R = L - data_start t.K t.N;
      head = cond narrow (length_width + 1) (wide_width + 1);
      most = cond narrow most_length most_wide;
    }

unfoldable pub converted_book : Book → ℕ → Book
converted_book b L =
    record {
      terms = other_terms b.terms L;
      entries = trimmed_all b.entries;
      used = space_for_all (other_terms b.terms L).head b.entries;
    }

-- "20 on narrowing an active message above 16,777,215 bytes": whether each text is at most so long
unfoldable pub text_fits : ℕ → Option Bytes → Bool
text_fits most none = true
text_fits most (some t) = leb (length t) most

unfoldable pub texts_fit : ℕ → List Entry → Bool
texts_fit most [] = true
texts_fit most (e ∷ es) = text_fits most e.text && texts_fit most es

-- "and puts the target's 1, 20 and 13 as the file does": D + U ≤ L and not U ≤ L − D, for L may be below D
unfoldable pub convert_asks : Book → ℕ → List Question
convert_asks b L =
    let t : Terms = other_terms b.terms L in
    ask 1 (size_allowed L)
    ∷ ask 20 (texts_fit t.most b.entries)
    ∷ ask 13 (leb (data_start t.K t.N + space_for_all t.head b.entries) L)
    ∷ []

unfoldable pub book_convert : Book → ℕ → Outcome Book
book_convert b L = step_of b (convert_asks b L) (converted_book b L)

-- Document 02, Job 12: "The book puts 21 as the file does and takes its compaction step at an accepted start, with the
-- new N and R". The second image is an argument of the call. Of the two versions the book knows the sizes of headers.
unfoldable pub grown_terms : Terms → Bytes → Terms
grown_terms t new =
    let h : Layout = layout_of new in
    record { K = t.K; N = h.N; R = length new - h.D; head = t.head; most = t.most }

unfoldable pub grown_book : Book → Bytes → Book
grown_book b new =
    record {
      terms = grown_terms b.terms new;
      entries = trimmed_all b.entries;
      used = space_for_all b.terms.head b.entries;
    }

-- "a second sound one with C = 0 and X = D, of the same major version, with the same K and a larger N", whose R is not
-- "below the compacted U"
unfoldable pub second_allowed : Book → Bytes → Bool
second_allowed b new =
    let h : Layout = layout_of new in
    unused new && (eqb (head_size h) b.terms.head && eqb h.K b.terms.K) && ltb b.terms.N h.N
    && leb (space_for_all b.terms.head b.entries) (length new - h.D)

unfoldable pub book_start : Book → Bytes → Outcome Book
book_start b new = step_of b (ask 21 (second_allowed b new) ∷ []) (grown_book b new)

unfoldable pub book_call : Call → Book → Outcome Book
book_call (adding name data' mode) b = book_add b name data' mode
book_call (deleting name) b = book_delete b name
book_call (looking name) b = book_lookup b name
book_call counting b = book_count b
