-- Document 02: "An image within the old limits keeps every byte." The calls with document 01's limits, 16,777,216 bytes
-- and 65,536 slots, beside the calls as they are. No definition but questions 1, 3 and 6 speaks of a limit.
--     Within img       L and N of an image within the old limits
--     old_opened        questions 1, 5 and 6 with the old limits, before a call's own
--     old_perform       the calls of a list with them; old_create, old_walk, old_check
--     perform-as-before and the others       on an image within the old limits: the same answer, and every byte
-- Assumes nothing.
use mathlib.Core.Path.{◌≡◌, refl, sym, ap, ap₂, ◌∙◌}
use Prim.Native.Nat.{ℕ, ◌+◌, ◌%◌, ◌≤◌}
use native.Mathlib.Omega.{arith}
use mathlib.Core.Bool.{Bool, cond, ◌&&◌}
use mathlib.Core.List.{List, [], ◌∷◌, ◌++◌}
use mathlib.Core.Option.{none, some}
use lib.ListN.{length}
use lib.Dec.{leb, eqb}
use borrow.Author.Tests.{le-leb}
use Rattle.spec_file.specs.Bytes.{Bytes, part}
use Rattle.spec_file.specs.Limits.{page_size, most_image, most_slots, most_character, key_field, slots_field, points_field, first_field, last_field, scramble_field, table_field, data_field, free_field, scramble_start, table_start}
use Rattle.spec_file.specs.Image.{field, data_start, Layout, layout_of, slot, offset_of}
use Rattle.spec_file.specs.Create.{slots_asked, fresh_image}
use Rattle.spec_file.specs.Search.{search, slot_of}
use Rattle.spec_file.specs.Messages.{head_size, is_active, bytes_of, held, added}
use Rattle.spec_file.specs.Delete.{deleted}
use Rattle.spec_file.specs.Questions.{Question, ask, first_no, size_allowed, key_allowed, slots_allowed, table_fits, version_known, header_sound, create_asks, opened, add_asks, delete_asks, lookup_asks, create_number, open_number, add_number, delete_number, lookup_number}
use Rattle.spec_file.specs.Calls.{Outcome, plain, settled, create, add, delete, lookup_offset, lookup_start, lookup_length, lookup_text, lookup, count_of, count}
use Rattle.spec_file.specs.Lists.{Call, adding, deleting, looking, counting, call}
use Rattle.spec_changes.specs.Changes.{listed}
use Rattle.spec_changes.specs.Journal.{journaled_number, journaled}
use Rattle.spec_columns.specs.Columns.{columns}
use Rattle.spec_records.specs.Records.{store_asks, store_number, store_records, stored_bytes, readable, read_asks, read_number, records_answer, read_records}
use Rattle.spec_book.specs.Steps.{Change, adds, deletes, compacts, changed, Step, calling, compacting, listing, journaling, storing, reading, converting, listed_outcome, journaled_outcome, perform_on, dating, dated_outcome, starting}
use Rattle.spec_moves.specs.Moves.{second_fits, grow_number}
use Rattle.spec_epoch.specs.Epochs.{chosen, at_epoch_asks, at_epoch_number, shown_at, refused_dated, at_epoch}
use Rattle.spec_compaction.specs.Compact.{compacted, is_sound, compact_number, compact}
use Rattle.spec_conversion.specs.Convert.{converted, lengths_told, target_holds, convert_number, convert}
use Rattle.spec_file.specs.Inspect.{Stop, stop_at, next_taken, key_walk, Verdict, table_verdict, check}

-- ---- questions 1, 3 and 6 as they were

abbrev pub old_image : ℕ
old_image = 16777216

abbrev pub old_slots : ℕ
old_slots = 65536

-- "1. Is L a multiple of 4,096 from 4,096 to 16,777,216?"
pub old_size : ℕ → Bool
old_size L = eqb (L % page_size) 0 && leb page_size L && leb L old_image

-- "3. Is N at most 65,536?"
pub old_table : ℕ → Bool
old_table N = leb N old_slots

-- question 6, by whether its N is at most the limit
header_by : Bytes → Bool → Bool
header_by img most =
    key_allowed (field img key_field)
    && (leb 1 (field img slots_field) && most)
    && leb (field img points_field) (field img slots_field)
    && (leb (field img first_field) (field img last_field) && leb (field img last_field) most_character)
    && (eqb (field img scramble_field) scramble_start && eqb (field img table_field) table_start)
    && eqb (field img data_field) (data_start (field img key_field) (field img slots_field))
    && (leb (field img data_field) (field img free_field) && leb (field img free_field) (length img))

pub old_header : Bytes → Bool
old_header img = header_by img (old_table (field img slots_field))

pub old_opened : Bytes → List Question → List Question
old_opened img more = ask 1 (old_size (length img)) ∷ ask 5 (version_known img) ∷ ask 6 (old_header img) ∷ more

-- ---- below the old limits they answer as before

pub record Within (img : Bytes) : Type 0 where
  pub size : length img ≤ old_image
  pub slots : field img slots_field ≤ old_slots

-- what is below the old limit is below the new one
both_below : (n old now : ℕ) → n ≤ old → old ≤ now → leb n now ≡ leb n old
both_below n old now h k = le-leb n now (omega arith) ∙ sym (le-leb n old h)

pub size-as-before : (L : ℕ) → L ≤ old_image → size_allowed L ≡ old_size L
unfolding size_allowed old_size
size-as-before L h =
    ap (λ (b : Bool). eqb (L % page_size) 0 && leb page_size L && b) (both_below L old_image most_image h (omega arith))

pub slots-as-before : (N : ℕ) → N ≤ old_slots → slots_allowed N ≡ old_table N
unfolding slots_allowed old_table
slots-as-before N h = both_below N old_slots most_slots h (omega arith)

pub header-as-before : (img : Bytes) → field img slots_field ≤ old_slots → header_sound img ≡ old_header img
unfolding header_sound old_header header_by
header-as-before img h = ap (header_by img) (slots-as-before (field img slots_field) h)

pub opened-as-before : (img : Bytes) (more : List Question) → Within img → opened img more ≡ old_opened img more
unfolding opened old_opened
opened-as-before img more w =
    ap₂ (λ (a b : Bool). ask 1 a ∷ ask 5 (version_known img) ∷ ask 6 b ∷ more)
    (size-as-before (length img) w.size) (header-as-before img w.slots)

-- ---- the calls, by their number: the one that is first answered no with the old limits, or with these

add_by : Bytes → Bytes → Bytes → ℕ → ℕ → Outcome Bytes
add_by img key data' mode n =
    record { after = settled n img (added (layout_of img) img key data' mode); answer = plain n }

delete_by : Bytes → Bytes → ℕ → Outcome Bytes
delete_by img key n =
    record { after = settled n img (deleted (layout_of img) img (search (layout_of img) img key)); answer = plain n }

-- the message's offset where the number is 0
offset_by : Bytes → Bytes → ℕ → ℕ
offset_by img key n =
    let o : ℕ = offset_of (layout_of img) (slot (layout_of img) img (slot_of (search (layout_of img) img key))) in
    cond (eqb n 0 && is_active img o) o 0

lookup_by : Bytes → Bytes → ℕ → Outcome Bytes
lookup_by img key n =
    let o : ℕ = offset_by img key n in
    let m : ℕ = held (layout_of img) img o in
    let start : ℕ = cond (eqb o 0) 0 (o + head_size (layout_of img)) in
    record {
      after = img;
      answer =
          record { number = n; amount = m; text = cond (eqb o 0) none (some (part img start m)); epoch = 0 };
    }

count_by : Bytes → ℕ → Outcome Bytes
count_by img n =
    record {
      after = img;
      answer = record { number = n; amount = cond (eqb n 0) (field img points_field) 0; text = none; epoch = 0 };
    }

create_by : Bytes → ℕ → ℕ → ℕ → ℕ → Outcome Bytes
create_by img K N seed n =
    record { after = settled n img (fresh_image (length img) K (slots_asked N) seed); answer = plain n }

walk_by : Bytes → ℕ → ℕ → Stop
walk_by img i n = cond (eqb n 0) (stop_at (next_taken (layout_of img) img i)) (Stop.refused n)

at_epoch_by : Bytes → Bytes → ℕ → ℕ → Outcome Bytes
at_epoch_by img name t n =
    dated_outcome img
    (cond (eqb n 0) (shown_at (layout_of img) img (slot_of (chosen (layout_of img) img name t))) (refused_dated n))

compact_by : Bytes → ℕ → Outcome Bytes
compact_by img n = record { after = settled n img (compacted (layout_of img) img); answer = plain n }

check_by : Bytes → ℕ → Verdict
check_by img n = cond (eqb n 0) (table_verdict img) (Verdict.refused n)

-- ---- the calls as they were

pub old_check : Bytes → Verdict
old_check img = check_by img (first_no (old_opened img []))

pub old_call : Call → Bytes → Outcome Bytes
old_call (adding key data' mode) img =
    add_by img key data' mode
    (first_no (old_opened img (add_asks (layout_of img) img (search (layout_of img) img key) key data' mode)))
old_call (deleting key) img =
    delete_by img key (first_no (old_opened img (delete_asks (layout_of img) img (search (layout_of img) img key) key)))
old_call (looking key) img =
    lookup_by img key (first_no (old_opened img (lookup_asks (layout_of img) img (search (layout_of img) img key) key)))
old_call counting img = count_by img (first_no (old_opened img []))

pub old_compact : Bytes → Outcome Bytes
old_compact img = compact_by img (first_no (old_opened img (ask 15 (is_sound (old_check img)) ∷ [])))

pub old_changed : Change → Bytes → Outcome Bytes
old_changed (adds key data' mode) img = old_call (adding key data' mode) img
old_changed (deletes key) img = old_call (deleting key) img
old_changed compacts img = old_compact img

store_by : Bytes → Bytes → Bytes → ℕ → ℕ → Outcome Bytes
store_by img key recs W n =
    record { after = settled n img (added (layout_of img) img key (columns W recs) 2); answer = plain n }

-- by what lookup shows
read_by : Bytes → ℕ → Bytes → Outcome Bytes
read_by img n stored = record { after = img; answer = records_answer n stored }

pub old_store : Bytes → Bytes → Bytes → ℕ → Outcome Bytes
old_store img key recs W =
    store_by img key recs W
    (first_no (old_opened img (store_asks (layout_of img) img (search (layout_of img) img key) key recs W)))

pub old_read : Bytes → Bytes → ℕ → Outcome Bytes
old_read img key room =
    let stored : Bytes = bytes_of (old_call (looking key) img).answer.text in
    let g : Layout = layout_of img in
    read_by img
    (first_no (old_opened img (lookup_asks g img (search g img key) key ++ (ask 19 (readable stored room) ∷ [])))) stored

-- the converter, by its source's answers to 1 and 6 and by its verdict; the target is another slice, of today's limits
convert_by : Bytes → ℕ → Bool → Bool → Verdict → Outcome Bytes
convert_by img L size header verdict =
    let n : ℕ =
    first_no
    (ask 1 size ∷ ask 1 (size_allowed L) ∷ ask 5 (version_known img) ∷ ask 6 header ∷ ask 15 (is_sound verdict)
    ∷ ask 20 (lengths_told img) ∷ ask 13 (target_holds img L) ∷ []) in
    record { after = settled n img (converted img L); answer = plain n }

pub old_convert : Bytes → ℕ → Outcome Bytes
old_convert img L = convert_by img L (old_size (length img)) (old_header img) (old_check img)

-- the start, of an image within the old limits and of any second one
start_asks : Bytes → Bytes → Verdict → List Question
start_asks img new v = ask 15 (is_sound v) ∷ ask 21 (second_fits img new) ∷ []

start_by : Bytes → Bytes → ℕ → Outcome Bytes
start_by img new n = record { after = img; answer = plain n }

pub old_perform : Step → Bytes → Outcome Bytes
old_perform (calling c) img = old_call c img
old_perform compacting img = old_compact img
old_perform (listing c work list) img = listed_outcome (listed (old_changed c) img work list)
old_perform (journaling c work j) img = journaled_outcome (journaled (old_changed c) img work j)
old_perform (storing key recs W) img = old_store img key recs W
old_perform (reading key room) img = old_read img key room
old_perform (converting L) img = old_convert img L
old_perform (dating name t) img =
    at_epoch_by img name t (first_no (old_opened img (at_epoch_asks (layout_of img) img name t)))
old_perform (starting new) img = start_by img new (first_no (old_opened img (start_asks img new (old_check img))))

-- questions 1 to 4, by the answers to 1 and 3
create_asks_by : ℕ → ℕ → ℕ → Bool → Bool → List Question
create_asks_by L K N size slots = ask 1 size ∷ ask 2 (key_allowed K) ∷ ask 3 slots ∷ ask 4 (table_fits L K N) ∷ []

pub old_create : Bytes → ℕ → ℕ → ℕ → Outcome Bytes
old_create img K N seed =
    create_by img K N seed
    (first_no (create_asks_by (length img) K (slots_asked N) (old_size (length img)) (old_table (slots_asked N))))

pub old_walk : Bytes → ℕ → Stop
old_walk img i = walk_by img i (first_no (old_opened img []))

-- ---- on an image within the old limits

add-as-before : (img key data' : Bytes) (mode : ℕ) → Within img
    → add img key data' mode ≡ old_call (adding key data' mode) img
unfolding add old_call add_number add_by
add-as-before img key data' mode w =
    ap (λ (qs : List Question). add_by img key data' mode (first_no qs)) (opened-as-before img _ w)

delete-as-before : (img key : Bytes) → Within img → delete img key ≡ old_call (deleting key) img
unfolding delete old_call delete_number delete_by
delete-as-before img key w =
    ap (λ (qs : List Question). delete_by img key (first_no qs)) (opened-as-before img _ w)

lookup-as-before : (img key : Bytes) → Within img → lookup img key ≡ old_call (looking key) img
unfolding lookup old_call lookup_number lookup_offset lookup_start lookup_length lookup_text lookup_by offset_by
lookup-as-before img key w =
    ap (λ (qs : List Question). lookup_by img key (first_no qs)) (opened-as-before img _ w)

count-as-before : (img : Bytes) → Within img → count img ≡ old_call counting img
unfolding count old_call count_of open_number count_by
count-as-before img w = ap (λ (qs : List Question). count_by img (first_no qs)) (opened-as-before img [] w)

pub check-as-before : (img : Bytes) → Within img → check img ≡ old_check img
unfolding check old_check check_by open_number
check-as-before img w = ap (λ (qs : List Question). check_by img (first_no qs)) (opened-as-before img [] w)

compact-as-before : (img : Bytes) → Within img → compact img ≡ old_compact img
unfolding compact old_compact compact_number compact_by
compact-as-before img w =
    ap (λ (qs : List Question). compact_by img (first_no qs))
    (opened-as-before img _ w
    ∙ ap (λ (v : Verdict). old_opened img (ask 15 (is_sound v) ∷ [])) (check-as-before img w))

store-as-before : (img key recs : Bytes) (W : ℕ) → Within img → store_records img key recs W ≡ old_store img key recs W
unfolding store_records old_store store_number store_by
store-as-before img key recs W w =
    ap (λ (qs : List Question). store_by img key recs W (first_no qs)) (opened-as-before img _ w)

read-as-before : (img key : Bytes) (room : ℕ) → Within img → read_records img key room ≡ old_read img key room
unfolding read_records old_read read_number read_asks stored_bytes read_by lookup
read-as-before img key room w =
    let g : Layout = layout_of img in
    let by : Bytes → List Question =
    λ t. lookup_asks g img (search g img key) key ++ (ask 19 (readable t room) ∷ []) in
    let same' : stored_bytes img key ≡ bytes_of (old_call (looking key) img).answer.text =
    ap (λ (o : Outcome Bytes). bytes_of o.answer.text) (lookup-as-before img key w) in
    ap (λ (qs : List Question). read_by img (first_no qs) (stored_bytes img key)) (opened-as-before img _ w)
    ∙ ap (λ (t : Bytes). read_by img (first_no (old_opened img (by t))) t) same'

convert-as-before : (img : Bytes) (L : ℕ) → Within img → convert img L ≡ old_convert img L
unfolding convert old_convert convert_number convert_by
convert-as-before img L w =
    ap₂ (λ (a b : Bool). convert_by img L a b (check img)) (size-as-before (length img) w.size)
    (header-as-before img w.slots)
    ∙ ap (convert_by img L (old_size (length img)) (old_header img)) (check-as-before img w)

call-as-before : (c : Call) (img : Bytes) → Within img → call c img ≡ old_call c img
unfolding call
call-as-before (adding key data' mode) img w = add-as-before img key data' mode w
call-as-before (deleting key) img w = delete-as-before img key w
call-as-before (looking key) img w = lookup-as-before img key w
call-as-before counting img w = count-as-before img w

changed-as-before : (c : Change) (img : Bytes) → Within img → changed c img ≡ old_changed c img
unfolding changed old_changed
changed-as-before (adds key data' mode) img w = add-as-before img key data' mode w
changed-as-before (deletes key) img w = delete-as-before img key w
changed-as-before compacts img w = compact-as-before img w

-- a form goes by what its call does to the image that it is lent
listed_by : (f h : Bytes → Outcome Bytes) (img : Bytes) (work : ℕ) (list : Bytes) → f img ≡ h img
    → listed f img work list ≡ listed h img work list
unfolding listed
listed_by f h img work list e = rw e refl

journaled-by : (f h : Bytes → Outcome Bytes) (img : Bytes) (work : ℕ) (j : Bytes) → f img ≡ h img
    → journaled f img work j ≡ journaled h img work j
unfolding journaled journaled_number
journaled-by f h img work j e = rw e refl

at-epoch-as-before : (img name : Bytes) (t : ℕ) → Within img
    → dated_outcome img (at_epoch img name t) ≡ old_perform (dating name t) img
unfolding old_perform at_epoch at_epoch_number at_epoch_by
at-epoch-as-before img name t w =
    ap (λ (qs : List Question). at_epoch_by img name t (first_no qs)) (opened-as-before img _ w)

start-as-before : (img new : Bytes) → Within img → perform_on (starting new) img ≡ old_perform (starting new) img
unfolding perform_on old_perform grow_number start_by start_asks
start-as-before img new w =
    ap (λ (qs : List Question). start_by img new (first_no qs))
    (opened-as-before img _ w ∙ ap (λ (v : Verdict). old_opened img (start_asks img new v)) (check-as-before img w))

pub perform-as-before : (c : Step) (img : Bytes) → Within img → perform_on c img ≡ old_perform c img
unfolding perform_on old_perform
perform-as-before (calling c) img w = call-as-before c img w
perform-as-before compacting img w = compact-as-before img w
perform-as-before (listing c work list) img w =
    ap listed_outcome (listed_by (changed c) (old_changed c) img work list (changed-as-before c img w))
perform-as-before (journaling c work j) img w =
    ap journaled_outcome (journaled-by (changed c) (old_changed c) img work j (changed-as-before c img w))
perform-as-before (storing key recs W) img w = store-as-before img key recs W w
perform-as-before (reading key room) img w = read-as-before img key room w
perform-as-before (converting L) img w = convert-as-before img L w
perform-as-before (dating name t) img w = at-epoch-as-before img name t w
perform-as-before (starting new) img w = start-as-before img new w

pub create-as-before : (img : Bytes) (K N seed : ℕ) → length img ≤ old_image → slots_asked N ≤ old_slots
    → create img K N seed ≡ old_create img K N seed
unfolding create old_create create_by create_number create_asks create_asks_by
create-as-before img K N seed h k =
    ap₂ (λ (a b : Bool). create_by img K N seed (first_no (create_asks_by (length img) K (slots_asked N) a b)))
    (size-as-before (length img) h) (slots-as-before (slots_asked N) k)

pub walk-as-before : (img : Bytes) (i : ℕ) → Within img → key_walk img i ≡ old_walk img i
unfolding key_walk old_walk walk_by open_number
walk-as-before img i w = ap (λ (qs : List Question). walk_by img i (first_no qs)) (opened-as-before img [] w)
