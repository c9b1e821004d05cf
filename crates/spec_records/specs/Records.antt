-- Document 02, Job 10, as calls on any image bytes: records are stored by column under a name, and read back.
--     store_records img key recs W      the image afterwards, and the answer
--     read_records img key room         the answer to a reading with a lent slice of so many bytes; the image stays
--     filled_records img key out        what the lent slice holds afterwards
--     Stores, Reads                    what the contracts of the calls say
-- Assumes nothing.
use Rattle.std.specs.Prelude.{ℕ, ◌-◌, Bool, cond, ◌&&◌, List, [], ◌∷◌, ◌++◌, ◌≡◌, length, leb, eqb}
use Rattle.std.proofs.Math.Option.{some}
use Rattle.spec_file.specs.Bytes.{Bytes, store}
use Rattle.spec_file.specs.Image.{Layout, layout_of}
use Rattle.spec_file.specs.Search.{Probe, search}
use Rattle.spec_file.specs.Messages.{bytes_of, added}
use Rattle.spec_file.specs.Questions.{Question, ask, first_no, name_allowed, opened, point_asks, lookup_asks}
use Rattle.spec_file.specs.Calls.{Answer, Outcome, plain, settled, lookup_text}
use Rattle.spec_columns.specs.Columns.{whole_records, whole_columns, columns, records}

-- ---- storing

-- "A width out of range, record bytes not a multiple of W, .. is answered 19, after 7 when storing"; after it come the
-- questions that add puts in mode 2 of the bytes that are stored: "stores, as mode 2 does". There is no 8, since there
-- is no mode.
unfoldable pub store_asks : Layout → Bytes → Probe → Bytes → Bytes → ℕ → List Question
store_asks g img s key recs W =
    ask 7 (name_allowed g.K key) ∷ ask 19 (whole_records W (length recs)) ∷ point_asks g img s (columns W recs) 2

unfoldable pub store_number : Bytes → Bytes → Bytes → ℕ → ℕ
store_number img key recs W =
    let g : Layout = layout_of img in
    first_no (opened img (store_asks g img (search g img key) key recs W))

-- "A storing form takes records and W from 1 to 64, and stores, as mode 2 does, one byte W followed by the first byte
-- of every record, then the second bytes, and so on."
unfoldable pub store_records : Bytes → Bytes → Bytes → ℕ → Outcome Bytes
store_records img key recs W =
    let n : ℕ = store_number img key recs W in
    record { after = settled n img (added (layout_of img) img key (columns W recs) 2); answer = plain n }

-- ---- reading

-- what is stored under the name: the text that lookup shows, no bytes where it shows none
unfoldable pub stored_bytes : Bytes → Bytes → Bytes
stored_bytes img key = bytes_of (lookup_text img key)

-- "A width out of range, record bytes not a multiple of W, or a slice too short is answered 19", of what is stored and
-- a slice of so many bytes
unfoldable pub readable : Bytes → ℕ → Bool
readable stored room = whole_columns stored && leb (length stored - 1) room

-- ".. after 11 when reading"
unfoldable pub read_asks : Layout → Bytes → Probe → Bytes → ℕ → List Question
read_asks g img s key room = lookup_asks g img s key ++ (ask 19 (readable (stored_bytes img key) room) ∷ [])

unfoldable pub read_number : Bytes → Bytes → ℕ → ℕ
read_number img key room =
    let g : Layout = layout_of img in
    first_no (opened img (read_asks g img (search g img key) key room))

-- "fills a lent slice with the records and answers their byte count"; "A refused reading .. answers 0 beside the
-- number." The file's answer and the book's: by the number, and by what is stored.
unfoldable pub records_answer : ℕ → Bytes → Answer
records_answer n stored =
    cond (eqb n 0)
    (record { number = 0; amount = length (records stored); text = some (records stored); epoch = 0 })
    (plain n)

unfoldable pub read_records : Bytes → Bytes → ℕ → Outcome Bytes
read_records img key room =
    record { after = img; answer = records_answer (read_number img key room) (stored_bytes img key) }

-- the lent slice: the records from its start on. 01: "a call that fills a slice leaves the bytes behind its answer",
-- and "A refused call, also of a later job, changes no byte of any lent slice".
unfoldable pub filled_records : Bytes → Bytes → Bytes → Bytes
filled_records img key out =
    settled (read_number img key (length out)) out (store out 0 (records (stored_bytes img key)))

-- ---- what the contracts of the calls say: the answer, and every byte that they may write

pub record Stores (img key recs : Bytes) (W : ℕ) (after : Bytes) (n : ℕ) : Type 0 where
  pub number : n ≡ (store_records img key recs W).answer.number
  pub image : after ≡ (store_records img key recs W).after

-- out and filled: the lent slice before the call and after it
pub record Reads (img key out filled : Bytes) (n m : ℕ) : Type 0 where
  pub number : n ≡ (read_records img key (length out)).answer.number
  pub count : m ≡ (read_records img key (length out)).answer.amount
  pub slice : filled ≡ filled_records img key out
