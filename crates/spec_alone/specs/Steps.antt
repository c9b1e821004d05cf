-- What a list of calls on one image may hold, and what each step does to a file, as crates/spec_book said it before
-- growth (Job 12) gave lists a second image.
--     Step, perform_on     a step of a list, with its arguments, and what it does to an image
--     State, perform       what a list goes over: one image; what a step does to it
-- Assumes nothing.
use Rattle.std.specs.Prelude.{ℕ}
use Rattle.spec_file.specs.Bytes.{Bytes}
use Rattle.spec_file.specs.Calls.{Outcome}
use Rattle.spec_file.specs.Lists.{Call, call}
use Rattle.spec_compaction.specs.Compact.{compact}
use Rattle.spec_conversion.specs.Convert.{convert}
use Rattle.spec_changes.specs.Changes.{listed}
use Rattle.spec_changes.specs.Journal.{journaled}
use Rattle.spec_records.specs.Records.{store_records, read_records}
use Rattle.spec_epoch.specs.Epochs.{Dated, at_epoch}
use Rattle.spec_book.specs.Steps.{Change, changed, listed_outcome, journaled_outcome}

-- Document 01's calls. Job 2, of compaction: "Lists of calls may now contain it". Job 8: "with a working slice that
-- also fills a lent list": the working slice's length, for its bytes do not matter, and the list. Job 9: "with Job 8's
-- working slice but no list", and a journal. Job 10: records and their width; the length of the slice that is lent for
-- them, for its bytes do not matter. Job 11, of the converter: "Lists of calls may contain it and go on in the target":
-- the target's length, for its bytes do not matter. Job 14: "After every list of calls this is the book's own choice":
-- of a prism's name, of any length, and an epoch, any number.
pub data Step : Type 0 where
  calling : Call → Step
  compacting : Step
  listing : Change → ℕ → Bytes → Step
  journaling : Change → ℕ → Bytes → Step
  storing : Bytes → Bytes → ℕ → Step
  reading : Bytes → ℕ → Step
  converting : ℕ → Step
  dating : Bytes → ℕ → Step

-- ---- one image

unfoldable pub dated_outcome : Bytes → Dated → Outcome Bytes
dated_outcome img d =
    record {
      after = img;
      answer = record { number = d.number; amount = d.length; text = d.text; epoch = d.epoch };
    }

unfoldable pub perform_on : Step → Bytes → Outcome Bytes
perform_on (calling c) img = call c img
perform_on compacting img = compact img
perform_on (listing c work list) img = listed_outcome (listed (changed c) img work list)
perform_on (journaling c work j) img = journaled_outcome (journaled (changed c) img work j)
perform_on (storing key recs W) img = store_records img key recs W
perform_on (reading key room) img = read_records img key room
perform_on (converting L) img = convert img L
perform_on (dating name t) img = dated_outcome img (at_epoch img name t)

-- ---- the state

-- what a list goes over: one image
pub data State : Type 0 where
  alone : Bytes → State

unfoldable pub alone_after : Outcome Bytes → Outcome State
alone_after o = record { after = alone o.after; answer = o.answer }

unfoldable pub perform : Step → State → Outcome State
perform c (alone img) = alone_after (perform_on c img)
