-- What a list of calls may hold, and what each step does to a file: document 01's calls, and those that document 02
-- adds, each in its form.
--     Change, changed      a call that has the forms of Jobs 8 and 9, and what it does to an image
--     Step, perform_on      a step of a list, with its arguments, and what it does to an image
--     perform_pair          what a step does to the pair of images during growth
--     State, perform       what a list goes over: one image, or during growth two; what a step does to it
-- Assumes nothing.
use Rattle.std.specs.Prelude.{ℕ, cond, eqb}
use Rattle.std.proofs.Math.Option.{Option, none, some}
use Rattle.spec_file.specs.Bytes.{Bytes}
use Rattle.spec_file.specs.Calls.{Outcome, plain, add, delete}
use Rattle.spec_file.specs.Lists.{Call, adding, deleting, looking, counting, call}
use Rattle.spec_compaction.specs.Compact.{compact}
use Rattle.spec_conversion.specs.Convert.{convert}
use Rattle.spec_changes.specs.Changes.{Listed, listed}
use Rattle.spec_changes.specs.Journal.{Journaled, journaled}
use Rattle.spec_records.specs.Records.{store_records, read_records}
use Rattle.spec_epoch.specs.Epochs.{Dated, at_epoch}
use Rattle.spec_moves.specs.Moves.{Pair, grow_number, lowest_slot}
use Rattle.spec_growth.specs.Growth.{grow_add, grow_delete, grow_lookup, grow_count, grow_store, grow_read, grow_at_epoch}

-- Job 8: "Add, delete and compaction get a form"; Job 9: "a form of those calls"
pub data Change : Type 0 where
  adds : Bytes → Bytes → ℕ → Change
  deletes : Bytes → Change
  compacts : Change

unfoldable pub changed : Change → Bytes → Outcome Bytes
changed (adds key data' mode) img = add img key data' mode
changed (deletes key) img = delete img key
changed compacts img = compact img

-- Document 01's calls. Job 2, of compaction: "Lists of calls may now contain it". Job 8: "with a working slice that
-- also fills a lent list": the working slice's length, for its bytes do not matter, and the list. Job 9: "with Job 8's
-- working slice but no list", and a journal. Job 10: records and their width; the length of the slice that is lent for
-- them, for its bytes do not matter. Job 11, of the converter: "Lists of calls may contain it and go on in the target":
-- the target's length, for its bytes do not matter. Job 14: "After every list of calls this is the book's own choice":
-- of a prism's name, of any length, and an epoch, any number. Job 12: "Lists of calls that contain the start": with its
-- second image.
pub data Step : Type 0 where
  calling : Call → Step
  compacting : Step
  listing : Change → ℕ → Bytes → Step
  journaling : Change → ℕ → Bytes → Step
  storing : Bytes → Bytes → ℕ → Step
  reading : Bytes → ℕ → Step
  converting : ℕ → Step
  dating : Bytes → ℕ → Step
  starting : Bytes → Step

-- ---- one image

unfoldable pub listed_outcome : Listed → Outcome Bytes
listed_outcome l = record { after = l.after; answer = plain l.number }

unfoldable pub journaled_outcome : Journaled → Outcome Bytes
journaled_outcome l = record { after = l.after; answer = plain l.number }

unfoldable pub dated_outcome : {S : Type 0} → S → Dated → Outcome S
dated_outcome s d =
    record {
      after = s;
      answer = record { number = d.number; amount = d.length; text = d.text; epoch = d.epoch };
    }

unfoldable pub perform_on : Step → Bytes → Outcome Bytes
perform_on (calling c) img = call c img
perform_on compacting img = compact img
perform_on (listing c work list) img = listed_outcome (listed (changed c) img work list)
perform_on (journaling c work j) img = journaled_outcome (journaled (changed c) img work j)
perform_on (storing key recs W) img = store_records img key recs W
perform_on (reading key room) img = read_records img key room
perform_on (converting L) img = convert img L
perform_on (dating name t) img = dated_outcome img (at_epoch img name t)
perform_on (starting new) img = record { after = img; answer = plain (grow_number img new) }

-- ---- two images

unfoldable pub grow_call : Call → Pair → Outcome Pair
grow_call (adding key data' mode) p = grow_add p key data' mode
grow_call (deleting key) p = grow_delete p key
grow_call (looking key) p = grow_lookup p key
grow_call counting p = grow_count p

-- a step that a list does not hold during growth: what it would do does not matter
abbrev passed : Pair → Outcome Pair
passed p = record { after = p; answer = plain 0 }

unfoldable pub perform_pair : Step → Pair → Outcome Pair
perform_pair (calling c) p = grow_call c p
perform_pair compacting p = passed p
perform_pair (listing c work list) p = passed p
perform_pair (journaling c work j) p = passed p
perform_pair (storing key recs W) p = grow_store p key recs W
perform_pair (reading key room) p = grow_read p key room
perform_pair (converting L) p = passed p
perform_pair (dating name t) p = dated_outcome p (grow_at_epoch p name t)
perform_pair (starting new) p = passed p

-- ---- the state

-- what a list goes over: one image, or during growth two
pub data State : Type 0 where
  alone : Bytes → State
  growing : Pair → State

-- Job 12: "when no point is left the old image is finished with"
unfoldable pub left_in : Pair → Option ℕ → State
left_in p none = alone p.new
left_in p (some i) = growing p

unfoldable pub pair_state : Pair → State
pair_state p = left_in p (lowest_slot p.old)

-- the second image that a step starts growth with, if it is a start
unfoldable pub second_of : Step → Option Bytes
second_of (calling c) = none
second_of compacting = none
second_of (listing c work list) = none
second_of (journaling c work j) = none
second_of (storing key recs W) = none
second_of (reading key room) = none
second_of (converting L) = none
second_of (dating name t) = none
second_of (starting new) = some new

-- an accepted start begins growth; after any other step on one image there is one, as that step left it
unfoldable pub goes_on : Bytes → Outcome Bytes → Option Bytes → State
goes_on img o none = alone o.after
goes_on img o (some new) =
    cond (eqb o.answer.number 0) (pair_state (record { old = img; new = new })) (alone img)

unfoldable pub alone_after : Step → Bytes → Outcome Bytes → Outcome State
alone_after c img o = record { after = goes_on img o (second_of c); answer = o.answer }

unfoldable pub pair_after : Outcome Pair → Outcome State
pair_after o = record { after = pair_state o.after; answer = o.answer }

unfoldable pub perform : Step → State → Outcome State
perform c (alone img) = alone_after c img (perform_on c img)
perform c (growing p) = pair_after (perform_pair c p)
