-- Document 02, Job 14, "Epochs of monitoring prisms": "The last 4 key bytes become an epoch number, most significant
-- byte first. A new call takes a name of K − 4 bytes and an epoch t, and shows epoch and message of the entry of that
-- name with the largest epoch at most t (the lowest slot if two), or 14 when none has one." The name is the prism's.
--     dated_key name e, epoch_of K key   the key of a prism's entry with epoch e, and a key's epoch
--     chosen g img name t              that entry's slot, as a search ends: all N slots are looked at, wherever the
--                                      entries' homes are, so that it is the same for a damaged table
--     at_epoch img name t               the call's answer; it changes no byte
-- Assumes nothing.
use Rattle.std.specs.Prelude.{ℕ, zero, suc, ◌+◌, ◌-◌, Bool, cond, ◌&&◌, List, ◌∷◌, ◌++◌, length, drop, leb, eqb}
use Rattle.std.proofs.Math.Option.{Option, none}
use Rattle.spec_file.specs.Bytes.{Bytes, number, digits, same}
use Rattle.spec_file.specs.Image.{Layout, layout_of, slot, key_of, offset_of}
use Rattle.spec_file.specs.Search.{Probe, met, exhausted, is_met, slot_of}
use Rattle.spec_file.specs.Messages.{head_size, is_active, shown, shown_length}
use Rattle.spec_file.specs.Questions.{Question, ask, first_no, opened, shown_asks}
use Rattle.spec_file.specs.Inspect.{taken}

-- ---- keys

-- bytes of an epoch, and the shortest key that has a name beside it
abbrev pub epoch_size : ℕ
epoch_size = 4

abbrev pub least_key : ℕ
least_key = 5

unfoldable pub epoch_of : ℕ → Bytes → ℕ
epoch_of K key = number (drop (K - epoch_size) key)

-- the name, and the epoch's bytes after it
unfoldable pub dated_key : Bytes → ℕ → Bytes
dated_key name e = name ++ digits epoch_size e

-- The entry "of that name" with its own epoch, and that "at most t", by its key; of the file and of the book alike. A
-- key of bytes is so if and only if it begins with the name: `named-key` of crates/law_epoch/proofs/Choice.antt.
unfoldable pub dated_by : ℕ → Bytes → ℕ → Bytes → Bool
dated_by K name t key = same key (dated_key name (epoch_of K key)) && leb (epoch_of K key) t

-- ---- the choice

unfoldable pub epoch_at : Layout → Bytes → ℕ → ℕ
epoch_at g img i = epoch_of g.K (key_of g (slot g img i))

-- slot i holds such an entry; an empty slot holds none, also where the name is all zeros
unfoldable pub eligible : Layout → Bytes → Bytes → ℕ → ℕ → Bool
eligible g img name t i = taken g img i && dated_by g.K name t (key_of g (slot g img i))

-- "the largest epoch .. (the lowest slot if two)": the best so far, unless slot i has a larger epoch
unfoldable pub later : Layout → Bytes → Probe → ℕ → Probe
later g img best i = cond (is_met best && leb (epoch_at g img i) (epoch_at g img (slot_of best))) best (met i)

-- of the best so far and the slots from i on, those that are left
unfoldable pub latest : Layout → Bytes → Bytes → ℕ → ℕ → ℕ → Probe → Probe
latest g img name t zero i best = best
latest g img name t (suc left) i best =
    latest g img name t left (suc i) (cond (eligible g img name t i) (later g img best i) best)

unfoldable pub chosen : Layout → Bytes → Bytes → ℕ → Probe
chosen g img name t = latest g img name t g.N 0 exhausted

-- ---- the questions

-- "A file with K below 5 is answered 23"
unfoldable pub key_dated : ℕ → Bool
key_dated K = leb least_key K

-- "a name without K − 4 bytes 7": its bytes may be zeros
unfoldable pub prism_allowed : ℕ → Bytes → Bool
prism_allowed K name = eqb (length name) (K - epoch_size)

-- "23, after 6, then .. 7", "or 14 when none has one", "and the entry's message meets 11 last": 14 and 11 are lookup's
unfoldable pub at_epoch_asks : Layout → Bytes → Bytes → ℕ → List Question
at_epoch_asks g img name t =
    ask 23 (key_dated g.K) ∷ ask 7 (prism_allowed g.K name) ∷ shown_asks g img (chosen g img name t)

unfoldable pub at_epoch_number : Bytes → Bytes → ℕ → ℕ
at_epoch_number img name t = first_no (opened img (at_epoch_asks (layout_of img) img name t))

-- ---- the call

-- number; the epoch of the entry; where its text starts, and its length, both 0 with no active message; its text, or
-- none
pub record Dated : Type 0 where
  pub number : ℕ
  pub epoch : ℕ
  pub start : ℕ
  pub length : ℕ
  pub text : Option Bytes

-- "shows epoch and message of the entry": of slot i. An entry without an active message shows its epoch all the same.
unfoldable pub shown_at : Layout → Bytes → ℕ → Dated
shown_at g img i =
    let o : ℕ = offset_of g (slot g img i) in
    record {
      number = 0;
      epoch = epoch_at g img i;
      start = cond (is_active img o) (o + head_size g) 0;
      length = shown_length g img o;
      text = shown g img o;
    }

-- 02, Job 10: "a later job's refused call, answers 0 beside the number"
unfoldable pub refused_dated : ℕ → Dated
refused_dated n = record { number = n; epoch = 0; start = 0; length = 0; text = none }

unfoldable pub at_epoch : Bytes → Bytes → ℕ → Dated
at_epoch img name t =
    let g : Layout = layout_of img in
    let n : ℕ = at_epoch_number img name t in
    cond (eqb n 0) (shown_at g img (slot_of (chosen g img name t))) (refused_dated n)
