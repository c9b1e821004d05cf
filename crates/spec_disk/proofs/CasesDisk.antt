-- Cases of a power cut: an update cut in each place, and one without each of its flushes, which a cut harms. They hold
-- the model: a disk that may do less would be easier to be safe on. Each holds by computation.
-- Assumes nothing.
use mathlib.Core.Path.{◌≡◌, refl}
use Prim.Native.Nat.{ℕ, ◌-◌}
use mathlib.Core.List.{List, [], ◌∷◌, ◌++◌}
use lib.ListN.{take, get_or}
use Rattle.spec_file.specs.Bytes.{Bytes, zeros}
use Rattle.spec_changes.specs.Changes.{covered, runs}
use Rattle.spec_changes.specs.Journal.{content, marked, Block, to_journal, stretches, recovered}
use Rattle.spec_changes.proofs.CasesChanges.{journals}
use Rattle.spec_disk.specs.Disk.{Slices, Action, write, flush_image, flush_journal, wrote, flushed, done, all_done, left_from, left, still, found, Update, set_mark_at, write_image, completion, commit, acknowledged, withdrawal, recovery, amid, partly, first, seen_disk}

-- ---- updates of four bytes; the journal has 23, of which the last is the mark

powers : ℕ
unfolding journals covered wrote flushed done all_done left_from left still found set_mark_at write_image completion commit
    withdrawal recovery partly first seen_disk
powers = 0

abbrev old : Bytes
old = 1 ∷ 2 ∷ 3 ∷ 4 ∷ []

abbrev new : Bytes
new = 1 ∷ 9 ∷ 3 ∷ 9 ∷ []

abbrev newest : Bytes
newest = 1 ∷ 9 ∷ 7 ∷ 9 ∷ []

-- no base: it would stand behind the content, which reaches the mark
abbrev none : Block
none = record { place = 22; bytes = [] }

abbrev update : Bytes → Bytes → Update
update a b = record { spans = runs 0 a b; new = b; base = none }

abbrev start : Slices
start = found (record { image = old; journal = zeros 23 })

-- a cut behind these actions; the late bytes of image and journal are found as these
abbrev after : List Action → Bytes → Bytes → Bytes
after acts i j = (recovered (left (λ k. get_or i k 0) (λ k. get_or j k 0) (all_done acts start))).image

abbrev held : Bytes
held = 0 ∷ 0 ∷ 0 ∷ 2 ∷ 0 ∷ 0 ∷ 0 ∷ 1 ∷ 0 ∷ 0 ∷ 0 ∷ 1 ∷ 0 ∷ 0 ∷ 0 ∷ 3 ∷ 0 ∷ 0 ∷ 0 ∷ 1 ∷ 9 ∷ 9 ∷ 165 ∷ []

-- one new byte is another
torn : Bytes
torn = 0 ∷ 0 ∷ 0 ∷ 2 ∷ 0 ∷ 0 ∷ 0 ∷ 1 ∷ 0 ∷ 0 ∷ 0 ∷ 1 ∷ 0 ∷ 0 ∷ 0 ∷ 3 ∷ 0 ∷ 0 ∷ 0 ∷ 1 ∷ 9 ∷ 77 ∷ 165 ∷ []

-- what is recovered of what programs see
after-all : Slices → Bytes
unfolding powers
after-all s = (recovered (seen_disk s)).image

-- ---- the update as it is, cut in each place

at : ℕ → Bytes → Bytes → Bytes
unfolding powers
at n i j = after (take n (commit 22 (update old new))) i j

content-late : at 2 [] torn ≡ old
unfolding at powers torn
content-late = refl

content-flushed : at 3 [] torn ≡ old
unfolding at powers torn
content-flushed = refl

mark-late : at 4 [] torn ≡ new
unfolding at powers torn
mark-late = refl

mark-lost : at (acknowledged - 1) [] [] ≡ old
unfolding at powers
mark-lost = refl

-- from here on it is acknowledged
mark-flushed : at acknowledged [] [] ≡ new
unfolding at powers
mark-flushed = refl

stretch-late : at 6 (5 ∷ 5 ∷ 5 ∷ 5 ∷ []) [] ≡ new
unfolding at powers
stretch-late = refl

stretches-late : at 7 (5 ∷ 5 ∷ 5 ∷ 5 ∷ []) [] ≡ new
unfolding at powers
stretches-late = refl

stretches-flushed : at 8 (5 ∷ 5 ∷ 5 ∷ 5 ∷ []) [] ≡ new
unfolding at powers
stretches-flushed = refl

unmark-late : at 10 [] [] ≡ new
unfolding at powers
unmark-late = refl

unmark-lost : at 10 [] held ≡ new
unfolding at powers
unmark-lost = refl

-- ---- a base

abbrev with-base : ℕ → Update
with-base place = record { spans = runs 0 old new; new = new; base = record { place = place; bytes = 7 ∷ [] } }

-- of one byte, in a journal of 24: it is late, then the mark too; content stays whole
based : ℕ → Bytes
unfolding powers
based n =
    (recovered (left (λ k. 5) (λ k. 0)
    (all_done (take n (commit 23 (with-base 22))) (found (record { image = old; journal = zeros 24 }))))).image

base-late : based 9 ≡ new
unfolding based powers
base-late = refl

base-and-mark-late : based 10 ≡ new
unfolding based powers
base-and-mark-late = refl

-- over the content's last byte: the mark still stands, and what it stands for is junk
base-over-content : after (take 9 (commit 22 (with-base 21))) [] torn ≡ 1 ∷ 9 ∷ 3 ∷ 77 ∷ []
unfolding powers torn
base-over-content = refl

-- ---- a process that ends amid a write: of content, of a stretch; not of the mark

abbrev ended : ℕ → Slices
ended n = all_done (first (amid (λ k. 77)) n (commit 22 (update old new))) start

amid-content : (take 5 (ended 1).journal.seen ≡ 77 ∷ 77 ∷ 77 ∷ 77 ∷ 77 ∷ []) × (after-all (ended 1) ≡ old)
unfolding powers after-all
amid-content = (refl, refl)

amid-mark : ended 3 ≡ all_done (take 3 (commit 22 (update old new))) start
unfolding powers
amid-mark = refl

amid-stretch : ((ended 5).image.seen ≡ 1 ∷ 77 ∷ 3 ∷ 4 ∷ []) × (after-all (ended 5) ≡ new)
unfolding powers after-all
amid-stretch = (refl, refl)

-- ---- without a flush

abbrev journalled : Bytes → Bytes → Action
journalled a b = write (to_journal (record { place = 0; bytes = content (runs 0 a b) b }))

abbrev images : Bytes → Bytes → List Action
images a b = write_image (stretches (runs 0 a b) b)

-- content and mark: the mark is there, a byte of content is not
no-flush-1 : after (journalled old new ∷ set_mark_at 22 marked ∷ []) [] torn ≡ 1 ∷ 9 ∷ 3 ∷ 77 ∷ []
unfolding powers torn
no-flush-1 = refl

-- mark and stretches: a stretch is there, the mark is not
no-flush-2 : after (journalled old new ∷ flush_journal ∷ set_mark_at 22 marked ∷ images old new) (0 ∷ 9 ∷ 0 ∷ 4 ∷ []) []
    ≡ 1 ∷ 9 ∷ 3 ∷ 4 ∷ []
unfolding powers
no-flush-2 = refl

-- stretches and mark 0: the mark is gone, a stretch is not there
no-flush-3 : after
    (journalled old new ∷ flush_journal ∷ set_mark_at 22 marked ∷ flush_journal ∷ (images old new ++ (set_mark_at 22 0 ∷ [])))
    (0 ∷ 9 ∷ 0 ∷ 4 ∷ []) [] ≡ 1 ∷ 9 ∷ 3 ∷ 4 ∷ []
unfolding powers
no-flush-3 = refl

-- mark 0 and the next content: the old mark stands behind content that is not whole
no-flush-4 : after (commit 22 (update old new) ++ (journalled new newest ∷ [])) []
    (0 ∷ 0 ∷ 0 ∷ 1 ∷ 0 ∷ 0 ∷ 0 ∷ 2 ∷ 0 ∷ 0 ∷ 0 ∷ 1 ∷ 77 ∷ 0 ∷ 0 ∷ 0 ∷ 0 ∷ 0 ∷ 0 ∷ 0 ∷ 0 ∷ 0 ∷ 165 ∷ [])
    ≡ 1 ∷ 9 ∷ 77 ∷ 9 ∷ []
unfolding powers
no-flush-4 = refl

-- and even whole, the next update would be there before its mark was written
no-flush-4-early : after (commit 22 (update old new) ++ (journalled new newest ∷ [])) []
    (0 ∷ 0 ∷ 0 ∷ 1 ∷ 0 ∷ 0 ∷ 0 ∷ 2 ∷ 0 ∷ 0 ∷ 0 ∷ 1 ∷ 7 ∷ 0 ∷ 0 ∷ 0 ∷ 0 ∷ 0 ∷ 0 ∷ 0 ∷ 0 ∷ 0 ∷ 165 ∷ []) ≡ newest
unfolding powers
no-flush-4-early = refl

-- ---- a mark whose flush failed, taken back

-- not flushed, the mark may still be there
back-late : after (take (acknowledged - 1) (commit 22 (update old new)) ++ (set_mark_at 22 0 ∷ [])) [] held ≡ new
unfolding powers
back-late = refl

back-flushed : after (take (acknowledged - 1) (commit 22 (update old new)) ++ withdrawal 22) [] held ≡ old
unfolding powers
back-flushed = refl

-- ---- the next update: its content late, the old mark gone for good

next-content : after (take 12 (commit 22 (update old new) ++ commit 22 (update new newest))) []
    (0 ∷ 0 ∷ 0 ∷ 1 ∷ 0 ∷ 0 ∷ 0 ∷ 2 ∷ 0 ∷ 0 ∷ 0 ∷ 1 ∷ 77 ∷ 0 ∷ 0 ∷ 0 ∷ 0 ∷ 0 ∷ 0 ∷ 0 ∷ 0 ∷ 0 ∷ 165 ∷ []) ≡ new
unfolding powers
next-content = refl

-- ---- a flush is of one slice

other-flush-1 : after (journalled old new ∷ flush_journal ∷ set_mark_at 22 marked ∷ flush_image ∷ []) [] [] ≡ old
unfolding powers
other-flush-1 = refl

other-flush-2 : after
    (journalled old new ∷ flush_journal ∷ set_mark_at 22 marked ∷ flush_journal
    ∷ (images old new ++ (flush_journal ∷ set_mark_at 22 0 ∷ [])))
    (0 ∷ 9 ∷ 0 ∷ 4 ∷ []) [] ≡ 1 ∷ 9 ∷ 3 ∷ 4 ∷ []
unfolding powers
other-flush-2 = refl

-- ---- recovery, of a writer that was killed with its mark late; two actions, and power is cut

abbrev killed : Slices
killed = all_done (take 4 (commit 22 (update old new))) start

rescue : ℕ → Bytes → Bytes → Bytes
unfolding powers
rescue n i j =
    (recovered
    (left (λ k. get_or i k 0) (λ k. get_or j k 0)
    (all_done (take n (recovery 22 none killed.journal.seen)) killed))).image

rescue-none : rescue 0 [] [] ≡ old
unfolding rescue powers
rescue-none = refl

rescue-flush : rescue 1 [] [] ≡ new
unfolding rescue powers
rescue-flush = refl

rescue-stretch : rescue 2 (0 ∷ 9 ∷ 0 ∷ 4 ∷ []) [] ≡ new
unfolding rescue powers
rescue-stretch = refl

rescue-all : rescue 9 [] held ≡ new
unfolding rescue powers
rescue-all = refl

-- a journal that is not marked is let alone
unmarked : recovery 22 none (zeros 23) ≡ []
unfolding powers
unmarked = refl

-- ---- recovery that writes 0 over a mark that is none, not flushed: content that was never whole is taken

no-mark-needed : (recovered (left (λ k. 0) (λ k. 165)
    (all_done (set_mark_at 22 0 ∷ []) (found (left (λ k. 0) (λ k. get_or torn k 0)
    (all_done (take 2 (commit 22 (update old new))) start)))))).image ≡ 1 ∷ 9 ∷ 3 ∷ 77 ∷ []
unfolding powers torn
no-mark-needed = refl
