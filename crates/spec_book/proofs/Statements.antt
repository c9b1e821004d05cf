-- What demand 3 and its cases say, of an image that the check calls sound: an edit of a statement falls here.
-- Assumes nothing.
use mathlib.Core.Path.{◌≡◌, refl}
use Prim.Native.Nat.{ℕ, ◌<◌}
use mathlib.Core.Bool.{true, false}
use mathlib.Core.List.{List, ◌∷◌, ◌++◌}
use mathlib.Core.Logic.{inr}
use lib.ListN.{get_or}
use Rattle.spec_file.specs.Bytes.{Bytes}
use Rattle.spec_file.specs.Lists.{Call, answers, state_after}
use Rattle.spec_file.specs.Inspect.{check, sound}
use Rattle.spec_moves.specs.Moves.{Pair}
use Rattle.spec_book.specs.Steps.{Change, Step, calling, compacting, listing, journaling, storing, reading, converting, dating, starting, alone, growing, second_of, perform}
use Rattle.spec_book.specs.Told.{told_by, book_told}
use Rattle.spec_book.specs.Reopened.{book_of, Starts, Reopened}
use Rattle.spec_book.specs.Demand.{state_text, book_text, held_in_growth, permits, Permitted, Agrees, Demand3, AllAre, no_start, AgreementOfForms, GrowthAgreement}

module _ (img : Bytes) (bytes : (i : ℕ) → get_or img i 0 < 256) (checked : check img ≡ sound) (steps : List Step) where
  -- the file's answers are those of the book read off it, and afterwards it finds what that book has
  abbrev Says : Type 0
  Says =
      (answers perform steps (alone img) ≡ answers book_told (told_by steps (alone img)) (book_of img))
      × ((name : Bytes) → state_text (state_after perform steps (alone img)) name
      ≡ book_text (state_after book_told (told_by steps (alone img)) (book_of img)) name)

  pub demand-says : Demand3 → Permitted steps (alone img) → Says
  unfolding Demand3 Agrees Starts
  demand-says h p =
      h (alone img) (book_of img) (inr (record { bytes = bytes; checked = checked; book-is = refl })) steps p

  pub forms-say : AgreementOfForms → AllAre no_start steps → Says
  unfolding AgreementOfForms Agrees Starts
  forms-say h = h img (book_of img) (inr (record { bytes = bytes; checked = checked; book-is = refl })) steps

-- a start and what follows it, with the whole list's answers and texts
pub growth-says : (img new : Bytes) (bytes : (i : ℕ) → get_or img i 0 < 256) (checked : check img ≡ sound)
    (before after : List Step) → GrowthAgreement → AllAre no_start before → AllAre held_in_growth after
    → Says img bytes checked (before ++ (starting new ∷ after))
unfolding GrowthAgreement Agrees Starts
growth-says img new bytes checked before after h =
    h img (book_of img) (inr (record { bytes = bytes; checked = checked; book-is = refl })) before after new

-- one image takes every step
pub one-takes-all : (c : Step) (img : Bytes) → permits c (alone img) ≡ true
unfolding permits
one-takes-all c img = refl

-- two images take 01's calls, storing, reading and the choice by epoch
pub two-take : (p : Pair) (c : Call) (name bytes : Bytes) (n : ℕ)
    → (permits (calling c) (growing p) ≡ true) × (permits (storing name bytes n) (growing p) ≡ true)
    × (permits (reading name n) (growing p) ≡ true) × (permits (dating name n) (growing p) ≡ true)
unfolding permits held_in_growth
two-take p c name bytes n = (refl, refl, refl, refl)

-- and no other: "until then a list holds no compaction, conversion or further start"
pub two-refuse : (p : Pair) (d : Change) (new : Bytes) (n : ℕ)
    → (permits compacting (growing p) ≡ false) × (permits (listing d n new) (growing p) ≡ false)
    × (permits (journaling d n new) (growing p) ≡ false) × (permits (converting n) (growing p) ≡ false)
    × (permits (starting new) (growing p) ≡ false)
unfolding permits held_in_growth
two-refuse p d new n = (refl, refl, refl, refl, refl)

-- a list without a start holds every other step
pub starts-alone : (c : Call) (d : Change) (name bytes : Bytes) (n : ℕ)
    → (no_start (calling c) ≡ true) × (no_start compacting ≡ true) × (no_start (listing d n bytes) ≡ true)
    × (no_start (journaling d n bytes) ≡ true) × (no_start (storing name bytes n) ≡ true)
    × (no_start (reading name n) ≡ true) × (no_start (converting n) ≡ true) × (no_start (dating name n) ≡ true)
unfolding no_start second_of
starts-alone c d name bytes n = (refl, refl, refl, refl, refl, refl, refl, refl)
