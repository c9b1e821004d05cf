-- More cases of the key walk and of the check.
-- Assumes nothing.
use mathlib.Core.Path.{◌≡◌, refl}
use Prim.Native.Nat.{ℕ}
use mathlib.Core.List.{[], ◌∷◌, ◌++◌}
use Rattle.spec_file.specs.Bytes.{Bytes, store, zeros}
use Rattle.spec_file.specs.Lists.{adding}
use Rattle.spec_file.specs.Inspect.{Stop, stopped, end, key_walk, stop_number, key_start, key_shown, Verdict, sound, slot_bad, count_bad, check, verdict_number}
use Rattle.spec_file.proofs.CasesBase.{inspect-definitions, headed, after, one, two}
use Rattle.spec_file.proofs.CasesInspect.{pair, Checked, no, slot_of}
use Rattle.spec_file.proofs.CasesOthers.{others, left}

-- ---- the walk

-- no slot is taken; an image that question 5 refuses
pub walk_none : (key_walk (headed 2 3 4096) 0 ≡ end) × (key_walk (zeros 4096) 0 ≡ Stop.refused 5)
unfolding inspect-definitions headed
walk_none = (refl, refl)

-- a stop as numbers: the walk's number, and where the part starts that it shows; the part
abbrev pub Shown : Stop → ℕ → ℕ → Bytes → Type 0
Shown s number start key = (stop_number s ≡ number) × (key_start pair s ≡ start) × (key_shown pair s ≡ key)

-- "its key as a part of the image"; "The end and a refusal show the image's first 0 bytes."
pub walk-shows : Shown (stopped 1) 0 2054 (0 ∷ 7 ∷ []) × Shown (stopped 2) 0 2060 (5 ∷ 0 ∷ []) × Shown end 0 0 []
    × Shown (Stop.refused 6) 6 0 []
unfolding inspect-definitions pair
walk-shows = ((refl, refl, refl), (refl, refl, refl), (refl, refl, refl), (refl, refl, refl))

-- ---- the check

-- "The check says sound when each taken slot's key, searched, ends there, its message passes 11, and C is the number of
-- taken slots": no slot taken, also with offset bytes; all four.
pub check_sound : Checked 0 [] sound × Checked 1 (slot_of 0 9 ++ no ++ no ++ slot_of 1 0) sound
    × Checked 4 (slot_of 2 0 ++ slot_of 3 0 ++ slot_of 4 0 ++ slot_of 1 0) sound
unfolding inspect-definitions headed
check_sound = (refl, refl, refl)

-- with active and inactive messages
pub check-messages : check (store (after (adding one (80 ∷ []) 1 ∷ adding two (81 ∷ []) 1 ∷ []) (headed 1 4 8192)) 4101
    (100 ∷ [])) ≡ sound
unfolding inspect-definitions after headed
check-messages = refl

-- A key whose search ends at an empty slot, or at the same key in another slot, fails; so does a message; in the last
-- slot too. "Else it names the lowest failing slot".
pub check-slot : Checked 1 (no ++ slot_of 1 0) (slot_bad 1) × Checked 2 (slot_of 1 0 ++ no ++ no ++ slot_of 1 0) (slot_bad 0)
    × Checked 1 (no ++ no ++ no ++ slot_of 1 9) (slot_bad 3)
    × Checked 3 (slot_of 2 0 ++ slot_of 3 9 ++ no ++ slot_of 1 9) (slot_bad 1)
unfolding inspect-definitions headed
check-slot = (refl, refl, refl, refl)

-- refused: questions 1, 5 and 6
pub check-refused : (check [] ≡ Verdict.refused 1) × (check (zeros 4096) ≡ Verdict.refused 5)
    × Checked 5 [] (Verdict.refused 6)
unfolding inspect-definitions headed
check-refused = (refl, refl, refl)

-- the check's number
pub verdict-numbers : verdict_number (Verdict.refused 5) ∷ verdict_number sound ∷ verdict_number (slot_bad 3)
    ∷ verdict_number count_bad ∷ [] ≡ 5 ∷ 0 ∷ 0 ∷ 0 ∷ []
unfolding inspect-definitions
verdict-numbers = refl

-- images that no call of ours made
pub others-sound : check others ≡ sound
unfolding inspect-definitions others
others-sound = refl

pub left-sound : check left ≡ sound
unfolding inspect-definitions left
left-sound = refl
