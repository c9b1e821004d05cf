-- Document 02, Job 14, "Epochs of monitoring prisms": cases, by computation, on tables that no list of calls makes:
-- entries stand where their searches would not find them, one of them twice.
--     epoch-definitions      unfolding it unfolds all that the call computes with
--     weekly                 K = 6, N = 5: prism 7, 1 with epochs 1, 256 and 256 again, prism 7, 2 with epoch 200
--     notes                  K = 5, N = 5: one prism, 0, with five kinds of messages; 4 to 0 are its epochs
-- Assumes nothing.
use mathlib.Core.Path.{◌≡◌, refl}
use Prim.Native.Nat.{ℕ}
use mathlib.Core.List.{List, [], ◌∷◌, ◌++◌}
use mathlib.Core.Option.{none, some}
use Rattle.spec_file.specs.Bytes.{Bytes, store}
use Rattle.spec_file.specs.Limits.{points_field, free_field}
use Rattle.spec_file.specs.Image.{set_field, slot_bytes}
use Rattle.spec_file.proofs.CasesBase.{inspect-definitions, headed}
use Rattle.spec_epoch.specs.Epochs.{epoch_of, dated_key, dated_by, epoch_at, eligible, later, latest, chosen, key_dated, prism_allowed, at_epoch_asks, at_epoch_number, Dated, shown_at, refused_dated, at_epoch}

unfoldable pub epoch-definitions : ℕ
unfolding inspect-definitions
    epoch_of dated_key dated_by epoch_at eligible later latest chosen key_dated prism_allowed at_epoch_asks at_epoch_number
    shown_at refused_dated at_epoch
epoch-definitions = 0

-- what a call answers: a refusal; an epoch and no message; an epoch and a text from an offset on
abbrev pub refuses : ℕ → Dated
refuses n = record { number = n; epoch = 0; start = 0; length = 0; text = none }

abbrev pub dates : ℕ → Dated
dates e = record { number = 0; epoch = e; start = 0; length = 0; text = none }

abbrev pub dates-text : ℕ → ℕ → ℕ → Bytes → Dated
dates-text e start m t = record { number = 0; epoch = e; start = start; length = m; text = some t }

-- the answers to epochs in turn
unfoldable pub at_epochs : Bytes → Bytes → List ℕ → List Dated
unfolding epoch-definitions
at_epochs img name [] = []
at_epochs img name (t ∷ ts) = at_epoch img name t ∷ at_epochs img name ts

-- ---- the choice

-- Slot 0 is empty, with offset bytes. "P" of slot 1, "Q" of slot 2, "R" of slot 3 and "S" of slot 4 stand from D =
-- 4,096 on.
unfoldable pub weekly : Bytes
unfolding headed store set_field slot_bytes
weekly =
    set_field (set_field
    (store (store (headed 6 5 8192) 2048
    ((0 ∷ 0 ∷ 0 ∷ 0 ∷ 0 ∷ 0 ∷ 0 ∷ 0 ∷ 0 ∷ 9 ∷ []) ++ slot_bytes (7 ∷ 1 ∷ 0 ∷ 0 ∷ 0 ∷ 1 ∷ []) 4096
    ++ slot_bytes (7 ∷ 1 ∷ 0 ∷ 0 ∷ 1 ∷ 0 ∷ []) 4101 ++ slot_bytes (7 ∷ 2 ∷ 0 ∷ 0 ∷ 0 ∷ 200 ∷ []) 4106
    ++ slot_bytes (7 ∷ 1 ∷ 0 ∷ 0 ∷ 1 ∷ 0 ∷ []) 4111))
    4096 (97 ∷ 0 ∷ 0 ∷ 1 ∷ 80 ∷ 97 ∷ 0 ∷ 0 ∷ 1 ∷ 81 ∷ 97 ∷ 0 ∷ 0 ∷ 1 ∷ 82 ∷ 97 ∷ 0 ∷ 0 ∷ 1 ∷ 83 ∷ []))
    points_field 4) free_field 4116

-- "the largest epoch at most t (the lowest slot if two), or 14 when none has one": of slots 2 and 4 slot 2
pub largest-at-most : at_epochs weekly (7 ∷ 1 ∷ []) (0 ∷ 1 ∷ 255 ∷ 256 ∷ 4294967295 ∷ [])
    ≡ refuses 14 ∷ dates-text 1 4100 1 (80 ∷ []) ∷ dates-text 1 4100 1 (80 ∷ [])
    ∷ dates-text 256 4105 1 (81 ∷ []) ∷ dates-text 256 4105 1 (81 ∷ []) ∷ []
unfolding at_epochs weekly
largest-at-most = refl

-- of another prism, whose name begins alike, and of one that is not there
pub other-prism : (at_epochs weekly (7 ∷ 2 ∷ []) (199 ∷ 200 ∷ []) ≡ refuses 14 ∷ dates-text 200 4110 1 (82 ∷ []) ∷ [])
    × (at_epochs weekly (8 ∷ 1 ∷ []) (300 ∷ []) ≡ refuses 14 ∷ [])
unfolding at_epochs weekly
other-prism = (refl, refl)

-- a prism whose name is zeros has no entry in an empty slot
pub zeros-absent : at_epochs weekly (0 ∷ 0 ∷ []) (0 ∷ 300 ∷ []) ≡ refuses 14 ∷ refuses 14 ∷ []
unfolding at_epochs weekly
zeros-absent = refl

-- ---- the message

-- Prism 0 has epoch 5 with an active empty message, 4 with no offset, 3 with an inactive message, 2 with an offset
-- above X, and 1 with "P". Slots by falling epoch.
unfoldable pub notes : Bytes
unfolding headed store set_field slot_bytes
notes =
    set_field (set_field
    (store (store (headed 5 5 8192) 2048
    (slot_bytes (0 ∷ 0 ∷ 0 ∷ 0 ∷ 5 ∷ []) 4096 ++ slot_bytes (0 ∷ 0 ∷ 0 ∷ 0 ∷ 4 ∷ []) 0
    ++ slot_bytes (0 ∷ 0 ∷ 0 ∷ 0 ∷ 3 ∷ []) 4100 ++ slot_bytes (0 ∷ 0 ∷ 0 ∷ 0 ∷ 2 ∷ []) 4110
    ++ slot_bytes (0 ∷ 0 ∷ 0 ∷ 0 ∷ 1 ∷ []) 4105))
    4096 (97 ∷ 0 ∷ 0 ∷ 0 ∷ 100 ∷ 0 ∷ 0 ∷ 1 ∷ 81 ∷ 97 ∷ 0 ∷ 0 ∷ 1 ∷ 80 ∷ 97 ∷ 0 ∷ 0 ∷ 0 ∷ []))
    points_field 5) free_field 4110

-- An empty message is told from none by its start. "the entry's message meets 11 last": of the chosen entry alone, so
-- that an older epoch with a sound message is not shown in its place, and one with a bad message does not matter.
pub messages : at_epochs notes (0 ∷ []) (0 ∷ 1 ∷ 2 ∷ 3 ∷ 4 ∷ 5 ∷ [])
    ≡ refuses 14 ∷ dates-text 1 4109 1 (80 ∷ []) ∷ refuses 11 ∷ dates 3 ∷ dates 4 ∷ dates-text 5 4100 0 [] ∷ []
unfolding at_epochs notes
messages = refl

-- ---- the order of questions

-- "a name without K − 4 bytes 7": one that has K bytes, or none; before 14
pub named-otherwise : (at_epochs weekly (7 ∷ 1 ∷ 0 ∷ 0 ∷ 1 ∷ 0 ∷ []) (300 ∷ []) ≡ refuses 7 ∷ [])
    × (at_epochs weekly (7 ∷ []) (300 ∷ []) ≡ refuses 7 ∷ []) × (at_epochs weekly [] (300 ∷ []) ≡ refuses 7 ∷ [])
unfolding at_epochs weekly
named-otherwise = (refl, refl, refl)

-- "A file with K below 5 is answered 23, after 6, then a name without K − 4 bytes 7": also with the name of no bytes,
-- and before 7; a file that 6 refuses is answered 6
pub too_short : (at_epochs (headed 4 2 4096) [] (0 ∷ []) ≡ refuses 23 ∷ [])
    × (at_epochs (headed 1 2 4096) (1 ∷ []) (0 ∷ []) ≡ refuses 23 ∷ [])
    × (at_epochs (set_field (headed 4 2 4096) points_field 3) [] (0 ∷ []) ≡ refuses 6 ∷ [])
unfolding at_epochs headed
too_short = (refl, refl, refl)
