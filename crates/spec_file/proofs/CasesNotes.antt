-- Document 02, Job 4, "An empty note is a note": where it is stored, and the version bytes, by computation; and lists
-- of calls on a new file. The book's answers to those stand in crates/spec_book/proofs/CasesNoted.antt, the file's, and
-- more such lists, in crates/spec_cases. Assumes nothing.
use mathlib.Core.Path.{◌≡◌, refl}
use mathlib.Core.List.{List, [], ◌∷◌}
use mathlib.Core.Option.{none, some}
use Rattle.spec_file.specs.Bytes.{part, zeros}
use Rattle.spec_file.specs.Messages.{fresh_text, renewed_text, renewed, noted}
use Rattle.spec_file.specs.Calls.{Answer}
use Rattle.spec_file.specs.Lists.{Call, adding, looking, counting}
use Rattle.spec_file.proofs.CasesBase.{definitions, one, two, point, done, refused, shows, shows-none, counts}
use Rattle.spec_file.proofs.CasesFile.{short_layout, short}

-- ---- one message

-- "adding empty data in mode 1 or 2 stores it, in new space of 4 bytes when the point has no offset"; "mode 3 with
-- empty data gives an absent name the text none and no offset"
pub notes-placed : (fresh_text [] 1 ≡ some []) × (fresh_text [] 2 ≡ some []) × (fresh_text [] 3 ≡ none)
    × (renewed_text short_layout (short []) 0 [] 2 ≡ some [])
unfolding short
notes-placed = (refl, refl, refl, refl)

-- Mode 4 "ignores its data": none is placed, and "turns "a" into "d"": the letter alone changes.
pub withdrawn-placed : renewed_text short_layout (short (97 ∷ 0 ∷ 0 ∷ 2 ∷ 80 ∷ 81 ∷ [])) 2053 (9 ∷ 9 ∷ 9 ∷ []) 4 ≡ none
unfolding short
withdrawn-placed = refl

pub withdrawn-bytes : part (renewed short_layout (short (97 ∷ 0 ∷ 0 ∷ 1 ∷ 80 ∷ [])) 0 2053 one (9 ∷ []) 4 none) 2053 5
    ≡ 100 ∷ 0 ∷ 0 ∷ 1 ∷ 80 ∷ []
unfolding short
withdrawn-bytes = refl

-- "Version bytes become 1, 0, 2 .. at the first empty message stored": by empty data in modes 1 and 2, and nothing else
pub version-bytes : (noted [] 1 (zeros 8) ≡ 0 ∷ 0 ∷ 0 ∷ 0 ∷ 0 ∷ 1 ∷ 0 ∷ 2 ∷ [])
    × (noted [] 2 (zeros 8) ≡ 0 ∷ 0 ∷ 0 ∷ 0 ∷ 0 ∷ 1 ∷ 0 ∷ 2 ∷ []) × (noted [] 3 (zeros 8) ≡ zeros 8)
    × (noted [] 4 (zeros 8) ≡ zeros 8) × (noted (81 ∷ []) 1 (zeros 8) ≡ zeros 8)
    × (noted (81 ∷ []) 2 (zeros 8) ≡ zeros 8)
unfolding definitions noted
version-bytes = (refl, refl, refl, refl, refl, refl)

-- ---- lists of calls

-- A note in modes 1 and 2, none in mode 3; then mode 2 gives byte 3 a note too.
abbrev pub notes_new_calls : List Call
notes_new_calls =
    adding one [] 1 ∷ looking one ∷ adding two [] 2 ∷ looking two ∷ point 3 ∷ looking (3 ∷ []) ∷ counting
    ∷ adding (3 ∷ []) [] 2 ∷ looking (3 ∷ []) ∷ []

abbrev pub notes_new_answers : List Answer
notes_new_answers =
    done ∷ shows 0 [] ∷ done ∷ shows 0 [] ∷ done ∷ shows-none ∷ counts 3 ∷ done ∷ shows 0 [] ∷ []

-- In place of a withdrawn "PQ", and withdrawn again: the letter alone changes.
abbrev pub notes_withdrawn_calls : List Call
notes_withdrawn_calls =
    adding one (80 ∷ 81 ∷ []) 1 ∷ adding one (9 ∷ 9 ∷ 9 ∷ []) 4 ∷ looking one ∷ adding one [] 2 ∷ looking one
    ∷ adding one [] 4 ∷ adding one [] 4 ∷ looking one ∷ counting ∷ []

abbrev pub notes_withdrawn_answers : List Answer
notes_withdrawn_answers =
    done ∷ done ∷ shows-none ∷ done ∷ shows 0 [] ∷ done ∷ done ∷ shows-none ∷ counts 1 ∷ []

-- "Mode 4 .. gives 14 for an absent name", also in a full table; it asks for no room, whatever its data. A note does:
-- 13 for a point without an offset, 10 before it where the table is full, 9 before it in mode 1.
abbrev pub notes_refused_calls : List Call
notes_refused_calls =
    adding one [] 4 ∷ adding one [] 1 ∷ adding one [] 2 ∷ point 1 ∷ adding two [] 4 ∷ adding two [] 1
    ∷ adding one (80 ∷ 81 ∷ []) 4 ∷ looking one ∷ adding one [] 2 ∷ adding one [] 1 ∷ adding one [] 3 ∷ looking one
    ∷ []

abbrev pub notes_refused_answers : List Answer
notes_refused_answers =
    refused 14 ∷ refused 13 ∷ refused 13 ∷ done ∷ refused 14 ∷ refused 10 ∷ done ∷ shows-none ∷ refused 13 ∷ refused 9
    ∷ done ∷ shows-none ∷ []
