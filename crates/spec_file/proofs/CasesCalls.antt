-- Lists of calls on a new file: their answers, and then the bytes of the data area. The book's answers to the same
-- lists stand in crates/spec_book/proofs/CasesBook.antt; the file's to the first of them, and more such lists, in
-- crates/spec_cases.
-- Assumes nothing.
use mathlib.Core.Path.{refl}
use mathlib.Core.List.{List, [], ◌∷◌}
use Rattle.spec_file.specs.Calls.{Answer}
use Rattle.spec_file.specs.Lists.{Call, adding, deleting, looking, counting}
use Rattle.spec_file.proofs.CasesBase.{headed, filed, Files, one, two, point, done, refused, shows, shows-none, counts}

-- Byte 1 is added with "PQR". "Lookup answers the message length .. and hands back the message bytes"; "count answers
-- C". Withdrawn, "a" turns "into "d"", and lookup shows no text; replaced by as many bytes as stand there,
-- "written there as active". "V" is appended, "copied with the new bytes behind it into new space, and the old header
-- becomes "d"". Deleted, "the message header, if active, becomes "d""; no space comes back.
abbrev pub life_calls : List Call
life_calls =
    adding one (80 ∷ 81 ∷ 82 ∷ []) 1 ∷ counting ∷ adding one [] 4 ∷ looking one ∷ adding one (83 ∷ 84 ∷ 85 ∷ []) 2
    ∷ adding one (86 ∷ []) 3 ∷ looking one ∷ deleting one ∷ counting ∷ []

abbrev pub life_answers : List Answer
life_answers =
    done ∷ counts 1 ∷ done ∷ shows-none ∷ done ∷ done ∷ shows 4 (83 ∷ 84 ∷ 85 ∷ 86 ∷ []) ∷ done ∷ counts 0 ∷ []

-- Points without a text, and no room for any: 13 for data, in every mode; append of no data changes nothing. Absent:
-- 14.
abbrev pub no_messages_calls : List Call
no_messages_calls =
    looking one ∷ point 1 ∷ adding one (80 ∷ []) 3 ∷ adding two (80 ∷ []) 1 ∷ adding two (80 ∷ []) 2 ∷ point 1
    ∷ looking one ∷ counting ∷ []

abbrev pub no_messages_answers : List Answer
no_messages_answers =
    refused 14 ∷ done ∷ refused 13 ∷ refused 13 ∷ refused 13 ∷ done ∷ shows-none ∷ counts 1 ∷ []

pub no-messages : Files 4096 4 no_messages_calls no_messages_answers 0
    []
unfolding filed headed
no-messages = refl

-- One slot: 10 for a second point, with data before 13, or without, and it stays absent. The first is deleted: 14 for
-- it, also of a second delete; and there is room.
abbrev pub full_calls : List Call
full_calls =
    point 1 ∷ adding two (80 ∷ []) 3 ∷ point 2 ∷ looking two ∷ deleting one ∷ looking one ∷ deleting one ∷ point 2
    ∷ counting ∷ []

abbrev pub full_answers : List Answer
full_answers =
    done ∷ refused 10 ∷ refused 10 ∷ refused 14 ∷ done ∷ refused 14 ∷ refused 14 ∷ done ∷ counts 1 ∷ []

pub full : Files 4096 1 full_calls full_answers 0
    []
unfolding filed headed
full = refl
