-- Document 02, Job 11: lists of calls on images of version 2.0.0, and lists that go on in the converter's target, by
-- computation. The book's answers to the last stand in crates/spec_book/proofs/CasesConverted.antt.
-- Assumes nothing.
use mathlib.Core.Path.{◌≡◌, refl}
use mathlib.Core.List.{[], ◌∷◌}
use Rattle.spec_file.specs.Bytes.{part}
use Rattle.spec_file.specs.Lists.{adding, deleting, looking, answers, state_after}
use Rattle.spec_file.proofs.CasesBase.{definitions, headed, after, filed, one, two, done, shows, refused}
use Rattle.spec_file.proofs.CasesWide.{wide_headed}
use Rattle.spec_compaction.specs.Compact.{compact}
use Rattle.spec_compaction.proofs.CasesCompact.{compact-definitions}
use Rattle.spec_conversion.proofs.CasesConvert.{convert-definitions}
use Rattle.spec_book.specs.Steps.{perform_on}
use Rattle.spec_book.proofs.CasesConverted.{converted_calls, converted_answers}

-- "PQRST" replaced in place by "U", which zeroes the rest; "V" appended, in new space; byte 2 with an empty note, and
-- deleted
pub wide-calls : filed
    (adding one (80 ∷ 81 ∷ 82 ∷ 83 ∷ 84 ∷ []) 1 ∷ adding one (85 ∷ []) 2 ∷ looking one ∷ adding one (86 ∷ []) 3
    ∷ looking one ∷ adding two [] 1 ∷ looking two ∷ deleting two ∷ looking two ∷ [])
    wide_headed
    ≡ done ∷ done ∷ shows 1 (85 ∷ []) ∷ done ∷ shows 2 (85 ∷ 86 ∷ []) ∷ done ∷ shows 0 [] ∷ done ∷ refused 14
    ∷ shows 22 (100 ∷ 0 ∷ 0 ∷ 0 ∷ 1 ∷ 85 ∷ 0 ∷ 0 ∷ 0 ∷ 0 ∷ 97 ∷ 0 ∷ 0 ∷ 0 ∷ 2 ∷ 85 ∷ 86 ∷ 100 ∷ 0 ∷ 0 ∷ 0 ∷ 0 ∷ [])
    ∷ []
unfolding filed wide_headed
wide-calls = refl

-- the version bytes stay where an empty note is stored
pub wide-note : part (after (adding one [] 1 ∷ adding one [] 2 ∷ []) wide_headed) 5 3 ≡ 2 ∷ 0 ∷ 0 ∷ []
unfolding after wide_headed
wide-note = refl

-- compaction: "QR" of 5 + 2 bytes moves down over "P", replaced by "ST" behind it; X falls to 14 above D
pub wide-compacted : filed []
    (compact
    (after (adding one (80 ∷ []) 1 ∷ adding two (81 ∷ 82 ∷ []) 1 ∷ adding one (83 ∷ 84 ∷ []) 2 ∷ []) wide_headed)).after
    ≡ shows 14 (97 ∷ 0 ∷ 0 ∷ 0 ∷ 2 ∷ 81 ∷ 82 ∷ 97 ∷ 0 ∷ 0 ∷ 0 ∷ 2 ∷ 83 ∷ 84 ∷ []) ∷ []
unfolding compact-definitions filed after wide_headed
wide-compacted = refl

-- the book's list; and then the data area, of version 1.0.2 again
pub converted-file : answers perform_on converted_calls (headed 1 4 8192) ≡ converted_answers
unfolding convert-definitions compact-definitions perform_on headed
converted-file = refl

pub converted-area : part (state_after perform_on converted_calls (headed 1 4 8192)) 4096 11
    ≡ 97 ∷ 0 ∷ 0 ∷ 0 ∷ 97 ∷ 0 ∷ 0 ∷ 2 ∷ 83 ∷ 84 ∷ 0 ∷ []
unfolding convert-definitions compact-definitions perform_on headed
converted-area = refl
