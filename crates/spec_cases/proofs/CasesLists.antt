-- The file's answers to lists of calls, and then the bytes of its data area, by computation: the longer lists of
-- crates/spec_file/proofs and crates/spec_compaction/proofs, where it is said what each shows. The book's stand in
-- crates/spec_book/proofs.
-- Assumes nothing.
use mathlib.Core.Path.{◌≡◌, refl}
use mathlib.Core.List.{List, [], ◌∷◌, ◌++◌}
use Prim.Native.Nat.{ℕ}
use Rattle.spec_file.specs.Bytes.{Bytes, part, store}
use Rattle.spec_file.specs.Calls.{lookup_start}
use Rattle.spec_file.specs.Lists.{Call, adding, deleting}
use Rattle.spec_file.proofs.CasesBase.{headed, after, filed, Files, one, two, point, shows}
use Rattle.spec_file.proofs.CasesCalls.{life_calls, life_answers}
use Rattle.spec_file.proofs.CasesNotes.{notes_new_calls, notes_new_answers, notes_withdrawn_calls, notes_withdrawn_answers, notes_refused_calls, notes_refused_answers}
use Rattle.spec_compaction.specs.Compact.{compact}
use Rattle.spec_compaction.proofs.CasesCompact.{compact-definitions, order_before, order_after, order_answers, mixed_before, mixed_after, mixed_answers}

-- ---- calls

pub life : Files 8192 4 life_calls life_answers 15
    (100 ∷ 0 ∷ 0 ∷ 3 ∷ 83 ∷ 84 ∷ 85 ∷ 100 ∷ 0 ∷ 0 ∷ 4 ∷ 83 ∷ 84 ∷ 85 ∷ 86 ∷ [])
unfolding filed headed
life = refl

-- ---- lookup

-- Byte 1 with "P", byte 2 with an inactive "Q", byte 3 without a message: the first message byte, and 0 for the others;
-- byte 4 is absent, and the name of zeros is refused.
unfoldable pub three-kinds : Bytes
unfolding after headed
three-kinds =
    store (after (adding one (80 ∷ []) 1 ∷ adding two (81 ∷ []) 1 ∷ point 3 ∷ []) (headed 1 4 8192)) 4101 (100 ∷ [])

pub lookup-starts : lookup_start three-kinds one ∷ lookup_start three-kinds two ∷ lookup_start three-kinds (3 ∷ [])
    ∷ lookup_start three-kinds (4 ∷ []) ∷ lookup_start three-kinds (0 ∷ []) ∷ [] ≡ 4100 ∷ 0 ∷ 0 ∷ 0 ∷ 0 ∷ []
unfolding three-kinds
lookup-starts = refl

-- ---- empty notes

pub notes-new : Files 8192 4 notes_new_calls notes_new_answers 12
    (97 ∷ 0 ∷ 0 ∷ 0 ∷ 97 ∷ 0 ∷ 0 ∷ 0 ∷ 97 ∷ 0 ∷ 0 ∷ 0 ∷ [])
unfolding filed headed
notes-new = refl

pub notes-withdrawn : Files 8192 4 notes_withdrawn_calls notes_withdrawn_answers 6
    (100 ∷ 0 ∷ 0 ∷ 0 ∷ 0 ∷ 0 ∷ [])
unfolding filed headed
notes-withdrawn = refl

pub notes-refused : Files 4096 1 notes_refused_calls notes_refused_answers 0
    []
unfolding filed headed
notes-refused = refl

-- ---- the version bytes

-- a file of version 1.0.1 with "P" under byte 1
unfoldable pub older : Bytes
unfolding after headed
older = after (adding one (80 ∷ []) 1 ∷ []) (store (headed 1 4 8192) 7 (1 ∷ []))

-- the version bytes after these calls
unfoldable pub version : List Call → Bytes
unfolding after older
version calls = part (after calls older) 5 3

-- "at the first empty message stored": in new space, and in place; not by other calls, nor by a refused one
pub version-noted : (version (adding two [] 1 ∷ []) ≡ 1 ∷ 0 ∷ 2 ∷ [])
    × (version (adding two [] 2 ∷ []) ≡ 1 ∷ 0 ∷ 2 ∷ [])
    × (version (adding one [] 2 ∷ []) ≡ 1 ∷ 0 ∷ 2 ∷ [])
unfolding version
version-noted = (refl, refl, refl)

pub version-left : (version (adding two (81 ∷ []) 1 ∷ adding two [] 3 ∷ point 3 ∷ adding one [] 4 ∷ deleting two ∷ [])
    ≡ 1 ∷ 0 ∷ 1 ∷ [])
    × (version (adding one [] 1 ∷ adding (9 ∷ 9 ∷ []) [] 2 ∷ adding two [] 4 ∷ []) ≡ 1 ∷ 0 ∷ 1 ∷ [])
unfolding version
version-left = (refl, refl)

-- ---- calls, a compaction, and calls

pub order : filed order_after (compact (after order_before (headed 1 4 8192))).after
    ≡ order_answers ++ (shows 22
    (97 ∷ 0 ∷ 0 ∷ 1 ∷ 80 ∷ 97 ∷ 0 ∷ 0 ∷ 1 ∷ 83 ∷ 97 ∷ 0 ∷ 0 ∷ 3 ∷ 84 ∷ 85 ∷ 86 ∷ 97 ∷ 0 ∷ 0 ∷ 1 ∷ 87 ∷ []) ∷ [])
unfolding compact-definitions filed after headed
order = refl

pub mixed : filed mixed_after (compact (after mixed_before (headed 1 4 8192))).after
    ≡ mixed_answers ++ (shows 17
    (100 ∷ 0 ∷ 0 ∷ 0 ∷ 97 ∷ 0 ∷ 0 ∷ 0 ∷ 97 ∷ 0 ∷ 0 ∷ 0 ∷ 97 ∷ 0 ∷ 0 ∷ 1 ∷ 86 ∷ []) ∷ [])
unfolding compact-definitions filed after headed
mixed = refl
