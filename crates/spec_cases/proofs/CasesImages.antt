-- More cases of the file alone: messages, the table, and images that no create left.
-- Assumes nothing.
use mathlib.Core.Path.{◌≡◌, refl}
use Prim.Native.Nat.{ℕ}
use mathlib.Core.List.{[], ◌∷◌}
use mathlib.Core.Bool.{Bool, true, false}
use Rattle.spec_file.specs.Limits.{points_field}
use Rattle.spec_file.specs.Bytes.{Bytes}
use Rattle.spec_file.specs.Image.{set_field}
use Rattle.spec_file.specs.Questions.{message_sound, seek_number}
use Rattle.spec_file.specs.Lists.{adding, deleting, looking, counting}
use Rattle.spec_file.proofs.CasesBase.{headed, after, table, one, two, point, done, refused, counts, answered}
use Rattle.spec_file.proofs.CasesFile.{short_layout, short, single}

-- ---- messages

-- "11. If the key is present with an offset other than 0: is it at least D, the letter "a" or "d", m at least 1, the
-- message's end at most X?" No offset; active, inactive; another letter; m = 0, which 02 accepts; an end past X.
abbrev pub Sound : ℕ → Bytes → Bool → Type 0
Sound o m b = message_sound short_layout (short m) o ≡ b

pub sound-message : Sound 0 [] true × Sound 2053 (97 ∷ 0 ∷ 0 ∷ 1 ∷ 80 ∷ []) true
    × Sound 2053 (100 ∷ 0 ∷ 0 ∷ 1 ∷ 80 ∷ []) true × Sound 2053 (98 ∷ 0 ∷ 0 ∷ 1 ∷ 80 ∷ []) false
    × Sound 2053 (97 ∷ 0 ∷ 0 ∷ 0 ∷ 80 ∷ []) true
    × Sound 2053 (97 ∷ 0 ∷ 0 ∷ 2 ∷ 80 ∷ 0 ∷ []) false × Sound 2053 (97 ∷ 1 ∷ 0 ∷ 1 ∷ 80 ∷ []) false
unfolding short
sound-message = (refl, refl, refl, refl, refl, refl, refl)

-- a message all right, but a byte below D
pub sound-below : message_sound (record { K = 1; N = 1; D = 2054; W = 3; most = 3; hashed = λ key. 0 })
    (short (97 ∷ 0 ∷ 0 ∷ 1 ∷ 80 ∷ [])) 2053 ≡ false
unfolding short
sound-below = refl

-- ---- the table

-- "Slot i is K key bytes and a message offset, at 2,048 + i × (K + 4)": K = 2, both points at home in slot 2
pub table-two : table (after (adding (1 ∷ 2 ∷ []) (80 ∷ []) 1 ∷ adding (1 ∷ 3 ∷ []) [] 3 ∷ []) (headed 2 3 8192))
    ≡ 1 ∷ 3 ∷ 0 ∷ 0 ∷ 0 ∷ 0 ∷ 0 ∷ 0 ∷ 0 ∷ 0 ∷ 0 ∷ 0 ∷ 1 ∷ 2 ∷ 0 ∷ 0 ∷ 16 ∷ 0 ∷ []
unfolding table after headed
table-two = refl

-- ---- opened images that no create left

-- 1, 5 and 6, then 7, then 8, before the table is looked at
pub sought : seek_number [] [] false ∷ seek_number single [] false ∷ seek_number single one false
    ∷ seek_number single one true ∷ [] ≡ 1 ∷ 7 ∷ 8 ∷ 0 ∷ []
unfolding single
sought = refl

-- "For delete, with or without an offset: is C at least 1?" C = 0 and a taken slot: 11; 14 for an absent name.
pub none-counted : answered (deleting one ∷ deleting two ∷ counting ∷ []) (set_field single points_field 0)
    ≡ refused 11 ∷ refused 14 ∷ counts 0 ∷ []
unfolding answered single
none-counted = refl

-- C = 1, and the last point goes.
pub last_one : answered (deleting one ∷ counting ∷ looking one ∷ []) single ≡ done ∷ counts 0 ∷ refused 14 ∷ []
unfolding answered single
last_one = refl

-- "10. If the key is absent, is a slot empty and C below N?" Slots empty but C = N.
pub ten-by-count : answered (point 1 ∷ counting ∷ []) (set_field (headed 1 4 4096) points_field 4)
    ≡ refused 10 ∷ counts 4 ∷ []
unfolding answered headed
ten-by-count = refl

-- "A refused call .. changes no byte": 9, 13 and 14
pub refused-leave : after (adding one [] 1 ∷ adding one (80 ∷ []) 2 ∷ adding two (80 ∷ []) 1 ∷ deleting two ∷ []) single
    ≡ single
unfolding after single
refused-leave = refl
