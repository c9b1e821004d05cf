-- Document 01, "Walk, check, lister, C": the text that the lister prints of an image.
-- "It prints a heading, then slot, key (two lower-case hexadecimal digits a byte) and the length of the slot's own
-- active message (0 if none, bad where 11 fails) of each taken slot in slot order, one space between, a line feed after
-- each line; or, as the only line, "refused", a space and the number".
--     listed img      the whole text of an image
--     printed bytes   what the lister prints for its input
-- Assumes nothing.
use Rattle.std.specs.Prelude.{ℕ, zero, suc, cond, [], ◌∷◌, ◌++◌, eqb, leb, length}
use Rattle.spec_file.specs.Bytes.{Bytes}
use Rattle.spec_file.specs.Image.{Layout, layout_of, slot, key_of, offset_of}
use Rattle.spec_file.specs.Messages.{shown_length}
use Rattle.spec_file.specs.Questions.{message_sound, open_number}
use Rattle.spec_file.specs.Inspect.{taken}
use Rattle.lister_text.specs.Text.{decimal, hexes, space, feed}

-- "slot key length", a line feed
abbrev pub heading : Bytes
heading = 115 ∷ 108 ∷ 111 ∷ 116 ∷ 32 ∷ 107 ∷ 101 ∷ 121 ∷ 32 ∷ 108 ∷ 101 ∷ 110 ∷ 103 ∷ 116 ∷ 104 ∷ 10 ∷ []

-- "refused", a space
abbrev pub refusal : Bytes
refusal = 114 ∷ 101 ∷ 102 ∷ 117 ∷ 115 ∷ 101 ∷ 100 ∷ 32 ∷ []

abbrev pub bad : Bytes
bad = 98 ∷ 97 ∷ 100 ∷ []

-- of the message at offset o
unfoldable pub length_text : Layout → Bytes → ℕ → Bytes
length_text g img o = cond (message_sound g img o) (decimal (shown_length g img o)) bad

unfoldable pub line : Layout → Bytes → ℕ → Bytes
line g img i =
    decimal i ++ space ++ hexes (key_of g (slot g img i)) ++ space
    ++ length_text g img (offset_of g (slot g img i)) ++ feed

unfoldable pub row : Layout → Bytes → ℕ → Bytes
row g img i = cond (taken g img i) (line g img i) []

-- of the slots that are left from i on
unfoldable pub lines : Layout → Bytes → ℕ → ℕ → Bytes
lines g img zero i = []
lines g img (suc left) i = row g img i ++ lines g img left (suc i)

unfoldable pub refused_text : ℕ → Bytes
refused_text n = refusal ++ decimal n ++ feed

unfoldable pub listed : Bytes → Bytes
listed img =
    cond (eqb (open_number img) 0) (heading ++ lines (layout_of img) img (layout_of img).N 0)
    (refused_text (open_number img))

-- "The lister reads an image of at most 65,536 bytes from standard input"
abbrev pub most_listed : ℕ
most_listed = 65536

-- "too long", a line feed
abbrev pub too_long : Bytes
too_long = 116 ∷ 111 ∷ 111 ∷ 32 ∷ 108 ∷ 111 ∷ 110 ∷ 103 ∷ 10 ∷ []

unfoldable pub printed : Bytes → Bytes
printed bytes = cond (leb (length bytes) most_listed) (listed bytes) too_long

-- room for every text that is printed: `printed-bound`
abbrev pub most_printed : ℕ
most_printed = 262144
