-- Document 01, "Messages", as document 02, Job 4, changes it ("An empty note is a note"): a message in the image, new
-- space, and what an accepted add leaves. Delete stands in `Delete`, the questions that come before in `Questions`; the
-- calls, questions and effect together, in `Calls`.
--     shown g img o           the text of the active message at offset o, or none
--     take_space g img t       the image with a new message t at X
--     added g img key data mode       the image that an accepted add leaves
-- Assumes nothing.
use Rattle.std.specs.Prelude.{ℕ, ◌+◌, ◌-◌, Bool, true, false, cond, not, ◌&&◌, ◌||◌, [], ◌∷◌, ◌++◌, length, leb, eqb}
use Rattle.std.proofs.Math.Option.{Option, none, some}
use Rattle.spec_file.specs.Bytes.{Bytes, part, store, number, digits, zeros}
use Rattle.spec_file.specs.Limits.{active, inactive, major, minor, patch, version_field, points_field, free_field, page_field}
use Rattle.spec_file.specs.Image.{field, set_field, last_page, major_of, wide, Layout, slot, put_slot, offset_of, slot_bytes}
use Rattle.spec_file.specs.Search.{Probe, met, empty, exhausted, search}

-- ---- a message in the image: a letter, W bytes of length, the text
unfoldable pub head_size : Layout → ℕ
head_size g = g.W + 1

unfoldable pub letter_at : Bytes → ℕ → ℕ
letter_at img o = number (part img o 1)

unfoldable pub length_at : Layout → Bytes → ℕ → ℕ
length_at g img o = number (part img (o + 1) g.W)

unfoldable pub text_at : Layout → Bytes → ℕ → Bytes
text_at g img o = part img (o + head_size g) (length_at g img o)

-- "A message offset of 0 means no message. Otherwise it points at "a" (active) or "d" (inactive)"
unfoldable pub is_active : Bytes → ℕ → Bool
is_active img o = not (eqb o 0) && eqb (letter_at img o) active

-- the text of a point's active message, or none. 02: "Lookup tells an empty message from none."
unfoldable pub shown : Layout → Bytes → ℕ → Option Bytes
shown g img o = cond (is_active img o) (some (text_at g img o)) none

-- the bytes of a text, 0 bytes of none
unfoldable pub bytes_of : Option Bytes → Bytes
bytes_of none = []
bytes_of (some t) = t

-- whether there is one
unfoldable pub is_text : Option Bytes → Bool
is_text none = false
is_text (some t) = true

-- the length of that text, 0 for none
unfoldable pub shown_length : Layout → Bytes → ℕ → ℕ
shown_length g img o = cond (is_active img o) (length_at g img o) 0

-- the length "at the offset (0 for no offset)"
unfoldable pub held : Layout → Bytes → ℕ → ℕ
held g img o = cond (eqb o 0) 0 (length_at g img o)

-- the bytes of an active message with the text t, its length in W bytes
unfoldable pub message : ℕ → Bytes → Bytes
message W t = (active ∷ digits W (length t)) ++ t

-- ---- effects

-- "A call that changes X rewrites M"
unfoldable pub set_free : ℕ → Bytes → ℕ → Bytes
set_free D img x = set_field (set_field img free_field x) page_field (last_page D x)

-- "New space for m bytes is taken at X, and X grows by 4 + m." Job 11: by 5 + m where headers have 5 bytes
unfoldable pub take_space : Layout → Bytes → Bytes → Bytes
take_space g img t =
    let x : ℕ = field img free_field in
    set_free g.D (store img x (message g.W t)) (x + head_size g + length t)

-- "The message header, if active, becomes "d""
unfoldable pub retire : Bytes → ℕ → Bytes
retire img o = cond (is_active img o) (store img o (inactive ∷ [])) img

-- "is written there as active, with the rest of the old bytes zeroed"
unfoldable pub overwrite : Layout → Bytes → ℕ → Bytes → Bytes
overwrite g img o t = store img o (message g.W t ++ zeros (held g img o - length t))

-- The message to be placed in new space, if any: of a point that is absent. 02: "adding empty data in mode 1 or 2
-- stores it, in new space of 4 bytes when the point has no offset"; 01, of mode 3: "Data of length 0 gives offset 0."
unfoldable pub fresh_text : Bytes → ℕ → Option Bytes
fresh_text data' mode = cond (eqb mode 3 && eqb (length data') 0) none (some data')

-- Of a point that is present with message offset o. Mode 2 takes new space where there is no offset, or the data is
-- longer than the length at it; mode 3 where there is data: "An active message is copied with the new bytes behind it
-- into new space. .. Otherwise new space is taken for the new bytes only."
unfoldable pub renewed_text : Layout → Bytes → ℕ → Bytes → ℕ → Option Bytes
renewed_text g img o data' mode =
    cond (eqb mode 2) (cond (not (eqb o 0) && leb (length data') (held g img o)) none (some data'))
    (cond (eqb mode 3) (cond (eqb (length data') 0) none (some (bytes_of (shown g img o) ++ data'))) none)

unfoldable pub placed_text : Layout → Bytes → Probe → Bytes → ℕ → Option Bytes
placed_text g img (met i) data' mode = renewed_text g img (offset_of g (slot g img i)) data' mode
placed_text g img (empty i) data' mode = fresh_text data' mode
placed_text g img exhausted data' mode = fresh_text data' mode

-- "Add, key absent: the entry goes to the empty slot where the search ended; C grows by 1."
unfoldable pub enter : Layout → Bytes → ℕ → Bytes → ℕ → Bytes
enter g img i key o = set_field (put_slot g img i (slot_bytes key o)) points_field (field img points_field + 1)

unfoldable pub inserted : Layout → Bytes → ℕ → Bytes → Option Bytes → Bytes
inserted g img i key none = enter g img i key 0
inserted g img i key (some t) = enter g (take_space g img t) i key (field img free_field)

-- "the old header, if there is one, becomes "d" and new space is taken"
unfoldable pub relocated : Layout → Bytes → ℕ → ℕ → Bytes → Bytes → Bytes
relocated g img i o key t = put_slot g (take_space g (retire img o) t) i (slot_bytes key (field img free_field))

-- Mode 2: "A length at most that at the offset .. is written there as active". Mode 3: "length 0 changes nothing".
-- 02: "Mode 4 withdraws a message as empty replace did, ignores its data": it "turns "a" into "d"".
unfoldable pub renewed : Layout → Bytes → ℕ → ℕ → Bytes → Bytes → ℕ → Option Bytes → Bytes
renewed g img i o key data' mode (some t) = relocated g img i o key t
renewed g img i o key data' mode none =
    cond (eqb mode 2) (overwrite g img o data') (cond (eqb mode 4) (retire img o) img)

-- of a point that is present in slot i with message offset o
unfoldable pub renewed_at : Layout → Bytes → ℕ → ℕ → Bytes → Bytes → ℕ → Bytes
renewed_at g img i o key data' mode = renewed g img i o key data' mode (renewed_text g img o data' mode)

unfoldable pub added_at : Layout → Bytes → Probe → Bytes → Bytes → ℕ → Bytes
added_at g img (met i) key data' mode = renewed_at g img i (offset_of g (slot g img i)) key data' mode
added_at g img (empty i) key data' mode = inserted g img i key (fresh_text data' mode)
added_at g img exhausted key data' mode = img

-- 02: "Version bytes become 1, 0, 2 at create and at the first empty message stored": where an accepted add stores an
-- empty message, with empty data in mode 1 or 2. Job 11, of 2.0: "its version bytes never change"
unfoldable pub noted : Bytes → ℕ → Bytes → Bytes
noted data' mode img =
    cond (eqb (length data') 0 && (eqb mode 1 || eqb mode 2) && not (wide (major_of img)))
    (store img version_field (major ∷ minor ∷ patch ∷ [])) img

unfoldable pub added : Layout → Bytes → Bytes → Bytes → ℕ → Bytes
added g img key data' mode = noted data' mode (added_at g img (search g img key) key data' mode)
