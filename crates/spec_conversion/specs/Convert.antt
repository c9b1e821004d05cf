-- Document 02, Job 11: the converter "carries a sound image into a second slice as the other version (2.0.0 or 1.0.2).
-- Points, texts and each point's slot are equal before and after, as are scramble and header but for version, X and M;
-- space is compacted as in Job 2, all other bytes are zero."
--     recast v g           the layout g in the version v
--     bare_image img L      all of it but the messages: L bytes, each taken slot without an offset, X = D
--     converted img L      with the active messages in new space, one behind the other in the order of their offsets
--     convert_number img L  the number that it is refused with, 0 where it is accepted
--     convert img L        the call in a list, with a target of L bytes: the state afterwards is the target
--     convert_into img t    the target's bytes afterwards, which were t
-- Assumes nothing.
use Rattle.std.specs.Prelude.{ℕ, zero, suc, ◌+◌, ◌-◌, Bool, true, cond, not, ◌&&◌, ◌||◌, [], ◌∷◌, ◌++◌, length, leb, eqb}
use Rattle.std.proofs.Math.Option.{Option, none, some}
use Rattle.spec_file.specs.Bytes.{Bytes, part, store, zeros}
use Rattle.spec_file.specs.Limits.{major, minor, patch, wide_major, wide_minor, wide_patch, version_field, free_field, scramble_start, table_start}
use Rattle.spec_file.specs.Image.{field, scramble, major_of, wide, width_of, most_of, Layout, layout_of, slot, put_slot, key_of, offset_of, slot_bytes, blank}
use Rattle.spec_file.specs.Messages.{head_size, length_at, text_at, is_active, set_free, take_space}
use Rattle.spec_file.specs.Questions.{ask, first_no, size_allowed, version_known, header_sound}
use Rattle.spec_file.specs.Calls.{Outcome, plain, settled}
use Rattle.spec_file.specs.Inspect.{taken, lowest, check}
use Rattle.spec_compaction.specs.Compact.{is_sound}

-- ---- the other version

unfoldable pub other_major : ℕ → ℕ
other_major v = cond (wide v) major wide_major

-- "2.0.0 or 1.0.2"
unfoldable pub other_version : ℕ → Bytes
other_version v = cond (wide v) (major ∷ minor ∷ patch ∷ []) (wide_major ∷ wide_minor ∷ wide_patch ∷ [])

unfoldable pub recast : ℕ → Layout → Layout
recast v g = record { K = g.K; N = g.N; D = g.D; W = width_of v; most = most_of v; hashed = g.hashed }

unfoldable pub other_layout : Bytes → Layout
other_layout img = recast (other_major (major_of img)) (layout_of img)

-- ---- all but the messages

-- "each point's slot": its key, and no offset yet; an empty slot's bytes are zero, its offset bytes too
unfoldable pub bare_slot : Layout → Bytes → ℕ → Bytes
bare_slot g img i = cond (taken g img i) (slot_bytes (key_of g (slot g img i)) 0) (blank g)

unfoldable pub bare_slots : Layout → Bytes → ℕ → ℕ → Bytes
bare_slots g img zero i = []
bare_slots g img (suc left) i = bare_slot g img i ++ bare_slots g img left (suc i)

-- "all other bytes are zero": the header up to X, the version, the scramble and the table, then X = D and M
unfoldable pub bare_image : Bytes → ℕ → Bytes
bare_image img L =
    let g : Layout = layout_of img in
    set_free g.D
    (store
    (store
    (store (store (zeros L) 0 (part img 0 free_field)) version_field (other_version (major_of img)))
    scramble_start (scramble img))
    table_start (bare_slots g img g.N 0))
    g.D

-- ---- the messages

-- the taken slot with that offset, if there is one
unfoldable pub slot_with : Layout → Bytes → ℕ → Option ℕ
slot_with g img p = lowest (λ i. taken g img i && eqb (offset_of g (slot g img i)) p) g.N 0

-- a text in new space of the target t, and slot i's offset, which leads there
unfoldable pub carried : Layout → Bytes → ℕ → Bytes → Bytes → Bytes
carried h t i key text = put_slot h (take_space h t text) i (slot_bytes key (field t free_field))

unfoldable pub carried_slot : Layout → Layout → Bytes → ℕ → Option ℕ → Bytes → Bytes
carried_slot g h img p none t = t
carried_slot g h img p (some i) t = carried h t i (key_of g (slot g img i)) (text_at g img p)

-- the message that begins at p, if it is an active one of a taken slot
unfoldable pub carried_at : Layout → Layout → Bytes → ℕ → Bytes → Bytes
carried_at g h img p t = cond (is_active img p) (carried_slot g h img p (slot_with g img p) t) t

-- "in the order of their offsets": those that begin at p, p + 1, .., of so many places
unfoldable pub carried_from : Layout → Layout → Bytes → ℕ → ℕ → Bytes → Bytes
carried_from g h img zero p t = t
carried_from g h img (suc left) p t = carried_from g h img left (suc p) (carried_at g h img p t)

unfoldable pub converted : Bytes → ℕ → Bytes
converted img L =
    let g : Layout = layout_of img in
    carried_from g (other_layout img) img (field img free_field - g.D) g.D (bare_image img L)

-- ---- the questions

-- a taken slot's text, where its message is active: what the target needs for it, and whether its header can tell it
unfoldable pub needs : Layout → Layout → Bytes → ℕ → ℕ
needs g h img i =
    let o : ℕ = offset_of g (slot g img i) in
    cond (taken g img i && is_active img o) (head_size h + length_at g img o) 0

unfoldable pub needs_from : Layout → Layout → Bytes → ℕ → ℕ → ℕ
needs_from g h img zero i = 0
needs_from g h img (suc left) i = needs g h img i + needs_from g h img left (suc i)

unfoldable pub told : Layout → Layout → Bytes → ℕ → Bool
told g h img i =
    let o : ℕ = offset_of g (slot g img i) in
    not (taken g img i && is_active img o) || leb (length_at g img o) h.most

unfoldable pub told_from : Layout → Layout → Bytes → ℕ → ℕ → Bool
told_from g h img zero i = true
told_from g h img (suc left) i = told g h img i && told_from g h img left (suc i)

-- "20 on narrowing an active message above 16,777,215 bytes": on widening every length is below the other bound
unfoldable pub lengths_told : Bytes → Bool
lengths_told img = told_from (layout_of img) (other_layout img) img (layout_of img).N 0

-- "13 for a target too small"
unfoldable pub target_holds : Bytes → ℕ → Bool
target_holds img L =
    leb ((layout_of img).D + needs_from (layout_of img) (other_layout img) img (layout_of img).N 0) L

-- "The converter puts 1 to both slices, 5 and 6, then 15 if unsound, 20 .., and 13 .."
unfoldable pub convert_number : Bytes → ℕ → ℕ
convert_number img L =
    first_no
    (ask 1 (size_allowed (length img)) ∷ ask 1 (size_allowed L) ∷ ask 5 (version_known img) ∷ ask 6 (header_sound img)
    ∷ ask 15 (is_sound (check img)) ∷ ask 20 (lengths_told img) ∷ ask 13 (target_holds img L) ∷ [])

-- in a list: "go on in the target", where it is accepted; a refused one leaves the list in the source. The target's own
-- bytes do not matter
unfoldable pub convert : Bytes → ℕ → Outcome Bytes
convert img L =
    let n : ℕ = convert_number img L in
    record { after = settled n img (converted img L); answer = plain n }

-- of the slice that is lent for it: "carries a sound image into a second slice"; a refused call changes no byte of it
unfoldable pub convert_into : Bytes → Bytes → Bytes
convert_into img target = settled (convert_number img (length target)) target (converted img (length target))
