-- What the cases compute with and look at. The cases stand in `Cases` (01's proved table), `CasesHeader` (create, hash
-- and header), `CasesFile` (opened images and messages), `CasesCalls` (calls and their answers), `CasesNotes` (empty
-- notes), `CasesInspect` (walk and check), `CasesStretches` (two points on one message) and `CasesOthers` (images that
-- no call of ours made). Those of compaction, of the book and more of both stand in the crates above.
--     definitions        unfolding it unfolds all of `specs` that a file's calls compute with; inspect-definitions
--                        those of walk and check too
--     fresh L N          the image that create leaves of L bytes: K = 1, seed 0
--     headed K N L       create's header and zeros behind it, for names of bytes below 32, which are not scrambled
--     after, told, answered     the image after a list of calls; the numbers, or the whole answers, that they gave
--     filed, Files       the answers, and then the file's data area
--     keys n i img       the keys of the n slots from i on; table img, all bytes of the slots
-- Assumes nothing.
use mathlib.Core.Path.{◌≡◌}
use Prim.Native.Nat.{ℕ, zero, suc, ◌-◌, ◌*◌}
use mathlib.Core.List.{List, [], ◌∷◌, ◌++◌}
use mathlib.Core.Option.{none, some}
use Rattle.spec_file.specs.Limits.{table_start, data_field, free_field}
use Rattle.spec_file.specs.Bytes.{Bytes, part, store, number, digits, zeros, all_zero, same}
use Rattle.spec_file.specs.Image.{field, set_field, round_up, data_start, last_page, hash_step, hash_from, scramble, hash, major_of, wide, width_of, most_of, layout_of, home, slot_size, slot_start, slot, put_slot, key_of, offset_of, slot_bytes, blank, vacant}
use Rattle.spec_file.specs.Create.{step, state, drawn, drawn_bytes, slots_asked, fresh_header, fresh_image}
use Rattle.spec_file.specs.Search.{next, dist, probe, search, read_from, slots_read, is_met, is_empty, slot_of}
use Rattle.spec_file.specs.Messages.{head_size, letter_at, length_at, text_at, is_active, shown, bytes_of, is_text, shown_length, held, message, set_free, take_space, retire, overwrite, fresh_text, renewed_text, placed_text, enter, inserted, relocated, renewed, renewed_at, added_at, noted, added}
use Rattle.spec_file.specs.Delete.{among, moved, close_from, closed, deleted_at, deleted}
use Rattle.spec_file.specs.Questions.{ask, first_no, size_allowed, key_allowed, slots_allowed, table_fits, version_known, header_sound, name_allowed, mode_known, met_in_mode4, new_in_mode1, slot_to_take, message_sound, met_message_sound, some_point, length_allowed, space_left, create_asks, opened, named, point_asks, add_asks, lookup_asks, delete_asks, create_number, open_number, seek_number, add_number, delete_number, lookup_number}
use Rattle.spec_file.specs.Calls.{Answer, plain, settled, create, add, delete, lookup_offset, lookup_start, lookup_length, lookup_text, lookup, count_of, count, sought_read, add_read, delete_read, lookup_read}
use Rattle.spec_file.specs.Lists.{Call, adding, call, answers, state_after}
use Rattle.spec_file.specs.Inspect.{lowest, taken, taken_from, next_taken, stop_at, key_walk, stop_number, key_start, key_length, key_shown, ends_at, entry_sound, stretch_start, end_at, stretch_end, meets, some_below, meets_lower, slot_sound, slot_fails, count_sound, verdict_of, check, verdict_number}

-- file by file of `specs`, in its order
unfoldable pub definitions : ℕ
unfolding part store number digits zeros all_zero same
    field set_field round_up data_start last_page hash_step hash_from scramble hash major_of wide width_of most_of layout_of home
    slot_size slot_start slot
    put_slot key_of offset_of slot_bytes blank vacant
    step state drawn drawn_bytes slots_asked fresh_header fresh_image
    next dist probe search read_from slots_read is_met is_empty slot_of
    head_size letter_at length_at text_at is_active shown bytes_of is_text shown_length held message set_free take_space retire
    overwrite fresh_text renewed_text placed_text enter inserted relocated renewed renewed_at added_at noted added
    among moved close_from closed deleted_at deleted
    ask first_no size_allowed key_allowed slots_allowed table_fits version_known header_sound name_allowed mode_known met_in_mode4
    new_in_mode1 slot_to_take message_sound met_message_sound some_point length_allowed space_left create_asks opened named
    point_asks add_asks lookup_asks delete_asks create_number open_number seek_number add_number delete_number lookup_number
    plain settled create add delete lookup_offset lookup_start lookup_length lookup_text lookup count_of count
    sought_read add_read delete_read lookup_read call answers state_after
definitions = 0

unfoldable pub inspect-definitions : ℕ
unfolding definitions
    lowest taken taken_from next_taken stop_at key_walk stop_number key_start key_length key_shown ends_at
    entry_sound stretch_start end_at stretch_end meets some_below meets_lower slot_sound slot_fails
    count_sound verdict_of check verdict_number
inspect-definitions = 0

-- ---- images

unfoldable pub fresh : ℕ → ℕ → Bytes
unfolding definitions
fresh L N = (create (zeros L) 1 N 0).after

unfoldable pub headed : ℕ → ℕ → ℕ → Bytes
unfolding definitions
headed K N L = fresh_header K N ++ zeros (L - 60)

unfoldable pub after : List Call → Bytes → Bytes
unfolding definitions
after calls img = state_after call calls img

unfoldable pub keys : ℕ → ℕ → Bytes → List Bytes
unfolding definitions
keys zero i img = []
keys (suc n) i img = key_of (layout_of img) (slot (layout_of img) img i) ∷ keys n (suc i) img

unfoldable pub table : Bytes → Bytes
unfolding definitions
table img = part img table_start ((layout_of img).N * slot_size (layout_of img))

-- ---- calls

abbrev pub one : Bytes
one = 1 ∷ []

abbrev pub two : Bytes
two = 2 ∷ []

-- a point with the one-byte name c and no message
abbrev pub point : ℕ → Call
point c = adding (c ∷ []) [] 3

-- ---- answers: a number, an amount, a text or none; no epoch

abbrev pub done : Answer
done = record { number = 0; amount = 0; text = none; epoch = 0 }

abbrev pub refused : ℕ → Answer
refused n = record { number = n; amount = 0; text = none; epoch = 0 }

abbrev pub shows : ℕ → Bytes → Answer
shows m t = record { number = 0; amount = m; text = some t; epoch = 0 }

-- lookup of a point without a message
abbrev pub shows-none : Answer
shows-none = record { number = 0; amount = 0; text = none; epoch = 0 }

abbrev pub counts : ℕ → Answer
counts n = record { number = 0; amount = n; text = none; epoch = 0 }

unfoldable pub answered : List Call → Bytes → List Answer
unfolding definitions
answered calls img = answers call calls img

unfoldable pub numbers : List Answer → List ℕ
numbers [] = []
numbers (a ∷ more) = a.number ∷ numbers more

unfoldable pub told : List Call → Bytes → List ℕ
unfolding answered numbers
told calls img = numbers (answered calls img)

-- a list of calls as a file answers it, and behind the answers how the file then stands: X − D, and the bytes from D to
-- X
unfoldable pub filed : List Call → Bytes → List Answer
unfolding definitions
filed [] img =
    let m : ℕ = field img free_field - field img data_field in
    shows m (part img (field img data_field) m) ∷ []
filed (c ∷ calls) img = (call c img).answer ∷ filed calls (call c img).after

-- A new file of L bytes with N slots gives these answers to the calls; then X − D is so much, and these are its bytes
-- from D to X.
abbrev pub Files : ℕ → ℕ → List Call → List Answer → ℕ → Bytes → Type 0
Files L N calls expected n bytes = filed calls (headed 1 N L) ≡ expected ++ (shows n bytes ∷ [])
