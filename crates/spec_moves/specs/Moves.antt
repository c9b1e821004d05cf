-- Document 02, Job 12, "A bigger table without a pause": the pair of images, its start, and how points move from the
-- old image to the new one. The calls during growth stand in `Growth`.
--     Pair              the old image and the new one
--     grow_number        the start's number; it writes nothing
--     move_asks          document 01's move of the point in a slot of the old image: its questions
--     moved_over         and the pair that an accepted one leaves
--     moves n p         the pair after so many moves of the lowest taken slot's point, or fewer
-- Assumes nothing.
use Rattle.std.specs.Prelude.{ℕ, zero, suc, ◌+◌, ◌-◌, Bool, cond, not, ◌&&◌, List, [], ◌∷◌, length, leb, ltb, eqb}
use Rattle.std.proofs.Math.Option.{Option, none, some}
use Rattle.spec_file.specs.Bytes.{Bytes}
use Rattle.spec_file.specs.Limits.{points_field, free_field}
use Rattle.spec_file.specs.Image.{field, major_of, Layout, layout_of, slot, key_of, offset_of}
use Rattle.spec_file.specs.Search.{Probe, search, is_met}
use Rattle.spec_file.specs.Messages.{head_size, length_at, is_active, shown, bytes_of, is_text, added}
use Rattle.spec_file.specs.Delete.{deleted_at}
use Rattle.spec_file.specs.Questions.{Question, ask, first_no, slot_to_take, message_sound, some_point, length_allowed, space_left, opened}
use Rattle.spec_file.specs.Inspect.{taken, next_taken, check}
use Rattle.spec_compaction.specs.Compact.{is_sound}

-- the old image, and the new one with the larger table
pub record Pair : Type 0 where
  pub old : Bytes
  pub new : Bytes

-- ---- the space of active messages

-- "header and length of each active message in the old that passes 11": of slot i's, if it is taken
unfoldable pub active_at : Layout → Bytes → ℕ → ℕ
active_at g img i =
    let o : ℕ = offset_of g (slot g img i) in
    cond (taken g img i && is_active img o && message_sound g img o) (head_size g + length_at g img o) 0

-- of the slots from i on, of those that are left
unfoldable pub active_from : Layout → Bytes → ℕ → ℕ → ℕ
active_from g img zero i = 0
active_from g img (suc left) i = active_at g img i + active_from g img left (suc i)

unfoldable pub active_space : Bytes → ℕ
active_space img = active_from (layout_of img) img (layout_of img).N 0

-- ---- the start

-- "of the same major version, with the same K"
unfoldable pub same_kind : Bytes → Bytes → Bool
same_kind old new = eqb (major_of new) (major_of old) && eqb (layout_of new).K (layout_of old).K

-- "a second sound one with C = 0 and X = D"
unfoldable pub unused : Bytes → Bool
unused new = is_sound (check new) && eqb (field new points_field) 0 && eqb (field new free_field) (layout_of new).D

-- "and a larger N"; "A second image that fails these conditions, or whose R is below the compacted U"
unfoldable pub second_fits : Bytes → Bytes → Bool
second_fits old new =
    unused new && same_kind old new && ltb (layout_of old).N (layout_of new).N
    && leb (active_space old) (length new - (layout_of new).D)

-- "Growth takes a sound image and a second sound one .., answers 0 and writes nothing"; "is answered 21, after 15"
unfoldable pub grow_number : Bytes → Bytes → ℕ
grow_number old new = first_no (opened old (ask 15 (is_sound (check old)) ∷ ask 21 (second_fits old new) ∷ []))

-- ---- a move

-- 01: "To move a point to a second image is to add it there in mode 1 with its active message, or without an offset if
-- it has none": the text and the mode of that add. Since Job 4 it is mode 3 with empty data that gives no offset.
unfoldable pub move_text : Bytes → ℕ → Option Bytes
move_text old i = shown (layout_of old) old (offset_of (layout_of old) (slot (layout_of old) old i))

unfoldable pub move_mode : Option Bytes → ℕ
move_mode t = cond (is_text t) 1 3

unfoldable pub move_key : Bytes → ℕ → Bytes
move_key old i = key_of (layout_of old) (slot (layout_of old) old i)

-- "The move is refused, changing nothing, with 11 if its message or the C here fails delete's question 11, else as that
-- add alone would be by 9, 10, 12 and 13." 02: "a move's 10 and 13 look at the new image alone". The add is one in mode
-- 1, so that a name which is there already gives 9 also where the point has no message.
unfoldable pub move_asks : Pair → ℕ → List Question
move_asks p i =
    let g : Layout = layout_of p.old in
    let h : Layout = layout_of p.new in
    let s : Probe = search h p.new (move_key p.old i) in
    ask 11 (message_sound g p.old (offset_of g (slot g p.old i)) && some_point p.old)
    ∷ ask 9 (not (is_met s))
    ∷ ask 10 (slot_to_take (field p.new points_field) h.N s)
    ∷ ask 12 (length_allowed h (move_text p.old i))
    ∷ ask 13 (space_left h (field p.new free_field) (length p.new) (move_text p.old i))
    ∷ []

-- "to add it there .., and to delete its slot here"
unfoldable pub moved_over : Pair → ℕ → Pair
moved_over p i =
    let t : Option Bytes = move_text p.old i in
    record {
      old = deleted_at (layout_of p.old) p.old i;
      new = added (layout_of p.new) p.new (move_key p.old i) (bytes_of t) (move_mode t);
    }

-- "the old one's lowest taken slot", anew before each move
unfoldable pub lowest_slot : Bytes → Option ℕ
lowest_slot old = next_taken (layout_of old) old 0

-- "then moves the point in the old one's lowest taken slot, 8 times or until none is left"; "A refused move ends the
-- moves"
unfoldable pub moves : ℕ → Pair → Pair
moves zero p = p
moves (suc n) p =
    elim (lowest_slot p.old) [
      | none ↦ p
      | some i ↦ cond (eqb (first_no (move_asks p i)) 0) (moves n (moved_over p i)) p
    ]

-- how many points an accepted add or delete moves, besides the one that it names
abbrev pub moves_each : ℕ
moves_each = 8
