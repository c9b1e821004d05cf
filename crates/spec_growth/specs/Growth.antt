-- Document 02, Job 12: the calls during growth, on a pair of any bytes. Each gives both images afterwards and the
-- answer. Readers: "Lookups search old, then new; count answers both C together"; Jobs 13 and 14 say what the choice by
-- ranges and by epoch is in growth.
--     ready p key       the pair as the named point's move leaves it, or as it was
--     grow_add, grow_delete, grow_lookup, grow_count     01's calls
--     grow_store, grow_read, grow_filled                records by column
--     grow_select, grow_at_epoch                        slots in ranges, and the choice by epoch
-- Assumes nothing.
use Rattle.std.specs.Prelude.{ℕ, ◌+◌, Bool, true, false, cond, not, ◌&&◌, ◌||◌, List, [], ◌∷◌, ◌++◌, length, ltb, eqb}
use Rattle.std.proofs.Math.Option.{none}
use Rattle.spec_file.specs.Bytes.{Bytes, store}
use Rattle.spec_file.specs.Limits.{points_field, free_field}
use Rattle.spec_file.specs.Image.{field, Layout, layout_of}
use Rattle.spec_file.specs.Search.{Probe, met, empty, exhausted, search, is_met, slot_of}
use Rattle.spec_file.specs.Messages.{placed_text, added}
use Rattle.spec_file.specs.Delete.{deleted}
use Rattle.spec_file.specs.Questions.{Question, ask, first_no, name_allowed, met_in_mode4, new_in_mode1, slot_to_take, met_message_sound, length_allowed, space_left, opened, named, removed_asks, open_number}
use Rattle.spec_file.specs.Calls.{Outcome, plain, settled, lookup_start, lookup_length, lookup}
use Rattle.spec_columns.specs.Columns.{whole_records, columns}
use Rattle.spec_records.specs.Records.{read_records, filled_records}
use Rattle.spec_range.specs.Ranges.{ranges_allowed, list_holds, selected, slot_numbers}
use Rattle.spec_epoch.specs.Epochs.{chosen, epoch_at, key_dated, prism_allowed, Dated, refused_dated, at_epoch}
use Rattle.spec_moves.specs.Moves.{Pair, active_space, same_kind, move_asks, moved_over, moves, moves_each}

-- ---- what every call on a pair asks first

-- "later one that fails 1, 5, 6, version or K, directly after 6, before any other number put there": 21. It asks less
-- than the start.
unfoldable pub second_known : Pair → Bool
second_known p = eqb (open_number p.new) 0 && same_kind p.old p.new

unfoldable pub pair_opened : Pair → List Question → List Question
pair_opened p more = opened p.old (ask 21 (second_known p) ∷ more)

unfoldable pub pair_number : Pair → List Question → ℕ
pair_number p more = first_no (pair_opened p more)

abbrev pub old_key : Pair → ℕ
old_key p = (layout_of p.old).K

-- ---- the point that a call names

-- where its search in the old image ends
unfoldable pub old_probe : Pair → Bytes → Probe
old_probe p key = search (layout_of p.old) p.old key

-- "first moves (as 01 says) the point it names, if still in the old image": the move's number, 0 where none is due
unfoldable pub named_number : Pair → Probe → ℕ
named_number p (met i) = first_no (move_asks p i)
named_number p (empty i) = 0
named_number p exhausted = 0

unfoldable pub named_moved : Pair → Probe → Pair
named_moved p (met i) = moved_over p i
named_moved p (empty i) = p
named_moved p exhausted = p

-- the pair to which the call's other questions are put
unfoldable pub ready : Pair → Bytes → Pair
ready p key = named_moved p (old_probe p key)

-- ---- the call's own questions

-- "a call's own 10 reckons with both C"
unfoldable pub both_points : Pair → ℕ
both_points p = field p.old points_field + field p.new points_field

-- "its 13 with U, in the file the new X − D plus header and length of each active message in the old that passes 11":
-- the place from which new space is reckoned, D + U
unfoldable pub reckoned_place : Pair → ℕ
reckoned_place p = field p.new free_field + active_space p.old

-- add's 14 for mode 4, then 9 to 13, put to the new image with a number of points and a place
unfoldable pub beside_asks : ℕ → ℕ → Layout → Bytes → Probe → Bytes → ℕ → List Question
beside_asks points place h img s data' mode =
    ask 14 (met_in_mode4 s mode)
    ∷ ask 9 (new_in_mode1 s mode)
    ∷ ask 10 (slot_to_take points h.N s)
    ∷ ask 11 (met_message_sound h img s)
    ∷ ask 12 (length_allowed h (placed_text h img s data' mode))
    ∷ ask 13 (space_left h place (length img) (placed_text h img s data' mode))
    ∷ []

unfoldable pub own_asks : Pair → Bytes → Bytes → ℕ → List Question
own_asks q key data' mode =
    let h : Layout = layout_of q.new in
    beside_asks (both_points q) (reckoned_place q) h q.new (search h q.new key) data' mode

-- the first number, or where it is 0 the second
unfoldable pub first_of : ℕ → ℕ → ℕ
first_of n m = cond (eqb n 0) m n

-- "the named point's is tried after 7, 8 and storing's 19, before the call's other questions, and its number refuses
-- the call": what comes before the move, the move, and the call's own
unfoldable pub in_turn : Pair → List Question → Bytes → List Question → ℕ
in_turn p first key own = first_of (pair_number p first) (first_of (named_number p (old_probe p key)) (first_no own))

-- ---- the calls that move points

-- "Each following accepted add or delete first moves .. the point it names, .., then acts on the new one, then moves
-- the point in the old one's lowest taken slot, 8 times": from the pair after the named move, and the new image after
-- the act
unfoldable pub acted : Pair → Bytes → Pair
acted q new = moves moves_each (record { old = q.old; new = new })

-- "a refused call, a lookup and a count move none"
unfoldable pub settled_pair : ℕ → Pair → Pair → Outcome Pair
settled_pair n p after = record { after = cond (eqb n 0) after p; answer = plain n }

-- the pair after an add of these bytes
unfoldable pub added_pair : Pair → Bytes → Bytes → ℕ → Pair
added_pair p key data' mode =
    let q : Pair = ready p key in
    acted q (added (layout_of q.new) q.new key data' mode)

unfoldable pub grow_add_number : Pair → Bytes → Bytes → ℕ → ℕ
grow_add_number p key data' mode = in_turn p (named (old_key p) key mode []) key (own_asks (ready p key) key data' mode)

unfoldable pub grow_add : Pair → Bytes → Bytes → ℕ → Outcome Pair
grow_add p key data' mode = settled_pair (grow_add_number p key data' mode) p (added_pair p key data' mode)

unfoldable pub grow_delete_number : Pair → Bytes → ℕ
grow_delete_number p key =
    let new : Bytes = (ready p key).new in
    let h : Layout = layout_of new in
    in_turn p (ask 7 (name_allowed (old_key p) key) ∷ []) key (removed_asks h new (search h new key))

unfoldable pub grow_delete : Pair → Bytes → Outcome Pair
grow_delete p key =
    let q : Pair = ready p key in
    let h : Layout = layout_of q.new in
    settled_pair (grow_delete_number p key) p (acted q (deleted h q.new (search h q.new key)))

-- Job 10's storing is an add in mode 2 of what is stored, with 19 after 7
unfoldable pub grow_store_number : Pair → Bytes → Bytes → ℕ → ℕ
grow_store_number p key recs W =
    in_turn p (ask 7 (name_allowed (old_key p) key) ∷ ask 19 (whole_records W (length recs)) ∷ []) key
    (own_asks (ready p key) key (columns W recs) 2)

unfoldable pub grow_store : Pair → Bytes → Bytes → ℕ → Outcome Pair
grow_store p key recs W = settled_pair (grow_store_number p key recs W) p (added_pair p key (columns W recs) 2)

-- ---- the calls that read

-- "Lookups search old, then new": whether the new image is the one that answers, and that image
unfoldable pub held_in_new : Pair → Bytes → Bool
held_in_new p key = not (is_met (old_probe p key))

unfoldable pub holder : Pair → Bytes → Bytes
holder p key = cond (held_in_new p key) p.new p.old

-- what a call on a name asks before it goes to that image
unfoldable pub grow_name_number : Pair → Bytes → ℕ
grow_name_number p key = pair_number p (ask 7 (name_allowed (old_key p) key) ∷ [])

unfoldable pub grow_lookup : Pair → Bytes → Outcome Pair
grow_lookup p key =
    let n : ℕ = grow_name_number p key in
    record { after = p; answer = cond (eqb n 0) (lookup (holder p key) key).answer (plain n) }

-- where the text that is shown starts in the image that has it, and its length, both 0 with none
unfoldable pub grow_lookup_start : Pair → Bytes → ℕ
grow_lookup_start p key = cond (eqb (grow_name_number p key) 0) (lookup_start (holder p key) key) 0

unfoldable pub grow_lookup_length : Pair → Bytes → ℕ
grow_lookup_length p key = cond (eqb (grow_name_number p key) 0) (lookup_length (holder p key) key) 0

-- whether a text is shown, and in the new image: 1, else 0
unfoldable pub grow_lookup_in_new : Pair → Bytes → ℕ
grow_lookup_in_new p key = cond (not (eqb (grow_lookup_start p key) 0) && held_in_new p key) 1 0

-- "count answers both C together"
unfoldable pub grow_count : Pair → Outcome Pair
grow_count p =
    let n : ℕ = pair_number p [] in
    record {
      after = p;
      answer = record { number = n; amount = cond (eqb n 0) (both_points p) 0; text = none; epoch = 0 };
    }

-- Job 10's reading, with a lent slice of so many bytes, and what a lent slice holds afterwards
unfoldable pub grow_read : Pair → Bytes → ℕ → Outcome Pair
grow_read p key room =
    let n : ℕ = grow_name_number p key in
    record { after = p; answer = cond (eqb n 0) (read_records (holder p key) key room).answer (plain n) }

unfoldable pub grow_filled : Pair → Bytes → Bytes → Bytes
grow_filled p key out = settled (grow_name_number p key) out (filled_records (holder p key) key out)

-- Job 13: "In growth the old image's come first, and each image's number is answered"; "a list that can't hold N slot
-- numbers of 4 bytes (both N added during growth) is answered 16, here after 22"
pub record PairSelection : Type 0 where
  pub number : ℕ
  pub old_found : ℕ
  pub new_found : ℕ
  pub list : Bytes

unfoldable pub grow_select_number : Pair → Bytes → Bytes → ℕ → ℕ
grow_select_number p lowest highest list =
    pair_number p
    (ask 22 (ranges_allowed (old_key p) lowest highest)
    ∷ ask 16 (list_holds ((layout_of p.old).N + (layout_of p.new).N) list) ∷ [])

unfoldable pub grow_select : Pair → Bytes → Bytes → Bytes → PairSelection
grow_select p lowest highest list =
    let n : ℕ = grow_select_number p lowest highest (length list) in
    let first : List ℕ = selected (layout_of p.old) p.old lowest highest in
    let second : List ℕ = selected (layout_of p.new) p.new lowest highest in
    record {
      number = n;
      old_found = cond (eqb n 0) (length first) 0;
      new_found = cond (eqb n 0) (length second) 0;
      list = settled n list (store list 0 (slot_numbers (first ++ second)));
    }

-- Job 14: "In growth both images are searched, the old first at a tie": whether the entry is the new image's, and the
-- image that has it
unfoldable pub dated_in_new : Pair → Bytes → ℕ → Bool
dated_in_new p name t =
    let g : Layout = layout_of p.old in
    let h : Layout = layout_of p.new in
    let s : Probe = chosen g p.old name t in
    let s' : Probe = chosen h p.new name t in
    is_met s' && (not (is_met s) || ltb (epoch_at g p.old (slot_of s)) (epoch_at h p.new (slot_of s')))

unfoldable pub dated_holder : Pair → Bytes → ℕ → Bytes
dated_holder p name t = cond (dated_in_new p name t) p.new p.old

-- 23 and 7, before it goes to that image
unfoldable pub grow_dated_number : Pair → Bytes → ℕ
grow_dated_number p name = pair_number p (ask 23 (key_dated (old_key p)) ∷ ask 7 (prism_allowed (old_key p) name) ∷ [])

unfoldable pub grow_at_epoch : Pair → Bytes → ℕ → Dated
grow_at_epoch p name t =
    let n : ℕ = grow_dated_number p name in
    cond (eqb n 0) (at_epoch (dated_holder p name t) name t) (refused_dated n)

-- whether a text is shown, and in the new image: 1, else 0
unfoldable pub grow_dated_in : Pair → Bytes → ℕ → ℕ
grow_dated_in p name t = cond (not (eqb (grow_at_epoch p name t).start 0) && dated_in_new p name t) 1 0
