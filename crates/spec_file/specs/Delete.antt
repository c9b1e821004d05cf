-- Document 01, "Messages", from "Delete:" on: what an accepted delete leaves. Knuth's Algorithm R (The Art of Computer
-- Programming, volume 3, section 6.4), run upwards.
--     closed g img i           the image with slot i emptied, and the gap closed behind it
--     deleted g img probe      the image that an accepted delete leaves
-- Assumes nothing.
use Rattle.std.specs.Prelude.{ℕ, zero, suc, ◌-◌, ◌*◌, Bool, true, false, leb}
use Rattle.spec_file.specs.Bytes.{Bytes}
use Rattle.spec_file.specs.Limits.{points_field}
use Rattle.spec_file.specs.Image.{field, set_field, Layout, slot, put_slot, key_of, offset_of, blank, vacant, home}
use Rattle.spec_file.specs.Search.{Probe, met, empty, exhausted, next, dist}
use Rattle.spec_file.specs.Messages.{retire}

-- "An entry whose home is not among the slots from the one after the hole up to its own":
-- i is among the slots from a up to b
unfoldable pub among : ℕ → ℕ → ℕ → ℕ → Bool
among N a b i = leb (dist N a i) (dist N a b)

-- whether the entry of slot j stays: its home is among those slots
abbrev pub stays : Layout → Bytes → ℕ → ℕ → Bool
stays g img hole j = among g.N (next g.N hole) j (home g (key_of g (slot g img j)))

-- the state of the walk over the slots: the image, and the slot that is looked at next
pub record Closing : Type 0 where
  pub image : Bytes
  pub at : ℕ

-- "moves into the hole, and its old slot, zeroed, is the new hole"
unfoldable pub moved : Layout → Bytes → ℕ → ℕ → Bytes
moved g img hole j = put_slot g (put_slot g img hole (slot g img j)) j (blank g)

-- "Look at the slots after it in turn, wrapping. .. The walk ends at the first empty slot, which may be the hole
-- itself."
-- The first number bounds the slots looked at; `close-ends` shows that it is never what ends the walk.
unfoldable pub close_from : ℕ → Layout → Bytes → ℕ → ℕ → Closing
close_from zero g img hole j = record { image = img; at = j }
close_from (suc looks) g img hole j =
    elim (vacant g (slot g img j)) [
      | true ↦ record { image = img; at = j }
      | false ↦
          elim (stays g img hole j) [
            | true ↦ close_from looks g img hole (next g.N j)
            | false ↦ close_from looks g (moved g img hole j) j (next g.N j)
          ]
    ]

-- "the slot is zeroed and is the hole", and the walk from the slot after it
unfoldable pub closed : Layout → Bytes → ℕ → Bytes
closed g img i = (close_from (g.N * g.N) g (put_slot g img i (blank g)) i (next g.N i)).image

-- "Delete: the message header, if active, becomes "d"; C falls by 1; the slot is zeroed and is the hole."
unfoldable pub deleted_at : Layout → Bytes → ℕ → Bytes
deleted_at g img i =
    closed g (set_field (retire img (offset_of g (slot g img i))) points_field (field img points_field - 1)) i

unfoldable pub deleted : Layout → Bytes → Probe → Bytes
deleted g img (met i) = deleted_at g img i
deleted g img (empty i) = img
deleted g img exhausted = img
