-- The windows of an add or a delete: what they hold, and that the call changes no byte outside of them.
--     Only call img w        so of an accepted call
--     OnMessage, Entry, Walk     the windows of a message, of an add and of a delete, of slot i and a message offset
--     AddOnly, DeleteOnly    of every call whose search ended so
-- Assumes nothing.
use Rattle.std.specs.Prelude.{◌≡◌, true, false, ℕ, ◌+◌, ◌≤◌, ◌<◌, length, get_or}
use Rattle.spec_file.specs.Bytes.{Bytes}
use Rattle.spec_file.specs.Limits.{free_field, header_size}
use Rattle.spec_file.specs.Image.{field, layout_of, slot_size, slot_start, slot, vacant}
use Rattle.spec_file.specs.Search.{Probe, search}
use Rattle.spec_file.specs.Messages.{head_size, length_at, shown_length}
use Rattle.spec_file.specs.Calls.{Outcome, add, delete}
use Rattle.spec_changes.specs.Changes.{covered}
use Rattle.changes_windows.specs.Windows.{windows_of}
use Rattle.changes_windows.specs.declared.Windows.{Windows}

abbrev pub Only : (Bytes → Outcome Bytes) → Bytes → Windows → Type 0
Only call img w =
    (call img).answer.number ≡ 0 → (i : ℕ) → covered (windows_of w) i ≡ false
    → get_or (call img).after i 0 ≡ get_or img i 0

-- the first m bytes of the message at the offset, or none, at the data area's start
pub record OnMessage (D at m from end : ℕ) : Type 0 where
  pub none : at ≡ 0 → (from ≡ D) × (end ≡ D)
  pub some : (at ≡ 0 → ⊥) → (from ≡ at) × (end ≡ at + m)

-- an add of n bytes: the header, slot i, the message, and new space for its text and the bytes
pub record Entry (img : Bytes) (i at n : ℕ) (w : Windows) : Type 0 where
  pub header : header_size ≤ w.end1
  pub slot-from : w.from2 ≡ slot_start (layout_of img) i
  pub slot-end : w.end2 ≡ slot_start (layout_of img) i + slot_size (layout_of img)
  pub message : (at ≡ 0 → ⊥)
      → (w.from3 ≡ at) × (w.end3 ≡ at + (head_size (layout_of img) + length_at (layout_of img) img at))
  pub fresh-from : w.from4 ≡ field img free_field
  pub fresh-end : (m : ℕ) → m ≤ head_size (layout_of img) + shown_length (layout_of img) img at + n
      → field img free_field + m ≤ length img → field img free_field + m ≤ w.end4

-- a delete: the header, the letter, and the slots from i up to `last`, a vacant one, or i itself; round the table's end
-- where it comes first
pub record Walk (img : Bytes) (i at : ℕ) (w : Windows) : Type 0 where
  pub last : ℕ
  pub last-lt : last < (layout_of img).N
  pub vacant-last : (last ≡ i → ⊥) → vacant (layout_of img) (slot (layout_of img) img last) ≡ true
  pub header : header_size ≤ w.end1
  pub slot-from : w.from2 ≡ slot_start (layout_of img) i
  pub up : i < last → w.end2 ≡ slot_start (layout_of img) last
  pub round : last ≤ i → (w.end1 ≡ slot_start (layout_of img) last) × (w.end2 ≡ (layout_of img).D)
  pub message : (at ≡ 0 → ⊥) → (w.from3 ≡ at) × (w.end3 ≡ at + 1)

abbrev pub AddOnly : Bytes → Probe → ℕ → Windows → Type 0
AddOnly img s n w =
    (key bytes : Bytes) (mode : ℕ) → search (layout_of img) img key ≡ s → length bytes ≡ n
    → Only (λ (x : Bytes). add x key bytes mode) img w

abbrev pub DeleteOnly : Bytes → Probe → Windows → Type 0
DeleteOnly img s w =
    (key : Bytes) → search (layout_of img) img key ≡ s → Only (λ (x : Bytes). delete x key) img w
