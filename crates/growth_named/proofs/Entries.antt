-- The move's questions, as the code comes to them.
--     only-met, only-exhausted     the search's answer by its arm
--     shown-none, shown-some, text-size     what an offset shows
--     entry-9, entry-exhausted, entry-full, entry-bare, entry-room     9, 10, 12 and 13
--     moving-11-message, moving-11-points, moving-on                   11, and what is behind it
-- Assumes nothing.
use mathlib.Core.Path.{◌≡◌, refl, sym, ap, ◌∙◌}
use Prim.Native.Nat.{ℕ, ◌≤◌, ◌<◌}
use native.Mathlib.Omega.{arith}
use mathlib.Core.Bool.{Bool, true, false, not, ◌&&◌}
use mathlib.Core.Option.{Option, none, some}
use lib.ListN.{length}
use borrow.Author.Tests.{le-leb, lt-leb, le-ltb, lt-ltb}
use denote.Enum.Declared.{tag_of}
use Rattle.spec_file.specs.Bytes.{Bytes}
use Rattle.spec_file.specs.Limits.{points_field}
use Rattle.spec_file.specs.Image.{field, Layout, layout_of, slot, offset_of}
use Rattle.spec_file.specs.Search.{Probe, met, empty, exhausted, search, is_met, is_empty}
use Rattle.spec_file.specs.Messages.{length_at, text_at, is_active, shown, bytes_of, shown_length}
use Rattle.spec_file.specs.Questions.{first_no, slot_to_take, message_sound, some_point, place_number}
use Rattle.law_file.proofs.Tests.{and-true}
use Rattle.law_file.proofs.Opened.{first_no-yes, first_no-no}
use Rattle.law_file.proofs.Outcomes.{room-none}
use Rattle.spec_moves.specs.Moves.{move_text, move_key, move_asks}
use Rattle.law_moves.proofs.Moved.{move-11}
use Rattle.header_layout.specs.Shapes.{Open}
use Rattle.header_layout.specs.declared.shape.Shape.{Shape}
use Rattle.growth_beside.proofs.Asked.{shown-size}
use Rattle.table_search.specs.declared.Found.{Found}
use Rattle.table_search.specs.declared.Found.TheVariants.{Met, Empty, Exhausted}
use Rattle.table_search.specs.Probes.{probe_of}
use Rattle.table_search.specs.contracts.Found.{the_type}
use Rattle.growth_named.specs.Names.{pair_of, entry_number}

-- the variants' numbers are 0, 1 and 2
pub only-met : (f : Found) → ◌≡◌ {A = ℕ} (tag_of the_type f) 0 → is_met (probe_of f) ≡ true
unfolding probe_of is_met
only-met (Met s) h = refl
only-met (Empty s) h = absurd (let z : ◌≡◌ {A = ℕ} 1 0 = h in omega arith)
only-met Exhausted h = absurd (let z : ◌≡◌ {A = ℕ} 2 0 = h in omega arith)

pub only-exhausted : (f : Found) → ◌≡◌ {A = ℕ} (tag_of the_type f) 2 → probe_of f ≡ exhausted
unfolding probe_of
only-exhausted (Met s) h = absurd (let z : ◌≡◌ {A = ℕ} 0 2 = h in omega arith)
only-exhausted (Empty s) h = absurd (let z : ◌≡◌ {A = ℕ} 1 2 = h in omega arith)
only-exhausted Exhausted h = refl

-- what an offset shows, by its letter
pub shown-none : (g : Layout) (img : Bytes) (o : ℕ) → is_active img o ≡ false → shown g img o ≡ none
unfolding shown
shown-none g img o n = rw n refl

pub shown-some : (g : Layout) (img : Bytes) (o : ℕ) → is_active img o ≡ true → shown g img o ≡ some (text_at g img o)
unfolding shown
shown-some g img o y = rw y refl

-- how long that text is
pub text-size : {img : Bytes} {s : Shape} → Open img s → (o : ℕ) → message_sound (layout_of img) img o ≡ true
    → is_active img o ≡ true → length (text_at (layout_of img) img o) ≡ length_at (layout_of img) img o
unfolding bytes_of shown_length
text-size {img} open₀ o m y =
    sym (ap (λ (t : Option Bytes). length (bytes_of t)) (shown-some (layout_of img) img o y))
    ∙ shown-size open₀ o m
    ∙ rw y refl

module _ (new key : Bytes) (f : Found) (ended : probe_of f ≡ search (layout_of new) new key) (t : Option Bytes) where
  abbrev h : Layout
  h = layout_of new

  abbrev number : ℕ
  number = entry_number new (search h new key) t

  by-probe : (s : Probe) → probe_of f ≡ s → number ≡ entry_number new s t
  by-probe s e = ap (λ (x : Probe). entry_number new x t) (sym ended ∙ e)

  pub entry-9 : is_met (probe_of f) ≡ true → number ≡ 9
  entry-9 m = first_no-no 9 _ _ (ap not (ap is_met (sym ended) ∙ m))

  pub entry-exhausted : probe_of f ≡ exhausted → number ≡ 10
  unfolding is_met is_empty slot_to_take
  entry-exhausted e = by-probe exhausted e ∙ first_no-yes 9 true _ refl ∙ first_no-no 10 false _ refl

  module _ (i : ℕ) (e : probe_of f ≡ empty i) where
    pub entry-full : h.N ≤ field new points_field → number ≡ 10
    unfolding is_met is_empty slot_to_take
    entry-full l =
        by-probe (empty i) e ∙ first_no-yes 9 true _ refl ∙ first_no-no 10 _ _ (le-ltb (field new points_field) h.N l)

    pub entry-room : field new points_field < h.N → number ≡ place_number h new t
    unfolding is_met is_empty slot_to_take
    entry-room l =
        by-probe (empty i) e ∙ first_no-yes 9 true _ refl ∙ first_no-yes 10 _ _ (lt-ltb (field new points_field) h.N l)

    pub entry-bare : field new points_field < h.N → t ≡ none → number ≡ 0
    entry-bare l n = entry-room l ∙ ap (place_number h new) n ∙ room-none h new

module _ (old new key : Bytes) (i : ℕ) (is : move_key old i ≡ key) (o : ℕ)
    (at : o ≡ offset_of (layout_of old) (slot (layout_of old) old i)) where
  abbrev asks : ℕ
  asks = first_no (move_asks (pair_of old new) i)

  abbrev eleven : Bool
  eleven = message_sound (layout_of old) old (offset_of (layout_of old) (slot (layout_of old) old i)) && some_point old

  pub moving-11-message : message_sound (layout_of old) old o ≡ false → asks ≡ 11
  moving-11-message s = move-11 old new i (rw (ap (message_sound (layout_of old) old) (sym at) ∙ s) refl)

  module _ (s : message_sound (layout_of old) old o ≡ true) where
    there : message_sound (layout_of old) old (offset_of (layout_of old) (slot (layout_of old) old i)) ≡ true
    there = ap (message_sound (layout_of old) old) (sym at) ∙ s

    pub moving-11-points : field old points_field ≡ 0 → asks ≡ 11
    unfolding some_point
    moving-11-points z =
        move-11 old new i (rw (there, lt-leb 1 (field old points_field) (omega (arith, z))) refl)

    pub moving-on : (field old points_field ≡ 0 → ⊥)
        → asks ≡ entry_number new (search (layout_of new) new key) (shown (layout_of old) old o)
    unfolding move_asks move_text some_point
    moving-on z =
        first_no-yes 11 eleven _ (and-true _ _ there (le-leb 1 (field old points_field) (omega (arith, z))))
        ∙ ap (λ (k : Bytes). entry_number new (search (layout_of new) new k)
        (shown (layout_of old) old (offset_of (layout_of old) (slot (layout_of old) old i)))) is
        ∙ ap (λ (x : ℕ). entry_number new (search (layout_of new) new key) (shown (layout_of old) old x)) (sym at)
