-- The add that a move is, by whether the point's message is active.
-- Assumes nothing.
use mathlib.Core.Path.{◌≡◌, ap₂}
use Prim.Native.Nat.{ℕ, ◌+◌}
use mathlib.Core.Bool.{true, false}
use mathlib.Core.List.{[]}
use mathlib.Core.Option.{Option}
use Rattle.spec_file.specs.Bytes.{Bytes, part}
use Rattle.spec_file.specs.Image.{layout_of}
use Rattle.spec_file.specs.Messages.{head_size, length_at, text_at, is_active, shown, bytes_of, is_text}
use Rattle.spec_file.specs.Calls.{add}
use Rattle.spec_moves.specs.Moves.{move_mode}
use Rattle.growth_move.specs.Moving.{Taken}

module _ (new key old : Bytes) (o : ℕ) (x : Bytes) (r : ℕ) (out : Bytes) where
  pub taken_none : is_active old o ≡ false → x ≡ []
      → (r ≡ (add new key x 3).answer.number) × (out ≡ (add new key x 3).after)
      → Taken new key (shown (layout_of old) old o) r out
  unfolding shown bytes_of is_text move_mode
  taken_none a e w =
      let v : (r ≡ (add new key [] 3).answer.number) × (out ≡ (add new key [] 3).after) = rw e at w in
      rw a (record { number = v.0; after = v.1 })

  pub taken-some : is_active old o ≡ true → x ≡ text_at (layout_of old) old o
      → (r ≡ (add new key x 1).answer.number) × (out ≡ (add new key x 1).after)
      → Taken new key (shown (layout_of old) old o) r out
  unfolding shown bytes_of is_text move_mode
  taken-some a e w =
      let t : Bytes = text_at (layout_of old) old o in
      let v : (r ≡ (add new key t 1).answer.number) × (out ≡ (add new key t 1).after) = rw e at w in
      rw a (record { number = v.0; after = v.1 })

pub text-is : (old : Bytes) (o p m : ℕ) → p ≡ o + head_size (layout_of old) → m ≡ length_at (layout_of old) old o
    → part old p m ≡ text_at (layout_of old) old o
unfolding text_at
text-is old o p m e f = ap₂ (part old) e f
