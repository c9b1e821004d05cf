-- What a move leaves by the answers of its questions, as its contract says it.
--     sound-no, points-no, both_yes       question 11 by the code's two tests
--     moves-refused, moves-refused-new, moves-done      the contract, where it is refused and where it is not
-- Assumes nothing.
use Prim.Native.Nat.{ℕ}
use native.Mathlib.Omega.{arith}
use mathlib.Core.Path.{◌≡◌, refl, sym, ap, ◌∙◌}
use mathlib.Core.Bool.{true, false, ◌&&◌}
use mathlib.Core.Option.{Option}
use borrow.Author.Tests.{le-leb, lt-leb}
use Rattle.spec_file.specs.Bytes.{Bytes}
use Rattle.spec_file.specs.Limits.{points_field}
use Rattle.spec_file.specs.Image.{field, Layout, layout_of, slot, key_of, offset_of}
use Rattle.spec_file.specs.Search.{search, is_met}
use Rattle.spec_file.specs.Messages.{shown, bytes_of, added}
use Rattle.spec_file.specs.Delete.{deleted_at}
use Rattle.spec_file.specs.Questions.{first_no, name_allowed, message_sound, some_point, open_number, add_number}
use Rattle.spec_file.specs.Calls.{settled, add, plain}
use Rattle.law_file.proofs.Tests.{and-true}
use Rattle.law_file.proofs.Outcomes.{settled-yes, settled-no}
use Rattle.spec_moves.specs.Moves.{Pair, move_text, move_mode, move_key, move_asks, moved_over}
use Rattle.law_moves.proofs.Moved.{move-add}
use Rattle.growth_move.specs.Moving.{Taken, Moved}

module _ (old new : Bytes) (i : ℕ) where
  abbrev p : Pair
  p = record { old = old; new = new }

  abbrev g : Layout
  g = layout_of old

  abbrev h : Layout
  h = layout_of new

  abbrev o : ℕ
  o = offset_of g (slot g old i)

  abbrev key : Bytes
  key = key_of g (slot g old i)

  abbrev t : Option Bytes
  t = shown g old o

  pub moves-refused : (r : ℕ) → first_no (move_asks p i) ≡ r → (r ≡ 0 → ⊥) → Moved old new i r old new
  moves-refused r e z =
      record { number = sym e; first = sym (settled-no r old _ z); second = sym (settled-no r new _ z) }

  pub sound-no : (o' : ℕ) → o' ≡ o → message_sound g old o' ≡ false → (message_sound g old o && some_point old) ≡ false
  sound-no o' e h = rw (ap (message_sound g old) (sym e) ∙ h) refl

  pub points-no : (o' n : ℕ) → o' ≡ o → message_sound g old o' ≡ true → n ≡ field old points_field → n ≡ 0
      → (message_sound g old o && some_point old) ≡ false
  unfolding some_point
  points-no o' n e h f z =
      rw (ap (message_sound g old) (sym e) ∙ h, lt-leb 1 (field old points_field) (omega (arith, f, z))) refl

  pub both_yes : (o' n : ℕ) → o' ≡ o → message_sound g old o' ≡ true → n ≡ field old points_field → (n ≡ 0 → ⊥)
      → (message_sound g old o && some_point old) ≡ true
  unfolding some_point
  both_yes o' n e h f z =
      and-true _ _ (ap (message_sound g old) (sym e) ∙ h) (le-leb 1 (field old points_field) (omega (arith, f, z)))

  module _ (s : (message_sound g old o && some_point old) ≡ true) (m : is_met (search h new key) ≡ false)
      (z : open_number new ≡ 0) (a : name_allowed h.K key ≡ true) (o' : ℕ) (key' : Bytes) (eo : o' ≡ o)
      (ek : key' ≡ key)
      (r : ℕ) (new' : Bytes)
      (w : Taken new key' (shown g old o') r new') where
    same_add : Taken new key t r new'
    same_add = rw (eo, ek) at w

    number_is : r ≡ add_number new key (bytes_of t) (move_mode t)
    unfolding add plain
    number_is = same_add.number

    after_is : new' ≡ settled r new (moved_over p i).new
    unfolding add moved_over move_key move_text
    after_is =
        same_add.after ∙ ap (λ (n : ℕ). settled n new (added h new key (bytes_of t) (move_mode t))) (sym number_is)

    pub moves-refused-new : (r ≡ 0 → ⊥) → Moved old new i r old new'
    moves-refused-new n =
        record {
          number = number_is ∙ sym (move-add old new i s m z a);
          first = sym (settled-no r old _ n);
          second = after_is;
        }

    pub moves-done : r ≡ 0 → (old' : Bytes) → old' ≡ deleted_at g old i → Moved old new i 0 old' new'
    unfolding moved_over
    moves-done q old' e =
        record {
          number = sym q ∙ number_is ∙ sym (move-add old new i s m z a);
          first = e ∙ sym (settled-yes 0 old _ refl);
          second = after_is ∙ ap (λ (n : ℕ). settled n new (moved_over p i).new) q;
        }
