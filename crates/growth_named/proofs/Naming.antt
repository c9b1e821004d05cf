-- The call's own number on the pair after the named point's move, from the pair before it; and both numbers in turn.
--     named-sound, sound-at, moved-bound     the message of an accepted move, and its space
--     foretold-9, foretold-renewed     the call's own, as the code comes to it
--     met-number, met-ready, other-number, other-ready      the named move, by the search in the old image
--     points-refused, points-own       the move's number, then the call's own
--     points-other                     of a name that is not in the old image
-- Assumes nothing.
use mathlib.Core.Path.{◌≡◌, refl, sym, ap, ap₂, ◌∙◌}
use Prim.Native.Nat.{ℕ, ◌+◌, ◌≤◌, ◌<◌}
use native.Mathlib.Omega.{arith}
use mathlib.Core.Bool.{Bool, true, false, cond, not, ◌&&◌}
use mathlib.Core.Option.{Option, none, some}
use lib.ListN.{length}
use lib.Dec.{eqb, leb}
use borrow.Author.Tests.{eqb-true, eq-eqb, ne_eqb, not-true}
use Rattle.spec_file.specs.Bytes.{Bytes, all_zero}
use Rattle.spec_file.specs.Limits.{free_field}
use Rattle.spec_file.specs.Image.{field, Layout, layout_of, slot, key_of, offset_of, vacant}
use Rattle.spec_file.specs.Search.{Probe, met, empty, exhausted, search, is_met}
use Rattle.spec_file.specs.Messages.{head_size, is_active, shown, bytes_of, is_text, shown_length, retire}
use Rattle.spec_file.specs.Delete.{deleted_at}
use Rattle.spec_file.specs.Inspect.{taken}
use Rattle.spec_file.specs.Questions.{first_no, mode_known, name_allowed, message_sound}
use Rattle.law_file.proofs.Tests.{by_bool, and_left, and_right, not-both, zero-yes, zero-no}
use Rattle.law_file.proofs.Opened.{Opened, opened-facts}
use Rattle.spec_moves.specs.Moves.{Pair, active_space, move_text, move_key, move_asks, moved_over}
use Rattle.spec_growth.specs.Growth.{old_probe, named_number, named_moved, ready, own_asks, first_of}
use Rattle.law_moves.proofs.Sum.{active-deleted}
use Rattle.law_moves.proofs.Foreseen.{moved_space, foreseen}
use Rattle.law_moves.proofs.Named.{MoveAccepted, move-accepted, named-own}
use Rattle.header_layout.specs.declared.shape.Shape.{Shape}
use Rattle.table_search.proofs.Headers.{layout-key, layout-slots}
use Rattle.growth_beside.specs.Rooms.{place_of, renewed_number}
use Rattle.growth_beside.proofs.Asked.{shown-size}
use Rattle.growth_named.specs.Names.{pair_of, Paired, Named, Foretold, Points}

text-is : (g : Layout) (img : Bytes) (o : ℕ) → is_text (shown g img o) ≡ is_active img o
unfolding shown is_text
text-is g img o = by_bool (is_active img o) (λ y. rw y refl) (λ n. rw n refl)

space-is : (h : Layout) (t : Option Bytes) → moved_space h t ≡ cond (is_text t) (head_size h + length (bytes_of t)) 0
unfolding moved_space is_text bytes_of
space-is h none = refl
space-is h (some x) = refl

pub moved-bound : (b : Bool) (head len : ℕ) → cond b (head + len) 0 ≤ head + len
moved-bound b head len = by_bool b (λ y. rw y (omega arith)) (λ n. rw n (omega arith))

-- what a name says of the other image's keys
module _ {old new key : Bytes} {s l : Shape} (w : Paired old new key s l) where
  pub named_new : name_allowed (layout_of new).K key ≡ true
  named_new = ap (λ (k : ℕ). name_allowed k key) (layout-key new l w.second.shape ∙ sym w.keys) ∙ w.name

  pub key-length : length key ≡ (layout_of new).K
  unfolding name_allowed
  key-length = eqb-true (length key) (layout_of new).K (and_left (eqb (length key) (layout_of new).K) _ named_new)

  pub key-nonzero : all_zero key ≡ false
  unfolding name_allowed
  key-nonzero = not-true (all_zero key) (and_right (eqb (length key) (layout_of new).K) (not (all_zero key)) named_new)

module _ {old new key : Bytes} {s l : Shape} {i : ℕ} (w : Named old new key s l i) where
  abbrev p : Pair
  p = pair_of old new

  abbrev g : Layout
  g = layout_of old

  abbrev h : Layout
  h = layout_of new

  abbrev at : ℕ
  at = offset_of g (slot g old i)

  abbrev t : Option Bytes
  t = shown g old at

  pub inside-table : i < g.N
  inside-table = omega (arith, w.inside, layout-slots old s w.pair.first.shape)

  pub point-there : taken g old i ≡ true
  unfolding taken vacant move_key
  point-there = ap not (ap all_zero w.key-is ∙ key-nonzero w.pair)

  module _ (z : first_no (move_asks p i) ≡ 0) where
    pub named-sound : message_sound g old at ≡ true
    named-sound = (move-accepted old new i z).sound

    pub sound-at : (o : ℕ) → o ≡ at → message_sound g old o ≡ true
    sound-at o e = ap (message_sound g old) e ∙ named-sound

    sum : active_space (deleted_at g old i) ≡ active_space (retire old at)
    sum = active-deleted old (opened-facts old w.pair.first.accepted) i inside-table point-there named-sound

    own_is : (bytes : Bytes) (mode : ℕ) → mode_known mode ≡ true
        → first_no (own_asks (moved_over p i) key bytes mode)
        ≡ foreseen (place_of old new at (moved_space h t)) h (length new) t bytes mode
    unfolding move_text
    own_is bytes mode k =
        named-own old new i (opened-facts new w.pair.second.accepted) key w.key-is (key-length w.pair)
        (key-nonzero w.pair) z sum bytes mode k

    module _ (m mode : ℕ) (k : mode_known mode ≡ true) where
      pub foretold-9 : mode ≡ 1 → Foretold old new key i m mode 9
      foretold-9 e =
          record {
            number = λ bytes b. sym (own_is bytes mode k ∙ rw (eq-eqb mode 1 e) refl);
          }

      pub foretold-renewed : (mode ≡ 1 → ⊥) → (o : ℕ) → o ≡ at → (active : Bool) → active ≡ is_active old o
          → (len : ℕ) → len ≡ shown_length g old o → (moved : ℕ) → moved ≡ cond active (head_size h + len) 0 → (r : ℕ)
          → ((text bytes : Bytes) → length text ≡ len → length bytes ≡ m
          → r ≡ renewed_number (place_of old new o moved) h (length new) (active && leb m len) text bytes mode)
          → Foretold old new key i m mode r
      foretold-renewed n o e active a len b moved c r f =
          let size : length (bytes_of t) ≡ len =
          shown-size w.pair.first at named-sound ∙ ap (shown_length g old) (sym e) ∙ sym b in
          let text : is_text t ≡ active = text-is g old at ∙ ap (is_active old) (sym e) ∙ sym a in
          let space : moved_space h t ≡ moved =
          space-is h t ∙ ap₂ (λ (x : Bool) (y : ℕ). cond x (head_size h + y) 0) text size ∙ sym c in
          record {
            number =
                λ bytes d.
                let held : (active && leb m len) ≡ (is_text t && leb (length bytes) (length (bytes_of t))) =
                ap₂ (λ (x : Bool) (y : ℕ). x && leb m y) (sym text) (sym size)
                ∙ ap (λ (y : ℕ). is_text t && leb y (length (bytes_of t))) (sym d) in
                f (bytes_of t) bytes size d
                ∙ ap (λ (x : Bool). renewed_number (place_of old new o moved) h (length new) x (bytes_of t) bytes mode)
                held
                ∙ ap₂ (λ (x y : ℕ). renewed_number (place_of old new x y) h (length new)
                (is_text t && leb (length bytes) (length (bytes_of t))) (bytes_of t) bytes mode) e (sym space)
                ∙ sym (own_is bytes mode k ∙ rw (ne_eqb mode 1 n) refl);
          }

-- ---- in turn

module _ (old new key : Bytes) where
  abbrev P : Pair
  P = pair_of old new

  module _ (i : ℕ) (e : search (layout_of old) old key ≡ met i) where
    pub met-number : named_number P (old_probe P key) ≡ first_no (move_asks P i)
    unfolding old_probe named_number
    met-number = rw e refl

    pub met-ready : ready P key ≡ moved_over P i
    unfolding ready old_probe named_moved
    met-ready = rw e refl

  none-due : (s : Probe) → is_met s ≡ false → named_number P s ≡ 0
  unfolding is_met named_number
  none-due (met i) q = absurd (not-both true refl q)
  none-due (empty i) q = refl
  none-due exhausted q = refl

  stays : (s : Probe) → is_met s ≡ false → named_moved P s ≡ P
  unfolding is_met named_moved
  stays (met i) q = absurd (not-both true refl q)
  stays (empty i) q = refl
  stays exhausted q = refl

  module _ (n : is_met (search (layout_of old) old key) ≡ false) where
    pub other-number : named_number P (old_probe P key) ≡ 0
    unfolding old_probe
    other-number = none-due (search (layout_of old) old key) n

    pub other-ready : ready P key ≡ P
    unfolding ready old_probe
    other-ready = stays (search (layout_of old) old key) n

  module _ (m mode : ℕ) where
    module _ (i : ℕ) (e : search (layout_of old) old key ≡ met i) where
      pub points-refused : (r : ℕ) → r ≡ first_no (move_asks P i) → (r ≡ 0 → ⊥) → Points old new key m mode r
      unfolding first_of
      points-refused r q z =
          let is = q ∙ sym (met-number i e) in
          record {
            number = λ bytes l. is ∙ sym (zero-no (named_number P (old_probe P key)) _ _ (λ y. z (is ∙ y)));
          }

      pub points-own : first_no (move_asks P i) ≡ 0 → (r : ℕ) → Foretold old new key i m mode r
          → Points old new key m mode r
      unfolding first_of
      points-own z r f =
          record {
            number =
                λ bytes l.
                f.number bytes l
                ∙ ap (λ (q : Pair). first_no (own_asks q key bytes mode)) (sym (met-ready i e))
                ∙ sym (zero-yes (named_number P (old_probe P key)) _ _ (met-number i e ∙ z));
          }

    pub points-other : is_met (search (layout_of old) old key) ≡ false → (r : ℕ)
        → ((bytes : Bytes) → length bytes ≡ m → r ≡ first_no (own_asks P key bytes mode)) → Points old new key m mode r
    unfolding first_of
    points-other n r f =
        record {
          number =
              λ bytes l.
              f bytes l
              ∙ ap (λ (q : Pair). first_no (own_asks q key bytes mode)) (sym (other-ready n))
              ∙ sym (zero-yes (named_number P (old_probe P key)) _ _ (other-number n));
        }
