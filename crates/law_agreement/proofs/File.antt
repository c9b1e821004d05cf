-- The invariant of a file that calls have reached, and how a change to one point keeps it.
--     File g img            1. its header is accepted; 2. searches find what stands in the table; 3. C is the number of
--                           taken slots; 4. messages pass question 11, and their lengths are below 256 ^ W; 5. messages
--                           of different points have no byte in common
--     point_of g img key     a point as the book has it: name, text or none, length held, whether it has an offset
--     Change g img img' key what a step that concerns the point `key` alone leaves
--     file-change, point-other    such a step keeps the invariant, and every other point
--     change-trans, change-any    changes in turn; a step that concerns no point
-- Assumes nothing.
use mathlib.Core.Path.{◌≡◌, refl, sym, ap, ap₂, ◌∙◌, subst}
use Prim.Native.Nat.{ℕ, ◌^◌, ◌≤◌, ◌<◌}
use native.Mathlib.Omega.{arith}
use mathlib.Core.Bool.{true, false, not}
use mathlib.Core.List.{[]}
use mathlib.Core.Option.{Option, none, some}
use lib.ListN.{length}
use lib.Dec.{eqb}
use borrow.Author.Tests.{eqb-true, not-true}
use Rattle.spec_file.specs.Bytes.{Bytes, all_zero}
use Rattle.spec_file.specs.Limits.{points_field, free_field, slots_field, data_field}
use Rattle.spec_file.specs.Image.{field, Layout, layout_of, offset_of}
use Rattle.spec_file.specs.Messages.{shown, held, is_active}
use Rattle.spec_file.specs.Questions.{name_allowed, version_known}
use Rattle.spec_book.specs.Book.{Entry}
use Rattle.law_file.proofs.Tests.{by-eq, and_left, and_right}
use Rattle.law_file.proofs.Bytes.{Apart, apart-sym, by-same}
use Rattle.law_file.proofs.Slots.{Room, layout-most}
use Rattle.law_file.proofs.Opened.{Opened, opened-room}
use Rattle.law_file.proofs.Kept.{Fixed, fixed-trans, kept-layout, opened-known}
use Rattle.law_file.proofs.Table.{Findable, entry_of, weight}
use Rattle.law_file.proofs.Stretch.{span, Stored, SameOn, same-on-trans, span_same, shown-same, held_same, stored_same}

-- ---- names

abbrev pub Allowed : Layout → Bytes → Type 0
Allowed g key = name_allowed g.K key ≡ true

pub allowed-length : (g : Layout) (key : Bytes) → Allowed g key → length key ≡ g.K
unfolding name_allowed
allowed-length g key a = eqb-true _ _ (and_left (eqb (length key) g.K) (not (all_zero key)) a)

pub allowed-zero : (g : Layout) (key : Bytes) → Allowed g key → all_zero key ≡ false
unfolding name_allowed
allowed-zero g key a = not-true _ (and_right (eqb (length key) g.K) (not (all_zero key)) a)

-- ---- a point's value

abbrev pub value_of : Layout → Bytes → Bytes → ℕ → Entry
value_of g img key o = record { name = key; text = shown g img o; held = held g img o; offset? = not (eqb o 0) }

unfoldable pub point_at : Layout → Bytes → Bytes → Option Bytes → Option Entry
point_at g img key none = none
point_at g img key (some s) = some (value_of g img key (offset_of g s))

unfoldable pub point_of : Layout → Bytes → Bytes → Option Entry
point_of g img key = point_at g img key (entry_of g img key)

pub point_of-some : (g : Layout) (img key s : Bytes) → entry_of g img key ≡ some s
    → point_of g img key ≡ some (value_of g img key (offset_of g s))
unfolding point_of point_at
point_of-some g img key s e = rw e refl

pub point_of-none : (g : Layout) (img key : Bytes) → entry_of g img key ≡ none → point_of g img key ≡ none
unfolding point_of point_at
point_of-none g img key e = rw e refl

-- a point without a message has no text and holds nothing
pub none-value : (g : Layout) (img img' key : Bytes) → value_of g img' key 0 ≡ value_of g img key 0
unfolding shown held is_active
none-value g img img' key = refl

-- a point whose message's stretch is the same has the same value
pub value_same : (g : Layout) (img img' key : Bytes) (o : ℕ) → ((o ≡ 0 → ⊥) → SameOn img img' o (span g img o))
    → value_of g img' key o ≡ value_of g img key o
value_same g img img' key o same-on =
    by-eq o 0
    (λ z. rw z (none-value g img img' key))
    (λ z.
    ap₂ (λ (t : Option Bytes) (h : ℕ). record { name = key; text = t; held = h; offset? = not (eqb o 0) })
    (shown-same g img img' o (same-on z)) (held_same g img img' o (same-on z)))

pub by-entry {ℓ} : {A : Type ℓ} (o : Option Bytes) → (o ≡ none → A) → ((s : Bytes) → o ≡ some s → A) → A
by-entry none n y = n refl
by-entry (some s) n y = y s refl

-- ---- the invariant

pub record File (g : Layout) (img : Bytes) : Type 0 where
  pub layout : layout_of img ≡ g
  pub opened : Opened img
  pub table : Findable g img
  pub counted : field img points_field ≡ weight g img (λ s. 1)
  pub messages : (key s : Bytes) → Allowed g key → entry_of g img key ≡ some s → Stored g img (offset_of g s)
  pub apart : (key key' s s' : Bytes) → Allowed g key → Allowed g key' → (key ≡ key' → ⊥)
      → entry_of g img key ≡ some s → entry_of g img key' ≡ some s' → (offset_of g s ≡ 0 → ⊥) → (offset_of g s' ≡ 0 → ⊥)
      → Apart (offset_of g s) (span g img (offset_of g s)) (offset_of g s') (span g img (offset_of g s'))

-- the header's numbers by the layout
module _ {g : Layout} {img : Bytes} (f : File g img) where
  pub file-slots : field img slots_field ≡ g.N
  unfolding layout_of
  file-slots = ap (λ (l : Layout). l.N) f.layout

  pub file-data : field img data_field ≡ g.D
  unfolding layout_of
  file-data = ap (λ (l : Layout). l.D) f.layout

  pub file-room : Room g (length img)
  file-room = subst (λ (l : Layout). Room l (length img)) f.layout (opened-room img f.opened)

  -- a length that is allowed can be written in W bytes
  pub file-most : g.most < 256 ^ g.W
  file-most = subst (λ (l : Layout). l.most < 256 ^ l.W) f.layout (layout-most img)

  pub file-some : 0 < g.N
  file-some = omega (arith, f.opened.slots-low, file-slots)

  -- the empty name is no point's: where a step concerns no point it is its key
  pub not-allowed : Allowed g [] → ⊥
  unfolding layout_of
  not-allowed a =
      omega (arith, f.opened.key-low, ap (λ (l : Layout). l.K) f.layout, allowed-length g [] a)

-- ---- a change to one point

pub record Change (g : Layout) (img img' key : Bytes) : Type 0 where
  pub kept : Fixed img img'
  pub known : version_known img' ≡ true
  pub free-low : field img free_field ≤ field img' free_field
  pub free-high : field img' free_field ≤ length img
  pub points : field img' points_field ≤ g.N
  pub table : Findable g img'
  pub counted : field img' points_field ≡ weight g img' (λ s. 1)
  pub others : (key' : Bytes) → Allowed g key' → (key' ≡ key → ⊥) → entry_of g img' key' ≡ entry_of g img key'
  pub still : (key' s : Bytes) → Allowed g key' → (key' ≡ key → ⊥) → entry_of g img key' ≡ some s
      → (offset_of g s ≡ 0 → ⊥)
      → SameOn img img' (offset_of g s) (span g img (offset_of g s))
  pub here : (s : Bytes) → Allowed g key → entry_of g img' key ≡ some s → Stored g img' (offset_of g s)
  pub here-apart : (s key' s' : Bytes) → Allowed g key → Allowed g key' → (key' ≡ key → ⊥)
      → entry_of g img' key ≡ some s → entry_of g img key' ≡ some s' → (offset_of g s ≡ 0 → ⊥) → (offset_of g s' ≡ 0 → ⊥)
      → Apart (offset_of g s) (span g img' (offset_of g s)) (offset_of g s') (span g img (offset_of g s'))

module _ (g : Layout) (img img' key : Bytes) (f : File g img) (c : Change g img img' key) where
  -- an entry of another point was there before
  before : (key' s : Bytes) → Allowed g key' → (key' ≡ key → ⊥) → entry_of g img' key' ≡ some s
      → entry_of g img key' ≡ some s
  before key' s a n e = sym (c.others key' a n) ∙ e

  other-size : (key' s : Bytes) → Allowed g key' → (key' ≡ key → ⊥) → entry_of g img key' ≡ some s
      → (offset_of g s ≡ 0 → ⊥)
      → span g img' (offset_of g s) ≡ span g img (offset_of g s)
  other-size key' s a n e z = span_same g img img' (offset_of g s) (c.still key' s a n e z)

  new-messages : (k s : Bytes) → Allowed g k → entry_of g img' k ≡ some s → Stored g img' (offset_of g s)
  new-messages k s a e =
      by-same k key
      (λ q. c.here s (rw q at a) (rw q at e))
      (λ n.
      let b = before k s a n e in
      stored_same g img img' (offset_of g s) (c.still k s a n b) c.free-low (f.messages k s a b))

  new_apart : (k k' s s' : Bytes) → Allowed g k → Allowed g k' → (k ≡ k' → ⊥)
      → entry_of g img' k ≡ some s → entry_of g img' k' ≡ some s' → (offset_of g s ≡ 0 → ⊥) → (offset_of g s' ≡ 0 → ⊥)
      → Apart (offset_of g s) (span g img' (offset_of g s)) (offset_of g s') (span g img' (offset_of g s'))
  new_apart k k' s s' a a' n e e' z z' =
      by-same k key
      (λ q. by-same k' key
      (λ q'. absurd (n (q ∙ sym q')))
      (λ n'.
      let b' = before k' s' a' n' e' in
      rw (other-size k' s' a' n' b' z') (c.here-apart s k' s' (rw q at a) a' n' (rw q at e) b' z z')))
      (λ n₁. by-same k' key
      (λ q'.
      let b = before k s a n₁ e in
      rw (other-size k s a n₁ b z)
      (apart-sym (offset_of g s') _ (offset_of g s) _ (c.here-apart s' k s (rw q' at a') a n₁ (rw q' at e') b z' z)))
      (λ n₂.
      let b = before k s a n₁ e in
      let b' = before k' s' a' n₂ e' in
      rw (other-size k s a n₁ b z, other-size k' s' a' n₂ b' z') (f.apart k k' s s' a a' n b b' z z')))

  pub file-change : File g img'
  file-change =
      record {
        layout = kept-layout c.kept f.opened.last ∙ f.layout;
        opened =
            opened-known c.kept f.opened c.known (rw (file-slots f) c.points)
            (omega (arith, f.opened.free-low, c.free-low)) c.free-high;
        table = c.table;
        counted = c.counted;
        messages = new-messages;
        apart = new_apart;
      }

  -- every other point is as it was
  pub point-other : (key' : Bytes) → Allowed g key' → (key' ≡ key → ⊥) → point_of g img' key' ≡ point_of g img key'
  point-other key' a n =
      by-entry (entry_of g img key')
      (λ e. point_of-none g img' key' (c.others key' a n ∙ e) ∙ sym (point_of-none g img key' e))
      (λ s e.
      point_of-some g img' key' s (c.others key' a n ∙ e)
      ∙ ap some (value_same g img img' key' (offset_of g s) (c.still key' s a n e))
      ∙ sym (point_of-some g img key' s e))

-- ---- changes in turn

module _ (g : Layout) (img img₁ img₂ key : Bytes) (c : Change g img img₁ key) (d : Change g img₁ img₂ key) where
  on₁ : (key' s : Bytes) → Allowed g key' → (key' ≡ key → ⊥) → entry_of g img key' ≡ some s
      → entry_of g img₁ key' ≡ some s
  on₁ key' s a n e = c.others key' a n ∙ e

  size₁ : (key' s : Bytes) → Allowed g key' → (key' ≡ key → ⊥) → entry_of g img key' ≡ some s → (offset_of g s ≡ 0 → ⊥)
      → span g img₁ (offset_of g s) ≡ span g img (offset_of g s)
  size₁ key' s a n e z = span_same g img img₁ (offset_of g s) (c.still key' s a n e z)

  pub change-trans : Change g img img₂ key
  change-trans =
      record {
        kept = fixed-trans c.kept d.kept;
        known = d.known;
        free-low = omega (arith, c.free-low, d.free-low);
        free-high = omega (arith, d.free-high, c.kept.size);
        points = d.points;
        table = d.table;
        counted = d.counted;
        others = λ key' a n. d.others key' a n ∙ c.others key' a n;
        still =
            λ key' s a n e z.
            same-on-trans (c.still key' s a n e z)
            (subst (λ (m : ℕ). SameOn img₁ img₂ (offset_of g s) m) (size₁ key' s a n e z)
            (d.still key' s a n (on₁ key' s a n e) z));
        here = d.here;
        here-apart =
            λ s key' s' a a' n e e' z z'.
            subst (λ (m : ℕ). Apart (offset_of g s) (span g img₂ (offset_of g s)) (offset_of g s') m)
            (size₁ key' s' a' n e' z')
            (d.here-apart s key' s' a a' n e (on₁ key' s' a' n e') z z');
      }

-- a step that concerns no point is a change to any
module _ (g : Layout) (img img' : Bytes) (f : File g img) (c : Change g img img' []) (key : Bytes) where
  none_of : (k : Bytes) → Allowed g k → k ≡ [] → ⊥
  none_of k a q = not-allowed f (rw q at a)

  pub change-any : Change g img img' key
  change-any =
      record {
        kept = c.kept;
        known = c.known;
        free-low = c.free-low;
        free-high = c.free-high;
        points = c.points;
        table = c.table;
        counted = c.counted;
        others = λ key' a n. c.others key' a (none_of key' a);
        still = λ key' s a n e z. c.still key' s a (none_of key' a) e z;
        here = λ s a e. (file-change g img img' [] f c).messages key s a e;
        here-apart =
            λ s key' s' a a' n e e' z z'.
            subst (λ (m : ℕ). Apart (offset_of g s) (span g img' (offset_of g s)) (offset_of g s') m)
            (span_same g img img' (offset_of g s') (c.still key' s' a' (none_of key' a') e' z'))
            ((file-change g img img' [] f c).apart key key' s s' a a' (λ q. n (sym q)) e
            (c.others key' a' (none_of key' a') ∙ e') z z');
      }
