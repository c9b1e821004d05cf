-- Steps in the data area: they change no slot and, apart from other points' messages, no other point.
--     frame-change      such a step is a change to one point at the most
--     point-change      and so is one inside the message of a point
--     point-lies, point-end     the message of a point
-- Assumes nothing.
use mathlib.Core.Path.{◌≡◌, sym, ap, ◌∙◌}
use Prim.Native.Nat.{ℕ, ◌+◌, ◌≤◌, ◌<◌}
use native.Mathlib.Omega.{arith}
use mathlib.Core.Bool.{true}
use mathlib.Core.Option.{some, some-injective}
use lib.ListN.{length}
use Rattle.spec_file.specs.Bytes.{Bytes}
use Rattle.spec_file.specs.Limits.{points_field, free_field, table_start}
use Rattle.spec_file.specs.Image.{field, Layout, offset_of, slot, key_of}
use Rattle.spec_file.specs.Messages.{length_at}
use Rattle.spec_file.specs.Questions.{message_sound, version_known}
use Rattle.law_file.proofs.Bytes.{Apart, apart-inside}
use Rattle.law_file.proofs.Kept.{Fixed}
use Rattle.law_file.proofs.Table.{Findable, entry_of}
use Rattle.law_file.proofs.Probe.{entry_of-frame}
use Rattle.law_file.proofs.Insert.{weight-frame, findable-keys}
use Rattle.law_file.proofs.Stretch.{span, Lies, sound-lies, Stored, SameOn}
use Rattle.law_agreement.proofs.File.{Allowed, File, file-slots, file-room, file-some, Change}

-- ---- the table over images with the same slots

module _ (g : Layout) (img img' : Bytes) (pos : 0 < g.N) (e : (k : ℕ) → k < g.N → slot g img' k ≡ slot g img k) where
  pub frame-findable : Findable g img → Findable g img'
  frame-findable s = findable-keys g img img' (λ k h. ap (key_of g) (e k h)) s

-- where the table ends the data area begins, above the header
pub file-above : {g : Layout} {img : Bytes} → File g img → table_start ≤ g.D
file-above f = omega (arith, (file-room f).table)

-- ---- a step that changes no slot and not C

module _ (g : Layout) (img img' : Bytes) (f : File g img) (kept₁ : Fixed img img')
    (known₁ : version_known img' ≡ true)
    (slots : (k : ℕ) → k < g.N → slot g img' k ≡ slot g img k)
    (points₁ : field img' points_field ≡ field img points_field) (low : field img free_field ≤ field img' free_field)
    (high : field img' free_field ≤ length img) where
  same-entry : (key : Bytes) → entry_of g img' key ≡ entry_of g img key
  same-entry key = entry_of-frame g img img' key (file-some f) slots

  pub frame-change : (key : Bytes)
      → ((key' s : Bytes) → Allowed g key' → (key' ≡ key → ⊥) → entry_of g img key' ≡ some s → (offset_of g s ≡ 0 → ⊥)
      → SameOn img img' (offset_of g s) (span g img (offset_of g s)))
      → ((s : Bytes) → Allowed g key → entry_of g img key ≡ some s → Stored g img' (offset_of g s))
      → ((s key' s' : Bytes) → Allowed g key → Allowed g key' → (key' ≡ key → ⊥) → entry_of g img key ≡ some s
      → entry_of g img key' ≡ some s' → (offset_of g s ≡ 0 → ⊥) → (offset_of g s' ≡ 0 → ⊥)
      → Apart (offset_of g s) (span g img' (offset_of g s)) (offset_of g s') (span g img (offset_of g s')))
      → Change g img img' key
  frame-change key still₁ here₁ apart₁ =
      record {
        kept = kept₁;
        known = known₁;
        free-low = low;
        free-high = high;
        points = rw points₁ (omega (arith, f.opened.points, file-slots f));
        table = frame-findable g img img' (file-some f) slots f.table;
        counted = points₁ ∙ f.counted ∙ sym (weight-frame g img img' (λ s. 1) slots);
        others = λ key' a n. same-entry key';
        still = still₁;
        here = λ s a e. here₁ s a (sym (same-entry key) ∙ e);
        here-apart = λ s key' s' a a' n e e' z z'. apart₁ s key' s' a a' n (sym (same-entry key) ∙ e) e' z z';
      }

  -- inside the message of one point, which stays sound and does not grow
  pub point-change : (key s : Bytes) → Allowed g key → entry_of g img key ≡ some s
      → ((p n : ℕ) → ((offset_of g s ≡ 0 → ⊥) → Apart p n (offset_of g s) (span g img (offset_of g s)))
      → SameOn img img' p n)
      → message_sound g img' (offset_of g s) ≡ true → length_at g img' (offset_of g s) ≤ length_at g img (offset_of g s)
      → Change g img img' key
  point-change key s a e away sound₁ le =
      frame-change key
      (λ key' s' a' n e' z'. away (offset_of g s') _ (λ z. f.apart key' key s' s a' a n e' e z' z))
      (λ s₁ a₁ e₁. rw (is-s s₁ e₁)
      (record { sound = sound₁; short = λ z. omega (arith, le, (f.messages key s a e).short z) }))
      (λ s₁ key' s' a₁ a' n e₁ e' z₁ z'.
      apart-inside (offset_of g s₁) (span g img (offset_of g s₁)) (offset_of g s') _ (offset_of g s₁) _ (omega arith)
      (rw (is-s s₁ e₁) (omega arith))
      (f.apart key key' s₁ s' a a' (λ q. n (sym q)) e₁ e' z₁ z'))
    where
      is-s : (s₁ : Bytes) → entry_of g img key ≡ some s₁ → s₁ ≡ s
      is-s s₁ e₁ = some-injective s₁ s (sym e₁ ∙ e)

-- ---- the message of a point

module _ (g : Layout) (img : Bytes) (f : File g img) (key s : Bytes) (a : Allowed g key)
    (e : entry_of g img key ≡ some s) (z : offset_of g s ≡ 0 → ⊥) where
  pub point-lies : Lies g img (offset_of g s)
  point-lies = sound-lies g img (offset_of g s) (f.messages key s a e).sound z

  pub point-end : offset_of g s + span g img (offset_of g s) ≤ length img
  point-end = omega (arith, point-lies.end, f.opened.free-high)
