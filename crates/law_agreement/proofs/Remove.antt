-- A point gone: its slot is zeroed, C falls by 1, and delete's walk closes the gap.
--     remove-change, remove-point, remove-points, remove-free      the change, and what is read afterwards
-- Assumes nothing.
use mathlib.Core.Path.{◌≡◌, sym, ap, ◌∙◌}
use Prim.Native.Nat.{ℕ, ◌-◌, ◌≤◌, ◌<◌}
use native.Mathlib.Omega.{arith}
use mathlib.Core.Logic.{◌↔◌, inr}
use mathlib.Core.Option.{none, none-ne-some}
use lib.ListN.{length}
use Rattle.spec_file.specs.Bytes.{Bytes}
use Rattle.spec_file.specs.Limits.{slots_field, points_field, free_field}
use Rattle.spec_file.specs.Image.{field, set_field, Layout, slot, key_of, vacant}
use Rattle.spec_file.specs.Delete.{closed}
use Rattle.spec_file.specs.Search.{search, met}
use Rattle.law_file.proofs.Slots.{Room, slot-set_field}
use Rattle.law_file.proofs.Kept.{Kept, kept_trans, kept-known}
use Rattle.law_file.proofs.Effects.{points_kept, points-is, points-free, points-behind}
use Rattle.law_file.proofs.Table.{Findable, Taken, key_at, entry_of, weight}
use Rattle.law_file.proofs.Probe.{search-met, met-taken, entry_of-frame}
use Rattle.law_file.proofs.Insert.{Stands, entry_absent, same_entries, weight-frame}
use Rattle.law_file.proofs.Frames.{part-closed, kept-closed, field-closed, weight-closed, stands-closed}
use Rattle.law_file.proofs.Delete.{findable-closed, gone-closed}
use Rattle.law_file.proofs.Stretch.{sound-lies, SameOn}
use Rattle.law_agreement.proofs.Data.{frame-findable, file-above}
use Rattle.law_agreement.proofs.File.{Allowed, allowed-zero, point_of, point_of-none, File, file-slots, file-room, file-some, Change}

-- ---- a point gone

module _ (g : Layout) (img : Bytes) (f : File g img) (key : Bytes) (a : Allowed g key) (i : ℕ)
    (m : search g img key ≡ met i) (some-point : 1 ≤ field img points_field) where
  fewer : Bytes
  fewer = set_field img points_field (field img points_field - 1)

  gone : Bytes
  gone = closed g fewer i

  lt₁ : i < g.N
  lt₁ = (search-met g img key (file-some f) i m).0

  few : field img points_field - 1 ≤ field img slots_field
  few = omega (arith, f.opened.points)

  fewer-kept : Kept img fewer
  unfolding fewer
  fewer-kept = points_kept img f.opened (field img points_field - 1) few

  room-fewer : Room g (length fewer)
  room-fewer = rw fewer-kept.fixed.size (file-room f)

  fewer-slot : (k : ℕ) → k < g.N → slot g fewer k ≡ slot g img k
  unfolding fewer
  fewer-slot k h = slot-set_field g img (file-room f) points_field (field img points_field - 1) k (omega arith) h

  findable-fewer : Findable g fewer
  findable-fewer = frame-findable g img fewer (file-some f) fewer-slot f.table

  taken₁ : Taken g fewer i
  taken₁ = ap (vacant g) (fewer-slot i lt₁) ∙ met-taken g img key (file-some f) i (allowed-zero g key a) m

  key₁ : key_at g fewer i ≡ key
  key₁ = ap (key_of g) (fewer-slot i lt₁) ∙ (search-met g img key (file-some f) i m).1

  findable-gone : Findable g gone
  unfolding gone
  findable-gone = findable-closed g fewer room-fewer i lt₁ findable-fewer

  gone-key : (k : ℕ) → k < g.N → Taken g gone k → key_at g gone k ≡ key → ⊥
  unfolding gone
  gone-key k h t e = gone-closed g fewer room-fewer i lt₁ findable-fewer taken₁ k h t (e ∙ sym key₁)

  gone-others : (s : Bytes) → (key_of g s ≡ key → ⊥) → Stands g fewer s ↔ Stands g gone s
  unfolding gone
  gone-others s n = stands-closed g fewer room-fewer i lt₁ s (λ e. n (e ∙ key₁))

  remove_entry : entry_of g gone key ≡ none
  remove_entry = entry_absent g gone key (file-some f) gone-key (allowed-zero g key a)

  remove-other : (key' : Bytes) → Allowed g key' → (key' ≡ key → ⊥) → entry_of g gone key' ≡ entry_of g img key'
  remove-other key' a' n =
      same_entries g fewer gone key' (file-some f) findable-fewer findable-gone (allowed-zero g key' a')
      (λ s k. gone-others s (λ q. n (sym k ∙ q)))
      ∙ entry_of-frame g img fewer key' (file-some f) fewer-slot

  remove-kept : Kept img gone
  unfolding gone
  remove-kept = kept_trans fewer-kept (kept-closed g fewer room-fewer i lt₁)

  remove-same : (p n : ℕ) → g.D ≤ p → SameOn img gone p n
  unfolding gone fewer
  remove-same p n h =
      record {
        on = λ q k lo hi.
            part-closed g fewer room-fewer i lt₁ q k (inr (omega arith))
            ∙ points-behind img f.opened (field img points_field - 1) few q k (omega (arith, h, file-above f));
      }

  gone-points : field gone points_field ≡ field img points_field - 1
  unfolding gone fewer
  gone-points =
      field-closed g fewer room-fewer i lt₁ points_field (omega arith)
      ∙ points-is img f.opened (field img points_field - 1) few

  gone-free : field gone free_field ≡ field img free_field
  unfolding gone fewer
  gone-free =
      field-closed g fewer room-fewer i lt₁ free_field (omega arith)
      ∙ points-free img f.opened (field img points_field - 1) few

  gone-counted : field gone points_field ≡ weight g gone (λ s. 1)
  unfolding gone
  gone-counted =
      gone-points
      ∙ omega (
        arith,
        f.counted,
        weight-closed g fewer room-fewer i lt₁ taken₁ (λ s. 1),
        weight-frame g img fewer (λ s. 1) fewer-slot,
      )

  remove-change' : Change g img gone key
  remove-change' =
      record {
        kept = remove-kept.fixed;
        known = kept-known remove-kept f.opened;
        free-low = rw gone-free (omega arith);
        free-high = rw gone-free f.opened.free-high;
        points = rw gone-points (omega (arith, f.opened.points, file-slots f));
        table = findable-gone;
        counted = gone-counted;
        others = remove-other;
        still = λ key' s a' n e' z. remove-same _ _ (sound-lies g img _ (f.messages key' s a' e').sound z).low;
        here = λ s a₁ e₁. absurd (none-ne-some s (sym remove_entry ∙ e₁));
        here-apart = λ s key' s' a₁ a' n e₁ e' z z'. absurd (none-ne-some s (sym remove_entry ∙ e₁));
      }

  pub remove-change : Change g img (closed g (set_field img points_field (field img points_field - 1)) i) key
  unfolding gone fewer
  remove-change = remove-change'

  pub remove-point : point_of g (closed g (set_field img points_field (field img points_field - 1)) i) key ≡ none
  unfolding gone fewer
  remove-point = point_of-none g gone key remove_entry

  pub remove-points : field (closed g (set_field img points_field (field img points_field - 1)) i) points_field
      ≡ field img points_field - 1
  unfolding gone fewer
  remove-points = gone-points

  pub remove-free : field (closed g (set_field img points_field (field img points_field - 1)) i) free_field
      ≡ field img free_field
  unfolding gone fewer
  remove-free = gone-free
