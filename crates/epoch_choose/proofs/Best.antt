-- The best slot so far as the code keeps it, with its epoch.
--     kept-first, kept-best, kept_new       what `later` keeps
--     looked-over, looked-at      slot i is looked at: no entry of the name, or one
--     Passes img name t slots i best      the slots below i were looked at
--     passes-start, passes_on, passes-all      the loop's turns
-- Assumes nothing.
use mathlib.Core.Path.{◌≡◌, refl, sym, ap, ap₂, ◌∙◌, subst}
use Prim.Native.Nat.{ℕ, ◌+◌, ◌-◌, ◌≤◌, ◌<◌}
use native.Mathlib.Omega.{arith}
use mathlib.Core.Bool.{Bool, true, false, cond, ◌&&◌, false≢true}
use lib.Dec.{leb}
use borrow.Author.Tests.{le-leb, lt-leb}
use Rattle.spec_file.specs.Bytes.{Bytes}
use Rattle.spec_file.specs.Image.{Layout, layout_of}
use Rattle.spec_file.specs.Search.{Probe, met, exhausted, is_met, slot_of}
use Rattle.law_file.proofs.Tests.{by_bool}
use Rattle.spec_epoch.specs.Epochs.{epoch_at, eligible, later, latest, chosen}
use Rattle.law_epoch.proofs.Choice.{looked-no, looked-yes, latest-on, latest-end}
use Rattle.header_layout.specs.declared.places.Slot.{Slot}
use Rattle.table_search.specs.declared.Found.TheVariants.{Met, Exhausted}
use Rattle.table_search.specs.Probes.{probe_of}
use Rattle.table_search.proofs.Taken.{met-is}
use Rattle.epoch_choose.specs.declared.Chosen.{Chosen}
use Rattle.epoch_choose.specs.Choices.{kept_of, Kept, Looked, Chooses}

-- ---- what is kept
module _ (best : Chosen) (i : Slot) (e : ℕ) where
  abbrev new : Chosen
  new = record { found = Met i; epoch = e }

  pub kept-first : is_met (probe_of best.found) ≡ false → new ≡ kept_of best i e
  unfolding kept_of
  kept-first h = sym (ap (λ (b : Bool). cond (b && leb e best.epoch) best new) h)

  module _ (h : is_met (probe_of best.found) ≡ true) where
    by-epoch : (b : Bool) → leb e best.epoch ≡ b → kept_of best i e ≡ cond b best new
    unfolding kept_of
    by-epoch b q = ap₂ (λ (x y : Bool). cond (x && y) best new) h q

    pub kept-best : e ≤ best.epoch → best ≡ kept_of best i e
    kept-best l = sym (by-epoch true (le-leb e best.epoch l))

    pub kept_new : best.epoch < e → new ≡ kept_of best i e
    kept_new l = sym (by-epoch false (lt-leb e best.epoch l))

-- ---- slot i is looked at
module _ (img name : Bytes) (t : ℕ) (i : Slot) (best : Chosen) (k : Kept img best) where
  abbrev g : Layout
  g = layout_of img

  pub looked-over : eligible g img name t i.0 ≡ false → Looked img name t i.0 best best
  looked-over h = record { found = sym (looked-no g img name t (probe_of best.found) i.0 h); kept = k }

  module _ (e : ℕ) (q : e ≡ epoch_at g img i.0) where
    abbrev so_far : Probe
    so_far = probe_of best.found

    new-kept : Kept img (record { found = Met i; epoch = e })
    unfolding Kept probe_of slot_of
    new-kept h = q

    -- `later` by its two tests
    later_first : is_met so_far ≡ false → later g img so_far i.0 ≡ met i.0
    unfolding later
    later_first m =
        ap (λ (b : Bool). cond (b && leb (epoch_at g img i.0) (epoch_at g img (slot_of so_far))) so_far (met i.0)) m

    later-by : is_met so_far ≡ true → (b : Bool) → leb e best.epoch ≡ b
        → later g img so_far i.0 ≡ cond b so_far (met i.0)
    unfolding later Kept
    later-by m b r =
        ap₂ (λ (x y : Bool). cond (x && y) so_far (met i.0)) m (ap₂ leb (sym q) (sym (k m)) ∙ r)

    kept-found : probe_of (kept_of best i e).found ≡ later g img so_far i.0
    kept-found =
        by_bool (is_met so_far)
        (λ m.
        by_bool (leb e best.epoch)
        (λ b. ap (λ (c : Chosen). probe_of c.found) (by-epoch best i e m true b) ∙ sym (later-by m true b))
        (λ b.
        ap (λ (c : Chosen). probe_of c.found) (by-epoch best i e m false b) ∙ met-is refl ∙ sym (later-by m false b)))
        (λ m.
        ap (λ (c : Chosen). probe_of c.found) (sym (kept-first best i e m)) ∙ met-is refl ∙ sym (later_first m))

    kept-kept : Kept img (kept_of best i e)
    kept-kept =
        by_bool (is_met (probe_of best.found))
        (λ m.
        by_bool (leb e best.epoch)
        (λ b. subst (Kept img) (sym (by-epoch best i e m true b)) k)
        (λ b. subst (Kept img) (sym (by-epoch best i e m false b)) new-kept))
        (λ m. subst (Kept img) (kept-first best i e m) new-kept)

    pub looked-at : eligible g img name t i.0 ≡ true → (r : Chosen) → r ≡ kept_of best i e
        → Looked img name t i.0 best r
    looked-at h r is =
        record {
          found =
              ap (λ (c : Chosen). probe_of c.found) is ∙ kept-found
              ∙ sym (looked-yes g img name t (probe_of best.found) i.0 h);
          kept = subst (Kept img) (sym is) kept-kept;
        }

-- ---- the loop
pub record Passes (img name : Bytes) (t slots i : ℕ) (best : Chosen) : Type 0 where
  pub low : i ≤ slots
  pub chooses : chosen (layout_of img) img name t
      ≡ latest (layout_of img) img name t (slots - i) i (probe_of best.found)
  pub kept : Kept img best

pub passes-start : (img name : Bytes) (t slots : ℕ) → (layout_of img).N ≡ slots
    → Passes img name t slots 0 (record { found = Exhausted; epoch = 0 })
unfolding chosen probe_of Kept is_met
passes-start img name t slots q =
    let m : (layout_of img).N ≡ slots - 0 = omega arith in
    record {
      low = omega arith;
      chooses = ap (λ (n : ℕ). latest (layout_of img) img name t n 0 exhausted) m;
      kept = λ h. absurd (false≢true h);
    }

module _ (img name : Bytes) (t slots i : ℕ) (best : Chosen) (w : Passes img name t slots i best) where
  pub passes_on : (at : ℕ) → at ≡ i → i < slots → (r : Chosen) → Looked img name t at best r
      → Passes img name t slots (i + 1) r
  passes_on at q l r f =
      let g = layout_of img in
      let f' : Looked img name t i best r = subst (λ (j : ℕ). Looked img name t j best r) q f in
      record {
        low = omega arith;
        chooses =
            w.chooses ∙ latest-on g img name t slots i (probe_of best.found) l
            ∙ ap (latest g img name t (slots - (i + 1)) (i + 1)) (sym f'.found);
        kept = f'.kept;
      }

  pub passes-all : slots ≤ i → Chooses img name t best
  passes-all l =
      record {
        found = sym (w.chooses ∙ latest-end (layout_of img) img name t slots i (probe_of best.found) l);
        kept = w.kept;
      }
