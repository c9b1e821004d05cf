-- The check says sound exactly of the images that have the invariant of reached files.
--     taken-allowed     the key of a taken slot is a name that is allowed
--     entry-slot        a name's entry stands in a taken slot, whose key it is
--     file-check        of a file that has the invariant the check says sound
--     check-file        an image of bytes that the check calls sound has the invariant, whoever made it
-- Assumes nothing.
use mathlib.Core.Path.{◌≡◌, refl, sym, ap, ◌∙◌, subst}
use Prim.Native.Nat.{ℕ, zero, suc, ◌+◌, ◌<◌}
use native.Mathlib.Omega.{arith}
use mathlib.Core.Bool.{Bool, false, not}
use mathlib.Core.Option.{none, some, none-ne-some, some-injective}
use lib.ListN.{length}
use lib.Dec.{eqb}
use borrow.Author.Tests.{eq-eqb, not-true}
use Rattle.spec_file.specs.Bytes.{Bytes, all_zero}
use Rattle.spec_file.specs.Image.{Layout, layout_of, slot, offset_of, vacant}
use Rattle.spec_file.specs.Search.{search, met}
use Rattle.spec_file.specs.Messages.{head_size, length_at}
use Rattle.spec_file.specs.Questions.{name_allowed}
use Rattle.spec_file.specs.Inspect.{lowest, taken, ends_at, entry_sound, meets, meets_lower, slot_sound, slot_fails, count_sound, verdict_of, check, sound}
use Rattle.law_file.proofs.Tests.{by_bool, by-eq, by_le, and-true}
use Rattle.law_file.proofs.Bytes.{Apart, apart-sym, AreBytes, part-below}
use Rattle.law_file.proofs.Stretch.{span, Stored}
use Rattle.law_file.proofs.Effects.{message-end}
use Rattle.law_file.proofs.Meeting.{some-no, some-all, apart-meets, meets-apart}
use Rattle.law_file.proofs.Verdict.{check-open, check-messages, check-apart, check-findable, check-weight}
use Rattle.law_file.proofs.Slots.{length-slot, length-key_of}
use Rattle.law_file.proofs.Opened.{Opened, opened-facts, facts-opened}
use Rattle.law_file.proofs.Table.{Taken, key_at, slot_met, entry_of}
use Rattle.law_file.proofs.Probe.{search-finds, search-met, by-search}
use Rattle.law_file.proofs.Insert.{entry-taken, count-taken}
use Rattle.law_agreement.proofs.File.{Allowed, allowed-zero, File, file-room, file-some}

lowest-all : (p : ℕ → Bool) (left i : ℕ) → ((k : ℕ) → k < i + left → p k ≡ false) → lowest p left i ≡ none
unfolding lowest
lowest-all p zero i h = refl
lowest-all p (suc left) i h = rw (h i (omega arith), lowest) (lowest-all p left (suc i) (λ k l. h k (omega arith)))

-- a taken slot's key is a name that is allowed
pub taken-allowed : (g : Layout) (img : Bytes) (f : File g img) (i : ℕ) → i < g.N → Taken g img i
    → Allowed g (key_at g img i)
unfolding name_allowed vacant
taken-allowed g img f i l t =
    and-true (eqb (length (key_at g img i)) g.K) (not (all_zero (key_at g img i)))
    (eq-eqb _ _ (length-key_of g (slot g img i) (length-slot g img (file-room f) i l)))
    (ap not t)

-- the stretches of two slots do not meet
slots_apart : (g : Layout) (img : Bytes) (f : File g img) (i j : ℕ) → i < g.N → j < i → meets g img i j ≡ false
unfolding taken
slots_apart g img f i j l k =
    apart-meets g img i j
    (λ ti tj zi zj.
    let vi : Taken g img i = not-true (vacant g (slot g img i)) ti in
    let vj : Taken g img j = not-true (vacant g (slot g img j)) tj in
    let lj : j < g.N = omega arith in
    let other : key_at g img i ≡ key_at g img j → ⊥ = λ e. omega (arith, f.table.distinct i j l lj vi vj e) in
    f.apart (key_at g img i) (key_at g img j) (slot g img i) (slot g img j)
    (taken-allowed g img f i l vi) (taken-allowed g img f j lj vj) other
    (entry-taken g img i (file-some f) f.table l vi) (entry-taken g img j (file-some f) f.table lj vj) zi zj)

slot-passes : (g : Layout) (img : Bytes) (f : File g img) (i : ℕ) → i < g.N → slot_fails g img i ≡ false
unfolding slot_fails taken slot_sound entry_sound ends_at meets_lower
slot-passes g img f i l =
    by_bool (vacant g (slot g img i))
    (λ v. rw v refl)
    (λ t.
    let key = key_at g img i in
    let finds : search g img key ≡ met i = search-finds g img key (file-some f) i f.table l t refl in
    let is : entry_of g img key ≡ some (slot g img i) = entry-taken g img i (file-some f) f.table l t in
    let alone = some-all (meets g img i) i (λ k h. slots_apart g img f i k l h) in
    rw (t, finds, eq-eqb i i refl, (f.messages key (slot g img i) (taken-allowed g img f i l t) is).sound, alone) refl)

pub file-check : (g : Layout) (img : Bytes) → File g img → check img ≡ sound
unfolding check verdict_of count_sound
file-check g img f =
    rw (
      facts-opened img f.opened,
      f.layout,
      lowest-all (slot_fails g img) g.N 0 (λ k l. slot-passes g img f k (omega arith)),
      eq-eqb _ _ (f.counted ∙ sym (count-taken g img)),
    )
    refl

-- ---- the other way round: what the check calls sound has the invariant, whoever made it

-- a name's entry stands in a taken slot, whose key it is
pub entry-slot : (g : Layout) (img key s : Bytes) → 0 < g.N → Allowed g key → entry_of g img key ≡ some s
    → (i : ℕ) × (i < g.N) × Taken g img i × (key_at g img i ≡ key) × (slot g img i ≡ s)
unfolding entry_of slot_met
entry-slot g img key s pos a e =
    by-search g img key pos
    (λ i m.
    let f = search-met g img key pos i m in
    let same' : some (slot g img i) ≡ some s = sym (ap (slot_met g img) m) ∙ e in (
      i,
      f.0,
      unfold vacant in (ap all_zero f.1 ∙ allowed-zero g key a),
      f.1,
      some-injective (slot g img i) s same',
    ))
    (λ i m. absurd (none-ne-some s (sym (ap (slot_met g img) m) ∙ e)))
    (λ m. absurd (none-ne-some s (sym (ap (slot_met g img) m) ∙ e)))

module _ (img : Bytes) (bytes : AreBytes img) (ok : check img ≡ sound) where
  abbrev g : Layout
  g = layout_of img

  facts : Opened img
  facts = opened-facts img (check-open img ok)

  some-slot : 0 < g.N
  unfolding layout_of
  some-slot = omega (arith, facts.slots-low)

  -- by slots
  stored_at : (i : ℕ) → i < g.N → Taken g img i → Stored g img (offset_of g (slot g img i))
  stored_at i l t =
      let o = offset_of g (slot g img i) in
      let s = check-messages img ok i l t in
      record {
        sound = s;
        short = λ z.
            unfold length_at in
            part-below img (o + 1) g.W bytes
            (unfold head_size in (omega (arith, message-end img facts o s z, facts.free-high)));
      }

  -- two entries' messages have no byte in common
  abbrev Beside : Bytes → Bytes → Type 0
  Beside s s' = Apart (offset_of g s) (span g img (offset_of g s)) (offset_of g s') (span g img (offset_of g s'))

  below-beside : (i j : ℕ) → j < i → i < g.N → Taken g img i → Taken g img j → (offset_of g (slot g img i) ≡ 0 → ⊥)
      → (offset_of g (slot g img j) ≡ 0 → ⊥) → Beside (slot g img i) (slot g img j)
  unfolding taken meets_lower
  below-beside i j k l ti tj zi zj =
      meets-apart g img i j (some-no (meets g img i) i (check-apart img ok i l ti) j k) (ap not ti) (ap not tj) zi zj

  slots-beside : (i j : ℕ) → i < g.N → j < g.N → Taken g img i → Taken g img j → (i ≡ j → ⊥)
      → (offset_of g (slot g img i) ≡ 0 → ⊥) → (offset_of g (slot g img j) ≡ 0 → ⊥) → Beside (slot g img i) (slot g img j)
  slots-beside i j li lj ti tj n zi zj =
      by_le i j
      (λ h. apart-sym _ _ _ _ (below-beside j i (omega (arith, n)) lj tj ti zj zi))
      (λ h. below-beside i j h li ti tj zi zj)

  pub check-file : File g img
  check-file =
      record {
        layout = refl;
        opened = facts;
        table = check-findable img ok;
        counted = check-weight img ok;
        messages = λ key s a e.
            let w = entry-slot g img key s some-slot a e in
            subst (λ (x : Bytes). Stored g img (offset_of g x)) w.4 (stored_at w.0 w.1 w.2);
        apart = λ key key' s s' a a' n e e' z z'.
            let w = entry-slot g img key s some-slot a e in
            let w' = entry-slot g img key' s' some-slot a' e' in
            subst (λ (x : Bytes). Beside x s') w.4
            (subst (Beside (slot g img w.0)) w'.4
            (slots-beside w.0 w'.0 w.1 w'.1 w.2 w'.2
            (λ q. n (sym w.3 ∙ ap (key_at g img) q ∙ w'.3))
            (λ q. z (ap (offset_of g) (sym w.4) ∙ q)) (λ q. z' (ap (offset_of g) (sym w'.4) ∙ q))));
      }
