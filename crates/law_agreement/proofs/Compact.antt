-- Document 02, Job 2: what a compaction does to a file that has the invariant. X falls, so that it is no change to one
-- point: the invariant is shown anew, slot by slot.
--     file-stretches     the active messages lie in the data area, each by itself
--     file-compact       the compacted file has the invariant
--     free-compact       X afterwards; weight-compact: as a sum over the taken slots
--     entry-compact      a name's entry has its message's new offset
--     by-moved           an active message, header and text, stands there; an inactive one has no offset
--     compact-number     15 never comes; compact-after, compact-answer: what the call leaves and answers
--     compact-twice      compacting twice is compacting once
-- Assumes nothing.
use mathlib.Core.Path.{◌≡◌, sym, ap, ap₂, ◌∙◌, subst}
use Prim.Native.Nat.{ℕ, ◌+◌, ◌≤◌, ◌<◌}
use native.Mathlib.Omega.{arith}
use mathlib.Core.Bool.{Bool, true, false, cond, not}
use mathlib.Core.List.{[]}
use mathlib.Core.Option.{none, some, none-ne-some}
use lib.ListN.{length}
use lib.Dec.{eqb}
use borrow.Author.Tests.{not-true}
use Rattle.spec_file.specs.Bytes.{Bytes}
use Rattle.spec_file.specs.Limits.{active, points_field, free_field}
use Rattle.spec_file.specs.Image.{field, Layout, layout_of, slot, offset_of, slot_bytes, vacant}
use Rattle.spec_file.specs.Search.{search}
use Rattle.spec_file.specs.Messages.{letter_at, is_active}
use Rattle.spec_file.specs.Calls.{plain}
use Rattle.spec_file.specs.Inspect.{taken, check}
use Rattle.spec_compaction.specs.Compact.{packed, packed_offset, packed_end, compacted, is_sound, compact_number, compact}
use Rattle.law_file.proofs.Tests.{by_bool, by-eq, and_right}
use Rattle.law_file.proofs.Bytes.{Apart}
use Rattle.law_file.proofs.Opened.{first_no-none, first_no-yes, first_no-opened, facts-opened}
use Rattle.law_file.proofs.Outcomes.{settled-yes}
use Rattle.law_file.proofs.Kept.{Kept, kept-layout, opened-kept}
use Rattle.law_file.proofs.Total.{total-same}
use Rattle.law_file.proofs.Table.{Taken, key_at, slot_met, entry_of, weigh, weight}
use Rattle.law_file.proofs.Probe.{by-search, search-keys}
use Rattle.law_file.proofs.Insert.{entry-taken, findable-keys}
use Rattle.law_file.proofs.Stretch.{span, Lies, sound-lies, lies-sound, Stored, none-stored}
use Rattle.law_file.proofs.Effects.{active-some}
use Rattle.law_compaction.proofs.Packing.{start_at, Live, Stretches, sound-stretches, live-begins}
use Rattle.law_compaction.proofs.Packed.{live-apart, packed-end, active_span, packed-weight}
use Rattle.law_compaction.proofs.Compacted.{Moved, letter_at-moved, length_at-moved, compacted-length, compacted-kept, compacted-points, compacted-free, compacted-key, compacted-vacant, compacted-taken, compacted-entry, compacted-offset, compacted-moved, moved-inactive, moved-low, active-again, span-again, compacted-stretches, compacted-twice}
use Rattle.law_agreement.proofs.File.{Allowed, File, file-some, file-data}
use Rattle.law_agreement.proofs.Checked.{taken-allowed, entry-slot, file-check}

module _ (g : Layout) (img : Bytes) (f : File g img) where
  is-taken : (i : ℕ) → taken g img i ≡ true → Taken g img i
  unfolding taken
  is-taken i t = not-true (vacant g (slot g img i)) t

  -- ---- by slots

  stored_at : (i : ℕ) → i < g.N → taken g img i ≡ true → Stored g img (start_at g img i)
  stored_at i l t =
      f.messages (key_at g img i) (slot g img i) (taken-allowed g img f i l (is-taken i t))
      (entry-taken g img i (file-some f) f.table l (is-taken i t))

  lies_at : (i : ℕ) → Live g img i → Lies g img (start_at g img i)
  lies_at i v =
      sound-lies g img (start_at g img i) (stored_at i v.low v.is).sound
      (active-some img (start_at g img i) v.active)

  -- active messages lie in the data area, each by itself
  pub file-stretches : Stretches g img
  file-stretches = subst (λ (l : Layout). Stretches l img) f.layout (sound-stretches img (file-check g img f))

  abbrev img' : Bytes
  img' = compacted g img

  -- the compacted image's laws, of this file
  keys : (i : ℕ) → i < g.N → key_at g img' i ≡ key_at g img i
  keys = compacted-key g img file-stretches

  taken-before : (i : ℕ) → i < g.N → taken g img' i ≡ true → taken g img i ≡ true
  taken-before i l t = sym (compacted-taken g img file-stretches i l) ∙ t

  abbrev new_at : ℕ → ℕ
  new_at i = packed_offset g img (start_at g img i)

  offset-now : (i : ℕ) → i < g.N → taken g img i ≡ true → start_at g img' i ≡ new_at i
  offset-now = compacted-offset g img file-stretches

  moved_at : (i : ℕ) → Live g img i → Moved img (start_at g img i) img' (new_at i) (span g img (start_at g img i))
  moved_at i s =
      compacted-moved g img file-stretches (start_at g img i) (live-begins g img i s)

  -- a message that has an offset afterwards was active
  live-some : (i : ℕ) → i < g.N → taken g img i ≡ true → (new_at i ≡ 0 → ⊥) → Live g img i
  live-some i l t z =
      by_bool (is_active img (start_at g img i))
      (λ a. record { low = l; is = t; active = a })
      (λ a. absurd (z (moved-inactive g img file-stretches (start_at g img i) a)))

  letter-active : (o : ℕ) → is_active img o ≡ true → eqb (letter_at img o) active ≡ true
  unfolding is_active
  letter-active o a = and_right (not (eqb o 0)) (eqb (letter_at img o) active) a

  stored-live : (i : ℕ) → Live g img i → Stored g img' (new_at i)
  stored-live i s =
      let o = start_at g img i in
      let m = moved_at i s in
      record {
        sound = lies-sound g img' (new_at i)
            (record {
              low = moved-low g img file-stretches i s;
              letter = rw (letter_at-moved g img o img' (new_at i) m) (lies_at i s).letter;
              end =
                  rw (
                    span-again g img file-stretches i s,
                    compacted-free g img file-stretches,
                  )
                  (packed-end g img file-stretches o (live-begins g img i s));
            });
        short = λ z.
            rw (length_at-moved g img o img' (new_at i) m)
            ((stored_at i s.low s.is).short (active-some img o s.active));
      }

  stored-now : (i : ℕ) → i < g.N → taken g img i ≡ true → Stored g img' (new_at i)
  stored-now i l t =
      by-eq (new_at i) 0
      (λ z. rw z (none-stored g img'))
      (λ z. stored-live i (live-some i l t z))

  kept : Kept img img'
  kept = compacted-kept g img file-stretches

  again : Stretches g img'
  again = compacted-stretches g img file-stretches

  ones : weight g img' (λ s. 1) ≡ weight g img (λ s. 1)
  ones =
      unfold weight weigh in
      total-same _ _ g.N
      (λ i l. ap (λ (b : Bool). cond b 0 1) (compacted-vacant g img file-stretches i l))

  taken-now : (i : ℕ) → Taken g img' i → taken g img' i ≡ true
  taken-now i t = unfold taken in ap not t

  live_now : (i : ℕ) → i < g.N → Taken g img' i → (start_at g img' i ≡ 0 → ⊥) → Live g img' i
  live_now i l t z =
      let t₀ = taken-before i l (taken-now i t) in
      let is = offset-now i l t₀ in
      let s = live-some i l t₀ (λ q. z (is ∙ q)) in
      record {
        low = l;
        is = taken-now i t;
        active = ap (is_active img') is ∙ active-again g img file-stretches i l t₀ ∙ s.active;
      }

  abbrev Beside : Bytes → Bytes → Type 0
  Beside s s' = Apart (offset_of g s) (span g img' (offset_of g s)) (offset_of g s') (span g img' (offset_of g s'))

  -- ---- the invariant

  pub file-compact : File g img'
  file-compact =
      record {
        layout = kept-layout kept.fixed f.opened.last ∙ f.layout;
        opened =
            opened-kept kept f.opened
            (rw (compacted-points g img file-stretches) f.opened.points)
            (omega (arith, again.free-low, file-data f))
            (omega (arith, again.free-high, compacted-length g img file-stretches));
        table = findable-keys g img img' keys f.table;
        counted = compacted-points g img file-stretches ∙ f.counted ∙ sym ones;
        messages = λ key s a e.
            let w = entry-slot g img' key s (file-some f) a e in
            let t = taken-before w.0 w.1 (taken-now w.0 w.2) in
            subst (λ (x : Bytes). Stored g img' (offset_of g x)) w.4
            (rw (offset-now w.0 w.1 t) (stored-now w.0 w.1 t));
        apart = λ key key' s s' a a' n e e' z z'.
            let w = entry-slot g img' key s (file-some f) a e in
            let w' = entry-slot g img' key' s' (file-some f) a' e' in
            subst (λ (x : Bytes). Beside x s') w.4
            (subst (Beside (slot g img' w.0)) w'.4
            (live-apart g img' again w.0 w'.0
            (live_now w.0 w.1 w.2 (λ q. z (ap (offset_of g) (sym w.4) ∙ q)))
            (live_now w'.0 w'.1 w'.2 (λ q. z' (ap (offset_of g) (sym w'.4) ∙ q)))
            (λ q. n (sym w.3 ∙ ap (key_at g img') q ∙ w'.3))));
      }

  -- ---- a name's entry, and its message

  pub free-compact : field img' free_field ≡ g.D + length (packed g img)
  unfolding packed_end
  free-compact = compacted-free g img file-stretches

  pub points-compact : field img' points_field ≡ field img points_field
  points-compact = compacted-points g img file-stretches

  pub length-compact : length img' ≡ length img
  length-compact = compacted-length g img file-stretches

  -- how far X falls: the bytes of the active messages stay
  pub weight-compact : length (packed g img) ≡ weight g img (active_span g img)
  weight-compact = packed-weight g img file-stretches

  pub search-compact : (key : Bytes) → search g img' key ≡ search g img key
  search-compact key = search-keys g img img' key (file-some f) keys

  pub entry-compact : (key s : Bytes) → Allowed g key → entry_of g img key ≡ some s
      → entry_of g img' key ≡ some (slot_bytes key (packed_offset g img (offset_of g s)))
  entry-compact key s a e =
      let w = entry-slot g img key s (file-some f) a e in
      let i = w.0 in
      let t : taken g img i ≡ true = unfold taken in ap not w.2 in
      let t' : Taken g img' i = compacted-vacant g img file-stretches i w.1 ∙ w.2 in
      ap (entry_of g img') (sym w.3 ∙ sym (keys i w.1))
      ∙ entry-taken g img' i (file-some f) file-compact.table w.1 t'
      ∙ ap some (compacted-entry g img file-stretches i w.1 t
      ∙ ap₂ (λ (k x : Bytes). slot_bytes k (packed_offset g img (offset_of g x))) w.3 w.4)

  pub entry-compact-none : (key : Bytes) → entry_of g img key ≡ none → entry_of g img' key ≡ none
  unfolding entry_of slot_met
  entry-compact-none key e =
      by-search g img key (file-some f)
      (λ i m. absurd (none-ne-some (slot g img i) (sym e ∙ ap (slot_met g img) m)))
      (λ i m. ap (slot_met g img') (search-compact key ∙ m))
      (λ m. ap (slot_met g img') (search-compact key ∙ m))

  pub offset-compact : (key s : Bytes) → Allowed g key → entry_of g img key ≡ some s
      → offset_of g (slot_bytes key (packed_offset g img (offset_of g s))) ≡ packed_offset g img (offset_of g s)
  offset-compact key s a e =
      let w = entry-slot g img key s (file-some f) a e in
      let t : taken g img w.0 ≡ true = unfold taken in ap not w.2 in
      ap (offset_of g)
      (ap₂ (λ (k x : Bytes). slot_bytes k (packed_offset g img (offset_of g x))) (sym w.3) (sym w.4)
      ∙ sym (compacted-entry g img file-stretches w.0 w.1 t))
      ∙ offset-now w.0 w.1 t
      ∙ ap (λ (x : Bytes). packed_offset g img (offset_of g x)) w.4

  -- a point's message, by cases on whether it is active
  pub by-moved {ℓ} : {A : Type ℓ} (key s : Bytes) → Allowed g key → entry_of g img key ≡ some s
      → (is_active img (offset_of g s) ≡ true → is_active img' (packed_offset g img (offset_of g s)) ≡ true
      → offset_of g s + span g img (offset_of g s) ≤ length img
      → Moved img (offset_of g s) img' (packed_offset g img (offset_of g s)) (span g img (offset_of g s)) → A)
      → (is_active img (offset_of g s) ≡ false → packed_offset g img (offset_of g s) ≡ 0 → A)
      → A
  by-moved key s a e moves drops =
      let w = entry-slot g img key s (file-some f) a e in
      let o = offset_of g s in
      let is : start_at g img w.0 ≡ o = ap (offset_of g) w.4 in
      let t : taken g img w.0 ≡ true = unfold taken in ap not w.2 in
      by_bool (is_active img o)
      (λ h.
      let sh : Live g img w.0 = record { low = w.1; is = t; active = ap (is_active img) is ∙ h } in
      moves h
      (ap (λ (x : ℕ). is_active img' (packed_offset g img x)) (sym is)
      ∙ active-again g img file-stretches w.0 w.1 t ∙ ap (is_active img) is ∙ h)
      (subst (λ (x : ℕ). x + span g img x ≤ length img) is
      (omega (arith, file-stretches.end w.0 sh, file-stretches.free-high)))
      (subst (λ (x : ℕ). Moved img x img' (packed_offset g img x) (span g img x)) is (moved_at w.0 sh)))
      (λ h. drops h (moved-inactive g img file-stretches o h))

  -- ---- the call

  pub compact-number : compact_number img ≡ 0
  unfolding compact_number is_sound
  compact-number =
      first_no-opened img _ (facts-opened img f.opened)
      ∙ first_no-yes 15 (is_sound (check img)) [] (ap is_sound (file-check g img f))
      ∙ first_no-none

  pub compact-after : (compact img).after ≡ img'
  unfolding compact
  compact-after =
      settled-yes (compact_number img) img (compacted (layout_of img) img) compact-number
      ∙ ap (λ (l : Layout). compacted l img) f.layout

  pub compact-answer : (compact img).answer ≡ plain 0
  unfolding compact
  compact-answer = ap plain compact-number

  pub compact-twice : compacted g img' ≡ img'
  compact-twice = compacted-twice g img file-stretches
