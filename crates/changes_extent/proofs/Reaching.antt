-- The windows are enough: outside of them an accepted call changes no byte.
--     add-present, add-new, add_none      an add, by how its search ended; refused before it, `add-stopped`
--     delete-present, delete-none, delete-stopped      so of a delete
-- Assumes nothing.
use mathlib.Core.Path.{◌≡◌, sym, ap, ◌∙◌}
use Prim.Native.Nat.{ℕ, suc, ◌+◌, ◌*◌, ◌≤◌, ◌<◌}
use native.Mathlib.Nat.{mul-le-mul_right, suc-mul}
use native.Mathlib.Omega.{arith}
use mathlib.Core.Logic.{inl, inr}
use mathlib.Core.Bool.{Bool, true, false, true≢false}
use lib.ListN.{length, get_or}
use Rattle.spec_file.specs.Bytes.{Bytes, part}
use Rattle.spec_file.specs.Image.{Layout, layout_of, slot_size, slot_start}
use Rattle.spec_file.specs.Search.{Probe, met, empty, exhausted, is_met}
use Rattle.spec_file.specs.Messages.{head_size, shown_length}
use Rattle.spec_file.specs.Questions.{mode_known, message_sound, seek_number}
use Rattle.spec_file.specs.Calls.{plain, add, delete}
use Rattle.law_file.proofs.Tests.{by_le, by-eq, by-either}
use Rattle.law_file.proofs.Bytes.{Apart}
use Rattle.law_file.proofs.Slots.{Room, slot-end}
use Rattle.law_file.proofs.Cyclic.{by-dist, dist-up, dist-wrap}
use Rattle.law_file.proofs.Sought.{add-stop, delete-stop}
use Rattle.spec_changes.specs.Changes.{covered}
use Rattle.law_file.proofs.Byte.{byte-part}
use Rattle.changes_windows.specs.Windows.{windows_of}
use Rattle.changes_windows.specs.declared.Windows.{Windows}
use Rattle.changes_windows.proofs.Windowed.{Off, covered-1, covered-2, covered-3, covered-4}
use Rattle.law_frames.proofs.Added.{Elsewhere, fresh-takes, add-sound, add-takes, add-met, add-empty, add-exhausted}
use Rattle.law_frames.proofs.Deleted.{Walked, delete-sound, delete-met, delete-other}
use Rattle.table_search.specs.Slots.{offset_in}
use Rattle.changes_extent.specs.Reaches.{Only, Entry, Walk, AddOnly, DeleteOnly}

-- ---- a place outside of the windows

same_byte : (a b : Bytes) (i : ℕ) → part a i 1 ≡ part b i 1 → get_or a i 0 ≡ get_or b i 0
same_byte a b i e =
    let z : i ≡ i + 0 = omega arith in
    ap (λ (n : ℕ). get_or a n 0) z
    ∙ sym (byte-part a i 1 0 (omega arith))
    ∙ ap (λ (t : Bytes). get_or t 0 0) e
    ∙ byte-part b i 1 0 (omega arith)
    ∙ ap (λ (n : ℕ). get_or b n 0) (sym z)

module _ (w : Windows) (p : ℕ) (c : covered (windows_of w) p ≡ false) where
  not_in : (a e : ℕ) → (a ≤ p → p < e → covered (windows_of w) p ≡ true) → Off a e p
  not_in a e h =
      by_le a p
      (λ l. by_le (suc p) e (λ k. absurd (true≢false (sym (h l k) ∙ c))) (λ k. inr (omega arith)))
      (λ l. inl l)

  off-1 : w.end1 ≤ p
  off-1 = by-either (not_in 0 w.end1 (λ l k. covered-1 w p k)) (λ h. absurd (omega arith)) (λ h. h)

  off-2 : Off w.from2 w.end2 p
  off-2 = not_in w.from2 w.end2 (covered-2 w p)

  off-3 : Off w.from3 w.end3 p
  off-3 = not_in w.from3 w.end3 (covered-3 w p)

  off-4 : Off w.from4 w.end4 p
  off-4 = not_in w.from4 w.end4 (covered-4 w p)

-- a window that holds m bytes from q on
off-apart : (from end p q m : ℕ) → Off from end p → from ≡ q → q + m ≤ end → Apart p 1 q m
off-apart from end p q m o f h = by-either o (λ l. inl (omega arith)) (λ l. inr (omega arith))

-- ---- add

module _ (img : Bytes) (i at n : ℕ) (w : Windows) (e : Entry img i at n w) (p : ℕ)
    (c : covered (windows_of w) p ≡ false) where
  elsewhere : (m : ℕ) → m ≤ head_size (layout_of img) + shown_length (layout_of img) img at + n → Elsewhere img i at m p 1
  elsewhere m few =
      record {
        header = omega (arith, e.header, off-1 w p c);
        entry =
            off-apart w.from2 w.end2 p (slot_start (layout_of img) i) (slot_size (layout_of img)) (off-2 w p c)
            e.slot-from (omega (arith, e.slot-end));
        message = λ z.
            let q = e.message z in
            off-apart w.from3 w.end3 p at _ (off-3 w p c) q.0 (omega (arith, q.1));
        fresh = λ fits.
            off-apart w.from4 w.end4 p _ m (off-4 w p c) e.fresh-from (e.fresh-end m few fits);
      }

module _ (img : Bytes) (n : ℕ) (w : Windows) where
  pub add-present : (i : ℕ)
      → (message_sound (layout_of img) img (offset_in img i) ≡ true → Entry img i (offset_in img i) n w)
      → AddOnly img (met i) n w
  unfolding add plain
  add-present i e key bytes mode m len z p c =
      let s = add-sound img key bytes mode z p 1 i m in
      same_byte _ _ p
      (add-met img key bytes mode z p 1 i m
      (elsewhere img i (offset_in img i) n w (e s) p c _ (omega (arith, add-takes img key bytes mode z p 1 i m, len))))

  pub add-new : (i : ℕ) → Entry img i 0 n w → AddOnly img (empty i) n w
  unfolding add plain
  add-new i e key bytes mode m len z p c =
      same_byte _ _ p
      (add-empty img key bytes mode z p 1 i m
      (elsewhere img i 0 n w e p c _ (omega (arith, fresh-takes (layout_of img) img bytes mode, len))))

  pub add_none : AddOnly img exhausted n w
  unfolding add plain
  add_none key bytes mode m len z p c = absurd (add-exhausted img key bytes mode z p 1 0 m)

-- refused before the search
pub add-stopped : (img key bytes : Bytes) (mode : ℕ) (known : Bool) (w : Windows) → known ≡ mode_known mode
    → (seek_number img key known ≡ 0 → ⊥) → Only (λ (x : Bytes). add x key bytes mode) img w
unfolding add plain
add-stopped img key bytes mode known w k n z p c =
    let asked : seek_number img key known ≡ seek_number img key (mode_known mode) = ap (seek_number img key) k in
    absurd (n (asked ∙ sym (add-stop img key bytes mode (λ q. n (asked ∙ q))) ∙ z))

-- ---- delete

-- slots stand in their order
pub slot-low : (g : Layout) (j k : ℕ) → j ≤ k → slot_start g j ≤ slot_start g k
unfolding slot_start
slot-low g j k h =
    let le : j * slot_size g ≤ k * slot_size g = mul-le-mul_right (slot_size g) h in
    omega arith

pub slot-before : (g : Layout) (j k : ℕ) → j < k → slot_start g j + slot_size g ≤ slot_start g k
unfolding slot_start
slot-before g j k h =
    let le : suc j * slot_size g ≤ k * slot_size g = mul-le-mul_right (slot_size g) h in
    omega (arith, suc-mul j (slot_size g))

module _ (img : Bytes) (r : Room (layout_of img) (length img)) (i at : ℕ) (w : Windows) (e : Walk img i at w)
    (li : i < (layout_of img).N) (p : ℕ) (c : covered (windows_of w) p ≡ false) where
  abbrev g : Layout
  g = layout_of img

  abbrev Spared : ℕ → Type 0
  Spared k = Apart p 1 (slot_start g k) (slot_size g)

  -- below the walk's end, and above slot i, as far as the windows go
  below_last : (k : ℕ) → k < e.last → slot_start g e.last ≤ p → Spared k
  below_last k h l = inr (omega (arith, slot-before g k e.last h))

  above-slot : (k : ℕ) → i ≤ k → p < w.from2 → Spared k
  above-slot k h l = inl (omega (arith, slot-low g i k h, e.slot-from))

  -- the walk goes upwards
  spared-up : i < e.last → (k : ℕ) → k < g.N → Walked g.N i e.last k → Spared k
  spared-up up k lk (inl q) = absurd (omega arith)
  spared-up up k lk (inr d) =
      by-dist g.N i k
      (λ l q.
      by-either (off-2 w p c)
      (above-slot k l)
      (λ h. below_last k (omega (arith, dist-up g.N i e.last (omega arith))) (omega (arith, e.up up))))
      (λ l q. absurd (omega (arith, dist-up g.N i e.last (omega arith), e.last-lt)))

  -- it may go round the table's end
  spared-round : e.last ≤ i → (k : ℕ) → k < g.N → Walked g.N i e.last k → Spared k
  spared-round round k lk v =
      by_le i k
      (λ l.
      by-either (off-2 w p c)
      (above-slot k l)
      (λ h. inr (omega (arith, slot-end g r k lk, (e.round round).1))))
      (λ l. below_last k (before v l) (omega (arith, (e.round round).0, off-1 w p c)))
    where
      before : Walked g.N i e.last k → k < i → k < e.last
      before (inl q) l = omega arith
      before (inr d) l =
          by-eq e.last i
          (λ q. omega arith)
          (λ q.
          let less : e.last < i = by_le i e.last (λ h. absurd (q (omega arith))) (λ h. h) in
          omega (arith, dist-wrap g.N i k l, dist-wrap g.N i e.last less))

  spared : (k : ℕ) → k < g.N → Walked g.N i e.last k → Spared k
  spared = by_le (suc i) e.last spared-up (λ h. spared-round (omega arith))

  letter : (at ≡ 0 → ⊥) → Apart p 1 at 1
  letter z = let q = e.message z in off-apart w.from3 w.end3 p at 1 (off-3 w p c) q.0 (omega (arith, q.1))

module _ (img : Bytes) (w : Windows) where
  pub delete-present : (i : ℕ) → i < (layout_of img).N → Room (layout_of img) (length img)
      → (message_sound (layout_of img) img (offset_in img i) ≡ true → Walk img i (offset_in img i) w)
      → DeleteOnly img (met i) w
  unfolding delete plain
  delete-present i l r e key m z p c =
      let s = e (delete-sound img key z p 1 i i m) in
      same_byte _ _ p
      (delete-met img key z p 1 i s.last m (omega (arith, s.header, off-1 w p c))
      (letter img r i (offset_in img i) w s l p c) s.last-lt s.vacant-last
      (spared img r i (offset_in img i) w s l p c))

  pub delete-none : (s : Probe) → is_met s ≡ false → DeleteOnly img s w
  unfolding delete plain
  delete-none s h key m z p c = absurd (delete-other img key z p 1 0 0 (ap is_met m ∙ h))

pub delete-stopped : (img key : Bytes) (w : Windows) → (seek_number img key true ≡ 0 → ⊥)
    → Only (λ (x : Bytes). delete x key) img w
unfolding delete plain
delete-stopped img key w n z p c = absurd (n (sym (delete-stop img key n) ∙ z))
