-- Windows: which places they cover, what is left of them from a place on, and the image before the call, byte by byte.
--     ahead-1 .. ahead-4, ahead_none      what is left of the first window that ends above i; of no window
--     length_before, byte-kept, byte-same      the image before the call: as long as the one after it; of the working
--                       slice inside the windows, of the image after it outside of them
--     before-whole      where one window is the whole image, it is the working slice
--     window-passed, window-differ, gap-stops, window-stops      what a scan of one window says of the two images
-- Assumes nothing.
use mathlib.Core.Path.{◌≡◌, refl, sym, ap, ap₂, ◌∙◌}
use Prim.Native.Nat.{ℕ, suc, ◌+◌, ◌-◌, ◌≤◌, ◌<◌}
use native.Mathlib.Omega.{arith}
use mathlib.Core.Bool.{Bool, true, false, ◌||◌}
use mathlib.Core.List.{List, [], ◌∷◌}
use mathlib.Core.Logic.{◌⊎◌, inl, inr}
use lib.ListN.{length, get_or}
use lib.Seq.{ext_get_or}
use Rattle.spec_file.specs.Bytes.{Bytes}
use Rattle.spec_changes.specs.Changes.{Pair, covered}
use Rattle.law_file.proofs.Tests.{by_le, or_right}
use Rattle.spec_changes.proofs.Changes.{inside, inside-yes, inside-below, inside-above, covered-cons}
use Rattle.spec_changes.proofs.Copied.{Within, length-copied, byte-copied, byte_left}
use Rattle.changes_windows.specs.declared.Windows.{Windows}
use Rattle.changes_windows.specs.Scans.{rest, Differ, Passed}
use Rattle.changes_windows.specs.Windows.{stretch, windows_of, before, Sorted, Kept, Ahead}
use Rattle.changes_windows.proofs.Scanning.{Stops, rest-to}

-- ---- which places they cover

-- place j is none of those from a up to e
abbrev pub Off : ℕ → ℕ → ℕ → Type 0
Off a e j = (j < a) ⊎ (e ≤ j)

inside-off : (a e j : ℕ) → Off a e j → inside (stretch a e) j ≡ false
inside-off a e j (inl h) = inside-below (stretch a e) j h
inside-off a e j (inr h) =
    by_le a j (λ l. inside-above (stretch a e) j (omega arith)) (λ l. inside-below (stretch a e) j l)

first-yes : (a e j : ℕ) (rs : List Pair) → a ≤ j → j < e → covered (stretch a e ∷ rs) j ≡ true
first-yes a e j rs l h =
    covered-cons (stretch a e) rs j
    ∙ ap (λ (b : Bool). b || covered rs j) (inside-yes (stretch a e) j l (omega arith))

later-yes : (r : Pair) (rs : List Pair) (j : ℕ) → covered rs j ≡ true → covered (r ∷ rs) j ≡ true
later-yes r rs j h = covered-cons r rs j ∙ or_right (inside r j) (covered rs j) h

next-no : (a e j : ℕ) (rs : List Pair) → Off a e j → covered rs j ≡ false → covered (stretch a e ∷ rs) j ≡ false
next-no a e j rs o h = covered-cons (stretch a e) rs j ∙ ap₂ ◌||◌ (inside-off a e j o) h

module _ (w : Windows) (j : ℕ) where
  covered-nil : covered [] j ≡ false
  unfolding covered
  covered-nil = refl

  pub covered-1 : j < w.end1 → covered (windows_of w) j ≡ true
  unfolding windows_of
  covered-1 h = first-yes 0 w.end1 j _ (omega arith) h

  pub covered-2 : w.from2 ≤ j → j < w.end2 → covered (windows_of w) j ≡ true
  unfolding windows_of
  covered-2 l h = later-yes _ _ j (first-yes w.from2 w.end2 j _ l h)

  pub covered-3 : w.from3 ≤ j → j < w.end3 → covered (windows_of w) j ≡ true
  unfolding windows_of
  covered-3 l h = later-yes _ _ j (later-yes _ _ j (first-yes w.from3 w.end3 j _ l h))

  pub covered-4 : w.from4 ≤ j → j < w.end4 → covered (windows_of w) j ≡ true
  unfolding windows_of
  covered-4 l h = later-yes _ _ j (later-yes _ _ j (later-yes _ _ j (first-yes w.from4 w.end4 j _ l h)))

  pub covered_none : w.end1 ≤ j → Off w.from2 w.end2 j → Off w.from3 w.end3 j → Off w.from4 w.end4 j
      → covered (windows_of w) j ≡ false
  unfolding windows_of
  covered_none a b c d =
      next-no 0 w.end1 j _ (inr a)
      (next-no w.from2 w.end2 j _ b
      (next-no w.from3 w.end3 j _ c
      (next-no w.from4 w.end4 j [] d covered-nil)))

-- ---- what is left of them

-- of the window a .. e
ahead-window : (w : Windows) (L i a e from : ℕ) → i ≤ from → a ≤ from → (i < from → from ≡ a) → i < e → a ≤ e → e ≤ L
    → ((j : ℕ) → i ≤ j → j < a → covered (windows_of w) j ≡ false)
    → ((j : ℕ) → a ≤ j → j < e → covered (windows_of w) j ≡ true)
    → Ahead w L i from e
ahead-window w L i a e from low start only more order high out in' =
    record {
      low = low;
      order = by_le (suc i) from (λ l. omega (arith, only l)) (λ l. omega arith);
      high = high;
      more = λ l. more;
      outside = λ j l h. out j l (omega (arith, only (omega arith)));
      inside = λ j l h. in' j (omega arith) h;
    }

module _ (w : Windows) (L i : ℕ) (s : Sorted w L) where
  pub ahead-1 : i < w.end1 → Ahead w L i i w.end1
  ahead-1 h =
      ahead-window w L i 0 w.end1 i (omega arith) (omega arith) (λ l. absurd (omega arith)) h (omega arith)
      (omega (arith, s.gap1, s.second, s.gap2, s.third, s.gap3, s.fourth, s.high))
      (λ j l k. absurd (omega arith)) (λ j l k. covered-1 w j k)

  pub ahead-2 : (from : ℕ) → (i ≤ from) × (w.from2 ≤ from) × (i < from → from ≡ w.from2) → w.end1 ≤ i → i < w.end2
      → Ahead w L i from w.end2
  ahead-2 from f o h =
      ahead-window w L i w.from2 w.end2 from f.0 f.1 f.2 h s.second
      (omega (arith, s.gap2, s.third, s.gap3, s.fourth, s.high))
      (λ j l k. covered_none w j (omega arith) (inl k) (inl (omega (arith, s.second, s.gap2)))
      (inl (omega (arith, s.second, s.gap2, s.third, s.gap3))))
      (λ j l k. covered-2 w j l k)

  pub ahead-3 : (from : ℕ) → (i ≤ from) × (w.from3 ≤ from) × (i < from → from ≡ w.from3) → w.end2 ≤ i → i < w.end3
      → Ahead w L i from w.end3
  ahead-3 from f o h =
      ahead-window w L i w.from3 w.end3 from f.0 f.1 f.2 h s.third
      (omega (arith, s.gap3, s.fourth, s.high))
      (λ j l k. covered_none w j (omega (arith, s.gap1, s.second)) (inr (omega arith)) (inl k)
      (inl (omega (arith, s.third, s.gap3))))
      (λ j l k. covered-3 w j l k)

  pub ahead-4 : (from : ℕ) → (i ≤ from) × (w.from4 ≤ from) × (i < from → from ≡ w.from4) → w.end3 ≤ i → i < w.end4
      → Ahead w L i from w.end4
  ahead-4 from f o h =
      ahead-window w L i w.from4 w.end4 from f.0 f.1 f.2 h s.fourth s.high
      (λ j l k. covered_none w j (omega (arith, s.gap1, s.second, s.gap2, s.third))
      (inr (omega (arith, s.gap2, s.third))) (inr (omega arith)) (inl k))
      (λ j l k. covered-4 w j l k)

  pub ahead_none : i ≤ L → w.end4 ≤ i → Ahead w L i L L
  ahead_none l o =
      record {
        low = l;
        order = omega arith;
        high = omega arith;
        more = λ h. h;
        outside = λ j m h. covered_none w j
            (omega (arith, s.gap1, s.second, s.gap2, s.third, s.gap3, s.fourth))
            (inr (omega (arith, s.gap2, s.third, s.gap3, s.fourth)))
            (inr (omega (arith, s.gap3, s.fourth)))
            (inr (omega arith));
        inside = λ j m h. absurd (omega arith);
      }

-- ---- the image before the call

pub windows-within : (w : Windows) (L : ℕ) → Sorted w L → Within L (windows_of w)
unfolding windows_of
windows-within w L s =
    let all4 : w.from4 + (w.end4 - w.from4) ≤ L = omega (arith, s.fourth, s.high) in
    let all3 : w.from3 + (w.end3 - w.from3) ≤ L = omega (arith, s.third, s.gap3, s.fourth, s.high) in
    let all2 : w.from2 + (w.end2 - w.from2) ≤ L =
    omega (arith, s.second, s.gap2, s.third, s.gap3, s.fourth, s.high) in
    (omega (arith, s.gap1, s.second, s.gap2, s.third, s.gap3, s.fourth, s.high), (all2, (all3, (all4, tt))))

module _ (w : Windows) (work new : Bytes) (k : Kept w work new) where
  within : Within (length new) (windows_of w)
  within = windows-within w (length new) k.sorted

  pub length_before : length (before w work new) ≡ length new
  length_before = length-copied (length new) (windows_of w) work new within k.roomy (omega arith)

  pub byte-kept : (i : ℕ) → covered (windows_of w) i ≡ true → get_or (before w work new) i 0 ≡ get_or work i 0
  byte-kept i c = byte-copied (length new) (windows_of w) work new within k.roomy (omega arith) i c

  pub byte-same : (i : ℕ) → covered (windows_of w) i ≡ false → get_or (before w work new) i 0 ≡ get_or new i 0
  byte-same i c = byte_left (length new) (windows_of w) work new within k.roomy (omega arith) i c

-- one window, the whole of two images
module _ (w : Windows) (old new : Bytes) (l : length old ≡ length new)
    (r : (w.end1 ≡ length new) × Sorted w (length new))
  where
    pub kept_whole : Kept w old new
    kept_whole = record { sorted = r.1; roomy = omega arith }

    pub before-whole : before w old new ≡ old
    before-whole =
        let m = length_before w old new kept_whole in
        ext_get_or 0 (before w old new) old (m ∙ sym l)
        (λ i h. byte-kept w old new kept_whole i (covered-1 w i (omega (arith, r.0))))

-- ---- a scan of what is left of a window

module _ (w : Windows) (work new : Bytes) (k : Kept w work new) (i from end : ℕ) (a : Ahead w (length new) i from end)
  where
    abbrev old : Bytes
    old = before w work new

    -- what two bytes of the working slice and of the image after the call are, the image before it and that one are too
    window-byte : (j : ℕ) → from ≤ j → j < end → get_or old j 0 ≡ get_or work j 0
    window-byte j l h = byte-kept w work new k j (a.inside j l h)

    pub window-differ : (j : ℕ) → from ≤ j → j < end → Differ work new j → Differ old new j
    window-differ j l h d e = d (sym (window-byte j l h) ∙ e)

    -- the gap before it, and equal bytes in it
    pub window-passed : (r : ℕ) → Passed work new from end r → rest old new i ≡ rest old new r
    window-passed r p =
        let size = length_before w work new k in
        rest-to old new size i r (omega (arith, a.low, p.low)) (omega (arith, p.high, a.high))
        (λ j l h.
        by_le from j
        (λ m. window-byte j m (omega (arith, p.high)) ∙ p.same j m h)
        (λ m. byte-same w work new k j (a.outside j l m)))

    -- a place in the gap before it stops a run
    pub gap-stops : i < from → Stops old new (length_before w work new k) i
    gap-stops h =
        let size = length_before w work new k in
        inr (omega (arith, a.order, a.high), byte-same w work new k i (a.outside i (omega arith) h))

    pub window-stops : (r : ℕ) → from ≤ r → r < end → get_or work r 0 ≡ get_or new r 0
        → Stops old new (length_before w work new k) r
    window-stops r l h e =
        let size = length_before w work new k in
        inr (omega (arith, a.high), window-byte r l h ∙ e)
