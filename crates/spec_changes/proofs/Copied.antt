-- An image with stretches of another copied into it, byte by byte.
--     Within L rs         the stretches lie below L
--     length-copied       it is as long as it was
--     byte-copied, byte_left      a byte in a stretch is the other's; a byte outside of all is its own
--     copied-back         bytes kept of an image, and copied back into one that is near it, give it again
-- Assumes nothing.
use mathlib.Core.Path.{◌≡◌, refl, sym, ap, ap₂, ◌∙◌}
use Prim.Native.Nat.{ℕ, suc, ◌+◌, ◌-◌, ◌≤◌, ◌<◌}
use native.Mathlib.Omega.{arith}
use mathlib.Core.Bool.{true, false, ◌||◌, true≢false}
use mathlib.Core.List.{List, [], ◌∷◌}
use mathlib.Core.Logic.{◌⊎◌, inl, inr}
use lib.ListN.{length, get_or}
use lib.Seq.{ext_get_or}
use Rattle.spec_file.specs.Bytes.{Bytes, part, store}
use Rattle.spec_changes.specs.Changes.{Pair, covered, copied, Near}
use Rattle.law_file.proofs.Tests.{by_bool, by_le, by-either, or_no}
use Rattle.law_file.proofs.Bytes.{part_length, length-store}
use Rattle.spec_changes.proofs.Changes.{inside, inside-yes, inside-below, inside-above, covered-cons}
use Rattle.law_file.proofs.Byte.{byte-part, byte-store-below, byte-store-above, byte-store-inside}

abbrev pub Within : ℕ → List Pair → Type 0
Within L [] = Unit {0}
Within L (r ∷ rs) = (r.at + r.size ≤ L) × Within L rs

-- a stretch that a byte lies in, or not
pub by-inside {ℓ} : {A : Type ℓ} (r : Pair) (i : ℕ) → (inside r i ≡ true → r.at ≤ i → i < r.at + r.size → A)
    → (inside r i ≡ false → (i < r.at) ⊎ (r.at + r.size ≤ i) → A) → A
by-inside r i yes' no' =
    by_le r.at i
    (λ l. by_le (suc i) (r.at + r.size)
    (λ h. yes' (inside-yes r i l h) l h)
    (λ h. no' (inside-above r i (omega arith)) (inr (omega arith))))
    (λ l. no' (inside-below r i l) (inl l))

-- one stretch
module _ (r : Pair) (src img : Bytes) (L : ℕ) (fits : r.at + r.size ≤ L) (from : L ≤ length src) (to : L ≤ length img)
  where
    abbrev v : Bytes
    v = part src r.at r.size

    long : length v ≡ r.size
    long = part_length src r.at r.size (omega arith)

    room : r.at + length v ≤ length img
    room = omega (arith, long)

    stored-size : length (store img r.at v) ≡ length img
    stored-size = length-store img r.at v room

    stored-in : (i : ℕ) → r.at ≤ i → i < r.at + r.size → get_or (store img r.at v) i 0 ≡ get_or src i 0
    stored-in i l h =
        let k : i ≡ r.at + (i - r.at) = omega arith in
        ap (λ (n : ℕ). get_or (store img r.at v) n 0) k
        ∙ byte-store-inside img r.at v (i - r.at) room (omega (arith, long))
        ∙ byte-part src r.at r.size (i - r.at) (omega arith)
        ∙ ap (λ (n : ℕ). get_or src n 0) (sym k)

    stored-out : (i : ℕ) → inside r i ≡ false → get_or (store img r.at v) i 0 ≡ get_or img i 0
    stored-out i f =
        by-inside r i
        (λ e l h. absurd (true≢false (sym e ∙ f)))
        (λ e side. by-either side
        (λ l. byte-store-below img r.at v i room l)
        (λ l. byte-store-above img r.at v i room (omega (arith, long))))

pub length-copied : (L : ℕ) (rs : List Pair) (src img : Bytes) → Within L rs → L ≤ length src → L ≤ length img
    → length (copied rs src img) ≡ length img
unfolding copied
length-copied L [] src img w f t = refl
length-copied L (r ∷ rs) src img w f t =
    let e : length (store img r.at (part src r.at r.size)) ≡ length img
    = stored-size r src img L w.0 f t in
    length-copied L rs src (store img r.at (part src r.at r.size)) w.1 f (omega arith) ∙ e

pub byte_left : (L : ℕ) (rs : List Pair) (src img : Bytes) → Within L rs → L ≤ length src → L ≤ length img
    → (i : ℕ) → covered rs i ≡ false → get_or (copied rs src img) i 0 ≡ get_or img i 0
unfolding copied
byte_left L [] src img w f t i c = refl
byte_left L (r ∷ rs) src img w f t i c =
    let e : length (store img r.at (part src r.at r.size)) ≡ length img
    = stored-size r src img L w.0 f t in
    let no' = or_no (inside r i) (covered rs i) (sym (covered-cons r rs i) ∙ c) in
    byte_left L rs src (store img r.at (part src r.at r.size)) w.1 f (omega arith) i no'.1
    ∙ stored-out r src img L w.0 f t i no'.0

pub byte-copied : (L : ℕ) (rs : List Pair) (src img : Bytes) → Within L rs → L ≤ length src → L ≤ length img
    → (i : ℕ) → covered rs i ≡ true → get_or (copied rs src img) i 0 ≡ get_or src i 0
unfolding copied
byte-copied L [] src img w f t i c = absurd (true≢false (sym c ∙ (unfold covered in refl)))
byte-copied L (r ∷ rs) src img w f t i c =
    let img' : Bytes = store img r.at (part src r.at r.size) in
    let e : length img' ≡ length img = stored-size r src img L w.0 f t in
    by_bool (covered rs i)
    (λ h. byte-copied L rs src img' w.1 f (omega arith) i h)
    (λ h.
    byte_left L rs src img' w.1 f (omega arith) i h
    ∙ by-inside r i
    (λ y l k. stored-in r src img L w.0 f t i l k)
    (λ n side. absurd (true≢false (sym c ∙ covered-cons r rs i ∙ ap₂ ◌||◌ n h))))

-- kept in a working slice, then copied into an image that has changed in the stretches alone
pub copied-back : (rs : List Pair) (old work new : Bytes) → Within (length old) rs → length old ≤ length work
    → Near rs new old → copied rs (copied rs old work) new ≡ old
copied-back rs old work new w l n =
    let L : ℕ = length old in
    let k : L ≤ length (copied rs old work) =
    let e = length-copied L rs old work w (omega arith) l in omega arith in
    let m : L ≤ length new = omega (arith, n.size) in
    ext_get_or 0 (copied rs (copied rs old work) new) old
    (length-copied L rs (copied rs old work) new w k m ∙ n.size)
    (λ i h.
    by_bool (covered rs i)
    (λ c. byte-copied L rs (copied rs old work) new w k m i c ∙ byte-copied L rs old work w (omega arith) l i c)
    (λ c. byte_left L rs (copied rs old work) new w k m i c ∙ n.outside i c))
