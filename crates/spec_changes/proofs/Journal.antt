-- What stands in a journal is what was written into it: pairs and blocks are read back, and recovery accepts them.
--     Holds c j             the journal begins with the content c, which does not reach its last byte
--     content-pairs, content-blocks, content-sound      what recovery reads in a journal that holds an update's content
--     holds-content, holds-mark      the content written, and a mark of any value behind it
-- Assumes nothing.
use mathlib.Core.Path.{◌≡◌, refl, sym, ap, ap₂, ◌∙◌}
use Prim.Native.Nat.{ℕ, suc, ◌+◌, ◌*◌, ◌^◌, ◌≤◌, ◌<◌}
use native.Mathlib.Omega.{arith}
use mathlib.Core.Bool.{true, ◌&&◌}
use mathlib.Core.List.{List, [], ◌∷◌, ◌++◌, append_assoc}
use lib.ListN.{length, take, drop, length-append, take-append-drop}
use lib.Seq.{take_at, drop_at, drop-drop}
use lib.Dec.{leb}
use borrow.Author.Tests.{le-leb}
use Rattle.spec_file.specs.Bytes.{Bytes, part, store, number, digits}
use Rattle.spec_changes.specs.Changes.{Pair, pair_bytes, Spread}
use Rattle.spec_changes.specs.Journal.{new_bytes, content, Block, stretches, blocks, pair_count, pairs_from, pairs_of, bytes_start, blocks_of, total, content_inside, in_order, journal_sound}
use Rattle.law_file.proofs.Bytes.{part_length, length_digits, number-digits-fits, length-store}
use Rattle.law_file.proofs.Stores.{take-store}

-- ---- lengths

pub length-pair_bytes : (rs : List Pair) → length (pair_bytes rs) ≡ 8 * length rs
unfolding pair_bytes
length-pair_bytes [] = refl
length-pair_bytes (r ∷ rs) =
    length-append (digits 4 r.at) (digits 4 r.size ++ pair_bytes rs)
    ∙ ap₂ ◌+◌ (length_digits 4 r.at)
    (length-append (digits 4 r.size) (pair_bytes rs) ∙ ap₂ ◌+◌ (length_digits 4 r.size) (length-pair_bytes rs))
    ∙ omega arith

pub length-new_bytes : (k : ℕ) (rs : List Pair) (new : Bytes) → Spread k (length new) rs
    → length (new_bytes rs new) ≡ total rs
unfolding new_bytes total
length-new_bytes k [] new s = refl
length-new_bytes k (r ∷ rs) new s =
    length-append (part new r.at r.size) (new_bytes rs new)
    ∙ ap₂ ◌+◌ (part_length new r.at r.size s.2) (length-new_bytes (suc (r.at + r.size)) rs new s.3)

pub length-content : (k : ℕ) (rs : List Pair) (new : Bytes) → Spread k (length new) rs
    → length (content rs new) ≡ bytes_start (length rs) + total rs
unfolding content bytes_start
length-content k rs new s =
    length-append (digits 4 (length rs)) (pair_bytes rs ++ new_bytes rs new)
    ∙ ap₂ ◌+◌ (length_digits 4 (length rs))
    (length-append (pair_bytes rs) (new_bytes rs new) ∙ ap₂ ◌+◌ (length-pair_bytes rs) (length-new_bytes k rs new s))
    ∙ omega arith

-- ---- read back

-- the first of some bytes that begin with v
part-front : (v w : Bytes) (n : ℕ) → length v ≡ n → part (v ++ w) 0 n ≡ v
unfolding part
part-front v w n h = take_at v w n h

pairs-back : (k top : ℕ) (rs : List Pair) (tail : Bytes) → Spread k top rs → top < 256 ^ 4
    → pairs_from (length rs) (pair_bytes rs ++ tail) ≡ rs
unfolding pairs_from pair_bytes part
pairs-back k top [] tail s h = refl
pairs-back k top (r ∷ rs) tail s h =
    let all : Bytes = (digits 4 r.at ++ (digits 4 r.size ++ pair_bytes rs)) ++ tail in
    let split : all ≡ digits 4 r.at ++ (digits 4 r.size ++ (pair_bytes rs ++ tail)) =
    append_assoc (digits 4 r.at) (digits 4 r.size ++ pair_bytes rs) tail
    ∙ ap (λ (t : Bytes). digits 4 r.at ++ t) (append_assoc (digits 4 r.size) (pair_bytes rs) tail) in
    let fits : r.at + r.size ≤ top = s.2 in
    let ih = pairs-back (suc (r.at + r.size)) top rs tail s.3 h in
    heads all (pair_bytes rs ++ tail) r split (omega arith) (omega arith) (length rs) rs ih
  where
    heads : (all rest : Bytes) (r : Pair) → all ≡ digits 4 r.at ++ (digits 4 r.size ++ rest)
        → r.at < 256 ^ 4 → r.size < 256 ^ 4 → (n : ℕ) (rs : List Pair) → pairs_from n rest ≡ rs
        → record { at = number (part all 0 4); size = number (part all 4 4) } ∷ pairs_from n (drop 8 all) ≡ r ∷ rs
    heads all rest r e a b n rs ih =
        let behind : drop 4 all ≡ digits 4 r.size ++ rest =
        ap (drop 4) e ∙ drop_at (digits 4 r.at) (digits 4 r.size ++ rest) 4 (length_digits 4 r.at) in
        let at' : number (part all 0 4) ≡ r.at =
        ap (λ (t : Bytes). number (take 4 t)) e
        ∙ ap number (take_at (digits 4 r.at) (digits 4 r.size ++ rest) 4 (length_digits 4 r.at))
        ∙ number-digits-fits 4 r.at a in
        let size' : number (part all 4 4) ≡ r.size =
        ap (λ (t : Bytes). number (take 4 t)) behind
        ∙ ap number (take_at (digits 4 r.size) rest 4 (length_digits 4 r.size))
        ∙ number-digits-fits 4 r.size b in
        let last : drop 8 all ≡ rest =
        sym (drop-drop 4 4 all) ∙ ap (drop 4) behind
        ∙ drop_at (digits 4 r.size) rest 4 (length_digits 4 r.size) in
        ap₂ (λ (x y : ℕ). record { at = x; size = y } ∷ pairs_from n (drop 8 all)) at' size'
        ∙ ap (λ (l : List Pair). r ∷ l) (ap (pairs_from n) last ∙ ih)

blocks-back : (k : ℕ) (rs : List Pair) (new tail : Bytes) → Spread k (length new) rs
    → blocks rs (new_bytes rs new ++ tail) ≡ stretches rs new
unfolding blocks new_bytes stretches
blocks-back k [] new tail s = refl
blocks-back k (r ∷ rs) new tail s =
    let v : Bytes = part new r.at r.size in
    let all : (v ++ new_bytes rs new) ++ tail ≡ v ++ (new_bytes rs new ++ tail) = append_assoc v (new_bytes rs new) tail in
    let long : length v ≡ r.size = part_length new r.at r.size s.2 in
    ap₂ (λ (x y : Bytes). record { place = r.at; bytes = x } ∷ blocks rs y)
    (ap (take r.size) all ∙ take_at v (new_bytes rs new ++ tail) r.size long)
    (ap (drop r.size) all ∙ drop_at v (new_bytes rs new ++ tail) r.size long)
    ∙ ap (λ (l : List Block). record { place = r.at; bytes = v } ∷ l)
    (blocks-back (suc (r.at + r.size)) rs new tail s.3)

-- ---- a journal that holds a content

pub record Holds (c j : Bytes) : Type 0 where
  pub front : take (length c) j ≡ c
  pub room : length c < length j

pub holds-content : (c j : Bytes) → length c < length j → Holds c (store j 0 c)
holds-content c j h =
    record {
      front = unfold store in take_at c (drop (length c) j) (length c) refl;
      room = omega (arith, length-store j 0 c (omega arith));
    }

-- a mark of any value
pub holds-mark : (c j : Bytes) (p m : ℕ) → Holds c j → p + 1 ≡ length j → Holds c (store j p (m ∷ []))
holds-mark c j p m h e =
    let size : length (store j p (m ∷ [])) ≡ length j = length-store j p (m ∷ []) (omega arith) in
    record {
      front = take-store j p (m ∷ []) (length c) (omega arith) (omega (arith, h.room)) ∙ h.front;
      room = omega (arith, h.room);
    }

-- no pair leaves an image of so many bytes or starts before the last one's end
pub spread-order : (k L : ℕ) (rs : List Pair) → Spread k L rs → in_order L k rs ≡ true
unfolding in_order
spread-order k L [] s = refl
spread-order k L (r ∷ rs) s =
    ap₂ ◌&&◌ (le-leb k r.at s.0)
    (ap₂ ◌&&◌ (le-leb (r.at + r.size) L s.2)
    (spread-order (r.at + r.size) L rs (later rs s.3)))
  where
    later : (rs : List Pair) → Spread (suc (r.at + r.size)) L rs → Spread (r.at + r.size) L rs
    later [] t = tt
    later (q ∷ qs) t = (omega (arith, t.0), t.1, t.2, t.3)

module _ (rs : List Pair) (new j : Bytes) (h : Holds (content rs new) j) (s : Spread 0 (length new) rs)
    (few : length rs < 256 ^ 4) (small : length new < 256 ^ 4) where
  tail : Bytes
  tail = drop (length (content rs new)) j

  whole_is : j ≡ digits 4 (length rs) ++ (pair_bytes rs ++ (new_bytes rs new ++ tail))
  unfolding content tail
  whole_is =
      sym (take-append-drop (length (content rs new)) j)
      ∙ ap (λ (t : Bytes). t ++ tail) h.front
      ∙ append_assoc (digits 4 (length rs)) (pair_bytes rs ++ new_bytes rs new) tail
      ∙ ap (λ (t : Bytes). digits 4 (length rs) ++ t) (append_assoc (pair_bytes rs) (new_bytes rs new) tail)

  pub content-count : pair_count j ≡ length rs
  unfolding pair_count
  content-count =
      ap (λ (t : Bytes). number (part t 0 4)) whole_is
      ∙ ap number
      (part-front (digits 4 (length rs)) (pair_bytes rs ++ (new_bytes rs new ++ tail)) 4 (length_digits 4 (length rs)))
      ∙ number-digits-fits 4 (length rs) few

  behind-count : drop 4 j ≡ pair_bytes rs ++ (new_bytes rs new ++ tail)
  behind-count =
      ap (drop 4) whole_is
      ∙ drop_at (digits 4 (length rs)) (pair_bytes rs ++ (new_bytes rs new ++ tail)) 4 (length_digits 4 (length rs))

  pub content-pairs : pairs_of j ≡ rs
  unfolding pairs_of
  content-pairs =
      ap₂ pairs_from content-count behind-count
      ∙ pairs-back 0 (length new) rs (new_bytes rs new ++ tail) s small

  pub content-blocks : blocks_of j ≡ stretches rs new
  unfolding blocks_of bytes_start
  content-blocks =
      ap₂ (λ (l : List Pair) (n : ℕ). blocks l (drop (4 + 8 * n) j)) content-pairs content-count
      ∙ ap (blocks rs)
      (sym (drop-drop (8 * length rs) 4 j)
      ∙ ap (drop (8 * length rs)) behind-count
      ∙ drop_at (pair_bytes rs) (new_bytes rs new ++ tail) (8 * length rs) (length-pair_bytes rs))
      ∙ blocks-back 0 rs new tail s

  pub content-sound : journal_sound (length new) j ≡ true
  unfolding journal_sound content_inside
  content-sound =
      ap₂ ◌&&◌
      (ap₂ (λ (n : ℕ) (l : List Pair). leb (bytes_start n + total l + 1) (length j)) content-count content-pairs
      ∙ le-leb (bytes_start (length rs) + total rs + 1) (length j) (omega (arith, length-content 0 rs new s, h.room)))
      (ap (in_order (length new) 0) content-pairs ∙ spread-order 0 (length new) rs s)
