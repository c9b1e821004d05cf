-- The bytes of a message, and an image with a message written in it, as the leaves write them.
--     retire-active, retire-other       a letter
--     written_at                        header and bytes, written around the first bytes of the text
--     overwrite-steps                   a message and zeros, over an old message
--     place-steps, take_space-set        a message in new space; X and M behind it
-- Assumes nothing.
use mathlib.Core.Path.{◌≡◌, refl, sym, ap, ap₂, ◌∙◌, subst}
use Prim.Native.Nat.{ℕ, suc, ◌+◌, ◌-◌, ◌≤◌, ◌<◌}
use native.Mathlib.Omega.{arith}
use mathlib.Core.Bool.{true, false}
use mathlib.Core.List.{[], ◌∷◌, ◌++◌, append_assoc}
use lib.ListN.{length, take, drop, set, length-append}
use lib.Seq.{take-append-add}
use borrow.Rule.Slice.PartMut.{mid_of, put_mid, mid_len}
use Rattle.spec_file.specs.Bytes.{Bytes, part, store, digits, zeros}
use Rattle.spec_file.specs.Limits.{active, inactive, free_field}
use Rattle.spec_file.specs.Image.{field, Layout}
use Rattle.spec_file.specs.Messages.{head_size, length_at, is_active, message, held, set_free, take_space, retire, overwrite}
use Rattle.law_file.proofs.Bytes.{part_length, length-part-append, part-part, part-store-same, length-store, length_digits, length-zeros}
use Rattle.law_file.proofs.Stores.{store-inner, store-append, store-end, store-lent}
use Rattle.law_file.proofs.Stretch.{held-some}
use Rattle.bytes_words.proofs.Numbers.{set-store}

-- ---- a letter
pub retire-active : (img : Bytes) (o at : ℕ) → at ≡ o → o < length img → is_active img o ≡ true
    → set img at inactive ≡ retire img o
unfolding retire
retire-active img o at e h a = rw (e, a) (set-store img o inactive h)

pub retire-other : (img : Bytes) (o : ℕ) → is_active img o ≡ false → img ≡ retire img o
unfolding retire
retire-other img o a = rw a

-- ---- a message's header, of a letter and W bytes, and the bytes behind it
header : ℕ → ℕ → Bytes
header W m = active ∷ digits W m

length-header : (W m : ℕ) → length (header W m) ≡ W + 1
unfolding header
length-header W m = ap suc (length_digits W m) ∙ omega arith

pub length-written : (W : ℕ) (t : Bytes) → length (message W t) ≡ W + 1 + length t
unfolding message header
length-written W t = length-append (header W (length t)) t ∙ ap (λ (n : ℕ). n + length t) (length-header W (length t))

-- with n bytes of text already behind the header, and the bytes v behind them up to the end
written-steps : (W : ℕ) (s v : Bytes) (n : ℕ) → length s ≡ W + 1 + n + length v
    → store (store s 0 (active ∷ digits W (n + length v))) (W + 1 + n) v ≡ message W (part s (W + 1) n ++ v)
unfolding store message header part digits
written-steps W s v n h =
    let m = n + length v in
    let top = header W m in
    let old = part s (W + 1) n in
    let long : length (old ++ v) ≡ m =
    length-append old v ∙ ap (λ (k : ℕ). k + length v) (part_length s (W + 1) n (omega arith)) in
    let size : W + 1 + n + length v ≡ length (store s 0 top) =
    omega (arith, length-store s 0 top (omega (arith, length-header W m))) in
    store-end (store s 0 top) (W + 1 + n) v size
    ∙ ap (λ (t : Bytes). t ++ v)
    (ap (λ (k : ℕ). take (k + n) (top ++ drop (length top) s)) (sym (length-header W m))
    ∙ take-append-add top (drop (length top) s) n
    ∙ ap (λ (k : ℕ). top ++ take n (drop k s)) (length-header W m))
    ∙ append_assoc top old v
    ∙ ap (λ (k : ℕ). header W k ++ (old ++ v)) (sym long)

-- a letter and the number behind it are one store
pub head-wide : (s : Bytes) (m : ℕ) → 5 ≤ length s
    → store (set s 0 active) 1 (digits 4 m) ≡ store s 0 (active ∷ digits 4 m)
head-wide s m h =
    ap (λ (b : Bytes). store b 1 (digits 4 m)) (set-store s 0 active (omega arith))
    ∙ store-append s 0 (active ∷ []) (digits 4 m) (omega (arith, length_digits 4 m))

-- the same by the header's size
pub written_at : (s v : Bytes) (n head : ℕ) → 0 < head → length s ≡ head + n + length v
    → store (store s 0 (active ∷ digits (head - 1) (n + length v))) (head + n) v
    ≡ message (head - 1) (part s head n ++ v)
written_at s v n head z l =
    let W = head - 1 in
    subst (λ (h : ℕ). store (store s 0 (active ∷ digits W (n + length v))) (h + n) v
    ≡ message W (part s h n ++ v)) (omega arith) (written-steps W s v n (omega arith))

-- ---- a message written over an old one, in the image of layout g; its header has `head` bytes
module _ (g : Layout) (img v : Bytes) (o m head : ℕ) (is-head : head ≡ g.W + 1) (some' : 0 < o)
    (is_m : m ≡ length_at g img o)
    (short : length v ≤ m) (room : o + head + m ≤ length img) where
  -- the message, and zeros up to the old end, are one store
  overwrite-store : store (store img o (message g.W v)) (o + head + length v) (zeros (m - length v))
      ≡ overwrite g img o v
  unfolding overwrite
  overwrite-store =
      let new' = message g.W v in
      let rest = zeros (m - length v) in
      let behind : o + head + length v ≡ o + length new' = omega (arith, length-written g.W v) in
      let is_held : m ≡ held g img o = is_m ∙ sym (held-some g img o (λ q. omega arith)) in
      ap (λ (p : ℕ). store (store img o new') p rest) behind
      ∙ store-append img o new' rest (omega (arith, length-written g.W v, length-zeros (m - length v)))
      ∙ ap (λ (k : ℕ). store img o (new' ++ zeros (k - length v))) is_held

  -- as the two lent parts come back
  pub overwrite-steps : (w z : Bytes) (at : ℕ) → at ≡ o → w ≡ message g.W v
      → z
      ≡ zeros (length (mid_of (at + head + length v) (at + head + m - (at + head + length v))
      (put_mid at (at + head + length v - at) img w)))
      → put_mid (at + head + length v) (at + head + m - (at + head + length v))
      (put_mid at (at + head + length v - at) img w) z
      ≡ overwrite g img o v
  overwrite-steps w z at ea ew ez =
      let new' = message g.W v in
      let end = at + head + length v in
      let one = put_mid at (end - at) img w in
      let first : one ≡ store img at new' =
      store-lent img at end w (ap length ew ∙ omega (arith, length-written g.W v)) ∙ ap (store img at) ew in
      let long : length one ≡ length img =
      ap length first ∙ length-store img at new' (omega (arith, length-written g.W v)) in
      let size : length (mid_of end (at + head + m - end) one) ≡ m - length v =
      mid_len end (at + head + m) one (omega arith) ∙ omega arith in
      let zero' : z ≡ zeros (m - length v) = ez ∙ ap zeros size in
      store-lent one end (at + head + m) z (ap length zero' ∙ length-zeros (m - length v) ∙ omega arith)
      ∙ ap₂ (λ (b y : Bytes). store b end y) first zero'
      ∙ ap (λ (k : ℕ). store (store img k new') (k + head + length v) (zeros (m - length v))) ea
      ∙ overwrite-store

-- ---- a message placed in new space: the n bytes from `from` on, and the bytes v
module _ (g : Layout) (img v : Bytes) (x from n head : ℕ) (is-head : head ≡ g.W + 1) (below : from + n ≤ x)
    (room : x + head + (n + length v) ≤ length img) where
  pub length-placed : length (part img from n ++ v) ≡ n + length v
  length-placed = length-part-append img from n v (omega arith)

  -- the text's first bytes are copied, and the rest is written around them in a lent part
  pub place-steps : (c w : Bytes) → c ≡ store img (x + head) (part img from n)
      → w ≡ message g.W (part (mid_of x (x + head + (n + length v) - x) c) head n ++ v)
      → put_mid x (x + head + (n + length v) - x) c w ≡ store img x (message g.W (part img from n ++ v))
  unfolding part
  place-steps c w ec ew =
      let old = part img from n in
      let new' = message g.W (old ++ v) in
      let end = x + head + (n + length v) in
      let size : length old ≡ n = part_length img from n (omega arith) in
      let copied : part (mid_of x (end - x) c) head n ≡ old =
      part-part c x (end - x) head n (omega arith)
      ∙ ap (λ (b : Bytes). part b (x + head) n) ec
      ∙ ap (part (store img (x + head) old) (x + head)) (sym size)
      ∙ part-store-same img (x + head) old (omega arith) in
      let is-new : w ≡ new' = ew ∙ ap (λ (t : Bytes). message g.W (t ++ v)) copied in
      let long : length new' ≡ head + (n + length v) =
      length-written g.W (old ++ v) ∙ omega (arith, length-placed) in
      store-lent c x end w (ap length is-new ∙ omega (arith, long))
      ∙ ap₂ (λ (b y : Bytes). store b x y) ec is-new
      ∙ store-inner img x new' (x + head) old (omega arith) (omega (arith, long, size)) (omega (arith, long))

  pub take_space-set : (d : ℕ) → d ≡ g.D → x ≡ field img free_field
      → set_free d (store img x (message g.W (part img from n ++ v))) (x + head + (n + length v))
      ≡ take_space g img (part img from n ++ v)
  unfolding take_space head_size
  take_space-set d ed ex =
      let t = part img from n ++ v in
      let end : x + head + (n + length v) ≡ field img free_field + (g.W + 1) + length t =
      omega (arith, length-placed) in
      ap (λ (e : ℕ). set_free e (store img x (message g.W t)) (x + head + (n + length v))) ed
      ∙ ap₂ (set_free g.D) (ap (λ (p : ℕ). store img p (message g.W t)) ex) end
