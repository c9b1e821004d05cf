-- A message whose text is as long as is known beforehand, written into lent parts of an image.
--     written-records       a header, and what is stored of the records after it, are the message
--     overwrite-known       a message over an old one, and zeros up to the old end
--     place-known           a message at X, and X and M after it
-- Assumes nothing.
use mathlib.Core.Path.{◌≡◌, sym, ap, ap₂, ◌∙◌, subst}
use Prim.Native.Nat.{ℕ, ◌+◌, ◌-◌, ◌≤◌, ◌<◌}
use native.Mathlib.Omega.{arith}
use mathlib.Core.Bool.{true}
use mathlib.Core.List.{[], ◌∷◌, ◌++◌}
use lib.ListN.{length}
use borrow.Rule.Slice.PartMut.{mid_of, put_mid}
use Rattle.spec_file.specs.Bytes.{Bytes, part, store, digits, zeros}
use Rattle.spec_file.specs.Limits.{active, free_field}
use Rattle.spec_file.specs.Image.{field, Layout}
use Rattle.spec_file.specs.Messages.{head_size, length_at, message, set_free, take_space, overwrite}
use Rattle.law_file.proofs.Stores.{store-lent}
use Rattle.spec_columns.specs.Columns.{whole_records, columns}
use Rattle.law_columns.proofs.Turned.{length-stored}
use Rattle.bytes_words.proofs.Numbers.{part-zero}
use Rattle.message_write.proofs.Placed.{length-written, written_at, overwrite-steps}

pub written-records : (s recs : Bytes) (W head : ℕ) → 0 < head → whole_records W (length recs) ≡ true
    → length s ≡ head + (1 + length recs)
    → store (store s 0 (active ∷ digits (head - 1) (1 + length recs))) head (columns W recs)
    ≡ message (head - 1) (columns W recs)
written-records s recs W head e h l =
    let v : Bytes = columns W recs in
    let k : length v ≡ 1 + length recs = length-stored W recs h in
    let count : 1 + length recs ≡ 0 + length v = omega (arith, k) in
    let from : head ≡ head + 0 = omega arith in
    ap₂ (λ (n p : ℕ). store (store s 0 (active ∷ digits (head - 1) n)) p v) count from
    ∙ written_at s v 0 head e (omega (arith, k, l))
    ∙ ap (λ (t : Bytes). message (head - 1) (t ++ v)) (part-zero s head)

-- ---- of a text v of k bytes, in the image of layout g; its header has `head` bytes
module _ (g : Layout) (img v : Bytes) (k head : ℕ) (ek : length v ≡ k) (is-head : head ≡ g.W + 1) (w : Bytes)
    (ew : w ≡ message g.W v) where
  pub overwrite-known : (o m : ℕ) → 0 < o → m ≡ length_at g img o → k ≤ m → o + head + m ≤ length img
      → (z : Bytes) (at : ℕ) → at ≡ o
      → z
      ≡ zeros (length (mid_of (at + head + k) (at + head + m - (at + head + k)) (put_mid at (at + head + k - at) img w)))
      → put_mid (at + head + k) (at + head + m - (at + head + k)) (put_mid at (at + head + k - at) img w) z
      ≡ overwrite g img o v
  overwrite-known o m some' is_m short room z at ea =
      subst (λ (n : ℕ). z
      ≡ zeros (length (mid_of (at + head + n) (at + head + m - (at + head + n)) (put_mid at (at + head + n - at) img w)))
      → put_mid (at + head + n) (at + head + m - (at + head + n)) (put_mid at (at + head + n - at) img w) z
      ≡ overwrite g img o v) ek
      (overwrite-steps g img v o m head is-head some' is_m (omega arith) room w z at ea ew)

  pub place-known : (x d : ℕ) → x ≡ field img free_field → d ≡ g.D
      → set_free d (put_mid x (x + head + k - x) img w) (x + head + k) ≡ take_space g img v
  unfolding take_space head_size
  place-known x d ex ed =
      let long : length w ≡ x + head + k - x = ap length ew ∙ omega (arith, length-written g.W v) in
      let there : put_mid x (x + head + k - x) img w ≡ store img x (message g.W v) =
      store-lent img x (x + head + k) w long ∙ ap (store img x) ew in
      let end : x + head + k ≡ field img free_field + (g.W + 1) + length v = omega arith in
      ap₂ (λ (e : ℕ) (b : Bytes). set_free e b (x + head + k)) ed there
      ∙ ap₂ (set_free g.D) (ap (λ (p : ℕ). store img p (message g.W v)) ex) end
