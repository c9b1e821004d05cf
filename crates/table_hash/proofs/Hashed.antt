-- The hash, byte by byte, as the code takes it.
--     hash_step-outside, hash_step-within                   a step, by where the byte lies
--     hash_from-step, hash_from-end                         the hash of the bytes left from i on
-- Assumes nothing.
use Rattle.std.proofs.Common.{◌≡◌, ℕ, ◌+◌, ◌-◌, ◌*◌, ◌%◌, ◌<◌, ◌≤◌, leb, length, get_or, drop, add-one, drop-cons, le-leb, leb-true}
use lib.Seq.{drop-length}
use lib.Bits.{bit_xor}
use Rattle.spec_file.specs.Bytes.{Bytes}
use Rattle.spec_file.specs.Image.{field, hash_step, hash_from}
use Rattle.spec_file.specs.Limits.{word}
use Rattle.law_file.proofs.Tests.{by_bool}

module _ (multiplier F E : ℕ) (S : Bytes) where
  pub hash_step-outside : (h c x : ℕ) → x ≡ h * multiplier % word → (F ≤ c → c ≤ E → ⊥)
      → x ≡ hash_step multiplier F E S h c
  unfolding hash_step
  hash_step-outside h c x e out =
      by_bool (leb F c)
      (λ p. by_bool (leb c E) (λ q. absurd (out (leb-true F c p) (leb-true c E q))) (λ q. rw (p, q) e))
      (λ p. rw p e)

  pub hash_step-within : (h c x y : ℕ) → x ≡ h * multiplier % word → y ≡ field S (4 * (c - F)) → F ≤ c → c ≤ E
      → bit_xor x y ≡ hash_step multiplier F E S h c
  unfolding hash_step field
  hash_step-within h c x y e f p q = rw (le-leb F c p, le-leb c E q, e, f)

  pub hash_from-step : (key : Bytes) (h h' i : ℕ) → i < length key → h' ≡ hash_step multiplier F E S h (get_or key i 0)
      → hash_from multiplier F E S h (drop i key) ≡ hash_from multiplier F E S h' (drop (i + 1) key)
  unfolding hash_from
  hash_from-step key h h' i p e = rw (add-one, drop-cons key i 0 p, e)

  pub hash_from-end : (key : Bytes) (h i : ℕ) → i ≡ length key → hash_from multiplier F E S h (drop i key) ≡ h
  unfolding hash_from
  hash_from-end key h i p = rw (p, drop-length key)
