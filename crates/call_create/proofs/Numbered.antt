-- Create's questions, 1 to 4: the number by where they end, and the call by its number.
--     create-1, create-2, create-3, create-4, create-0
--     create-answers, create-kept, create-fresh      the call by its number
-- Assumes nothing.
use mathlib.Core.Path.{◌≡◌, ◌∙◌}
use mathlib.Core.Bool.{true, false}
use Prim.Native.Nat.{ℕ, ◌≤◌, ◌<◌}
use lib.Dec.{leb}
use borrow.Author.Tests.{leb-true, le-leb, lt-leb, eq-eqb, ne_eqb}
use Rattle.spec_file.specs.Limits.{most_key, most_slots}
use lib.ListN.{length}
use Rattle.spec_file.specs.Bytes.{Bytes}
use Rattle.spec_file.specs.Image.{data_start}
use Rattle.spec_file.specs.Create.{slots_asked, fresh_image}
use Rattle.spec_file.specs.Calls.{plain, settled, create}
use Rattle.spec_file.specs.Questions.{size_allowed, key_allowed, slots_allowed, table_fits, create_asks, create_number}
use Rattle.law_file.proofs.Tests.{and_right}
use Rattle.law_file.proofs.Opened.{first_no-none, first_no-yes, first_no-no}

pub key-most : (K : ℕ) → key_allowed K ≡ true → K ≤ most_key
unfolding key_allowed
key-most K h = leb-true K most_key (and_right (leb 1 K) (leb K most_key) h)

pub slots-most : (N : ℕ) → slots_allowed N ≡ true → N ≤ most_slots
unfolding slots_allowed
slots-most N h = leb-true N most_slots h

module _ (L K N : ℕ) where
  pub create-1 : size_allowed L ≡ false → create_number L K N ≡ 1
  unfolding create_number create_asks
  create-1 a = first_no-no 1 _ _ a

  pub create-2 : size_allowed L ≡ true → key_allowed K ≡ false → create_number L K N ≡ 2
  unfolding create_number create_asks
  create-2 a b = first_no-yes 1 _ _ a ∙ first_no-no 2 _ _ b

  pub create-3 : size_allowed L ≡ true → key_allowed K ≡ true → slots_allowed N ≡ false → create_number L K N ≡ 3
  unfolding create_number create_asks
  create-3 a b c = first_no-yes 1 _ _ a ∙ first_no-yes 2 _ _ b ∙ first_no-no 3 _ _ c

  pub create-4 : size_allowed L ≡ true → key_allowed K ≡ true → slots_allowed N ≡ true → L < data_start K N
      → create_number L K N ≡ 4
  unfolding create_number create_asks table_fits
  create-4 a b c d =
      first_no-yes 1 _ _ a ∙ first_no-yes 2 _ _ b ∙ first_no-yes 3 _ _ c ∙ first_no-no 4 _ _ (lt-leb (data_start K N) L d)

  pub create-0 : size_allowed L ≡ true → key_allowed K ≡ true → slots_allowed N ≡ true → data_start K N ≤ L
      → create_number L K N ≡ 0
  unfolding create_number create_asks table_fits
  create-0 a b c d =
      first_no-yes 1 _ _ a
      ∙ first_no-yes 2 _ _ b
      ∙ first_no-yes 3 _ _ c
      ∙ first_no-yes 4 _ _ (le-leb (data_start K N) L d)
      ∙ first_no-none

-- ---- the call, by its number n
module _ (img : Bytes) (K N seed n : ℕ) (e : n ≡ create_number (length img) K (slots_asked N)) where
  pub create-answers : n ≡ (create img K N seed).answer.number
  unfolding create plain
  create-answers = e

  pub create-kept : (n ≡ 0 → ⊥) → img ≡ (create img K N seed).after
  unfolding create settled
  create-kept h = rw (← e, ne_eqb n 0 h)

  pub create-fresh : n ≡ 0 → fresh_image (length img) K (slots_asked N) seed ≡ (create img K N seed).after
  unfolding create settled
  create-fresh h = rw (← e, eq-eqb n 0 h)
