-- What create's questions give where none is answered no.
--     Accepted L K N, accepted-facts      the facts, by name, from `create_number L K N ≡ 0`
-- Assumes nothing.
use mathlib.Core.Path.{◌≡◌}
use Prim.Native.Nat.{ℕ, ◌%◌, ◌≤◌}
use native.Mathlib.Omega.{arith}
use mathlib.Core.Bool.{◌&&◌}
use mathlib.Core.List.{[]}
use lib.Dec.{eqb, leb}
use borrow.Author.Tests.{eqb-true, leb-true}
use Rattle.spec_file.specs.Limits.{page_size, most_image, most_key, most_slots}
use Rattle.spec_file.specs.Image.{data_start}
use Rattle.spec_file.specs.Questions.{size_allowed, key_allowed, slots_allowed, table_fits, create_asks, create_number}
use Rattle.law_file.proofs.Tests.{and_left, and_right}
use Rattle.law_file.proofs.Opened.{first_no-head, first_no-tail}

pub record Accepted (L K N : ℕ) : Type 0 where
  pub page : L % page_size ≡ 0
  pub size_low : page_size ≤ L
  pub size-high : L ≤ most_image
  pub key-low : 1 ≤ K
  pub key-high : K ≤ most_key
  pub slots-high : N ≤ most_slots
  pub fits : data_start K N ≤ L

pub accepted-facts : (L K N : ℕ) → create_number L K N ≡ 0 → Accepted L K N
unfolding create_number create_asks size_allowed key_allowed slots_allowed table_fits
accepted-facts L K N h =
    let h2 = first_no-tail 1 (eqb (L % page_size) 0 && leb page_size L && leb L most_image) _ (λ z. omega arith) h in
    let h3 = first_no-tail 2 (leb 1 K && leb K most_key) _ (λ z. omega arith) h2 in
    let h4 = first_no-tail 3 (leb N most_slots) _ (λ z. omega arith) h3 in
    let size = first_no-head 1 (eqb (L % page_size) 0 && leb page_size L && leb L most_image) _ (λ z. omega arith) h in
    let key = first_no-head 2 (leb 1 K && leb K most_key) _ (λ z. omega arith) h2 in
    record {
      page = eqb-true _ _ (and_left _ (leb page_size L) (and_left _ (leb L most_image) size));
      size_low = leb-true _ _ (and_right (eqb (L % page_size) 0) _ (and_left _ (leb L most_image) size));
      size-high = leb-true _ _ (and_right (eqb (L % page_size) 0 && leb page_size L) _ size);
      key-low = leb-true _ _ (and_left (leb 1 K) _ key);
      key-high = leb-true _ _ (and_right (leb 1 K) _ key);
      slots-high = leb-true _ _ (first_no-head 3 (leb N most_slots) _ (λ z. omega arith) h3);
      fits = leb-true _ _ (first_no-head 4 (leb (data_start K N) L) [] (λ z. omega arith) h4);
    }
