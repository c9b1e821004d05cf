-- The writes that a marked journal asks for, as the code does them.
--     settled-all                    all of them
--     take_beyond                    more than all are all
--     updates-as, updates-same       image and journal, as equations
--     mark-stored                    a mark of any value set
-- Assumes nothing.
use mathlib.Core.Path.{◌≡◌, refl, sym, ap, ◌∙◌, subst}
use Prim.Native.Nat.{ℕ, zero, suc, ◌-◌, ◌≤◌, ◌<◌}
use native.Mathlib.Omega.{arith}
use mathlib.Core.List.{List, [], ◌∷◌, ◌++◌}
use lib.ListN.{length, take, drop, set}
use Rattle.spec_file.specs.Bytes.{Bytes, store}
use Rattle.spec_changes.specs.Changes.{Pair}
use Rattle.spec_changes.specs.Journal.{mark_place, Disk, Block, Write, to_image, put, written, all_written, put_all, to_images, set_mark, pair_count, pairs_from, pairs_of, bytes_start, blocks, blocks_of, recoveries}
use Rattle.spec_changes.proofs.Recovery.{images-then}
use Rattle.bytes_words.proofs.Numbers.{set-store}
use Rattle.journal_recover.specs.Updates.{Updates}

-- ---- how many they are

pub take_beyond : (k : ℕ) (bs : List Block) (w : Write) → length bs < k
    → take k (to_images bs ++ (w ∷ [])) ≡ to_images bs ++ (w ∷ [])
unfolding to_images
take_beyond zero bs w h = absurd (omega arith)
take_beyond (suc k) [] w h = ap (λ (t : List Write). w ∷ t) (nothing k)
  where
    nothing : (k : ℕ) → ◌≡◌ {A = List Write} (take k []) []
    nothing zero = refl
    nothing (suc k) = refl
take_beyond (suc k) (b ∷ bs) w h = ap (λ (t : List Write). to_image b ∷ t) (take_beyond k bs w (omega arith))

-- every block is one of a pair
length-blocks : (rs : List Pair) (b : Bytes) → length (blocks rs b) ≡ length rs
unfolding blocks
length-blocks [] b = refl
length-blocks (r ∷ rs) b = ap suc (length-blocks rs (drop r.size b))

length_pairs : (n : ℕ) (b : Bytes) → length (pairs_from n b) ≡ n
unfolding pairs_from
length_pairs zero b = refl
length_pairs (suc n) b = ap suc (length_pairs n (drop 8 b))

length-blocks_of : (j : Bytes) → length (blocks_of j) ≡ pair_count j
unfolding blocks_of pairs_of
length-blocks_of j =
    length-blocks (pairs_from (pair_count j) (drop 4 j)) (drop (bytes_start (pair_count j)) j)
    ∙ length_pairs (pair_count j) (drop 4 j)

-- ---- all of them

module _ (img j : Bytes) where
  abbrev begun : Disk
  begun = record { image = img; journal = j }

  pub settled-all : (n : ℕ) → pair_count j < n
      → all_written (take n (recoveries j)) (record { image = img; journal = j })
      ≡ record { image = put_all img (blocks_of j); journal = store j (mark_place j) (0 ∷ []) }
  unfolding recoveries all_written written put set_mark
  settled-all n h =
      ap (λ (ws : List Write). all_written ws begun)
      (take_beyond n (blocks_of j) (set_mark 0 j) (omega (arith, length-blocks_of j)))
      ∙ images-then (blocks_of j) (set_mark 0 j ∷ []) img j

-- ---- image and journal, as equations

pub updates-as : {d : Disk} {x y img j : Bytes} → d ≡ record { image = x; journal = y } → img ≡ x → j ≡ y
    → Updates d img j
updates-as e p q =
    record {
      image-is = p ∙ sym (ap (λ (d : Disk). d.image) e);
      journal-is = q ∙ sym (ap (λ (d : Disk). d.journal) e);
    }

pub updates-same : {d d' : Disk} {x y : Bytes} → d ≡ d' → Updates d x y → Updates d' x y
updates-same {d} {d'} {x} {y} e u = subst (λ (t : Disk). Updates t x y) e u

-- a mark set in a journal that is as long as j
pub mark-stored : (j j' : Bytes) (m : ℕ) → length j' ≡ length j → 1 ≤ length j
    → set j' (length j' - 1) m ≡ store j' (mark_place j) (m ∷ [])
unfolding mark_place
mark-stored j j' m e h =
    set-store j' (length j' - 1) m (omega arith) ∙ ap (λ (n : ℕ). store j' (n - 1) (m ∷ [])) e
