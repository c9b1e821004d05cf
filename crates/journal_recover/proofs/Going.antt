-- The writes of a marked journal, one by one: before turn k the first k are done.
-- Assumes nothing.
use mathlib.Core.Path.{◌≡◌, refl, sym, ap, ap₂, ◌∙◌, subst}
use Prim.Native.Nat.{ℕ, zero, suc, ◌+◌, ◌*◌, ◌≤◌, ◌<◌}
use native.Mathlib.Omega.{arith}
use mathlib.Core.Bool.{Bool, true, cond}
use mathlib.Core.List.{List, [], ◌∷◌, ◌++◌}
use lib.ListN.{length, take, drop}
use lib.Seq.{drop-drop}
use borrow.Author.Tests.{lt-ltb, le-ltb}
use Rattle.spec_file.specs.Bytes.{Bytes, part, store}
use Rattle.spec_changes.specs.Changes.{Pair}
use Rattle.spec_changes.specs.Journal.{Disk, Write, to_image, put, written, all_written, to_images, set_mark, mark_place, pair_count, pairs_of, blocks, blocks_of, bytes_start, total, content_inside, in_order, journal_sound, recoveries}
use Rattle.law_file.proofs.Tests.{and_right}
use Rattle.journal_recover.specs.Updates.{Updates}
use Rattle.journal_recover.specs.Writes.{block_at, next_from, write_at, Reads}
use Rattle.journal_recover.proofs.Reading.{left, pair_at, left_step, left_end, left-all, Inside, order-inside, sound-room, sound-start}
use Rattle.journal_recover.proofs.Settling.{updates-same}

-- ---- one write more

head-or : Write → List Write → Write
head-or w [] = w
head-or w (x ∷ xs) = x

next-written : (k : ℕ) (ws : List Write) (w : Write) (r : List Write) (d : Disk) → drop k ws ≡ w ∷ r
    → all_written (take (suc k) ws) d ≡ written w (all_written (take k ws) d)
unfolding all_written head-or
next-written zero [] w r d e = absurd (omega (arith, ap length e))
next-written zero (x ∷ ws) w r d e = ap (λ (y : Write). written y d) (ap (head-or w) e)
next-written (suc k) [] w r d e = absurd (omega (arith, ap length e))
next-written (suc k) (x ∷ ws) w r d e = next-written k ws w r (written x d) e

next-drop : (k : ℕ) (ws : List Write) (w : Write) (r : List Write) → drop k ws ≡ w ∷ r → drop (k + 1) ws ≡ r
next-drop k ws w r e = sym (drop-drop 1 k ws) ∙ ap (drop 1) e

-- ---- before turn k

pub record Going (img₀ j : Bytes) (n : ℕ) (img J : Bytes) (from k : ℕ) : Type 0 where
  pub low : k ≤ n
  pub size : length img ≡ length img₀
  pub long : length J ≡ length j
  pub so_far : Updates (all_written (take k (recoveries j)) (record { image = img₀; journal = j })) img J
  pub same : k ≤ pair_count j → J ≡ j
  pub rest : k ≤ pair_count j
      → drop k (recoveries j) ≡ to_images (blocks (left j k) (drop from j)) ++ (set_mark 0 j ∷ [])
  pub room : k ≤ pair_count j → from + total (left j k) + 1 ≤ length j
  pub inside : k ≤ pair_count j → Inside (length img₀) (left j k)

pub going_start : (img j : Bytes) (n : ℕ) → journal_sound (length img) j ≡ true
    → Going img j n img j (4 + 8 * pair_count j) 0
unfolding journal_sound bytes_start blocks_of recoveries all_written
going_start img j n h =
    let all = left-all j in
    record {
      low = omega arith;
      size = refl;
      long = refl;
      so_far = record { image-is = refl; journal-is = refl };
      same = λ f. refl;
      rest = λ f. ap (λ (l : List Pair). to_images (blocks l (drop (4 + 8 * pair_count j) j)) ++ (set_mark 0 j ∷ [])) all;
      room = λ f.
          subst (λ (l : List Pair). 4 + 8 * pair_count j + total l + 1 ≤ length j) all
          (sound-room (length img) j h);
      inside = λ f.
          subst (Inside (length img)) all
          (order-inside (length img) 0 (pairs_of j)
          (and_right (content_inside j) (in_order (length img) 0 (pairs_of j)) h));
    }

disk-is : (d : Disk) (x y : Bytes) → Updates d x y → record { image = x; journal = y } ≡ d
disk-is d x y u = ap₂ (λ (a b : Bytes). record { image = a; journal = b }) u.image-is u.journal-is

module _ (img₀ j : Bytes) (sound : journal_sound (length img₀) j ≡ true) (n : ℕ) (img J : Bytes) (from k : ℕ)
    (g : Going img₀ j n img J from k) where
  abbrev d₀ : Disk
  d₀ = record { image = img₀; journal = j }

  -- one write more than so far
  done : (w : Write) (r : List Write) → drop k (recoveries j) ≡ w ∷ r → (img' J' : Bytes)
      → Updates (written w (record { image = img; journal = J })) img' J'
      → Updates (all_written (take (k + 1) (recoveries j)) d₀) img' J'
  done w r e img' J' u =
      let more : suc k ≡ k + 1 = omega arith in
      updates-same
      (ap (written w) (disk-is (all_written (take k (recoveries j)) d₀) img J g.so_far)
      ∙ sym (next-written k (recoveries j) w r d₀ e)
      ∙ ap (λ (m : ℕ). all_written (take m (recoveries j)) d₀) more)
      u

  module _ (h : k < pair_count j) where
    abbrev r : Pair
    r = pair_at j k

    step : left j k ≡ r ∷ left j (k + 1)
    step = left_step j k h

    in_image : r.at + r.size ≤ length img₀
    in_image = (subst (Inside (length img₀)) step (g.inside (omega arith))).0

    in-journal : from + r.size + total (left j (k + 1)) + 1 ≤ length j
    unfolding total
    in-journal =
        let s = subst (λ (l : List Pair). from + total l + 1 ≤ length j) step (g.room (omega arith)) in
        omega (arith, s)

    pub going-reads : Reads (length img) J k from
    going-reads =
        let e : J ≡ j = g.same (omega arith) in
        subst (λ (y : Bytes). Reads (length img) y k from) (sym e)
        (record {
          pair = omega (arith, sound-start (length img₀) j sound);
          inside = omega (arith, in_image, g.size);
          room = omega (arith, in-journal);
        })

    this : drop k (recoveries j)
        ≡ to_image (block_at j k from)
        ∷ (to_images (blocks (left j (k + 1)) (drop (next_from j k from) j)) ++ (set_mark 0 j ∷ []))
    unfolding blocks to_images part
    this =
        g.rest (omega arith)
        ∙ ap (λ (l : List Pair). to_images (blocks l (drop from j)) ++ (set_mark 0 j ∷ [])) step
        ∙ ap (λ (y : Bytes).
        to_image (block_at j k from) ∷ (to_images (blocks (left j (k + 1)) y) ++ (set_mark 0 j ∷ [])))
        (drop-drop r.size from j)

    pub going_more : (pairs : ℕ) → pairs ≡ pair_count j → k < n → (img' J' : Bytes) (from' : ℕ)
        → Updates (written (write_at J pairs k from) (record { image = img; journal = J })) img' J'
        → from' ≡ next_from J k from → length img' ≡ length img → length J' ≡ length J
        → Going img₀ j n img' J' from' (k + 1)
    unfolding written put
    going_more pairs e f img' J' from' u v li lj =
        let J-is : J ≡ j = g.same (omega arith) in
        let from_is : from' ≡ next_from j k from = v ∙ ap (λ (y : Bytes). next_from y k from) J-is in
        let w-is : write_at J pairs k from ≡ to_image (block_at j k from) =
        ap (λ (b : Bool). cond b (to_image (block_at J k from)) (set_mark 0 J)) (lt-ltb k pairs (omega arith))
        ∙ ap (λ (y : Bytes). to_image (block_at y k from)) J-is in
        let u' : Updates (written (to_image (block_at j k from)) (record { image = img; journal = J })) img' J' =
        updates-same (ap (λ (w : Write). written w (record { image = img; journal = J })) w-is) u in
        record {
          low = omega arith;
          size = li ∙ g.size;
          long = lj ∙ g.long;
          so_far =
              done (to_image (block_at j k from))
              (to_images (blocks (left j (k + 1)) (drop (next_from j k from) j)) ++ (set_mark 0 j ∷ [])) this img' J' u';
          same = λ q. u'.journal-is ∙ J-is;
          rest = λ q.
              next-drop k (recoveries j) (to_image (block_at j k from))
              (to_images (blocks (left j (k + 1)) (drop (next_from j k from) j)) ++ (set_mark 0 j ∷ [])) this
              ∙ ap (λ (m : ℕ). to_images (blocks (left j (k + 1)) (drop m j)) ++ (set_mark 0 j ∷ [])) (sym from_is);
          room = λ q. omega (arith, in-journal, from_is);
          inside = λ q. (subst (Inside (length img₀)) step (g.inside (omega arith))).1;
        }

  pub going-last : k ≡ pair_count j → (pairs : ℕ) → pairs ≡ pair_count j → k < n → (img' J' : Bytes) (from' : ℕ)
      → Updates (written (write_at J pairs k from) (record { image = img; journal = J })) img' J'
      → length img' ≡ length img → length J' ≡ length J
      → Going img₀ j n img' J' from' (k + 1)
  unfolding to_images blocks
  going-last at-end pairs e f img' J' from' u li lj =
      let J-is : J ≡ j = g.same (omega arith) in
      let w-is : write_at J pairs k from ≡ set_mark 0 j =
      ap (λ (b : Bool). cond b (to_image (block_at J k from)) (set_mark 0 J)) (le-ltb k pairs (omega arith))
      ∙ ap (set_mark 0) J-is in
      record {
        low = omega arith;
        size = li ∙ g.size;
        long = lj ∙ g.long;
        so_far =
            done (set_mark 0 j) []
            (g.rest (omega arith)
            ∙ ap (λ (l : List Pair). to_images (blocks l (drop from j)) ++ (set_mark 0 j ∷ []))
            (left_end j k (omega arith)))
            img' J' (updates-same (ap (λ (w : Write). written w (record { image = img; journal = J })) w-is) u);
        same = λ q. absurd (omega arith);
        rest = λ q. absurd (omega arith);
        room = λ q. absurd (omega arith);
        inside = λ q. absurd (omega arith);
      }

-- ---- the two kinds of write

module _ (img J : Bytes) (pairs k from : ℕ) where
  pub one-stretch : k < pairs → (img' J' : Bytes) → img' ≡ put img (block_at J k from) → J' ≡ J
      → Updates (written (write_at J pairs k from) (record { image = img; journal = J })) img' J'
  unfolding written
  one-stretch h img' J' e f =
      updates-same
      (ap (λ (b : Bool).
      written (cond b (to_image (block_at J k from)) (set_mark 0 J)) (record { image = img; journal = J }))
      (sym (lt-ltb k pairs h)))
      (record { image-is = e; journal-is = f })

  pub one-mark : pairs ≤ k → (img' J' : Bytes) → img' ≡ img → J' ≡ store J (mark_place J) (0 ∷ [])
      → Updates (written (write_at J pairs k from) (record { image = img; journal = J })) img' J'
  unfolding written set_mark put
  one-mark h img' J' e f =
      updates-same
      (ap (λ (b : Bool).
      written (cond b (to_image (block_at J k from)) (set_mark 0 J)) (record { image = img; journal = J }))
      (sym (le-ltb k pairs h)))
      (record { image-is = e; journal-is = f })
