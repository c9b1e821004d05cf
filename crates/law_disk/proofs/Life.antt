-- Whatever happens to image and journal, a power cut leaves what recovery makes the image acknowledged last, or the one
-- begun.
--     life-stage                every life is in a state of x or y
--     life-safe, reader-safe    the promises
-- Assumes nothing.
use mathlib.Core.Path.{◌≡◌, refl, sym, ap, ◌∙◌, subst}
use Prim.Native.Nat.{ℕ, zero, suc, ◌+◌, ◌-◌, ◌≤◌}
use native.Mathlib.Omega.{arith}
use mathlib.Core.Bool.{true, false, true≢false}
use mathlib.Core.List.{List}
use mathlib.Core.Logic.{◌⊎◌, inl, inr}
use lib.ListN.{length}
use Rattle.spec_file.specs.Bytes.{Bytes}
use Rattle.spec_changes.specs.Changes.{Pair, covered, Near}
use Rattle.spec_changes.specs.Journal.{content, Disk, Block, is_marked, recover_number, recovered}
use Rattle.spec_disk.specs.Disk.{Held, Slices, still, found, Beside, content_size, End, Life, begun, updating, told, refused, lost, redoing, opened, renewed, decided, seen_disk, ReaderSafe, LifeSafe}
use Rattle.law_file.proofs.Tests.{by_bool}
use Rattle.spec_changes.proofs.Recovery.{recovered-other}
use Rattle.law_disk.proofs.Left.{cut-near}
use Rattle.law_disk.proofs.States.{Front, Quiet, Whole, Sound, Later, Stage, stage-cut, Gives, after-gives, stage-gives, Within, clear, over, after, old-yet, mark-yet, new-now}
use Rattle.law_disk.proofs.Actions.{recovering-from, Idle, either-goes, later-goes, stage-goes, commit-stage, commit-later, commit-refused}

module _ (p : ℕ) where
  start-idle : (img j : Bytes) → p + 1 ≡ length j → is_marked j ≡ false
      → Idle p img (found (record { image = img; journal = j }))
  unfolding found still
  start-idle img j e u =
      record {
        later = clear (record {
          image = record { sure = refl; seen = refl; late = refl };
          long = e;
          no = u;
          kept = unfold covered in refl;
          seen-long = e;
          seen_no = u;
        });
        seen_no = u;
      }

  -- ---- everything that may happen

  stage-same : (x : Bytes) (s : Slices) → Stage p x x s → Later p x s
  stage-same x s (old-yet l) = l
  stage-same x s (mark-yet rs so e y) = over rs so e
  stage-same x s (new-now l) = l

  later-opened : (x : Bytes) (s : Slices) → Later p x s → is_marked s.journal.seen ≡ false
      → Later p s.image.seen s
  later-opened x s l u = subst (λ (b : Bytes). Later p b s) (sym (is l)) l
    where
      is : Later p x s → s.image.seen ≡ x
      is (clear c) = c.image.seen
      is (over rs so e) = e.image.seen
      is (after rs so a) = absurd (true≢false (sym a.seen-yes ∙ u))

  stage-opened : (x y : Bytes) (s : Slices) → Stage p x y s → is_marked s.journal.seen ≡ false
      → Later p s.image.seen s
  stage-opened x y s (old-yet l) u = later-opened x s l u
  stage-opened x y s (mark-yet rs so e m) u = absurd (true≢false (sym m ∙ u))
  stage-opened x y s (new-now l) u = later-opened y s l u

  -- ---- what programs read

  marked-seen : (rs : List Pair) (w : Bytes) (s : Slices) → Sound p rs w → Near rs s.image.seen w
      → Whole p (content rs w) s.journal → is_marked s.journal.seen ≡ true → (recovered (seen_disk s)).image ≡ w
  unfolding seen_disk found still Within Front
  marked-seen rs w s so n h y =
      (after-gives p rs w (seen_disk s) so
      (record {
        near = n;
        within = λ i f. unfold covered in refl;
        seen-near = n;
        whole =
            record {
              long = h.seen-long;
              holds = h.seen-holds;
              seen-long = h.seen-long;
              seen-holds = h.seen-holds;
              only = λ i f. unfold covered in refl;
            };
        yes = y;
        kept = refl;
        seen-yes = y;
      })
      ).image

  quiet-near : (rs : List Pair) (x w : Bytes) (h : Held) → Quiet p x h → Near rs x w → Near rs h.seen w
  quiet-near rs x w h q n = subst (λ (b : Bytes). Near rs b w) (sym q.seen) n

  later-seen : (x : Bytes) (s : Slices) → Later p x s → is_marked s.journal.seen ≡ true
      → (recovered (seen_disk s)).image ≡ x
  later-seen x s (clear c) y = absurd (true≢false (sym y ∙ c.seen_no))
  later-seen x s (over rs so e) y =
      marked-seen rs x s so (quiet-near rs x x s.image e.image e.near) e.whole y
  later-seen x s (after rs so a) y = marked-seen rs x s so a.seen-near a.whole y

  unmarked-seen : (s : Slices) → 1 ≤ length s.journal.seen → is_marked s.journal.seen ≡ false
      → (recovered (seen_disk s)).image ≡ s.image.seen
  unfolding seen_disk
  unmarked-seen s some u = ap (λ (d : Disk). d.image) (recovered-other s.image.seen s.journal.seen some u)

  reader-later : (x : Bytes) (s : Slices) → Later p x s → (recovered (seen_disk s)).image ≡ x
  reader-later x s (clear c) =
      unmarked-seen s (omega (arith, c.seen-long)) c.seen_no ∙ c.image.seen
  reader-later x s (over rs so e) =
      by_bool (is_marked s.journal.seen) (λ y. later-seen x s (over rs so e) y)
      (λ u. unmarked-seen s (omega (arith, e.whole.seen-long)) u ∙ e.image.seen)
  reader-later x s (after rs so a) = later-seen x s (after rs so a) a.seen-yes

  reader-stage : (x y : Bytes) (s : Slices) → Stage p x y s
      → ((recovered (seen_disk s)).image ≡ x) ⊎ ((recovered (seen_disk s)).image ≡ y)
  reader-stage x y s (old-yet l) = inl (reader-later x s l)
  reader-stage x y s (mark-yet rs so e m) =
      inr (marked-seen rs y s so (quiet-near rs x y s.image e.image e.near) e.whole m)
  reader-stage x y s (new-now l) = inr (reader-later y s l)

  decided-stage : (x y : Bytes) (s : Slices) (b : Block) → Beside p (content_size s.journal.seen) b → (w : End)
      → Stage p x y s → is_marked s.journal.seen ≡ true → (n : ℕ) → 1 ≤ n
      → Later p (recovered (seen_disk s)).image (recovering-from p b s w n)
  decided-stage x y s b k w g m zero h = absurd (omega arith)
  decided-stage x y s b k w (old-yet l) m (suc n) h =
      subst (λ (i : Bytes). Later p i (recovering-from p b s w (suc n))) (sym (later-seen x s l m))
      (later-goes p s b k w x l (suc n))
  decided-stage x y s b k w (mark-yet rs so e m') m (suc n) h =
      subst (λ (i : Bytes). Later p i (recovering-from p b s w (suc n)))
      (sym (marked-seen rs y s so (quiet-near rs x y s.image e.image e.near) e.whole m))
      (either-goes p s b k w rs x y so e m n)
  decided-stage x y s b k w (new-now l) m (suc n) h =
      subst (λ (i : Bytes). Later p i (recovering-from p b s w (suc n))) (sym (later-seen y s l m))
      (later-goes p s b k w y l (suc n))

  -- another journal: the image is surely there
  idle-renewed : (x : Bytes) (q : ℕ) (s : Slices) → Idle p x s → Quiet p x s.image
  idle-renewed x q s i = go i.later
    where
      go : Later p x s → Quiet p x s.image
      go (clear c) = c.image
      go (over rs so e) = e.image
      go (after rs so a) = absurd (true≢false (sym a.seen-yes ∙ i.seen_no))

renewed-stage : (p q : ℕ) (x : Bytes) (s : Slices) (j : Bytes) → Idle p x s → q + 1 ≡ length j → is_marked j ≡ false
    → Stage q x x (record { image = s.image; journal = still j })
unfolding still
renewed-stage p q x s j i e z =
    let k : Quiet p x s.image = idle-renewed p x q s i in
    old-yet (clear (record {
      image = record { sure = k.sure; seen = k.seen; late = k.late };
      long = e;
      no = z;
      kept = unfold covered in refl;
      seen-long = e;
      seen_no = z;
    }))

life-stage : (p : ℕ) (x y : Bytes) (s : Slices) → Life p x y s → Stage p x y s
life-stage _ _ _ _ (begun p d e z) = old-yet (start-idle p d.image d.journal e z).later
life-stage _ _ _ _ (updating p x u r e n l z f) =
    commit-stage p x u f r (record { later = stage-same p x r (life-stage p x x r l); seen_no = z }) e n
life-stage _ _ _ _ (told p x u r e n l z f h) =
    new-now (commit-later p x u f r (record { later = stage-same p x r (life-stage p x x r l); seen_no = z }) e n h)
life-stage _ _ _ _ (refused p x u r l z f) =
    old-yet (commit-refused p x u f r (record { later = stage-same p x r (life-stage p x x r l); seen_no = z }))
life-stage _ _ _ _ (lost p x y r d l m) = stage-cut p x y r d (life-stage p x y r l) (cut-near r d m)
life-stage _ _ _ _ (redoing p x y r w n b l e) = stage-goes p r b e w x y (life-stage p x y r l) n
life-stage _ _ _ _ (decided p x y r w n b l e m h) =
    old-yet (decided-stage p x y r b e w (life-stage p x y r l) m n h)
life-stage _ _ _ _ (opened p v w s l z) = old-yet (stage-opened p v w s (life-stage p v w s l) z)
life-stage _ _ _ _ (renewed p q x s j l z e f) =
    renewed-stage p q x s j (record { later = stage-same p x s (life-stage p x x s l); seen_no = z }) e f

pub life-safe : LifeSafe
unfolding LifeSafe
life-safe p x y s d l m = go (stage-gives p x y s d (life-stage p x y s l) (cut-near s d m))
  where
    go : Gives p x d ⊎ Gives p y d
        → (recover_number (length d.image) d.journal ≡ 0) × (((recovered d).image ≡ x) ⊎ ((recovered d).image ≡ y))
    go (inl g) = (g.accepted, inl g.image)
    go (inr g) = (g.accepted, inr g.image)

pub reader-safe : ReaderSafe
unfolding ReaderSafe
reader-safe p x y s l = reader-stage p x y s (life-stage p x y s l)
