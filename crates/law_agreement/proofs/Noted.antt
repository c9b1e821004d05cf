-- The version written where an add stores an empty message: it concerns no point, and keeps the relation of file and
-- book.
--     noted-reflects      for any data and mode
-- Assumes nothing.
use mathlib.Core.Path.{◌≡◌, ap}
use Prim.Native.Nat.{ℕ, ◌+◌, ◌≤◌, ◌<◌}
use native.Mathlib.Omega.{arith}
use mathlib.Core.Logic.{inr}
use mathlib.Core.Bool.{false, not, ◌&&◌, ◌||◌}
use mathlib.Core.List.{[], ◌∷◌}
use lib.ListN.{length}
use lib.Dec.{eqb}
use borrow.Author.Tests.{not-true}
use Rattle.spec_file.specs.Bytes.{Bytes, store, number}
use Rattle.spec_file.specs.Limits.{major, minor, patch, version_field, points_field, free_field}
use Rattle.spec_file.specs.Image.{field, major_of, wide, Layout, slot}
use Rattle.spec_file.specs.Messages.{noted}
use Rattle.spec_book.specs.Book.{Book}
use Rattle.law_file.proofs.Tests.{by_bool, and_right}
use Rattle.law_file.proofs.Slots.{slot-above}
use Rattle.law_file.proofs.Kept.{version-elsewhere, version-fixed, version-known}
use Rattle.law_file.proofs.Stretch.{sound-lies}
use Rattle.law_agreement.proofs.Data.{file-above, frame-change}
use Rattle.law_agreement.proofs.File.{not-allowed, File, Change}
use Rattle.law_agreement.proofs.Reflect.{Reflects, reflect-same}

module _ (g : Layout) (img : Bytes) (f : File g img) where
  abbrev versioned : Bytes
  versioned = store img version_field (major ∷ minor ∷ patch ∷ [])

  -- what stands behind the version is as it was
  version-field : (at : ℕ) → version_field + 3 ≤ at → field versioned at ≡ field img at
  unfolding field
  version-field at h = ap number (version-elsewhere img f.opened at 4 (inr h))

  version-slot : (k : ℕ) → k < g.N → slot g versioned k ≡ slot g img k
  unfolding slot
  version-slot k h = version-elsewhere img f.opened _ _ (inr (omega (arith, slot-above g k)))

  version-change : wide (major_of img) ≡ false → Change g img versioned []
  version-change narrow =
      frame-change g img versioned f (version-fixed img f.opened narrow) (version-known img f.opened) version-slot
      (version-field points_field (omega arith))
      (rw (version-field free_field (omega arith)) (omega arith))
      (rw (version-field free_field (omega arith)) f.opened.free-high) []
      (λ key s a n e z.
      let lo = (sound-lies g img _ (f.messages key s a e).sound z).low in
      record { on = λ q m l h. version-elsewhere img f.opened q m (inr (omega (arith, lo, file-above f))) })
      (λ s a e. absurd (not-allowed f a))
      (λ s key' s' a a' n e e' z z'. absurd (not-allowed f a))

pub noted-reflects : (g : Layout) (img : Bytes) (b : Book) (bytes : Bytes) (mode : ℕ) → Reflects g img b
    → Reflects g (noted bytes mode img) b
unfolding noted
noted-reflects g img b bytes mode r =
    by_bool (eqb (length bytes) 0 && (eqb mode 1 || eqb mode 2) && not (wide (major_of img)))
    (λ y.
    rw y
    (reflect-same g img _ b r
    (version-change g img r.file
    (not-true _ (and_right (eqb (length bytes) 0 && (eqb mode 1 || eqb mode 2)) _ y)))
    (version-field g img r.file free_field (omega arith))
    (version-field g img r.file points_field (omega arith))))
    (λ n. rw n r)
