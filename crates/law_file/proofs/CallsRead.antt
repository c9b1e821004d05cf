-- How many slots the search of lookup, delete or add read.
--     sought-none, sought-some      0 where the call is refused before its search; else what the search read
--     sought-all, sought-most       of any bytes at most N, and a number that 32 bits hold
--     sound-read                    of a sound image at most N, and at most C + 1
--     sound-add, sound-delete, sound-lookup      so of each call
-- Assumes nothing.
use mathlib.Core.Path.{◌≡◌, refl}
use Prim.Native.Nat.{ℕ, ◌+◌, ◌≤◌, ◌<◌}
use native.Mathlib.Omega.{arith}
use mathlib.Core.Bool.{Bool, true}
use borrow.Author.Tests.{eq-eqb, ne_eqb}
use Rattle.spec_file.specs.Bytes.{Bytes}
use Rattle.spec_file.specs.Limits.{most_slots, points_field}
use Rattle.spec_file.specs.Image.{field, layout_of}
use Rattle.spec_file.specs.Search.{slots_read}
use Rattle.spec_file.specs.Questions.{mode_known, open_number, seek_number}
use Rattle.spec_file.specs.Calls.{sought_read, add_read, delete_read, lookup_read}
use Rattle.spec_file.specs.Inspect.{check, sound}
use Rattle.law_file.proofs.Tests.{by-eq}
use Rattle.law_file.proofs.Opened.{opened-facts}
use Rattle.law_file.proofs.SlotsRead.{read_all, read-few}
use Rattle.law_file.proofs.Sought.{seek-opened}
use Rattle.law_file.proofs.Verdict.{check-open, check-count}

-- an accepted header has a slot
some-slot : (img : Bytes) → open_number img ≡ 0 → 0 < (layout_of img).N
unfolding layout_of
some-slot img h = omega (arith, (opened-facts img h).slots-low)

-- at most N, and at most C + 1
abbrev pub Few : Bytes → ℕ → Type 0
Few img n = (n ≤ (layout_of img).N) × (n ≤ field img points_field + 1)

module _ (img key : Bytes) (known : Bool) where
  pub sought-none : (seek_number img key known ≡ 0 → ⊥) → sought_read img key known ≡ 0
  unfolding sought_read
  sought-none n = rw (ne_eqb (seek_number img key known) 0 n) refl

  pub sought-some : seek_number img key known ≡ 0 → sought_read img key known ≡ slots_read (layout_of img) img key
  unfolding sought_read
  sought-some z = rw (eq-eqb (seek_number img key known) 0 z) refl

  pub sought-all : sought_read img key known ≤ (layout_of img).N
  sought-all =
      by-eq (seek_number img key known) 0
      (λ z.
      let all = read_all (layout_of img) img key (some-slot img (seek-opened img key known z)) in
      omega (arith, sought-some z, all))
      (λ n. omega (arith, sought-none n))

  pub sought-most : sought_read img key known ≤ most_slots
  unfolding layout_of
  sought-most =
      by-eq (seek_number img key known) 0
      (λ z. omega (arith, sought-all, (opened-facts img (seek-opened img key known z)).slots-high))
      (λ n. omega (arith, sought-none n))

-- ---- sound images

module _ (img : Bytes) (ok : check img ≡ sound) (key : Bytes) where
  pub sound-read : Few img (slots_read (layout_of img) img key)
  unfolding layout_of
  sound-read =
      let pos = some-slot img (check-open img ok) in (
        read_all (layout_of img) img key pos,
        omega (arith, read-few (layout_of img) img key pos, check-count img ok),
      )

  sound-sought : (known : Bool) → Few img (sought_read img key known)
  sound-sought known = (
    sought-all img key known,
    by-eq (seek_number img key known) 0
        (λ z. omega (arith, sought-some img key known z, sound-read.1))
        (λ n. omega (arith, sought-none img key known n)),
  )

  pub sound-add : (mode : ℕ) → Few img (add_read img key mode)
  unfolding add_read
  sound-add mode = sound-sought (mode_known mode)

  pub sound-delete : Few img (delete_read img key)
  unfolding delete_read
  sound-delete = sound-sought true

  pub sound-lookup : Few img (lookup_read img key)
  unfolding lookup_read
  sound-lookup = sound-sought true
