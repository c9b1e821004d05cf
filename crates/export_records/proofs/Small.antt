-- The records that a reading fills in fit 32 bits: what is stored is no longer than the image, and a refusal answers 0.
--     read_small         of one image
--     grow-read-small    of a pair: as of the image that is shown
-- Assumes nothing.
use mathlib.Core.Path.{refl, ap}
use Prim.Native.Nat.{ℕ, ◌≤◌}
use native.Mathlib.Omega.{arith}
use lib.ListN.{length}
use Rattle.spec_file.specs.Bytes.{Bytes}
use Rattle.spec_file.specs.Limits.{most_image}
use Rattle.spec_file.specs.Calls.{Answer, plain, lookup}
use Rattle.spec_records.specs.Records.{stored_bytes, read_records}
use Rattle.spec_moves.specs.Moves.{Pair}
use Rattle.spec_growth.specs.Growth.{holder, grow_name_number, grow_read}
use Rattle.law_file.proofs.Tests.{by-eq, zero-yes, zero-no}
use Rattle.law_records.proofs.Numbers.{read-within}
use Rattle.call_lookup.proofs.Answers.{lookup-answer}
use Rattle.export_lookup.proofs.Small.{lookup-small}

-- what is stored is no longer than the part that lookup shows
stored-small : (img key : Bytes) → length (stored_bytes img key) ≤ most_image
unfolding lookup stored_bytes
stored-small img key =
    let shown = lookup-answer img key _ _ _ refl refl refl in
    omega (arith, lookup-small img key, ap length shown.2, shown.3)

pub read_small : (img key : Bytes) (room : ℕ) → (read_records img key room).answer.amount ≤ most_image
unfolding read_records
read_small img key room = omega (arith, stored-small img key, read-within img key room)

pub grow-read-small : (p : Pair) (key : Bytes) (room : ℕ) → (grow_read p key room).answer.amount ≤ most_image
unfolding grow_read plain
grow-read-small p key room =
    let k = grow_name_number p key in
    let a = (read_records (holder p key) key room).answer in
    by-eq k 0
    (λ z.
    omega (
      arith,
      ap (λ (x : Answer). x.amount) (zero-yes k a (plain k) z),
      read_small (holder p key) key room,
    ))
    (λ z. omega (arith, ap (λ (x : Answer). x.amount) (zero-no k a (plain k) z)))
