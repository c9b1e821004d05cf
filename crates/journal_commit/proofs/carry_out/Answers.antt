-- `journal_commit::carry_out` meets its contract: turn k does write k.
use Rattle.std.proofs.Common.{arith, length, true, ◌≡◌, ◌+◌, ◌*◌, ◌^◌, ◌≤◌, ◌<◌}
use Rattle.spec_file.specs.Bytes.{Bytes}
use Rattle.spec_changes.specs.Changes.{runs}
use Rattle.spec_changes.specs.Journal.{journal_allowed}
use Rattle.journal_commit.proofs.Carried.{allowed-room, content-room}
use Rattle.journal_commit.proofs.Carrying.{carrying-start, carrying-asks, carrying-next, carrying-end}
use Rattle.journal_commit.proofs.carry_out.Goals as goal

-- room for the count and the pairs
starts : (old new j : Bytes) → length old ≡ length new → length old < 2 ^ 32 → journal_allowed old new j ≡ true
    → 4 + 8 * length (runs 0 old new) ≤ length j
starts old new j l small allowed =
    omega (arith, content-room j (runs 0 old new) new (omega (arith, allowed-room old new j l small allowed)))

pub overflow_mul-from : goal.overflow_mul-from
overflow_mul-from c = omega (arith, starts _ _ _ c.requires.0 c.requires.1 c.requires.3)

pub overflow_add-from : goal.overflow_add-from
overflow_add-from c = omega (arith, starts _ _ _ c.requires.0 c.requires.1 c.requires.3)

pub loop-k-init : goal.loop-k-init
loop-k-init c = carrying-start _ _ _ c.requires.0 c.requires.1 c.requires.3 _ c.requires.2 _ c.requires.4

pub write_number-from-requires : goal.write_number-from-requires
write_number-from-requires c =
    carrying-asks _ _ _ c.requires.0 c.requires.1 c.requires.3 _ c.requires.2 _ c.requires.4 _ _ _ _ c.loop-k.invariant

pub loop-k-preserved : goal.loop-k-preserved
loop-k-preserved c =
    let w = c.write_number-from in
    carrying-next _ _ _ c.requires.0 c.requires.1 c.requires.3 _ c.requires.2 _ c.requires.4 _ _ _ _ c.loop-k.invariant
    _ _ _ w.ensures.0 w.auto.image w.auto.journal (omega arith) w.ensures.1 w.ensures.2

pub returns : goal.returns
returns c =
    carrying-end _ _ _ c.requires.0 c.requires.1 c.requires.3 _ c.requires.2 _ c.requires.4 _ _ _ _ c.loop-k.invariant
    (omega arith)
