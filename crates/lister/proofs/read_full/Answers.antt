-- Each read goes behind the earlier ones. Assumes nothing.
use Rattle.std.proofs.Common.{arith}
use Rattle.lister.proofs.Reading.{consumes-none, room_read, read_on, read_kept}
use Rattle.lister.proofs.read_full.Goals as goal

pub loop-got-init : goal.loop-got-init
loop-got-init g c = (omega arith, consumes-none _)

pub loop-got-preserved : goal.loop-got-preserved
loop-got-preserved g c = (
  room_read c.loop-got.got c.in-Ok.n _ c.loop-got.buf _ c.loop-got.invariant.0 c.in-Ok.ensures.bound.0,
  read_on _ _ _ c.loop-got.got c.in-Ok.n _ _ c.loop-got.buf _ (omega arith) c.loop-got.invariant.0 c.in-Ok.ensures.bound.0
      c.loop-got.invariant.1 c.in-Ok.ensures.bytes.0,
)

pub returns-in-Ok-eq0-clause-bytes : goal.returns-in-Ok-eq0-clause-bytes
returns-in-Ok-eq0-clause-bytes g c =
    read_on _ _ _ c.loop-got.got c.in-Ok-eq0.field-0 _ _ c.loop-got.buf _ (omega (arith, c.in-Ok-eq0.field-0-test))
    c.loop-got.invariant.0 c.in-Ok-eq0.ensures.bound.0 c.loop-got.invariant.1 c.in-Ok-eq0.ensures.bytes.0

pub returns-in-Err-clause-bytes : goal.returns-in-Err-clause-bytes
returns-in-Err-clause-bytes g c =
    read_kept _ _ _ c.loop-got.got _ c.loop-got.buf _ c.loop-got.invariant.0 c.loop-got.invariant.1 c.in-Err.ensures.bytes
