-- `growth_space::active_space` meets its contract: a turn adds slot i's count, at most an image's largest size.
use Rattle.std.proofs.Common.{◌+◌, arith}
use Rattle.spec_file.specs.Limits.{most_image}
use Rattle.law_file.proofs.Opened.{opened-facts}
use Rattle.law_file.proofs.Total.{total-bound}
use Rattle.table_search.proofs.Headers.{header, layout-slots}
use Rattle.growth_space.proofs.Retired.{at_most, space-sum, total-none, total-next}
use Rattle.growth_space.proofs.active_space.Goals as goal
use Rattle.growth_space.proofs.active_space.Invariants.{counts}

pub read_u32-free-requires : goal.read_u32-free-requires
read_u32-free-requires c = omega (arith, (opened-facts _ c.requires.0.accepted).size_low)

pub loop-i-init : goal.loop-i-init
loop-i-init c = grind (arith, total-none)

pub loop-i-preserved : goal.loop-i-preserved
loop-i-preserved c = grind (arith, total-next)

pub overflow_add-bytes : goal.overflow_add-bytes
overflow_add-bytes c =
    let o = opened-facts _ c.requires.0.accepted in
    let e = layout-slots _ _ c.requires.0.shape in
    let f = counts c.args.image.now c.args.named.0 in
    let b = total-bound f (c.loop-i.i + 1) most_image (λ j l. at_most _ o _ c.requires.1 j (omega arith)) in
    grind (arith, loop-i-preserved c, b, (header _ _ c.requires.0).slots-high)

pub returns : goal.returns
returns c =
    let o = opened-facts _ c.requires.0.accepted in
    grind (arith, layout-slots _ _ c.requires.0.shape, space-sum _ o _ c.requires.1)
