-- `convert_bare::carry_keys`: the slots from i on, stored over those that are written, are the whole table.
use Rattle.std.proofs.Common.{◌≡◌, ◌-◌}
use Rattle.spec_file.specs.Bytes.{store}
use Rattle.spec_file.specs.Limits.{table_start}
use Rattle.spec_file.specs.Image.{layout_of, slot_start}
use Rattle.spec_conversion.specs.Convert.{bare_slots}
use Rattle.convert_bare.proofs.carry_keys.Given as goal

abbrev pub invariant-loop-i : goal.invariant-loop-i
invariant-loop-i l =
    let g = layout_of l.source in
    store l.target (slot_start g l.i) (bare_slots g l.source (g.N - l.i) l.i)
    ≡ store l.initial.target table_start (bare_slots g l.source g.N 0)
