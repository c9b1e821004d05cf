-- `lister_rows::put_lines`: the lines from slot i on are left to be put.
use Rattle.std.proofs.Common.{◌-◌}
use Rattle.spec_file.specs.Image.{layout_of}
use Rattle.lister_rows.specs.Listed.{lines}
use Rattle.lister_text.proofs.Putting.{Rest}
use Rattle.lister_rows.proofs.put_lines.Given as goal

abbrev pub invariant-loop-i : goal.invariant-loop-i
invariant-loop-i l =
    Rest l.fn.out l.at (lines (layout_of l.image) l.image l.shape.slots 0) l.out l.end
    (lines (layout_of l.image) l.image (l.shape.slots - l.i) l.i)
