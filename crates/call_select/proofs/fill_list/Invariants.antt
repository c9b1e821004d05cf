-- `call_select::fill_list`: the slots below i that are listed stand in the list, `found` of them.
use Rattle.spec_file.specs.Image.{layout_of}
use Rattle.spec_range.specs.Ranges.{selects}
use Rattle.call_select.proofs.Filling.{Filling}
use Rattle.call_select.proofs.fill_list.Given as goal

abbrev pub invariant-loop-i : goal.invariant-loop-i
invariant-loop-i l =
    Filling (selects (layout_of l.image) l.image l.lowest l.highest) l.shape.slots l.initial.list l.list l.found l.i
