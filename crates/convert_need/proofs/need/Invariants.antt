-- `convert_need::need`: what the slots below i need, with what is to come from there on, is the whole.
use Rattle.std.proofs.Common.{◌≡◌, ◌&&◌, ◌+◌, ◌-◌, ◌*◌, ◌≤◌}
use Rattle.spec_file.specs.Limits.{most_image}
use Rattle.spec_file.specs.Image.{layout_of}
use Rattle.spec_conversion.specs.Convert.{other_layout, needs_from, told_from}
use Rattle.convert_need.proofs.need.Given as goal

abbrev pub invariant-loop-i : goal.invariant-loop-i
invariant-loop-i l =
    let g = layout_of l.source in
    let h = other_layout l.source in
    let left = l.shape.slots - l.i in
    record {
      low : l.bytes ≤ l.i * (most_image + 5);
      bytes : l.bytes + needs_from g h l.source left l.i ≡ needs_from g h l.source l.shape.slots 0;
      told : (l.told && told_from g h l.source left l.i) ≡ told_from g h l.source l.shape.slots 0;
    }
