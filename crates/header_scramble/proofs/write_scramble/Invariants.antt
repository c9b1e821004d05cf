-- `header_scramble::write_scramble`: the first i numbers stand in the image, and the generator has gone i steps.
use Rattle.std.proofs.Common.{◌≡◌}
use Rattle.spec_file.specs.Bytes.{store}
use Rattle.spec_file.specs.Create.{state, drawn_bytes}
use Rattle.header_scramble.proofs.write_scramble.Given as goal

abbrev pub invariant-loop-i : goal.invariant-loop-i
invariant-loop-i l = (l.image ≡ store l.fn.image 512 (drawn_bytes l.seed 0 l.i)) × (l.state ≡ state l.seed l.i)
