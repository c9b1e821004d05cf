-- `header_scramble::numbers::write_numbers`: the first i numbers stand in the image.
use Rattle.std.proofs.Common.{◌≡◌, take}
use Rattle.spec_file.specs.Bytes.{store}
use Rattle.header_scramble.specs.Numbers.{all_digits}
use Rattle.header_scramble.proofs.numbers.write_numbers.Given as goal

abbrev pub invariant-loop-i : goal.invariant-loop-i
invariant-loop-i l = l.image ≡ store l.fn.image l.at (all_digits (take l.i l.numbers))
