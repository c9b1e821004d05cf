-- `check_marks::clear` meets its contract: the words are zeros.
use Rattle.std.proofs.Common.{rules}
use Rattle.spec_file.specs.Bytes.{zeros}
use Rattle.check_marks.proofs.clear.Goals as goal

pub returns : goal.returns
unfolding zeros
returns c = search rules
