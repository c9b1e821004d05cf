-- `lister_text::put_key`: the digits of the key's bytes from the next one on are left to be put.
use Rattle.std.proofs.Common.{drop}
use Rattle.lister_text.specs.Text.{hexes}
use Rattle.lister_text.proofs.Putting.{Rest}
use Rattle.lister_text.proofs.put_key.Given as goal

abbrev pub invariant-loop-b : goal.invariant-loop-b
invariant-loop-b l = Rest l.fn.out l.at (hexes l.key) l.out l.end (hexes (drop l.b-index l.key))
