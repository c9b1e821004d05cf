-- `check_sweep::window::window` meets its contract: a map that is cleared marks no place. Assumes nothing.
use Rattle.std.proofs.Common.{arith, rules}
use Rattle.check_marks.proofs.Claims.{marked-zeros}
use Rattle.check_sweep.proofs.window.window.Statement.{statement}
use Rattle.check_sweep.proofs.window.window.Tie as tie

clear-requires : tie.Need-clear-requires
clear-requires c κs = search rules

pass-requires : tie.Need-pass-requires
pass-requires c κs =
    let Z = c in
    let S = c in
    (S.requires.0, omega (arith, S.requires.1, Z.clear.auto.map), marked-zeros _ _ Z.clear.ensures)

same_length : tie.Need-shape_of-map
same_length c = search rules

returns : tie.Need-returns
returns c = search rules

pub window_spec : {M : Type 1} → statement M
window_spec =
    tie.close
    (tie.spec
    clear-requires
    pass-requires
    same_length
    returns)
