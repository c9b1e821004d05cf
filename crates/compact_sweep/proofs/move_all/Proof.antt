-- `compact_sweep::move_all` meets its contract: X is not below D. Assumes nothing.
use native.Mathlib.Omega.{arith}
use borrow.Author.Rules.{rules}
use Rattle.law_file.proofs.Opened.{opened-facts}
use Rattle.header_layout.proofs.Shaped.{area-field}
use Rattle.compact_stages.proofs.Cells.{staged-open}
use Rattle.compact_sweep.proofs.move_all.Statement.{statement}
use Rattle.compact_sweep.proofs.move_all.Tie as tie

read-u32-requires : tie.Need-read_u32-requires
read-u32-requires c κs =
    let S = c in
    let st = S.requires.1 in
    omega (arith, st.stage.size, (opened-facts S.requires.0 st.sound.opened.accepted).size_low)

cast-if1 : tie.Need-overflow_cast-read_u32
cast-if1 c = search rules

at-requires : tie.Need-at-requires
at-requires c κs = search rules

sub-if1 : tie.Need-overflow_sub-read_u32
sub-if1 c =
    let S = c in
    let st = S.requires.1 in
    let o = staged-open S.requires.0 S.args.image.now S.args.shape _ _ st in
    let f = opened-facts S.args.image.now o.accepted in
    omega (arith, c.at.ensures, area-field o, f.free-low, c.read_u32.ensures)

mul-if1 : tie.Need-overflow_mul-t-10
mul-if1 c = search rules

sweep-small-requires : tie.Need-sweep_small-requires
sweep-small-requires c κs = search rules

same_length : tie.Need-shape_of-image-then-read_u32-at
same_length c = search rules

returns : tie.Need-returns-then-read_u32-at
returns c = search rules

sweep-large-requires : tie.Need-sweep_large-requires
sweep-large-requires c κs = search rules

same-length-2 : tie.Need-shape_of-image
same-length-2 c = search rules

returns-2 : tie.Need-returns
returns-2 c = search rules

pub move_all_spec : {M : Type 1} → statement M
move_all_spec =
    tie.close
    (tie.spec
    read-u32-requires
    cast-if1
    at-requires
    sub-if1
    mul-if1
    sweep-small-requires
    same_length
    returns
    sweep-large-requires
    same-length-2
    returns-2)
