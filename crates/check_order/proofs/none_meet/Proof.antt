-- `check_order::none_meet` meets its contract: X is not below D. Assumes nothing.
use native.Mathlib.Omega.{arith}
use mathlib.Core.Path.{refl}
use mathlib.Core.Bool.{false}
use Rattle.law_file.proofs.Tests.{not-both}
use Rattle.law_file.proofs.Opened.{opened-facts}
use Rattle.header_layout.proofs.Shaped.{area-field}
use borrow.Author.Rules.{rules}
use Rattle.check_order.proofs.none_meet.Statement.{statement}
use Rattle.check_order.proofs.none_meet.Tie as tie

read-u32-requires : tie.Need-read_u32-free-requires
read-u32-requires c κs =
    let S = c in
    omega (arith, (opened-facts S.args.image.now S.requires.0.opened.accepted).size_low)

cast-free : tie.Need-overflow_cast-free
cast-free c = search rules

read-u32-requires-2 : tie.Need-read_u32-points-requires
read-u32-requires-2 c κs =
    let S = c in
    omega (arith, (opened-facts S.args.image.now S.requires.0.opened.accepted).size_low)

cast-points : tie.Need-overflow_cast-points
cast-points c = search rules

at-requires : tie.Need-at-requires
at-requires c κs = search rules

sub-span : tie.Need-overflow_sub-span
sub-span c =
    let S = c in
    let o = opened-facts S.args.image.now S.requires.0.opened.accepted in
    omega (
      arith,
      c.at.ensures,
      area-field S.requires.0.opened,
      o.free-low,
      c.read_u32-free.ensures,
    )

mul-order-pays : tie.Need-overflow_mul-room
mul-order-pays c = search rules

div-order-pays : tie.Need-nonzero_div-span
div-order-pays c = search rules

order-pays-requires : tie.Need-order_pays-requires
order-pays-requires c κs = search rules

returns : tie.Need-returns-then-not-order_pays
returns c e = absurd (not-both false e refl)

first-width-requires : tie.Need-first_width-width-requires
first-width-requires c κs = search rules

pass-all-requires : tie.Need-pass_all-requires
pass-all-requires c κs = search rules

same_length : tie.Need-shape_of-keys
same_length c = search rules

returns-2 : tie.Need-returns
returns-2 c = search rules

pub none_meet_spec : {M : Type 1} → statement M
none_meet_spec =
    tie.close
    (tie.spec
    read-u32-requires
    cast-free
    read-u32-requires-2
    cast-points
    at-requires
    sub-span
    mul-order-pays
    div-order-pays
    order-pays-requires
    returns
    first-width-requires
    pass-all-requires
    same_length
    returns-2)
