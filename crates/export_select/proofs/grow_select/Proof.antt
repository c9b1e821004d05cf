-- What `select_pair` answers; both images are lent to be read. Assumes nothing.
use mathlib.Core.Path.{refl}
use borrow.Author.Rules.{rules}
use Rattle.export_select.proofs.grow_select.Statement.{statement}
use Rattle.export_select.proofs.grow_select.Tie as tie

select-pair-requires : tie.Need-select_pair-requires
select-pair-requires c κs = search rules

same_length : tie.Need-shape_of-list
same_length c = search rules

returns : tie.Need-returns
returns c =
    let e = c.select_pair.ensures in
    record { number = e.0; many = e.1.0; more = e.1.1.0; listed = e.1.1.1; old = refl; new = refl }

pub grow_select_spec : {M : Type 1} → statement M
grow_select_spec =
    tie.close
    (tie.spec
    select-pair-requires
    same_length
    returns)
