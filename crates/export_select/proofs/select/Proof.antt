-- What `select` answers; the image is lent to be read. Assumes nothing.
use borrow.Author.Rules.{rules}
use mathlib.Core.Path.{refl}
use Rattle.export_select.proofs.select.Statement.{statement}
use Rattle.export_select.proofs.select.Tie as tie

select-requires : tie.Need-select-requires
select-requires c κs = search rules

same_length : tie.Need-shape_of-list
same_length c = search rules

returns : tie.Need-returns
returns c =
    let e = c.select.ensures in
    record { number = e.0; many = e.1.0; listed = e.1.1; image = refl }

pub select_spec : {M : Type 1} → statement M
select_spec =
    tie.close
    (tie.spec
    select-requires
    same_length
    returns)
