-- Where nothing is stored, the width is 0. Assumes nothing.
use Prim.Native.Nat.{ℕ, ◌-◌}
use native.Mathlib.Omega.{arith}
use mathlib.Core.Path.{sym, ap, ◌∙◌}
use lib.ListN.{length}
use borrow.Author.Rules.{rules}
use Rattle.spec_columns.specs.Columns.{whole_records, whole_columns}
use Rattle.law_columns.proofs.Turned.{nothing_stored}
use Rattle.columns_width.proofs.whole_columns.Statement.{statement}
use Rattle.columns_width.proofs.whole_columns.Tie as tie

returns : tie.Need-returns-then-end-eq0
returns c = sym (nothing_stored c.args.stored.now (omega arith))

width-of-requires : tie.Need-width_of-requires
width-of-requires c κs = search rules

sub-whole-records : tie.Need-overflow_sub-end
sub-whole-records c = search rules

whole-records-requires : tie.Need-whole_records-requires
whole-records-requires c κs = search rules

returns-2 : tie.Need-returns
unfolding whole_columns
returns-2 c =
    let stored = c.args.stored.now in
    c.whole_records.ensures
    ∙ ap (λ (W : ℕ). whole_records W (length stored - 1)) c.width_of.ensures

pub whole_columns_spec : {M : Type 1} → statement M
whole_columns_spec =
    tie.close
    (tie.spec
    returns
    width-of-requires
    sub-whole-records
    whole-records-requires
    returns-2)
