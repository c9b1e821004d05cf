-- `check_order::pass_window` meets its contract: the keys are as many as before. Assumes nothing.
use mathlib.Core.Path.{sym, ◌∙◌}
use borrow.Author.Rules.{rules}
use Rattle.message_stretch.specs.Checked.{start_in, end_in}
use Rattle.check_order.proofs.Ordered.{stretch-full, ordered-on}
use Rattle.check_order.proofs.pass_window.Statement.{statement}
use Rattle.check_order.proofs.pass_window.Tie as tie

sort-starts-requires : tie.Need-sort_starts-requires
sort-starts-requires c κs = search rules

end-of-all-requires : tie.Need-end_of_all-requires
end-of-all-requires c κs = search rules

same_length : tie.Need-shape_of-keys
same_length c = search rules

returns : tie.Need-returns
returns c z o =
    let P = c in
    let S = c in
    let A = S.args in
    let img = A.image.now in
    let w = c.end_of_all.ensures z in
    ordered-on (start_in img) (end_in img) A.shape.slots A.lo A.hi A.next
    (stretch-full img A.shape S.requires.0) S.requires.1 S.requires.2 P.sort_starts.new.keys w.0
    (sym (P.sort_starts.auto.keys ∙ S.requires.4))
    c.end_of_all.result w.1 o

pub pass_window_spec : {M : Type 1} → statement M
pass_window_spec =
    tie.close
    (tie.spec
    sort-starts-requires
    end-of-all-requires
    same_length
    returns)
