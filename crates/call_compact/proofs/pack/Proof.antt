-- `call_compact::pack` meets its contract: the last stage, finished, is the compacted image. Assumes nothing.
use mathlib.Core.Path.{◌∙◌}
use borrow.Author.Rules.{rules}
use Rattle.compact_stages.proofs.Ends.{stage-end, stage-place}
use Rattle.call_compact.proofs.pack.Statement.{statement}
use Rattle.call_compact.proofs.pack.Tie as tie

gather-requires : tie.Need-gather-end-requires
gather-requires c κs = c.requires

finish-requires : tie.Need-finish-requires
finish-requires c κs =
    let G = c in
    let S = c in
    stage-place S.args.image.now G.gather-end.new.image S.args.shape G.gather-end.result S.requires
    G.gather-end.ensures

same_length : tie.Need-shape_of-image
same_length c = search rules

returns : tie.Need-returns
returns c =
    let P = c in
    let G = c in
    let S = c in
    P.finish.ensures
    ∙ stage-end S.args.image.now G.gather-end.new.image S.args.shape G.gather-end.result S.requires
    G.gather-end.ensures

pub pack_spec : {M : Type 1} → statement M
pack_spec =
    tie.close
    (tie.spec
    gather-requires
    finish-requires
    same_length
    returns)
