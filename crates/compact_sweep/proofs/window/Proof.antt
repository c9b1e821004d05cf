-- `compact_sweep::window` meets its contract. Assumes nothing.
use Prim.Native.Nat.{ℕ, ◌+◌, ◌*◌}
use native.Mathlib.Omega.{arith}
use mathlib.Core.Path.{subst}
use borrow.Author.Rules.{rules}
use Rattle.spec_file.specs.Image.{layout_of}
use Rattle.compact_stages.specs.Stages.{Stage}
use Rattle.compact_stages.proofs.Cells.{staged-open, staged-above, staged-each}
use Rattle.compact_sweep.proofs.window.Statement.{statement}
use Rattle.compact_sweep.proofs.window.Tie as tie

-- `call_compact::window` meets its contract. Assumes nothing.

fill-requires : tie.Need-fill-requires
fill-requires c κs =
    let S = c in
    let A = S.args in
    let img = S.requires.0.0 in
    let st = S.requires.0.1 in (
      staged-open img A.image.now A.shape A.lo A.end st,
      staged-above img A.image.now A.shape A.lo A.end st,
      S.requires.1,
      staged-each img A.image.now A.shape A.lo A.end st,
    )

moves-requires : tie.Need-moves-requires
moves-requires c κs = search rules

same_length : tie.Need-shape_of-image
same_length c = search rules

same-length-2 : tie.Need-shape_of-chart
same-length-2 c = search rules

returns : tie.Need-returns
returns c =
    let M = c in
    let F = c in
    let A = F.args in
    λ img st.
    subst (λ (n : ℕ). Stage (layout_of img) img M.moves.new.image (A.lo + 4 * n) M.moves.result)
    F.fill.auto.chart (M.moves.ensures img st)

pub window_spec : {M : Type 1} → statement M
window_spec =
    tie.close
    (tie.spec
    fill-requires
    moves-requires
    same_length
    same-length-2
    returns)
