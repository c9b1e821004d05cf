-- `call_compact::finish` meets its contract. Assumes nothing.
use native.Mathlib.Omega.{arith}
use mathlib.Core.Path.{ap₂, ◌∙◌}
use Prim.Native.Nat.{ℕ}
use borrow.Author.Rules.{rules}
use Rattle.spec_file.specs.Messages.{set_free}
use Rattle.law_file.proofs.Opened.{opened-facts}
use Rattle.header_layout.proofs.Shaped.{shape-area}
use Rattle.compact_stages.proofs.Ends.{finish-same, finish-lower}
use Rattle.call_compact.proofs.finish.Statement.{statement}
use Rattle.call_compact.proofs.finish.Tie as tie

zero-from-requires : tie.Need-zero_from-requires
zero-from-requires c κs = search rules

read-u32-requires : tie.Need-read_u32-requires
read-u32-requires c κs =
    let Z = c in
    let S = c in
    omega (arith, Z.zero_from.auto.image, (opened-facts S.args.image.now S.requires.0.accepted).size_low)

cast-if1 : tie.Need-overflow_cast-read_u32
cast-if1 c = search rules

same_length : tie.Need-shape_of-image-then-read_u32-end
same_length c = search rules

returns : tie.Need-returns-then-read_u32-end
returns c =
    let Z = c in
    let A = Z.args in
    finish-same A.image.now Z.zero_from.new.image A.end c.read_u32.result Z.zero_from.ensures
    c.read_u32.ensures c.if-read_u32-end.true

new-requires : tie.Need-new-requires
new-requires c κs = search rules

set-free-requires : tie.Need-set_free-requires
set-free-requires c κs =
    let Z = c in
    let S = c in
    let o = opened-facts S.args.image.now S.requires.0.accepted in (
      omega (arith, Z.zero_from.auto.image, o.size_low),
      omega (arith, c.new.ensures, shape-area S.requires.0, S.requires.1),
      omega (arith, c.new.ensures, S.requires.2, o.size-high),
    )

same-length-2 : tie.Need-shape_of-image
same-length-2 c = search rules

returns-2 : tie.Need-returns
returns-2 c =
    let P = c in
    let N = c in
    let E = c in
    let Z = c in
    let S = c in
    let A = S.args in
    let x = Z.zero_from.new.image in
    finish-lower A.image.now x A.end E.read_u32.result Z.zero_from.ensures
    E.read_u32.ensures E.if-read_u32-end.false P.set_free.new.image
    (P.set_free.ensures ∙ ap₂ (λ (d n : ℕ). set_free d x n) (shape-area S.requires.0) N.new.ensures)

pub finish_spec : {M : Type 1} → statement M
finish_spec =
    tie.close
    (tie.spec
    zero-from-requires
    read-u32-requires
    cast-if1
    same_length
    returns
    new-requires
    set-free-requires
    same-length-2
    returns-2)
