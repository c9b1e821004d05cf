-- `header_sizes::table_allowed` meets its contract: below 1 the difference wraps past the limit. Assumes nothing.
use Rattle.std.proofs.Common.{Bool, ◌&&◌, leb, sym, ap, ◌∙◌, arith, rules, le-ltb, lt-ltb, le-leb}
use borrow.Author.Tests.{lt-leb}
use Rattle.spec_file.specs.Questions.{slots_allowed}
use Rattle.law_file.proofs.Tests.{by_le}
use Rattle.header_sizes.proofs.table_allowed.Statement.{statement}
use Rattle.header_sizes.proofs.table_allowed.Tie as tie

wrapping-sub-u32-requires : tie.Need-wrapping_sub_u32-requires
wrapping-sub-u32-requires c κs = search rules

returns : tie.Need-returns
unfolding slots_allowed
returns c =
    let n = c.args.n in
    let w = c.wrapping_sub_u32.result in
    by_le 1 n
    (λ some.
    let most = ap (λ (b : Bool). b && leb n 1048576) (le-leb 1 n some) in
    by_le n 1048576
    (λ y. lt-ltb w 1048576 (omega (arith, some, y)) ∙ sym (most ∙ le-leb n 1048576 y))
    (λ over. le-ltb w 1048576 (omega (arith, some, over)) ∙ sym (most ∙ lt-leb n 1048576 over)))
    (λ none.
    le-ltb w 1048576 (omega (arith, none))
    ∙ sym (ap (λ (b : Bool). b && leb n 1048576) (lt-leb 1 n none)))

pub table_allowed_spec : {M : Type 1} → statement M
table_allowed_spec =
    tie.close
    (tie.spec
    wrapping-sub-u32-requires
    returns)
