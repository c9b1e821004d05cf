-- Question 5, by two numbers. Assumes nothing.
use borrow.Author.Rules.{rules}
use native.Mathlib.Omega.{arith}
use mathlib.Core.Path.{sym, ◌∙◌}
use Rattle.header_questions.proofs.Version.{version-letters, version-narrow, version-wide}
use Rattle.header_questions.proofs.version_known.Statement.{statement}
use Rattle.header_questions.proofs.version_known.Tie as tie

read-u32-requires : tie.Need-read_u32-requires
read-u32-requires c κs = search rules

returns : tie.Need-returns-then-read_u32-ne-MAGIC
returns c =
    let R = c in
    let S = c in
    version-letters S.args.image.now (λ i. omega (arith, R.shared_slice_known-1.given i)) S.requires
    (λ e. c.if-read_u32-ne-MAGIC.true (R.read_u32.ensures ∙ e))

read-u32-requires-2 : tie.Need-read_u32-version-requires
read-u32-requires-2 c κs = search rules

returns-2 : tie.Need-returns-then-version
returns-2 c =
    let U = c in
    let R = c in
    let S = c in
    version-narrow S.args.image.now (λ i. omega (arith, R.shared_slice_known-1.given i)) S.requires
    (sym R.read_u32.ensures ∙ U.if-read_u32-ne-MAGIC.false) (rw U.read_u32-version.ensures at c.if-version.true)

returns-3 : tie.Need-returns
returns-3 c =
    let U = c in
    let R = c in
    let S = c in
    rw U.read_u32-version.ensures
    (version-wide S.args.image.now (λ i. omega (arith, R.shared_slice_known-1.given i)) S.requires
    (sym R.read_u32.ensures ∙ U.if-read_u32-ne-MAGIC.false) (rw U.read_u32-version.ensures at c.if-version.false))

pub version_known_spec : {M : Type 1} → statement M
version_known_spec =
    tie.close
    (tie.spec
    read-u32-requires
    returns
    read-u32-requires-2
    returns-2
    returns-3)
