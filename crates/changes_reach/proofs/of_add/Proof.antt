-- Refused before the search, or by how it ended. Assumes nothing.
use mathlib.Core.Path.{refl, sym, ◌∙◌}
use lib.ListN.{length}
use Rattle.table_seek.proofs.Reaching.{refused-is, reached-is}
use Rattle.changes_extent.proofs.Reaching.{add-stopped}
use borrow.Author.Rules.{rules}
use Rattle.changes_reach.proofs.of_add.Statement.{statement}
use Rattle.changes_reach.proofs.of_add.Tie as tie

mode-known-requires : tie.Need-mode_known-requires
mode-known-requires c κs = search rules

seek-requires : tie.Need-seek-sought-requires
seek-requires c κs = search rules

enum-known-sought : tie.Need-enum_known-sought
enum-known-sought c = search rules

none-requires : tie.Need-none-requires
none-requires c κs = search rules

enum-known-sought-2 : tie.Need-enum_known-sought-in-At-1
enum-known-sought-2 c = search rules

of-found-requires : tie.Need-of_found-requires
of-found-requires c κs =
    let K = c in
    let S = c in
    let k = K.mode_known in
    let r =
    reached-is S.args.image.now S.args.key.now k.result c.seek-sought.ensures
    c.in-At.is in
    (r.opened, r.within)

returns : tie.Need-returns-in-Refused
returns c =
    let K = c in
    let A = K.args in
    let r =
    refused-is A.image.now A.key.now K.mode_known.result c.seek-sought.ensures
    c.in-Refused.is in (
      c.none.ensures (length A.image.now),
      add-stopped A.image.now A.key.now A.bytes.now A.mode K.mode_known.result c.none.result
          K.mode_known.ensures (λ z. r.1 (r.0 ∙ z)),
    )

returns-2 : tie.Need-returns-in-At
returns-2 c =
    let F = c in
    let K = c in
    let A = K.args in
    let r =
    reached-is A.image.now A.key.now K.mode_known.result F.seek-sought.ensures
    F.in-At.is in (
      c.of_found.ensures.0,
      c.of_found.ensures.1 A.key.now A.bytes.now A.mode (sym r.ended) refl,
    )

pub of_add_spec : {M : Type 1} → statement M
of_add_spec =
    tie.close
    (tie.spec
    mode-known-requires
    seek-requires
    enum-known-sought
    none-requires
    enum-known-sought-2
    of-found-requires
    returns
    returns-2)
