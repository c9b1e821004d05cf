-- Refused before the search, or by how it ended. Assumes nothing.
use mathlib.Core.Path.{sym, ◌∙◌}
use mathlib.Core.Bool.{true}
use lib.ListN.{length}
use Rattle.table_seek.proofs.Reaching.{refused-is, reached-is}
use Rattle.changes_extent.proofs.Reaching.{delete-stopped}
use borrow.Author.Rules.{rules}
use Rattle.changes_reach.proofs.of_delete.Statement.{statement}
use Rattle.changes_reach.proofs.of_delete.Tie as tie

seek-requires : tie.Need-seek-sought-requires
seek-requires c κs = search rules

enum-known-sought : tie.Need-enum_known-sought
enum-known-sought c = search rules

none-requires : tie.Need-none-requires
none-requires c κs = search rules

enum-known-sought-2 : tie.Need-enum_known-sought-in-At-1
enum-known-sought-2 c = search rules

of-deleted-requires : tie.Need-of_deleted-requires
of-deleted-requires c κs =
    let S = c in
    let r =
    reached-is S.args.image.now S.args.key.now true c.seek-sought.ensures
    c.in-At.is in
    (r.opened, r.within)

returns : tie.Need-returns-in-Refused
returns c =
    let K = c in
    let A = K.args in
    let r =
    refused-is A.image.now A.key.now true K.seek-sought.ensures c.in-Refused.is in (
      c.none.ensures (length A.image.now),
      delete-stopped A.image.now A.key.now c.none.result (λ z. r.1 (r.0 ∙ z)),
    )

returns-2 : tie.Need-returns-in-At
returns-2 c =
    let F = c in
    let K = c in
    let A = K.args in
    let r =
    reached-is A.image.now A.key.now true K.seek-sought.ensures F.in-At.is in
    (c.of_deleted.ensures.0, c.of_deleted.ensures.1 A.key.now (sym r.ended))

pub of_delete_spec : {M : Type 1} → statement M
of_delete_spec =
    tie.close
    (tie.spec
    seek-requires
    enum-known-sought
    none-requires
    enum-known-sought-2
    of-deleted-requires
    returns
    returns-2)
