-- A refusal shows nothing, else the search's end tells what is shown. Assumes nothing.
use mathlib.Core.Path.{sym, ◌∙◌}
use mathlib.Core.Bool.{true}
use borrow.Author.Rules.{rules}
use Rattle.spec_file.specs.Calls.{lookup_read}
use Rattle.table_seek.proofs.Reaching.{refused-is, reached-is, refused-read, reached-read}
use Rattle.call_lookup.proofs.Answers.{located-refused, located-found}
use Rattle.call_lookup.proofs.locate_slots.Statement.{statement}
use Rattle.call_lookup.proofs.locate_slots.Tie as tie

seek-requires : tie.Need-seek-sought-requires
seek-requires c κs = search rules

enum-known-sought : tie.Need-enum_known-sought
enum-known-sought c = search rules

nothing-requires : tie.Need-nothing-located-requires
nothing-requires c κs = search rules

enum-known-sought-2 : tie.Need-enum_known-sought-in-At-1
enum-known-sought-2 c = search rules

abbrev start-at-known-told2 : tie.In-At → tie.Start
start-at-known-told2 c = c.before.before.before.before

locate-found-requires : tie.Need-locate_found-located-requires
locate-found-requires c κs =
    let r =
    reached-is (start-at-known-told2 c).args.image.now (start-at-known-told2 c).args.key.now true
    c.seek-sought.ensures c.in-At.is in
    (r.opened, r.within)

abbrev start-at-nothing : tie.After-nothing-located → tie.Start
start-at-nothing c = c.before.before.before.before.before

abbrev seek-at-nothing : tie.After-nothing-located → tie.After-seek-sought
seek-at-nothing c = c.before.before

returns : tie.Need-returns-in-Refused
unfolding lookup_read
returns c =
    let A = (start-at-nothing c).args in
    let is = (seek-at-nothing c).seek-sought.ensures in
    let e = c.in-Refused.is in
    let r = refused-is A.image.now A.key.now true is e in
    let n = c.nothing-located.ensures in
    let a =
    located-refused A.image.now A.key.now _ _ _ (n.0 ∙ r.0) (λ z. r.1 (sym n.0 ∙ z)) n.1 n.2 in
    (a.0, a.1, a.2, refused-read A.image.now A.key.now true is e)

abbrev start-at-locate-found : tie.After-locate_found-located → tie.Start
start-at-locate-found c = c.before.before.before.before.before

abbrev seek-at-locate-found : tie.After-locate_found-located → tie.After-seek-sought
seek-at-locate-found c = c.before.before

returns-2 : tie.Need-returns-in-At
unfolding lookup_read
returns-2 c =
    let A = (start-at-locate-found c).args in
    let is = (seek-at-locate-found c).seek-sought.ensures in
    let e = c.in-At.is in
    let r = reached-is A.image.now A.key.now true is e in
    let a = located-found A.image.now A.key.now r.asked _ _ _ _ r.ended c.locate_found-located.ensures in
    (a.0, a.1, a.2, reached-read A.image.now A.key.now true is e)

pub locate_slots_spec : {M : Type 1} → statement M
locate_slots_spec =
    tie.close
    (tie.spec
    seek-requires
    enum-known-sought
    nothing-requires
    enum-known-sought-2
    locate-found-requires
    returns
    returns-2)
