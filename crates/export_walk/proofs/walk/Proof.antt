-- The walk's three ends, each with its slot and the place of its key. Assumes nothing.
use borrow.Author.Rules.{rules}
use mathlib.Core.Path.{◌≡◌, sym, ◌∙◌}
use native.Mathlib.Omega.{arith}
use Rattle.spec_file.specs.Inspect.{key_walk, stopped}
use Rattle.call_walk.proofs.Stopping.{stopped-is, refused-is, end_is}
use Rattle.export_walk.proofs.Told.{walked, walks-refused, walks-end, walks-stopped, walk-key, walk-long, walk-slot, walk-place}
use Rattle.export_walk.proofs.walk.Statement.{statement}
use Rattle.export_walk.proofs.walk.Tie as tie

next-taken-requires : tie.Need-next_taken-stop-requires
next-taken-requires c κs = search rules

enum-known-stop : tie.Need-enum_known-stop
enum-known-stop c = search rules

enum-known-stop-2 : tie.Need-enum_known-stop-in-At-1
enum-known-stop-2 c = search rules

abbrev start-at-stop2 : tie.In-At → tie.Start
start-at-stop2 c = c.before.before.before

-- where the code stops, the walk does
stops : (c : tie.In-At)
    → let S : tie.Start = start-at-stop2 c in
    key_walk S.args.image.now S.args.from ≡ stopped c.in-At.i.0
stops c =
    let A = (start-at-stop2 c).args in
    let next = c.next_taken-stop in
    stopped-is A.image.now A.from next.result next.ensures c.in-At.is

read-u32-requires : tie.Need-read_u32-size-requires
read-u32-requires c κs =
    let P = c in
    let A = (start-at-stop2 P).args in
    let w = stops P in
    omega (arith, walk-long A.image.now A.from _ w)

cast-size : tie.Need-overflow_cast-size
cast-size c = search rules

number-requires : tie.Need-number-requires
number-requires c κs = search rules

cast-slot : tie.Need-overflow_cast-slot
cast-slot c =
    let P = c.before.before in
    let A = (start-at-stop2 P).args in
    let w = stops P in
    omega (arith, walk-slot A.image.now A.from _ w, c.number.ensures)

start-requires : tie.Need-start-requires
start-requires c κs =
    let P = c.before.before in
    let A = (start-at-stop2 P).args in
    let w = stops P in (
      omega (arith, walk-slot A.image.now A.from _ w),
      omega (arith, c.read_u32-size.ensures, walk-key A.image.now A.from _ w),
    )

at-requires : tie.Need-at-requires
at-requires c κs = search rules

cast-place : tie.Need-overflow_cast-place
cast-place c =
    let N = c in
    let P = c.before.before.before.before in
    let A = (start-at-stop2 P).args in
    let w = stops P in
    omega (
      arith,
      c.at.ensures,
      c.start.ensures,
      walk-place A.image.now A.from _ w N.read_u32-size.result N.read_u32-size.ensures,
    )

enum_told : tie.Need-enum_told-1
enum_told c = search rules

returns : tie.Need-returns-in-Refused
returns c =
    let F = c in
    let A = F.args in
    walked (walks-refused A.image.now (key_walk A.image.now A.from) _
    (refused-is A.image.now A.from F.next_taken-stop.result F.next_taken-stop.ensures c.in-Refused.is))

returns-2 : tie.Need-returns-in-At
returns-2 c =
    let N = c in
    let P = c.before.before.before.before in
    let A = (start-at-stop2 P).args in
    let w = stops P in
    walked (walks-stopped A.image.now (key_walk A.image.now A.from) _ _ _ N.read_u32-size.result
    (sym w)
    N.number.ensures N.read_u32-size.ensures (c.at.ensures ∙ c.start.ensures))

returns-3 : tie.Need-returns-in-End
returns-3 c =
    let F = c in
    let A = F.args in
    walked (walks-end A.image.now (key_walk A.image.now A.from)
    (end_is A.image.now A.from F.next_taken-stop.result F.next_taken-stop.ensures c.in-End.is))

pub walk_spec : {M : Type 1} → statement M
walk_spec =
    tie.close
    (tie.spec
    next-taken-requires
    enum-known-stop
    enum-known-stop-2
    read-u32-requires
    cast-size
    number-requires
    cast-slot
    start-requires
    at-requires
    cast-place
    enum_told
    returns
    returns-2
    returns-3)
