-- `call_walk::walk` meets its contract: each of the walk's ends, and what it hands back.
-- Assumes nothing.
use Prim.Native.Nat.{ℕ, ◌<◌}
use native.Mathlib.Omega.{arith}
use mathlib.Core.Path.{◌≡◌, sym, ◌∙◌, subst}
use Rattle.spec_file.specs.Image.{field}
use Rattle.spec_file.specs.Inspect.{key_walk, stopped}
use Rattle.spec_file.specs.Limits.{slots_field}
use Rattle.law_file.proofs.Opened.{opened-facts}
use Rattle.table_search.proofs.Headers.{layout-slots}
use Rattle.call_walk.proofs.Stopping.{stopped-is, refused-is, end_is, stopped-open, stopped-below, stopped-slot, shown-refused, shown-stopped, shown-end}
use borrow.Author.Rules.{rules}
use Rattle.call_walk.proofs.walk.Statement.{statement}
use Rattle.call_walk.proofs.walk.Tie as tie

next-taken-requires : tie.Need-next_taken-stop-requires
next-taken-requires c κs = search rules

enum-known-stop : tie.Need-enum_known-stop
enum-known-stop c = search rules

slice-aggregate-result : tie.Need-slice_bounds-result-end
slice-aggregate-result c = search rules

enum-known-stop-2 : tie.Need-enum_known-stop-in-At-1
enum-known-stop-2 c = search rules

number-requires : tie.Need-number-requires
number-requires c κs = search rules

abbrev start-at-stop2 : tie.In-At → tie.Start
start-at-stop2 c = c.before.before.before

-- where the code stops, the walk does
stops : (c : tie.In-At)
    → let S : tie.Start = start-at-stop2 c in
    key_walk S.args.image.now S.args.from ≡ stopped c.in-At.i.0
stops c =
    let A = (start-at-stop2 c).args in
    let next = c.next_taken-stop in
    stopped-is A.image.now A.from next.result next.ensures c.in-At.is

cast-slot : tie.Need-overflow_cast-slot
cast-slot c =
    let P = c.before in
    let A = (start-at-stop2 P).args in
    let w = stops P in
    let f = opened-facts A.image.now (stopped-open A.image.now A.from _ w) in
    let b : c.number.result < field A.image.now slots_field =
    stopped-slot A.image.now A.from _ w c.number.result c.number.ensures in
    omega (arith, b, f.slots-high)

read-shape-requires : tie.Need-read_shape-requires
read-shape-requires c κs =
    let P = c.before in
    let A = (start-at-stop2 P).args in
    let w = stops P in
    stopped-open A.image.now A.from _ w

key-of-requires : tie.Need-key_of-requires
key-of-requires c κs =
    let P = c.before.before in
    let A = (start-at-stop2 P).args in
    let w = stops P in (
      record { accepted = stopped-open A.image.now A.from _ w; shape = c.read_shape.ensures },
      subst (λ (n : ℕ). c.in-At.i.0 < n)
          (layout-slots A.image.now c.read_shape.result c.read_shape.ensures)
          (stopped-below A.image.now A.from _ w),
    )

enum_told : tie.Need-enum_told-1
enum_told c = search rules

slice-aggregate-result-2 : tie.Need-slice_bounds-result-end-in-End
slice-aggregate-result-2 c = search rules

returns : tie.Need-returns-in-Refused
returns c =
    let F = c in
    let A = F.args in
    let s = shown-refused A.image.now (key_walk A.image.now A.from) _
    (refused-is A.image.now A.from F.next_taken-stop.result F.next_taken-stop.ensures
    c.in-Refused.is) in
    (s.key, s.number_is, s.slot_is)

returns-2 : tie.Need-returns-in-At
returns-2 c =
    let P = c.before.before.before in
    let A = (start-at-stop2 P).args in
    let w = stops P in
    let s =
    shown-stopped A.image.now (key_walk A.image.now A.from) _ (sym w) c.key_of.result.now
    c.key_of.ensures in
    (s.key, s.number_is, c.number.ensures ∙ s.slot_is)

returns-3 : tie.Need-returns-in-End
returns-3 c =
    let F = c in
    let A = F.args in
    let s = shown-end A.image.now (key_walk A.image.now A.from)
    (end_is A.image.now A.from F.next_taken-stop.result F.next_taken-stop.ensures
    c.in-End.is) in
    (s.key, s.number_is, s.slot_is)

pub walk_spec : {M : Type 1} → statement M
walk_spec =
    tie.close
    (tie.spec
    next-taken-requires
    enum-known-stop
    slice-aggregate-result
    enum-known-stop-2
    number-requires
    cast-slot
    read-shape-requires
    key-of-requires
    enum_told
    slice-aggregate-result-2
    returns
    returns-2
    returns-3)
