-- 14, 10, nothing to place, or 12 and 13. Assumes nothing.
use native.Mathlib.Omega.{arith}
use Prim.Native.Nat.{◌+◌}
use mathlib.Core.Path.{ap₂}
use Rattle.law_file.proofs.Opened.{opened-facts}
use Rattle.table_search.specs.Probes.{probe_of}
use Rattle.table_search.proofs.Headers.{layout-slots}
use Rattle.table_search.proofs.Taken.{other-empty}
use Rattle.growth_beside.proofs.Asked.{zero-sound, only-empty, asked-14, asked-exhausted, asked-full, asked-bare, asked-fresh}
use borrow.Author.Rules.{rules}
use Rattle.growth_beside.proofs.absent_number.Statement.{statement}
use Rattle.growth_beside.proofs.absent_number.Tie as tie

returns : tie.Need-returns-then-mode-eq-WITHDRAW
returns c =
    let S = c in
    let A = S.args in
    asked-14 A.old.now A.new.now A.m A.mode (probe_of A.found) S.requires.2 c.if-mode-eq-WITHDRAW.true

enum_told : tie.Need-enum_told-1
enum_told c = search rules

returns-2 : tie.Need-returns-in_default
returns-2 c =
    let S = c in
    let A = S.args in
    asked-exhausted A.old.now A.new.now A.m A.mode (probe_of A.found) c.if-mode-eq-WITHDRAW.false
    (other-empty A.found c.in_default.in_default-own.keys2 S.requires.2)

read-u32-requires : tie.Need-read_u32-requires
read-u32-requires c κs =
    omega (arith, (opened-facts _ c.requires.0.accepted).size_low)

cast-points : tie.Need-overflow_cast-points
cast-points c = search rules

read-u32-requires-2 : tie.Need-read_u32-requires-2
read-u32-requires-2 c κs =
    omega (arith, (opened-facts _ c.requires.1.accepted).size_low)

cast-points-2 : tie.Need-overflow_cast-points-2
cast-points-2 c = search rules

add-points : tie.Need-overflow_add-points
add-points c = search rules

abbrev start-at-shared-slice-known : tie.After-shared_slice_known-1 → tie.Start
start-at-shared-slice-known c = c.before

abbrev start-at-then2 : tie.Then-slots-points → tie.Start
start-at-then2 c = c.before.before.before.before.before.before.before

returns-3 : tie.Need-returns-then-slots-points
returns-3 c =
    let S = (start-at-then2 c) in
    let A = S.args in
    let e = only-empty A.found c.in-Empty.in-Empty-own.keys1 in
    asked-full A.old.now A.new.now A.m A.mode (probe_of A.found)
    c.if-mode-eq-WITHDRAW.false e.0 e.1 _
    (ap₂ ◌+◌ c.read_u32.ensures c.read_u32-2.ensures)
    (omega (arith, c.if-slots-points.true, layout-slots A.new.now A.larger S.requires.1.shape))

abbrev start-at-shared-slice-known2 : tie.After-shared_slice_known-2-1 → tie.Start
start-at-shared-slice-known2 c = c.before.before

abbrev start-at-then3 : tie.Then-mode-m → tie.Start
start-at-then3 c = c.before.before.before.before.before.before.before.before

returns-4 : tie.Need-returns-then-mode-m
returns-4 c =
    let S = (start-at-then3 c) in
    let A = S.args in
    let e = only-empty A.found c.in-Empty.in-Empty-own.keys1 in
    asked-bare A.old.now A.new.now A.m A.mode (probe_of A.found)
    c.if-mode-eq-WITHDRAW.false e.0 e.1 _
    (ap₂ ◌+◌ c.read_u32.ensures c.read_u32-2.ensures)
    (omega (arith, c.if-slots-points.false, layout-slots A.new.now A.larger S.requires.1.shape)) c.if-mode-m.true

new-requires : tie.Need-new-requires
new-requires c κs = search rules

abbrev start-at-else1 : tie.Else-mode-eq-WITHDRAW → tie.Start
start-at-else1 c = c.before.before.before

abbrev start-at-new : tie.After-new → tie.Start
start-at-new c = c.before.before.before.before.before.before.before.before.before

room-beside-requires : tie.Need-room_beside-requires
room-beside-requires c κs =
    let S = (start-at-new c) in
    (S.requires.0, S.requires.1, zero-sound _ _ _ c.new.ensures, omega arith)

abbrev start-at-match-keys1 : tie.In-Empty → tie.Start
start-at-match-keys1 c = c.before.before.before.before

abbrev start-at-room-beside : tie.After-room_beside → tie.Start
start-at-room-beside c = c.before.before.before.before.before.before.before.before.before.before

abbrev else1-at-match-keys1 : tie.In-Empty → tie.Else-mode-eq-WITHDRAW
else1-at-match-keys1 c = c.before

abbrev else1-at-room-beside : tie.After-room_beside → tie.Else-mode-eq-WITHDRAW
else1-at-room-beside c = c.before.before.before.before.before.before.before

returns-5 : tie.Need-returns
returns-5 c =
    let S = (start-at-room-beside c) in
    let A = S.args in
    let e = only-empty A.found c.in-Empty.in-Empty-own.keys1 in
    asked-fresh A.old.now A.new.now A.m A.mode (probe_of A.found) (else1-at-room-beside c).if-mode-eq-WITHDRAW.false
    e.0 e.1 _
    (ap₂ ◌+◌ c.read_u32.ensures
    c.read_u32-2.ensures)
    (omega (arith, c.if-slots-points.false, layout-slots A.new.now A.larger S.requires.1.shape))
    c.if-mode-m.false
    c.new.result.0 c.new.ensures c.room_beside.result c.room_beside.ensures

pub absent_number_spec : {M : Type 1} → statement M
absent_number_spec =
    tie.close
    (tie.spec
    returns
    enum_told
    returns-2
    read-u32-requires
    cast-points
    read-u32-requires-2
    cast-points-2
    add-points
    returns-3
    returns-4
    new-requires
    room-beside-requires
    returns-5)
