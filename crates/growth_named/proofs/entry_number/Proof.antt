-- By how the search in the new image ended. Assumes nothing.
use native.Mathlib.Omega.{arith}
use mathlib.Core.Path.{sym, ap, ◌∙◌}
use Rattle.spec_file.specs.Image.{layout_of}
use Rattle.spec_file.specs.Messages.{text_at}
use Rattle.spec_file.specs.Questions.{place_number}
use Rattle.law_file.proofs.Tests.{was-no, was-yes}
use Rattle.law_file.proofs.Opened.{opened-facts}
use Rattle.law_file.proofs.Effects.{message-head}
use Rattle.table_search.proofs.Headers.{layout-slots}
use Rattle.growth_beside.proofs.Asked.{only-empty}
use Rattle.call_add_present.proofs.Shown.{head-fits}
use Rattle.growth_named.proofs.Entries.{only-met, only-exhausted, shown-none, shown-some, text-size, entry-9, entry-exhausted, entry-full, entry-room, entry-bare}
use borrow.Author.Rules.{rules}
use Rattle.growth_named.proofs.entry_number.Statement.{statement}
use Rattle.growth_named.proofs.entry_number.Tie as tie

search-requires : tie.Need-search-probed-requires
search-requires c κs = search rules

enum_told : tie.Need-enum_told-1
enum_told c = search rules

enum-told-2 : tie.Need-enum_told-in-Empty
enum-told-2 c = search rules

read-u32-requires : tie.Need-read_u32-requires
read-u32-requires c κs =
    omega (arith, (opened-facts _ c.requires.1.accepted).size_low)

cast-if1 : tie.Need-overflow_cast-read_u32
cast-if1 c = search rules

abbrev start-at-shared-slice-known : tie.After-shared_slice_known-1 → tie.Start
start-at-shared-slice-known c = c.before

abbrev start-at-then1 : tie.Then-slots-read_u32 → tie.Start
start-at-then1 c = c.before.before.before.before.before.before.before

returns : tie.Need-returns-then-slots-read_u32
returns c =
    let S = (start-at-then1 c) in
    let A = S.args in
    let f = c.search-probed.result.found in
    let e = only-empty f c.in-Empty.in-Empty-own.keys2 in
    sym (entry-full A.new.now A.key.now f c.search-probed.ensures.0 _ e.0
    e.1
    (omega (
      arith,
      c.if-slots-read_u32.true,
      c.read_u32.ensures,
      layout-slots A.new.now A.larger
          S.requires.1.shape,
    )))

abbrev start-at-else1 : tie.Else-slots-read_u32 → tie.Start
start-at-else1 c = c.before.before.before.before.before.before.before

is-active-requires : tie.Need-is_active-requires
is-active-requires c κs =
    let S = (start-at-else1 c) in
    let f = opened-facts _ S.requires.0.accepted in
    omega (arith, message-head _ f S.args.o.0 S.requires.2)

abbrev start-at-shared-slice-known3 : tie.After-shared_slice_known-3-1 → tie.Start
start-at-shared-slice-known3 c = c.before.before.before

abbrev start-at-then2 : tie.Then-not-is_active → tie.Start
start-at-then2 c = c.before.before.before.before.before.before.before.before.before

returns-2 : tie.Need-returns-then-not-is_active
returns-2 c =
    let S = (start-at-then2 c) in
    let A = S.args in
    let f = c.search-probed.result.found in
    let e = only-empty f c.in-Empty.in-Empty-own.keys2 in
    sym (entry-bare A.new.now A.key.now f
    c.search-probed.ensures.0 _ e.0 e.1
    (omega (
      arith,
      c.if-slots-read_u32.false,
      c.read_u32.ensures,
      layout-slots
          A.new.now A.larger S.requires.1.shape,
    ))
    (shown-none _ A.old.now A.o.0 (was-no c.is_active.ensures c.if-not-is_active.true)))

abbrev start-at-else2 : tie.Else-not-is_active → tie.Start
start-at-else2 c = c.before.before.before.before.before.before.before.before.before

length-at-requires : tie.Need-length_at-requires
length-at-requires c κs =
    let S = (start-at-else2 c) in
    (S.requires.0, head-fits S.requires.0 S.args.o.0 S.requires.2)

room-number-requires : tie.Need-room_number-requires
room-number-requires c κs = search rules

enum-told-3 : tie.Need-enum_told-in-Exhausted
enum-told-3 c = search rules

returns-3 : tie.Need-returns-in-Met
returns-3 c =
    let A = c.args in
    let f = c.search-probed.result.found in
    sym (entry-9 A.new.now A.key.now f c.search-probed.ensures.0 _
    (only-met f c.in-Met.in-Met-own.keys1))

abbrev start-at-match-keys2 : tie.In-Empty → tie.Start
start-at-match-keys2 c = c.before.before.before.before.before

abbrev start-at-room-number : tie.After-room_number → tie.Start
start-at-room-number c = c.before.before.before.before.before.before.before.before.before.before.before

abbrev search-at-match-keys2 : tie.In-Empty → tie.After-search-probed
search-at-match-keys2 c = c.before

abbrev search-at-room-number : tie.After-room_number → tie.After-search-probed
search-at-room-number c = c.before.before.before.before.before.before.before

returns-4 : tie.Need-returns-else-not-is_active
returns-4 c =
    let few = c.if-slots-read_u32.false in
    let points = c.read_u32.ensures in
    let S = (start-at-room-number c) in
    let A = S.args in
    let f = (search-at-room-number c).search-probed.result.found in
    let e = only-empty f c.in-Empty.in-Empty-own.keys2 in
    let active = was-yes c.is_active.ensures c.if-not-is_active.false in
    c.room_number.ensures (text_at (layout_of A.old.now) A.old.now A.o.0)
    (text-size S.requires.0 A.o.0 S.requires.2 active ∙ sym c.length_at.ensures)
    ∙ sym (entry-room A.new.now A.key.now f (search-at-room-number c).search-probed.ensures.0 _ e.0 e.1
    (omega (arith, few, points, layout-slots A.new.now A.larger S.requires.1.shape))
    ∙ ap (place_number (layout_of A.new.now) A.new.now)
    (shown-some (layout_of A.old.now) A.old.now A.o.0 active))

returns-5 : tie.Need-returns-in-Exhausted
returns-5 c =
    let A = c.args in
    let f = c.search-probed.result.found in
    sym (entry-exhausted A.new.now A.key.now f c.search-probed.ensures.0 _
    (only-exhausted f c.in-Exhausted.in-Exhausted-own.keys3))

pub entry_number_spec : {M : Type 1} → statement M
entry_number_spec =
    tie.close
    (tie.spec
    search-requires
    enum_told
    enum-told-2
    read-u32-requires
    cast-if1
    returns
    is-active-requires
    returns-2
    length-at-requires
    room-number-requires
    enum-told-3
    returns-3
    returns-4
    returns-5)
