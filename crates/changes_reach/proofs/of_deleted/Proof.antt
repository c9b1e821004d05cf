-- Question 14, question 11, then the windows of the walk. Assumes nothing.
use Prim.Native.Nat.{ℕ}
use native.Mathlib.Omega.{arith}
use mathlib.Core.Path.{◌≡◌, sym, ap, ◌∙◌, subst}
use mathlib.Core.Bool.{true}
use lib.ListN.{length}
use Rattle.spec_file.specs.Image.{layout_of}
use Rattle.spec_file.specs.Questions.{message_sound}
use Rattle.law_file.proofs.Tests.{not-both, was-no, was-yes}
use Rattle.law_file.proofs.Opened.{opened-facts, opened-room}
use Rattle.changes_windows.specs.declared.Windows.{Windows}
use Rattle.table_search.specs.Slots.{offset_in}
use Rattle.table_search.specs.Probes.{probe_of}
use Rattle.table_search.proofs.Headers.{layout-slots}
use Rattle.table_search.proofs.Taken.{other-met, met-is, met-within}
use Rattle.changes_extent.specs.Reaches.{Walk, DeleteOnly}
use Rattle.changes_extent.proofs.Reaching.{delete-present, delete-none}
use borrow.Author.Rules.{rules}
use Rattle.changes_reach.proofs.of_deleted.Statement.{statement}
use Rattle.changes_reach.proofs.of_deleted.Tie as tie

enum-known-found : tie.Need-enum_known-found
enum-known-found c = search rules

none-requires : tie.Need-none-requires
none-requires c κs = search rules

returns : tie.Need-returns-in_default
returns c =
    let A = c.args in (
      c.none.ensures (length A.image.now),
      delete-none A.image.now c.none.result (probe_of A.found)
          (other-met A.found c.in_default.in_default-own.keys2),
    )

offset-of-requires : tie.Need-offset_of-o-requires
offset-of-requires c κs =
    let S = c in
    (S.requires.0, met-within c.in-Met.is S.requires.1)

message-sound-requires : tie.Need-message_sound-requires
message-sound-requires c κs = search rules

none-requires-2 : tie.Need-none-requires-then-not-message_sound
none-requires-2 c κs = search rules

abbrev start : tie.After-offset_of-o → tie.Start
start O = O.before.before.before

abbrev slot_of : tie.After-offset_of-o → ℕ
slot_of O = O.in-Met.slot.0

-- of a point that is present, where its message is sound
present : (O : tie.After-offset_of-o) (w : Windows)
    → let A : tie.Start = start O in
    (message_sound (layout_of A.args.image.now) A.args.image.now (offset_in A.args.image.now (slot_of O))
    ≡ true
    → Walk A.args.image.now (slot_of O) (offset_in A.args.image.now (slot_of O)) w)
    → DeleteOnly A.args.image.now (probe_of A.args.found) w
present O w h key e =
    let S = start O in
    let m = O.in-Met in
    let l = met-within m.is S.requires.1 in
    delete-present S.args.image.now w (slot_of O)
    (omega (arith, l, layout-slots S.args.image.now S.args.shape S.requires.0.shape))
    (opened-room S.args.image.now (opened-facts S.args.image.now S.requires.0.accepted))
    h key (e ∙ met-is m.is)

returns-2 : tie.Need-returns-then-not-message_sound
returns-2 c =
    let T = c in
    let O = c.before.before.before in
    let S = start O in (
      c.none-then-not-message_sound.ensures (length S.args.image.now),
      present O c.none-then-not-message_sound.result (λ s. absurd (not-both
          (message_sound (layout_of S.args.image.now) S.args.image.now
          (offset_in S.args.image.now (slot_of O))) s
          (ap (message_sound (layout_of S.args.image.now) S.args.image.now) (sym O.offset_of-o.ensures)
          ∙ was-no T.message_sound.ensures T.if-not-message_sound.true))),
    )

of-walk-requires : tie.Need-of_walk-requires
of-walk-requires c κs =
    let O = c.before.before in
    let S = start O in (
      S.requires.0,
      met-within O.in-Met.is S.requires.1,
      was-yes c.message_sound.ensures c.if-not-message_sound.false,
    )

returns-3 : tie.Need-returns
returns-3 c =
    let O = c.before.before.before in
    let S = start O in (
      c.of_walk.ensures.0,
      present O c.of_walk.result
          (λ s. subst (λ (a : ℕ). Walk S.args.image.now (slot_of O) a c.of_walk.result) O.offset_of-o.ensures
          c.of_walk.ensures.1),
    )

pub of_deleted_spec : {M : Type 1} → statement M
of_deleted_spec =
    tie.close
    (tie.spec
    enum-known-found
    none-requires
    returns
    offset-of-requires
    message-sound-requires
    none-requires-2
    returns-2
    of-walk-requires
    returns-3)
