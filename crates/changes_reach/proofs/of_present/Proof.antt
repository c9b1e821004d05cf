-- Question 11, then the windows of the slot and its message. Assumes nothing.
use Prim.Native.Nat.{ℕ}
use mathlib.Core.Path.{sym, ap, ◌∙◌, subst}
use lib.ListN.{length}
use Rattle.spec_file.specs.Image.{layout_of}
use Rattle.spec_file.specs.Questions.{message_sound}
use Rattle.law_file.proofs.Tests.{not-both, was-no, was-yes}
use Rattle.table_search.specs.Slots.{offset_in}
use Rattle.changes_extent.specs.Reaches.{Entry}
use borrow.Author.Rules.{rules}
use Rattle.changes_reach.proofs.of_present.Statement.{statement}
use Rattle.changes_reach.proofs.of_present.Tie as tie

offset-of-requires : tie.Need-offset_of-o-requires
offset-of-requires c κs = search rules

message-sound-requires : tie.Need-message_sound-requires
message-sound-requires c κs = search rules

none-requires : tie.Need-none-requires
none-requires c κs = search rules

returns : tie.Need-returns-then-not-message_sound
returns c =
    let T = c in
    let O = c in
    let A = O.args in (
      c.none.ensures (length A.image.now),
      λ s. absurd (not-both
          (message_sound (layout_of A.image.now) A.image.now (offset_in A.image.now A.i.0)) s
          (ap (message_sound (layout_of A.image.now) A.image.now) (sym O.offset_of-o.ensures)
          ∙ was-no T.message_sound.ensures T.if-not-message_sound.true)),
    )

of-entry-requires : tie.Need-of_entry-requires
of-entry-requires c κs =
    let S = c in
    (S.requires.0, S.requires.1, was-yes c.message_sound.ensures c.if-not-message_sound.false)

returns-2 : tie.Need-returns
returns-2 c =
    let O = c in
    let A = O.args in (
      c.of_entry.ensures.0,
      λ s. subst (λ (a : ℕ). Entry A.image.now A.i.0 a A.m c.of_entry.result) O.offset_of-o.ensures
          c.of_entry.ensures.1,
    )

pub of_present_spec : {M : Type 1} → statement M
of_present_spec =
    tie.close
    (tie.spec
    offset-of-requires
    message-sound-requires
    none-requires
    returns
    of-entry-requires
    returns-2)
