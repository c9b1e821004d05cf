-- The key's search ends at the slot, and its message passes. Assumes nothing.
use mathlib.Core.Path.{sym, ◌∙◌}
use borrow.Author.Rules.{rules}
use Rattle.spec_file.specs.Image.{layout_of}
use Rattle.law_file.proofs.Tests.{was-no, was-yes}
use Rattle.check_entries.proofs.Turns.{ends-false, ends-true}
use Rattle.check_entries.proofs.entry_sound.Statement.{statement}
use Rattle.check_entries.proofs.entry_sound.Tie as tie

ends-here-requires : tie.Need-ends_here-requires
ends-here-requires c κs = search rules

returns : tie.Need-returns-then-not-ends_here
returns c =
    let A = c.args in
    ends-false (layout_of A.image.now) A.image.now A.i.0
    (was-no c.ends_here.ensures c.if-not-ends_here.true)

offset-of-requires : tie.Need-offset_of-requires
offset-of-requires c κs = search rules

message-sound-requires : tie.Need-message_sound-requires
message-sound-requires c κs = search rules

returns-2 : tie.Need-returns
returns-2 c =
    let E = c in
    let A = E.args in
    let o = c.offset_of in
    ends-true (layout_of A.image.now) A.image.now A.i.0
    (was-yes E.ends_here.ensures E.if-not-ends_here.false)
    c.message_sound.result o.result.0 o.ensures c.message_sound.ensures

pub entry_sound_spec : {M : Type 1} → statement M
entry_sound_spec =
    tie.close
    (tie.spec
    ends-here-requires
    returns
    offset-of-requires
    message-sound-requires
    returns-2)
