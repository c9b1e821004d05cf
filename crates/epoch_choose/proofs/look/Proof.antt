-- `epoch_choose::look` meets its contract: slot i is passed over, or it is the best so far. Assumes nothing.
use mathlib.Core.Path.{sym, ◌∙◌}
use borrow.Author.Rules.{rules}
use Rattle.law_file.proofs.Tests.{was-no, was-yes}
use Rattle.epoch_choose.proofs.Keys.{key-long, slot-epoch}
use Rattle.epoch_choose.proofs.Best.{looked-over, looked-at}
use Rattle.epoch_choose.proofs.look.Statement.{statement}
use Rattle.epoch_choose.proofs.look.Tie as tie

is-eligible-requires : tie.Need-is_eligible-requires
is-eligible-requires c κs = c.requires.slot

returns : tie.Need-returns-then-not-is_eligible
returns c =
    let S = c in
    let A = S.args in
    looked-over A.image.now A.name.now A.t A.i A.best S.requires.kept
    (was-no c.is_eligible.ensures c.if-not-is_eligible.true)

key-of-requires : tie.Need-key_of-requires
key-of-requires c κs =
    let S = c in
    (S.requires.slot.named.opened, S.requires.slot.below)

epoch-of-requires : tie.Need-epoch_of-requires
epoch-of-requires c κs =
    let S = c in
    let A = S.args in
    key-long A.image.now A.shape A.name.now A.t A.i.0 A.mark S.requires.slot
    c.key_of.result.now c.key_of.ensures

later-requires : tie.Need-later-requires
later-requires c κs = search rules

returns-2 : tie.Need-returns
returns-2 c =
    let E = c in
    let K = c in
    let T = c in
    let S = c in
    let A = S.args in
    let epoch =
    slot-epoch A.image.now A.shape A.name.now A.t A.i.0 A.mark S.requires.slot
    K.key_of.result.now K.key_of.ensures in
    looked-at A.image.now A.name.now A.t A.i A.best S.requires.kept E.epoch_of.result
    (E.epoch_of.ensures ∙ sym epoch) (was-yes T.is_eligible.ensures T.if-not-is_eligible.false)
    c.later.result c.later.ensures

pub look_spec : {M : Type 1} → statement M
look_spec =
    tie.close
    (tie.spec
    is-eligible-requires
    returns
    key-of-requires
    epoch-of-requires
    later-requires
    returns-2)
