-- `epoch_choose::is_eligible` meets its contract: the name, the epoch, and that the slot is not empty. Assumes nothing.
use native.Mathlib.Omega.{arith}
use borrow.Author.Rules.{rules}
use Rattle.law_file.proofs.Tests.{was-no, was-yes}
use Rattle.law_file.proofs.Bytes.{AreBytes}
use Rattle.epoch_choose.proofs.Keys.{key-long, name-short, eligible-other, eligible-later, eligible-here}
use Rattle.epoch_choose.proofs.is_eligible.Statement.{statement}
use Rattle.epoch_choose.proofs.is_eligible.Tie as tie

-- the image is bytes
are-bytes : (c : tie.After-key_of-key) → AreBytes c.args.image.now
are-bytes c i = omega (arith, c.shared_slice_known-1.given i)

key-of-requires : tie.Need-key_of-key-requires
key-of-requires c κs = let S = c in (S.requires.named.opened, S.requires.below)

is-named-requires : tie.Need-is_named-requires
is-named-requires c κs =
    let S = c in
    let A = S.args in
    record {
      room =
          name-short A.image.now A.shape A.name.now A.t A.i.0 A.mark S.requires
          c.key_of-key.result.now c.key_of-key.ensures;
      marks = S.requires.marks;
    }

returns : tie.Need-returns-then-not-is_named
returns c =
    let K = c.before.before in
    let S = c in
    let A = S.args in
    eligible-other A.image.now A.shape A.name.now A.t A.i.0 A.mark S.requires
    K.key_of-key.result.now K.key_of-key.ensures (are-bytes K) (was-no c.is_named.ensures c.if-not-is_named.true)

epoch-of-requires : tie.Need-epoch_of-requires
epoch-of-requires c κs =
    let K = c in
    let S = c in
    let A = S.args in
    key-long A.image.now A.shape A.name.now A.t A.i.0 A.mark S.requires
    K.key_of-key.result.now K.key_of-key.ensures

returns-2 : tie.Need-returns-then-t-epoch_of
returns-2 c =
    let E = c in
    let K = c.before.before.before.before in
    let S = c in
    let A = S.args in
    eligible-later A.image.now A.shape A.name.now A.t A.i.0 A.mark S.requires
    K.key_of-key.result.now K.key_of-key.ensures (are-bytes K) (was-yes E.is_named.ensures E.if-not-is_named.false)
    c.epoch_of.result c.epoch_of.ensures c.if-t-epoch_of.true

all-zero-requires : tie.Need-all_zero-requires
all-zero-requires c κs = search rules

returns-3 : tie.Need-returns
returns-3 c =
    let T = c in
    let E = c in
    let K = c.before.before.before.before.before in
    let S = c in
    let A = S.args in
    eligible-here A.image.now A.shape A.name.now A.t A.i.0 A.mark S.requires
    K.key_of-key.result.now K.key_of-key.ensures (are-bytes K) (was-yes E.is_named.ensures E.if-not-is_named.false)
    T.epoch_of.result T.epoch_of.ensures T.if-t-epoch_of.false
    c.all_zero.result c.all_zero.ensures

pub is_eligible_spec : {M : Type 1} → statement M
is_eligible_spec =
    tie.close
    (tie.spec
    key-of-requires
    is-named-requires
    returns
    epoch-of-requires
    returns-2
    all-zero-requires
    returns-3)
