-- Questions 1 to 4 in turn: each that is passed over was answered yes. Assumes nothing.
use mathlib.Core.Path.{sym}
use native.Mathlib.Omega.{arith}
use Rattle.law_file.proofs.Tests.{was-no, was-yes}
use Rattle.call_create.proofs.Numbered.{create-1, create-2, create-3, create-4, create-0, key-most, slots-most}
use borrow.Author.Rules.{rules}
use Rattle.call_create.proofs.asked.create_number.Statement.{statement}
use Rattle.call_create.proofs.asked.create_number.Tie as tie

size-allowed-requires : tie.Need-size_allowed-requires
size-allowed-requires c κs = search rules

returns : tie.Need-returns-then-not-size_allowed
returns c = sym (create-1 _ _ _ (was-no c.size_allowed.ensures c.if-not-size_allowed.true))

key-allowed-requires : tie.Need-key_allowed-requires
key-allowed-requires c κs = search rules

returns-2 : tie.Need-returns-then-not-key_allowed
returns-2 c =
    let A = c in
    sym
    (create-2 _ _ _
    (was-yes A.size_allowed.ensures A.if-not-size_allowed.false)
    (was-no c.key_allowed.ensures c.if-not-key_allowed.true))

slots-allowed-requires : tie.Need-slots_allowed-requires
slots-allowed-requires c κs = search rules

returns-3 : tie.Need-returns-then-not-slots_allowed
returns-3 c =
    let A = c in
    let B = c in
    sym
    (create-3 _ _ _
    (was-yes A.size_allowed.ensures A.if-not-size_allowed.false)
    (was-yes B.key_allowed.ensures B.if-not-key_allowed.false)
    (was-no c.slots_allowed.ensures c.if-not-slots_allowed.true))

data-start-requires : tie.Need-data_start-requires
data-start-requires c κs =
    let B = c in (
      omega (arith, key-most _ (was-yes B.key_allowed.ensures B.if-not-key_allowed.false)),
      omega (arith, slots-most _ (was-yes c.slots_allowed.ensures c.if-not-slots_allowed.false)),
    )

returns-4 : tie.Need-returns-then-len-data_start
returns-4 c =
    let A = c in
    let B = c in
    let C = c in
    let e = c.data_start.ensures in
    sym
    (create-4 _ _ _
    (was-yes A.size_allowed.ensures A.if-not-size_allowed.false)
    (was-yes B.key_allowed.ensures B.if-not-key_allowed.false)
    (was-yes C.slots_allowed.ensures C.if-not-slots_allowed.false)
    (omega (arith, c.if-len-data_start.true, e)))

returns-5 : tie.Need-returns
returns-5 c =
    let A = c in
    let B = c in
    let C = c in
    let e = c.data_start.ensures in
    sym
    (create-0 _ _ _
    (was-yes A.size_allowed.ensures A.if-not-size_allowed.false)
    (was-yes B.key_allowed.ensures B.if-not-key_allowed.false)
    (was-yes C.slots_allowed.ensures C.if-not-slots_allowed.false)
    (omega (arith, c.if-len-data_start.false, e)))

pub create_number_spec : {M : Type 1} → statement M
create_number_spec =
    tie.close
    (tie.spec
    size-allowed-requires
    returns
    key-allowed-requires
    returns-2
    slots-allowed-requires
    returns-3
    data-start-requires
    returns-4
    returns-5)
