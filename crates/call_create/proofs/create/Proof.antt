-- A refused call changes no byte; an accepted one leaves the fresh image. Assumes nothing.
use borrow.Author.Rules.{rules}
use mathlib.Core.Path.{sym, ap, ◌∙◌}
use Prim.Native.Nat.{ℕ}
use lib.ListN.{length}
use Rattle.spec_file.specs.Create.{fresh_image}
use Rattle.spec_file.specs.Questions.{create_number}
use Rattle.call_create.proofs.Numbered.{create-answers, create-kept, create-fresh}
use Rattle.call_create.proofs.create.Statement.{statement}
use Rattle.call_create.proofs.create.Tie as tie

slots-asked-requires : tie.Need-slots_asked-meant-requires
slots-asked-requires c κs = search rules

create-number-requires : tie.Need-create_number-number-requires
create-number-requires c κs = search rules

returns : tie.Need-returns-then-number-ne0
returns c =
    let Q = c in
    let A = Q.args in
    let img = A.image.now in
    let e = Q.create_number-number.ensures ∙ ap (create_number (length img) A.size) Q.slots_asked-meant.ensures in
    let n = Q.create_number-number.result in (
      create-answers img A.size A.slots A.seed n e,
      create-kept img A.size A.slots A.seed n e c.if-number-ne0.true,
    )

write-fresh-requires : tie.Need-write_fresh-requires
write-fresh-requires c κs = search rules

same_length : tie.Need-shape_of-image
same_length c = search rules

returns-2 : tie.Need-returns
returns-2 c =
    let W = c in
    let E = c in
    let Q = c in
    let A = Q.args in
    let img = A.image.now in
    let m = Q.slots_asked-meant.ensures in
    let e = Q.create_number-number.ensures ∙ ap (create_number (length img) A.size) m in
    let n = Q.create_number-number.result in (
      sym E.if-number-ne0.false ∙ create-answers img A.size A.slots A.seed n e,
      W.write_fresh.ensures
          ∙ ap (λ (k : ℕ). fresh_image (length img) A.size k A.seed) m
          ∙ create-fresh img A.size A.slots A.seed n e E.if-number-ne0.false,
    )

pub create_spec : {M : Type 1} → statement M
create_spec =
    tie.close
    (tie.spec
    slots-asked-requires
    create-number-requires
    returns
    write-fresh-requires
    same_length
    returns-2)
