-- 17 for a journal that is too short or marked; else all writes are carried out. Assumes nothing.
use Prim.Native.Nat.{◌+◌, ◌*◌}
use native.Mathlib.Omega.{arith}
use mathlib.Core.Path.{◌≡◌, sym, ap, ◌∙◌}
use mathlib.Core.Bool.{Bool, true, cond}
use mathlib.Core.List.{List}
use lib.ListN.{length}
use borrow.Author.Rules.{rules}
use Rattle.spec_changes.specs.Changes.{runs}
use Rattle.spec_changes.specs.Journal.{content, journal_allowed, Disk, Write, all_written, updates}
use Rattle.law_file.proofs.Outcomes.{settled-yes}
use Rattle.spec_changes.proofs.Recovery.{updates-arrive}
use Rattle.journal_commit.proofs.Carried.{counted-content, refused-short, refused-mark, allowed-both, taken-all, update-refused}
use Rattle.journal_commit.proofs.update.Statement.{statement}
use Rattle.journal_commit.proofs.update.Tie as tie

abbrev start : tie.After-measure-tally → tie.Start
start M = M.before.before.before.before

-- how long the content is
sized : (M : tie.After-measure-tally)
    → let S : tie.Start = start M in
    length (content (runs 0 S.args.image.now S.args.new.now) S.args.new.now)
    ≡ 4 + 8 * M.measure-tally.result.pairs + M.measure-tally.result.bytes
sized M =
    let S = start M in
    counted-content S.args.image.now S.args.new.now S.args.journal.now S.requires.0
    M.measure-tally.result.pairs M.measure-tally.result.bytes M.measure-tally.ensures.counted M.measure-tally.ensures.summed

measure-requires : tie.Need-measure-tally-requires
measure-requires c κs = search rules

mul-content : tie.Need-overflow_mul-content
mul-content c = search rules

add-content : tie.Need-overflow_add-content
add-content c = search rules

add-content-2 : tie.Need-overflow_add-content-2
add-content-2 c = search rules

same_length : tie.Need-shape_of-image-then-end-content
same_length c = search rules

returns : tie.Need-returns-then-end-content
returns c =
    let M = c.before in
    let S = start M in
    update-refused S.args.image.now S.args.new.now S.args.journal.now _
    (refused-short S.args.image.now S.args.new.now S.args.journal.now S.requires.0
    (omega (arith, c.if-end-content.true, sized M)))

sub-last : tie.Need-overflow_sub-last
sub-last c = search rules

slice-read-if2 : tie.Need-bounds-journal-last
slice-read-if2 c = search rules

same-length-2 : tie.Need-shape_of-image-then-journal-last-ne0
same-length-2 c = search rules

returns-2 : tie.Need-returns-then-journal-last-ne0
returns-2 c =
    let S = start c.before.before.before in
    update-refused S.args.image.now S.args.new.now S.args.journal.now _
    (refused-mark S.args.image.now S.args.new.now S.args.journal.now S.requires.0 c.if-journal-last-ne0.true)

add-carry-out : tie.Need-overflow_add-pairs
add-carry-out c = search rules

-- question 17 answered yes
allowed : (E : tie.Else-journal-last-ne0)
    → let S : tie.Start = start E.before.before.before in
    journal_allowed S.args.image.now S.args.new.now S.args.journal.now ≡ true
allowed E =
    let T = E in
    let S = start E.before.before.before in
    allowed-both S.args.image.now S.args.new.now S.args.journal.now S.requires.0
    (omega (arith, T.if-end-content.false, sized E.before.before.before)) E.if-journal-last-ne0.false

carry-out-requires : tie.Need-carry_out-requires
carry-out-requires c κs =
    let E = c.before.before in
    let M = c.before.before.before.before.before in
    let S = start M in
    (S.requires.0, S.requires.1, M.measure-tally.ensures.counted, allowed E, omega arith)

same-length-3 : tie.Need-shape_of-image
same-length-3 c = search rules

same-length-4 : tie.Need-shape_of-journal
same-length-4 c = search rules

returns-3 : tie.Need-returns
returns-3 c =
    let K = c in
    let E = c.before.before.before.before.before.before.before in
    let M = c.before.before.before.before.before.before.before.before.before.before in
    let S = start M in
    let old = S.args.image.now in
    let new = S.args.new.now in
    let j = S.args.journal.now in
    let before : Disk = record { image = old; journal = j } in
    let all = ap (λ (ws : List Write). all_written ws before)
    (taken-all old new j (M.measure-tally.result.pairs + 3) (omega (arith, M.measure-tally.ensures.counted))) in (
      sym (ap (λ (b : Bool). cond b 0 17) (allowed E)),
      K.carry_out.ensures.image-is
          ∙ ap (λ (d : Disk). d.image) all
          ∙ ap (λ (d : Disk). d.image)
          (updates-arrive old new j S.requires.0 (omega (arith, S.requires.0, S.requires.1)) (allowed E))
          ∙ sym (settled-yes 0 old new (omega arith)),
      K.carry_out.ensures.journal-is
          ∙ ap (λ (d : Disk). d.journal) all
          ∙ sym (settled-yes 0 j (all_written (updates old new j) before).journal (omega arith)),
    )

pub update_spec : {M : Type 1} → statement M
update_spec =
    tie.close
    (tie.spec
    measure-requires
    mul-content
    add-content
    add-content-2
    same_length
    returns
    sub-last
    slice-read-if2
    same-length-2
    returns-2
    add-carry-out
    carry-out-requires
    same-length-3
    same-length-4
    returns-3)
