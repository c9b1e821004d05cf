-- `call_delete::remove` meets its contract: the message made inactive and C written leave the header accepted, with the
-- same layout, so that the walk is the definition's. Assumes nothing.
use Prim.Native.Nat.{◌-◌, ◌≤◌, ◌<◌}
use native.Mathlib.Omega.{arith}
use borrow.Author.Rules.{rules}
use mathlib.Core.Path.{◌≡◌, sym, ap, ◌∙◌, subst}
use lib.ListN.{length}
use Rattle.spec_file.specs.Bytes.{Bytes}
use Rattle.spec_file.specs.Image.{set_field}
use Rattle.spec_file.specs.Messages.{retire}
use Rattle.law_file.proofs.Opened.{opened-facts}
use Rattle.law_file.proofs.Effects.{message-head, retire-opened}
use Rattle.table_search.proofs.Heads.{SameHead, same-open}
use Rattle.call_delete.proofs.Removed.{head-counted, removed}
use Rattle.call_delete.proofs.remove.Statement.{statement}
use Rattle.call_delete.proofs.remove.Tie as tie

abbrev start-at-write-u32 : tie.After-write_u32 → tie.Start
start-at-write-u32 c = c.before.before.before.before.before.before.before

-- the image after C is written, and its header
counted : (c : tie.After-write_u32)
    → let A = (start-at-write-u32 c).args in
    c.write_u32.new.s ≡ set_field (retire A.image.now A.o.0) 20 (A.points - 1)
counted c =
    let R = c in
    let A = R.args in
    c.write_u32.ensures ∙ ap (λ (b : Bytes). set_field b 20 (A.points - 1)) R.retire.ensures

head : (c : tie.After-write_u32)
    → SameHead (start-at-write-u32 c).args.image.now c.write_u32.new.s
head c =
    let S = start-at-write-u32 c in
    let A = S.args in
    let p = S.requires in
    let f = opened-facts A.image.now p.0.accepted in
    subst (SameHead A.image.now) (sym (counted c))
    (head-counted A.image.now p.0.accepted A.o.0 p.3 (A.points - 1) (omega (arith, f.points, p.4)))

retire-requires : tie.Need-retire-requires
retire-requires c κs =
    let S = c in
    let A = S.args in
    let e : A.o.0 < length A.image.now =
    omega (
      arith,
      message-head A.image.now (opened-facts A.image.now S.requires.0.accepted) A.o.0
          S.requires.3,
    ) in
    e

sub-write-u32 : tie.Need-overflow_sub-points
sub-write-u32 c = search rules

write-u32-requires : tie.Need-write_u32-requires
write-u32-requires c κs =
    let R = c in
    let S = c in
    let A = S.args in
    let f = retire-opened A.image.now (opened-facts A.image.now S.requires.0.accepted) A.o.0 S.requires.3 in
    let e : 24 ≤ length R.retire.new.image = omega (arith, f.size_low, ap length R.retire.ensures) in
    e

close-requires : tie.Need-close-requires
close-requires c κs =
    let W = c.before.before.before in
    let S = c in
    (same-open (head W) S.requires.0, S.requires.1)

same_length : tie.Need-shape_of-image
same_length c = search rules

returns : tie.Need-returns
returns c =
    let C = c in
    let W = c.before.before.before.before.before.before in
    let S = c in
    let A = S.args in
    removed A.image.now A.i.0 A.o.0 A.points W.write_u32.new.s C.close.new.image S.requires.2
    S.requires.4
    (counted W) (head W).layout C.close.ensures

pub remove_spec : {M : Type 1} → statement M
remove_spec =
    tie.close
    (tie.spec
    retire-requires
    sub-write-u32
    write-u32-requires
    close-requires
    same_length
    returns)
