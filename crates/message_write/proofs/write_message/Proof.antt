-- Letter, length and bytes, around the bytes that stand there already, are the message. Assumes nothing.
use Prim.Native.Nat.{◌+◌, ◌-◌}
use native.Mathlib.Omega.{arith}
use mathlib.Core.Path.{◌≡◌, ap, ap₂, ◌∙◌}
use lib.ListN.{length}
use borrow.Author.Rules.{rules}
use borrow.Rule.Slice.PartMut.{mid_len, same_len_mid}
use Rattle.spec_file.specs.Bytes.{Bytes, store}
use Rattle.law_file.proofs.Stores.{store-lent}
use Rattle.message_write.proofs.Placed.{written_at}
use Rattle.message_write.proofs.write_message.Statement.{statement}
use Rattle.message_write.proofs.write_message.Tie as tie

add-m : tie.Need-overflow_add-m
add-m c = search rules

write-head-requires : tie.Need-write_head-requires
write-head-requires c κs = (c.requires.0, omega (arith, c.requires.1))

abbrev start-at-write-head : tie.After-write_head → tie.Start
start-at-write-head c = c.before.before.before.before

-- with the header written, the space is as long as before
kept : (c : tie.After-write_head)
    → length c.write_head.new.space ≡ length (start-at-write-head c).args.space.now
kept c = c.write_head.auto.space

long : (c : tie.After-write_head)
    → let S : tie.Start = start-at-write-head c in
    length c.write_head.new.space ≡ S.args.head + S.args.before + length S.args.bytes.now
long c = kept c ∙ (start-at-write-head c).requires.1

add-from : tie.Need-overflow_add-from
add-from c = search rules

sub-copy : tie.Need-slice_bounds-copy-count
sub-copy c = omega (arith, long c.before.before)

part-copy-start : tie.Need-slice_bounds-copy-start
part-copy-start c = omega (arith, long c.before.before)

part-copy-end : tie.Need-slice_bounds-copy-end
part-copy-end c = search rules

abbrev start-at-copy-arg : tie.After-copy-arg-1 → tie.Start
start-at-copy-arg c = c.before.before.before.before.before.before.before

copy-requires : tie.Need-copy-requires
copy-requires c κs =
    let W = c.before.before.before in
    let A = (start-at-copy-arg c).args in
    let t = W.write_head.new.space in
    mid_len (A.head + A.before) (length t) t (omega arith) ∙ omega (arith, long W)

abbrev write-head-at-slice-known3 : tie.After-slice_known-3-1 → tie.After-write_head
write-head-at-slice-known3 c = c.before.before.before.before.before.before

abbrev write-head-arg-at-slice-known3 : tie.After-slice_known-3-1 → tie.After-write_head-arg-1
write-head-arg-at-slice-known3 c = c.before.before.before.before.before.before.before

abbrev start-at-slice-known3 : tie.After-slice_known-3-1 → tie.Start
start-at-slice-known3 c = c.before.before.before.before.before.before.before.before.before.before

same_length : tie.Need-shape_of-space
same_length c =
    let v = c.copy in
    let W = (write-head-at-slice-known3 c) in
    let A = (start-at-slice-known3 c).args in
    let t = W.write_head.new.space in
    same_len_mid (A.head + A.before) (length t - (A.head + A.before)) t v.new.dst v.auto.dst ∙ kept W

returns : tie.Need-returns
returns c =
    let v = c.copy in
    let W = (write-head-at-slice-known3 c) in
    let S = (start-at-slice-known3 c) in
    let n = S.args.before in
    let head = S.args.head in
    let t = W.write_head.new.space in
    store-lent t (head + n) (length t) v.new.dst (ap length v.ensures ∙ omega (arith, long W))
    ∙ ap₂ (λ (b y : Bytes). store b (head + n) y) W.write_head.ensures v.ensures
    ∙ written_at S.args.space.now S.args.bytes.now n head (omega (arith, S.requires.0.low)) S.requires.1

pub write_message_spec : {M : Type 1} → statement M
write_message_spec =
    tie.close
    (tie.spec
    add-m
    write-head-requires
    add-from
    sub-copy
    part-copy-start
    part-copy-end
    copy-requires
    same_length
    returns)
