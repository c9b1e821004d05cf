-- The message that stands in the slot: bad where question 11 fails, else the length that it shows. Assumes nothing.
use native.Mathlib.Omega.{arith}
use mathlib.Core.Path.{◌≡◌, sym, ap}
use lib.ListN.{length}
use borrow.Author.Rules.{rules}
use Rattle.spec_file.specs.Bytes.{Bytes}
use Rattle.spec_file.specs.Image.{layout_of}
use Rattle.law_file.proofs.Tests.{was-no, was-yes}
use Rattle.law_file.proofs.Effects.{message-fits}
use Rattle.law_file.proofs.Opened.{opened-facts}
use Rattle.header_layout.proofs.Shaped.{shape-head}
use Rattle.table_search.specs.Slots.{offset_in}
use Rattle.lister_text.specs.Text.{decimal}
use Rattle.lister_text.proofs.Putting.{put_same}
use Rattle.lister_rows.specs.Listed.{bad, length_text}
use Rattle.lister_rows.proofs.Rows.{text-bad, text-sound}
use Rattle.lister_rows.proofs.put_length.Statement.{statement}
use Rattle.lister_rows.proofs.put_length.Tie as tie

offset-of-requires : tie.Need-offset_of-o-requires
offset-of-requires c κs = search rules

message-sound-requires : tie.Need-message_sound-requires
message-sound-requires c κs = search rules

-- the start, seen from question 11, and the length that the slot's line tells
abbrev start : tie.After-message_sound → tie.Start
start c = c.before.before.before.before

abbrev told : tie.After-message_sound → Bytes
told c =
    let img : Bytes = (start c).args.image.now in
    length_text (layout_of img) img (offset_in img (start c).args.i.0)

bad-text : (c : tie.Then-not-message_sound) → told c.before ≡ bad
bad-text c =
    let M = c.before in
    let O = M.offset_of-o in
    let img = (start M).args.image.now in
    text-bad (layout_of img) img O.result.0 _ O.ensures (was-no M.message_sound.ensures c.if-not-message_sound.true)

put-bytes-requires : tie.Need-put_bytes-requires
put-bytes-requires c κs =
    let T = c.before.before.before in
    omega (arith, (start c.before.before.before.before).requires.2, ap length (bad-text T))

same_length : tie.Need-shape_of-out-then-not-message_sound
same_length c = search rules

returns : tie.Need-returns-then-not-message_sound
returns c =
    let P = c in
    put_same (sym (bad-text P.before.before.before.before.before.before)) P.put_bytes.ensures

-- behind question 11 the header lies in the image
shown-length-requires : tie.Need-shown_length-requires
shown-length-requires c κs =
    let M = c.before.before in
    let S = start M in
    let o = M.offset_of-o.result.0 in
    let s = was-yes M.message_sound.ensures c.if-not-message_sound.false in
    let head = message-fits S.args.image.now (opened-facts _ S.requires.0.accepted) o s in
    (S.requires.0, omega (arith, head, shape-head S.requires.0))

shown-text : (c : tie.After-shown_length) → told c.before.before.before ≡ decimal c.shown_length.result
shown-text c =
    let E = c in
    let M = c.before.before.before in
    let O = M.offset_of-o in
    let img = (start M).args.image.now in
    text-sound (layout_of img) img O.result.0 _ O.ensures (was-yes M.message_sound.ensures E.if-not-message_sound.false)
    c.shown_length.result c.shown_length.ensures

put-decimal-requires : tie.Need-put_decimal-requires
put-decimal-requires c κs = omega (arith, (start c.before.before.before).requires.2, ap length (shown-text c))

same-length-2 : tie.Need-shape_of-out
same-length-2 c = search rules

returns-2 : tie.Need-returns
returns-2 c =
    let P = c in
    put_same (sym (shown-text P.before.before.before)) P.put_decimal.ensures

pub put_length_spec : {M : Type 1} → statement M
put_length_spec =
    tie.close
    (tie.spec
    offset-of-requires
    message-sound-requires
    put-bytes-requires
    same_length
    returns
    shown-length-requires
    put-decimal-requires
    same-length-2
    returns-2)
