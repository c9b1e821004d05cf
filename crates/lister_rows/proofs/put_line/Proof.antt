-- Six pieces, one behind the other. Assumes nothing.
use Prim.Native.Nat.{ℕ, ◌+◌, ◌≤◌}
use native.Mathlib.Omega.{arith}
use mathlib.Core.Path.{ap}
use lib.ListN.{length}
use borrow.Author.Rules.{rules}
use Rattle.spec_file.specs.Bytes.{Bytes}
use Rattle.spec_file.specs.Image.{layout_of, slot, key_of, offset_of}
use Rattle.lister_text.specs.Text.{decimal, hexes}
use Rattle.lister_text.proofs.Putting.{put_same, put_six}
use Rattle.lister_rows.specs.Listed.{length_text, line}
use Rattle.lister_rows.proofs.Rows.{line-length}
use Rattle.lister_rows.proofs.put_line.Statement.{statement}
use Rattle.lister_rows.proofs.put_line.Tie as tie

number-requires : tie.Need-number-requires
number-requires c κs = search rules

put-decimal-requires : tie.Need-put_decimal-a-requires
put-decimal-requires c κs =
    let S = c in
    let img = S.args.image.now in
    omega (
      arith,
      S.requires.2,
      line-length (layout_of img) img S.args.i.0,
      ap (λ (m : ℕ). length (decimal m)) c.number.ensures,
    )

-- ---- the stages: the start, and each piece that was put, seen from the next
abbrev start : tie.After-put_decimal-a → tie.Start
start c = c.before.before.before.before.before

abbrev decimal-put : tie.After-put_byte-b → tie.After-put_decimal-a
decimal-put c = c.before.before.before.before

abbrev byte_put : tie.After-put_key-c → tie.After-put_byte-b
byte_put c = c.before.before.before.before.before

abbrev key-put : tie.After-put_byte-d → tie.After-put_key-c
key-put c = c.before.before.before.before

abbrev byte2-put : tie.After-put_length-e → tie.After-put_byte-d
byte2-put c = c.before.before.before.before

-- ---- behind each piece there is room for the rest
-- the texts of the slot's key and of its message's length
abbrev key_text : tie.Start → Bytes
key_text c =
    let img : Bytes = c.args.image.now in
    hexes (key_of (layout_of img) (slot (layout_of img) img c.args.i.0))

abbrev length_told : tie.Start → Bytes
length_told c =
    let img : Bytes = c.args.image.now in
    length_text (layout_of img) img (offset_of (layout_of img) (slot (layout_of img) img c.args.i.0))

after-decimal : (c : tie.After-put_decimal-a)
    → c.put_decimal-a.result + (1 + length (key_text (start c)) + 1 + length (length_told (start c)) + 1)
    ≤ length c.put_decimal-a.new.out
after-decimal c =
    let S = start c in
    let img = S.args.image.now in
    let P = c.put_decimal-a in
    omega (
      arith,
      S.requires.2,
      line-length (layout_of img) img S.args.i.0,
      ap (λ (m : ℕ). length (decimal m)) c.number.ensures,
      P.ensures.ends,
      P.auto.out,
    )

after-byte : (c : tie.After-put_byte-b)
    → let S : tie.Start = start (decimal-put c) in
    c.put_byte-b.result + (length (key_text S) + 1 + length (length_told S) + 1) ≤ length c.put_byte-b.new.out
after-byte c =
    let P = c.put_byte-b in
    omega (arith, after-decimal (decimal-put c), P.ensures.ends, P.auto.out)

after-key : (c : tie.After-put_key-c)
    → let S : tie.Start = start (decimal-put (byte_put c)) in
    c.put_key-c.result + (1 + length (length_told S) + 1) ≤ length c.put_key-c.new.out
after-key c =
    let P = c.put_key-c in
    let key = ap (λ (x : Bytes). length (hexes x)) c.key_of.ensures in
    omega (arith, after-byte (byte_put c), key, P.ensures.ends, P.auto.out)

after-byte2 : (c : tie.After-put_byte-d)
    → let S : tie.Start = start (decimal-put (byte_put (key-put c))) in
    c.put_byte-d.result + (length (length_told S) + 1) ≤ length c.put_byte-d.new.out
after-byte2 c =
    let P = c.put_byte-d in
    omega (arith, after-key (key-put c), P.ensures.ends, P.auto.out)

-- ---- the needs
put-byte-requires : tie.Need-put_byte-b-requires
put-byte-requires c κs = omega (arith, after-decimal c.before.before.before)

key-of-requires : tie.Need-key_of-requires
key-of-requires c κs = search rules

put-key-requires : tie.Need-put_key-c-requires
put-key-requires c κs =
    let key = ap (λ (x : Bytes). length (hexes x)) c.key_of.ensures in
    omega (arith, after-byte c.before.before.before.before, key)

put-byte-requires-2 : tie.Need-put_byte-d-requires
put-byte-requires-2 c κs = omega (arith, after-key c.before.before.before)

put-length-requires : tie.Need-put_length-e-requires
put-length-requires c κs =
    let E = c.before.before.before in
    let S = start (decimal-put (byte_put (key-put E))) in
    (S.requires.0, S.requires.1, omega (arith, after-byte2 E))

put-byte-requires-3 : tie.Need-put_byte-requires
put-byte-requires-3 c κs =
    let F = c.before.before.before in
    let P = F.put_length-e in
    omega (arith, after-byte2 (byte2-put F), P.ensures.ends, P.auto.out)

same_length : tie.Need-shape_of-out
same_length c = search rules

returns : tie.Need-returns
unfolding line
returns c =
    let G = c in
    let F = c.before.before.before.before.before.before in
    let E = byte2-put F in
    let D = key-put E in
    let B = byte_put D in
    let A = decimal-put B in
    put_six {v₅ = length_told (start A)}
    (put_same (ap decimal A.number.ensures) A.put_decimal-a.ensures) B.put_byte-b.ensures
    (put_same (ap hexes D.key_of.ensures) D.put_key-c.ensures) E.put_byte-d.ensures
    F.put_length-e.ensures G.put_byte.ensures (start A).requires.2

pub put_line_spec : {M : Type 1} → statement M
put_line_spec =
    tie.close
    (tie.spec
    number-requires
    put-decimal-requires
    put-byte-requires
    key-of-requires
    put-key-requires
    put-byte-requires-2
    put-length-requires
    put-byte-requires-3
    same_length
    returns)
