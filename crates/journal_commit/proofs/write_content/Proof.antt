-- Count, pairs and new bytes, one behind the other. Assumes nothing.
use Prim.Native.Nat.{◌+◌, ◌*◌, ◌≤◌}
use native.Mathlib.Omega.{arith}
use mathlib.Core.Path.{ap, ◌∙◌}
use lib.ListN.{length}
use borrow.Author.Rules.{rules}
use Rattle.spec_file.specs.Bytes.{Bytes, store}
use Rattle.spec_changes.specs.Changes.{runs, pair_bytes}
use Rattle.spec_changes.specs.Journal.{new_bytes}
use Rattle.spec_changes.proofs.Changes.{runs-few}
use Rattle.journal_commit.proofs.Carried.{content-stored, content-room}
use Rattle.journal_commit.proofs.write_content.Statement.{statement}
use Rattle.journal_commit.proofs.write_content.Tie as tie

-- no more pairs than bytes
few : (S : tie.Start) → S.args.pairs ≤ length S.args.old.now
few S = omega (arith, S.requires.2, runs-few 0 S.args.old.now S.args.new.now)

-- room for pairs and new bytes
room : (S : tie.Start)
    → (4 + length (pair_bytes (runs 0 S.args.old.now S.args.new.now)) ≤ length S.args.journal.now)
    × (4 + 8 * length (runs 0 S.args.old.now S.args.new.now)
    + length (new_bytes (runs 0 S.args.old.now S.args.new.now) S.args.new.now)
    ≤ length S.args.journal.now)
room S =
    content-room S.args.journal.now (runs 0 S.args.old.now S.args.new.now) S.args.new.now
    S.requires.3

cast-write-u32 : tie.Need-overflow_cast-pairs
cast-write-u32 c = let S = c.before.before.before.before in omega (arith, few S, S.requires.1)

write-u32-requires : tie.Need-write_u32-requires
write-u32-requires c κs = let S = c.before.before.before.before in omega (arith, (room S).0)

abbrev start : tie.After-write_u32 → tie.Start
start U = U.before.before.before.before.before

write-pairs-requires : tie.Need-write_pairs-requires
write-pairs-requires c κs =
    let U = c.before.before.before in
    let S = start U in
    (S.requires.0, S.requires.1, omega (arith, (room S).0, U.write_u32.auto.s))

abbrev count : tie.After-write_pairs → tie.After-write_u32
count P = P.before.before.before.before

mul-write-bytes : tie.Need-overflow_mul-pairs
mul-write-bytes c =
    let S = start (count c.before.before.before) in
    omega (arith, few S, S.requires.1)

add-write-bytes : tie.Need-overflow_add-pairs
add-write-bytes c =
    let S = start (count c.before.before.before) in
    omega (arith, few S, S.requires.1)

write-bytes-requires : tie.Need-write_bytes-requires
write-bytes-requires c κs =
    let P = c.before.before.before in
    let U = count P in
    let S = start U in
    (S.requires.0, omega (arith, (room S).1, S.requires.2, U.write_u32.auto.s, P.write_pairs.auto.list))

same_length : tie.Need-shape_of-journal
same_length c = search rules

returns : tie.Need-returns
returns c =
    let B = c in
    let P = c.before.before.before.before.before.before in
    let U = count P in
    let S = start U in
    let A = S.args in
    let rs = runs 0 A.old.now A.new.now in
    B.write_bytes.ensures
    ∙ ap (λ (t : Bytes). store t (4 + 8 * A.pairs) (new_bytes rs A.new.now))
    (P.write_pairs.ensures ∙ ap (λ (t : Bytes). store t 4 (pair_bytes rs)) U.write_u32.ensures)
    ∙ content-stored A.journal.now rs A.new.now A.pairs S.requires.2 S.requires.3

pub write_content_spec : {M : Type 1} → statement M
write_content_spec =
    tie.close
    (tie.spec
    cast-write-u32
    write-u32-requires
    write-pairs-requires
    mul-write-bytes
    add-write-bytes
    write-bytes-requires
    same_length
    returns)
