-- `table_hash::hash`: the hash goes on from h with the bytes left.
use Rattle.std.proofs.Common.{◌≡◌, drop}
use Rattle.spec_file.specs.Image.{hash_from}
use Rattle.table_hash.proofs.hash.Given as goal

abbrev pub invariant-loop-c : goal.invariant-loop-c
invariant-loop-c l =
    hash_from l.multiplier l.first l.last l.scramble l.start l.key
    ≡ hash_from l.multiplier l.first l.last l.scramble l.h (drop l.c-index l.key)
