-- What lookup on a pair answers as numbers, by the specification's; and which image holds the point, where no question
-- before the search is answered no.
-- Assumes nothing.
use Rattle.std.specs.Prelude.{◌≡◌}
use Rattle.spec_file.specs.Bytes.{Bytes}
use Rattle.spec_moves.specs.Moves.{Pair}
use Rattle.spec_growth.specs.Growth.{held_in_new, grow_name_number, grow_lookup, grow_lookup_start, grow_lookup_length}
use Rattle.call_grow_lookup.specs.declared.PairLocated.{PairLocated}

pub record Locates (p : Pair) (key : Bytes) (r : PairLocated) : Type 0 where
  pub number : r.located.number ≡ (grow_lookup p key).answer.number
  pub start : r.located.start.0 ≡ grow_lookup_start p key
  pub length : r.located.length ≡ grow_lookup_length p key
  pub held : grow_name_number p key ≡ 0 → r.in_new ≡ held_in_new p key
