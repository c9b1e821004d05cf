-- The choice by epoch on a pair as the code has it, by the specification's.
--     later_of s s'        the second entry that was chosen is the only one, or has the larger epoch
--     Dates p name t r    r's numbers, and which image has the entry, where no question before the choice is answered
--                         no
-- Assumes nothing.
use Rattle.std.specs.Prelude.{◌≡◌, ℕ, Bool, not, ◌&&◌, ◌||◌, ltb}
use Rattle.spec_file.specs.Bytes.{Bytes}
use Rattle.spec_file.specs.Search.{is_met}
use Rattle.spec_moves.specs.Moves.{Pair}
use Rattle.spec_growth.specs.Growth.{dated_in_new, grow_dated_number, grow_at_epoch}
use Rattle.table_search.specs.Probes.{probe_of}
use Rattle.epoch_choose.specs.declared.Chosen.{Chosen}
use Rattle.call_at_epoch.specs.Answers.{Answers}
use Rattle.call_grow_at_epoch.specs.declared.PairDated.{PairDated}

unfoldable pub later_of : Chosen → Chosen → Bool
later_of s s' =
    is_met (probe_of s'.found) && (not (is_met (probe_of s.found)) || ltb s.epoch s'.epoch)

pub record Dates (p : Pair) (name : Bytes) (t : ℕ) (r : PairDated) : Type 0 where
  pub answers : Answers (grow_at_epoch p name t) r.dated
  pub held : grow_dated_number p name ≡ 0 → r.in_new ≡ dated_in_new p name t
