-- `journal_recover::journal_sound`: what is left of the test, from pair i on, decides it.
use Rattle.std.proofs.Common.{◌≡◌, ◌+◌, ◌*◌, ◌<◌, length}
use Rattle.spec_changes.specs.Journal.{pair_count, journal_sound}
use Rattle.journal_recover.proofs.Reading.{asking}
use Rattle.journal_recover.proofs.journal_sound.Given as goal

abbrev pub invariant-loop-i : goal.invariant-loop-i
invariant-loop-i l =
    (l.pairs ≡ pair_count l.journal)
    × (l.from < length l.journal)
    × (4 + 8 * l.pairs < length l.journal)
    × (journal_sound l.size l.journal ≡ asking l.size l.journal l.from l.last l.i)
