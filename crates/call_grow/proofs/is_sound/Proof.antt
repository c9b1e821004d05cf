-- The check's verdict, case by case. Assumes nothing.
use mathlib.Core.Path.{◌≡◌, sym, ap, ◌∙◌}
use borrow.Author.Rules.{rules}
use Rattle.spec_compaction.specs.Compact.{is_sound}
use Rattle.call_check.specs.Verdicts.{verdict_in}
use Rattle.call_check.specs.declared.Verdict.{Verdict}
use Rattle.call_grow.proofs.is_sound.Statement.{statement}
use Rattle.call_grow.proofs.is_sound.Tie as tie

check-requires : tie.Need-check-found-requires
check-requires c κs = search rules

enum_told : tie.Need-enum_told-1
enum_told c = search rules

enum-told-2 : tie.Need-enum_told-in-Sound
enum-told-2 c = search rules

enum-told-3 : tie.Need-enum_told-in-SlotFails
enum-told-3 c = search rules

enum-told-4 : tie.Need-enum_told-in-CountFails
enum-told-4 c = search rules

returns : tie.Need-returns-in-Refused
unfolding is_sound verdict_in
returns c =
    sym (ap (λ (v : Verdict). is_sound (verdict_in v)) c.in-Refused.is)
    ∙ ap is_sound c.check-found.ensures

returns-2 : tie.Need-returns-in-Sound
unfolding is_sound verdict_in
returns-2 c =
    sym (ap (λ (v : Verdict). is_sound (verdict_in v)) c.in-Sound.is)
    ∙ ap is_sound c.check-found.ensures

returns-3 : tie.Need-returns-in-SlotFails
unfolding is_sound verdict_in
returns-3 c =
    sym (ap (λ (v : Verdict). is_sound (verdict_in v)) c.in-SlotFails.is)
    ∙ ap is_sound c.check-found.ensures

returns-4 : tie.Need-returns-in-CountFails
unfolding is_sound verdict_in
returns-4 c =
    sym (ap (λ (v : Verdict). is_sound (verdict_in v)) c.in-CountFails.is)
    ∙ ap is_sound c.check-found.ensures

pub is_sound_spec : {M : Type 1} → statement M
is_sound_spec =
    tie.close
    (tie.spec
    check-requires
    enum_told
    enum-told-2
    enum-told-3
    enum-told-4
    returns
    returns-2
    returns-3
    returns-4)
