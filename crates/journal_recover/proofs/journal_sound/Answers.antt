-- `journal_recover::journal_sound` meets its contract: what is left of the test decides it.
use Rattle.std.proofs.Common.{arith, sym, ◌∙◌}
use Rattle.journal_recover.proofs.Reading.{count-field, unsound-short, asking-start, asking-low, asking-high, asking-mark, asking-more, asking-end}
use Rattle.journal_recover.proofs.journal_sound.Goals as goal

pub returns-then-end-lt5 : goal.returns-then-end-lt5
returns-then-end-lt5 c = sym (unsound-short _ _ (omega arith))

pub returns-then-end-from : goal.returns-then-end-from
returns-then-end-from c = sym (unsound-short _ _ (omega (arith, count-field c.args.journal.now)))

pub loop-i-init : goal.loop-i-init
loop-i-init c =
    let e = c.read_u32-pairs.ensures ∙ count-field c.args.journal.now in
    (e, omega arith, omega arith, rw e (asking-start _ _))

pub returns-then-at-last : goal.returns-then-at-last
returns-then-at-last c = sym (c.loop-i.invariant.3 ∙ asking-low _ _ _ _ _ (omega arith) (omega arith))

pub returns-then-size-last : goal.returns-then-size-last
returns-then-size-last c = sym (c.loop-i.invariant.3 ∙ asking-high _ _ _ _ _ (omega arith) (omega arith))

pub returns-then-room-bytes : goal.returns-then-room-bytes
returns-then-room-bytes c = sym (c.loop-i.invariant.3 ∙ asking-mark _ _ _ _ _ (omega arith) (omega arith))

pub loop-i-preserved : goal.loop-i-preserved
loop-i-preserved c = (
  c.loop-i.invariant.0,
  omega arith,
  c.loop-i.invariant.2,
  rw (c.read_u32-at.ensures, c.read_u32-bytes.ensures)
      (c.loop-i.invariant.3 ∙ asking-more _ _ _ _ _ (omega arith) (omega arith) (omega arith)),
)

pub returns : goal.returns
returns c = sym (c.loop-i.invariant.3 ∙ asking-end _ _ _ _ _ (omega arith) c.loop-i.invariant.1)
