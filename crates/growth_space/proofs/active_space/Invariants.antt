-- `growth_space::active_space`: what is gathered is the sum over the slots below i.
use Rattle.std.proofs.Common.{ℕ, ◌≡◌}
use Rattle.spec_file.specs.Bytes.{Bytes}
use Rattle.spec_file.specs.Image.{layout_of}
use Rattle.spec_file.specs.Messages.{retire}
use Rattle.spec_moves.specs.Moves.{active_at}
use Rattle.law_file.proofs.Total.{total}
use Rattle.growth_space.proofs.active_space.Given as goal

-- what slot i counts
abbrev pub counts : Bytes → ℕ → ℕ → ℕ
counts image n = active_at (layout_of image) (retire image n)

abbrev pub invariant-loop-i : goal.invariant-loop-i
invariant-loop-i l = l.bytes ≡ total (counts l.image l.named.0) l.i
