-- The slots that a call's search read fit 32 bits: an accepted image has few, and a refusal answers 0. Assumes nothing.
use Prim.Native.Nat.{ℕ, ◌≤◌}
use mathlib.Core.Bool.{true}
use Rattle.spec_file.specs.Bytes.{Bytes}
use Rattle.spec_file.specs.Limits.{most_slots}
use Rattle.spec_file.specs.Questions.{mode_known}
use Rattle.spec_file.specs.Calls.{add_read, delete_read, lookup_read}
use Rattle.law_file.proofs.CallsRead.{sought-most}

module _ (img key : Bytes) where
  pub add-few : (mode : ℕ) → add_read img key mode ≤ most_slots
  unfolding add_read
  add-few mode = sought-most img key (mode_known mode)

  pub delete-few : delete_read img key ≤ most_slots
  unfolding delete_read
  delete-few = sought-most img key true

  pub lookup-few : lookup_read img key ≤ most_slots
  unfolding lookup_read
  lookup-few = sought-most img key true
