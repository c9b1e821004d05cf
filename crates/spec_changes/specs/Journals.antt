-- What a call of the journaled form leaves and answers, as its definition has it, and what a cut may leave of it.
-- Assumes nothing.
use Rattle.std.specs.Prelude.{◌≡◌, ℕ}
use Rattle.spec_file.specs.Bytes.{Bytes}
use Rattle.spec_file.specs.Calls.{Outcome}
use Rattle.spec_changes.specs.Journal.{CutSafe, journaled}

-- of a call on an image, a working slice of so many bytes and a journal: image and journal afterwards, and the number
pub record Journals (call : Bytes → Outcome Bytes) (img : Bytes) (work : ℕ) (j : Bytes) (img' j' : Bytes) (number : ℕ)
    : Type 0 where
  pub number_is : number ≡ (journaled call img work j).number
  pub image-is : img' ≡ (journaled call img work j).after
  pub journal-is : j' ≡ (journaled call img work j).journal
  -- "Wherever the cut falls, the recovered image is the one before the call or the one after it"
  pub cut-safe : number ≡ 0 → CutSafe img img' j
