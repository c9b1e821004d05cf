-- What a call of the listed form leaves and answers, as its definition has it, and what the list is good for.
-- Assumes nothing.
use Rattle.std.specs.Prelude.{◌≡◌, ℕ, length}
use Rattle.spec_file.specs.Bytes.{Bytes}
use Rattle.spec_file.specs.Calls.{Outcome}
use Rattle.spec_changes.specs.Changes.{changes_in, copied, listed}

-- of a call on an image, a working slice of so many bytes and a list: the image and the list afterwards, the number and
-- the pairs answered
pub record Lists (call : Bytes → Outcome Bytes) (img : Bytes) (work : ℕ) (list : Bytes) (img' list' : Bytes)
    (number pairs : ℕ) : Type 0 where
  pub number_is : number ≡ (listed call img work list).number
  pub pairs_is : pairs ≡ (listed call img work list).pairs
  pub image-is : img' ≡ (listed call img work list).after
  pub list-is : list' ≡ (listed call img work list).list
  -- "Copying the listed stretches into a copy of the old image gives the new one."
  pub refreshes : number ≡ 0 → copied (changes_in (length list) img img') img' img ≡ img'
