-- What the records that promises and contracts cite say, field by field: an edit of a field falls here.
-- Assumes nothing.
use mathlib.Core.Path.{◌≡◌}
use Prim.Native.Nat.{ℕ, ◌≤◌}
use mathlib.Core.Logic.{◌⊎◌}
use lib.ListN.{length}
use Rattle.spec_file.specs.Bytes.{Bytes}
use Rattle.spec_file.specs.Calls.{Outcome}
use Rattle.spec_changes.specs.Changes.{changes_in, copied, listed}
use Rattle.spec_changes.specs.Journal.{Disk, updates, cut_after, recover_number, recovered, CutSafe, journaled}
use Rattle.spec_changes.specs.Lists.{Lists}
use Rattle.spec_changes.specs.Journals.{Journals}

-- after n writes of an update and a cut: recovery answers 0 and gives the old image or the new one; the new one from
-- two writes on, those of content and mark; and a second recovery changes nothing
pub safe-says : (old new j : Bytes) → CutSafe old new j → (n : ℕ) (junk : ℕ → ℕ)
    → let d : Disk = cut_after n junk (updates old new j) (record { image = old; journal = j }) in
    (recover_number (length d.image) d.journal ≡ 0)
    × (((recovered d).image ≡ old) ⊎ ((recovered d).image ≡ new))
    × (2 ≤ n → (recovered d).image ≡ new)
    × (recovered (recovered d) ≡ recovered d)
unfolding CutSafe
safe-says old new j s n junk =
    ((s n junk).accepted, (s n junk).either, (s n junk).after-mark, (s n junk).twice)

module _ {call : Bytes → Outcome Bytes} {img img' : Bytes} {work number : ℕ} where
  -- number, pairs, image and list are the definition's; of an accepted call the pairs refresh a copy
  pub lists-say : {list list' : Bytes} {pairs : ℕ} → Lists call img work list img' list' number pairs
      → (number ≡ (listed call img work list).number)
      × (pairs ≡ (listed call img work list).pairs)
      × (img' ≡ (listed call img work list).after)
      × (list' ≡ (listed call img work list).list)
      × (number ≡ 0 → copied (changes_in (length list) img img') img' img ≡ img')
  lists-say l = (l.number_is, l.pairs_is, l.image-is, l.list-is, l.refreshes)

  -- number, image and journal are the definition's; an accepted call is safe from a cut
  pub journals-say : {j j' : Bytes} → Journals call img work j img' j' number
      → (number ≡ (journaled call img work j).number)
      × (img' ≡ (journaled call img work j).after)
      × (j' ≡ (journaled call img work j).journal)
      × (number ≡ 0 → CutSafe img img' j)
  journals-say l = (l.number_is, l.image-is, l.journal-is, l.cut-safe)
