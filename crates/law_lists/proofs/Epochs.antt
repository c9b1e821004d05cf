-- Document 02, Job 14, of every file that calls have reached: "After every list of calls this is the book's own
-- choice."
--     dated-choice      number, epoch, length and text are those of the book's choice
--     dated-lookup      lookup of the name with the epoch that is shown shows the same message
-- Assumes nothing.
use mathlib.Core.Path.{◌≡◌}
use Prim.Native.Nat.{ℕ}
use Rattle.spec_file.specs.Bytes.{Bytes}
use Rattle.spec_file.specs.Calls.{lookup}
use Rattle.spec_epoch.specs.Epochs.{dated_key, at_epoch}
use Rattle.spec_book.specs.Steps.{alone, dated_outcome}
use Rattle.spec_book.specs.Book.{Book, book_at_epoch}
use Rattle.law_epoch.proofs.Shown.{at-epoch-lookup}
use Rattle.law_agreement.proofs.Dating.{same-dating}
use Rattle.law_lists.proofs.Reached.{Reached, reached-reflects, reached-sound}

module _ (img : Bytes) (b : Book) (r : Reached (alone img) b) (name : Bytes) (t : ℕ) where
  pub dated-choice : (dated_outcome img (at_epoch img name t)).answer ≡ (book_at_epoch b name t).answer
  dated-choice =
      let s = reached-reflects img b r in
      (same-dating s.0 img b s.1 name t).answer

  pub dated-lookup : (at_epoch img name t).number ≡ 0
      → (lookup img (dated_key name (at_epoch img name t).epoch)).answer
      ≡ record {
        number = 0;
        amount = (at_epoch img name t).length;
        text = (at_epoch img name t).text;
        epoch = 0;
      }
  dated-lookup e = at-epoch-lookup img name t (reached-sound img b r) e
