-- What the book does with each step of a list on one image. Job 8: "In a list of calls the book takes this form as the
-- plain call, puts 16 first as the file does, and has no pairs to compare." Job 9: "To the book an uncut call of this
-- form is one of Job 8's form; a 17, which hangs on the bytes that would change, is the one thing it is told from the
-- file".
--     book_step              what a step does to the book, told whether the file answered 17
--     Told, told_by          a step, and whether the file answered it 17
-- Assumes nothing.
use Rattle.std.specs.Prelude.{Bool, ◌&&◌, List, [], ◌∷◌, length, eqb}
use Rattle.spec_file.specs.Questions.{ask}
use Rattle.spec_file.specs.Calls.{Outcome}
use Rattle.spec_changes.specs.Changes.{list_allowed, work_allowed}
use Rattle.spec_book.specs.Told.{book_changed, image_length, told_number}
use Rattle.spec_book.specs.Book.{Book, guarded, book_store, book_read, book_compact, book_convert, book_call, book_at_epoch}
use Rattle.spec_alone.specs.Steps.{Step, calling, compacting, listing, journaling, storing, reading, converting, dating, State, perform}

unfoldable pub book_step : Bool → Step → Book → Outcome Book
book_step seventeen (calling c) b = book_call c b
book_step seventeen compacting b = book_compact b
book_step seventeen (listing c work list) b =
    guarded b (ask 16 (list_allowed (length list) && work_allowed (image_length b.terms) work) ∷ []) (book_changed c b)
book_step seventeen (journaling c work j) b =
    told_number seventeen b
    (guarded b (ask 16 (work_allowed (image_length b.terms) work) ∷ []) (book_changed c b))
book_step seventeen (storing name recs W) b = book_store b name recs W
book_step seventeen (reading name room) b = book_read b name room
book_step seventeen (converting L) b = book_convert b L
book_step seventeen (dating name t) b = book_at_epoch b name t

-- ---- what the book is told

pub record Told : Type 0 where
  pub step : Step
  pub seventeen : Bool

-- whether the file answers a step 17
unfoldable pub tells : Step → State → Bool
tells c s = eqb (perform c s).answer.number 17

unfoldable pub told_by : List Step → State → List Told
told_by [] s = []
told_by (c ∷ cs) s = record { step = c; seventeen = tells c s } ∷ told_by cs (perform c s).after

unfoldable pub book_told : Told → Book → Outcome Book
book_told t b = book_step t.seventeen t.step b
