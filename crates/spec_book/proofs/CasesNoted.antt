-- Document 02, Job 4: the book's answers to the lists of crates/spec_file/proofs/CasesNotes.antt. Assumes nothing.
use mathlib.Core.Path.{◌≡◌, refl}
use mathlib.Core.List.{[], ◌∷◌, ◌++◌}
use Rattle.spec_file.proofs.CasesBase.{shows}
use Rattle.spec_file.proofs.CasesNotes.{notes_new_calls, notes_new_answers, notes_withdrawn_calls, notes_withdrawn_answers, notes_refused_calls, notes_refused_answers}
use Rattle.spec_book.specs.Book.{new_book}
use Rattle.spec_book.specs.Reopened.{terms_of}
use Rattle.spec_book.proofs.CasesBook.{booked, Books}

pub notes-new-book : Books 8192 4 notes_new_calls notes_new_answers 12
unfolding booked
notes-new-book = refl

pub notes-withdrawn-book : Books 8192 4 notes_withdrawn_calls notes_withdrawn_answers 6
unfolding booked
notes-withdrawn-book = refl

pub notes-refused-book : Books 4096 1 notes_refused_calls notes_refused_answers 0
unfolding booked
notes-refused-book = refl
