-- Demand 3 and its cases on one image, word for word as they stood before growth: each step on one image is a step of
-- crates/spec_book that is no start, and does the same to file and book.
--     widen, widen-all          a step, and a list of steps, as crates/spec_book has them
--     perform-same, step-same   it does the same to the file, and to the book
--     demand3, agreement-of-forms, agreement-from      the theorem and its cases
--     step-of                   which numbers a step of the book may answer
-- Assumes nothing.
use Rattle.std.specs.Prelude.{ℕ, ◌≡◌, ◌≤◌, Bool, true, false, List, [], ◌∷◌, eqb}
use mathlib.Core.Path.{refl, sym, ap, ap₂, ◌∙◌, subst}
use Rattle.spec_file.specs.Bytes.{Bytes}
use Rattle.spec_file.specs.Questions.{first_no}
use Rattle.spec_file.specs.Calls.{Answer, Outcome}
use Rattle.spec_file.specs.Lists.{answers, state_after}
use Rattle.spec_book.specs.Steps as wide
use Rattle.spec_book.specs.Told as wide-told
use Rattle.spec_book.specs.Reopened as wide-start
use Rattle.spec_book.specs.Demand as wide-demand
use Rattle.spec_book.specs.Steps.{second_of, goes_on}
use Rattle.spec_book.specs.Book.{Book, room_asks}
use Rattle.spec_book.specs.Demand.{AllAre, no_start, file_text, book_text}
use Rattle.spec_alone.specs.Steps.{Step, calling, compacting, listing, journaling, storing, reading, converting, dating, dated_outcome, perform_on, State, alone, alone_after, perform}
use Rattle.spec_alone.specs.Told.{book_step, tells, told_by, book_told}
use Rattle.spec_alone.specs.Reopened.{Starts}
use Rattle.spec_alone.specs.Demand.{state_text, Permitted, Agrees, Demand3, AgreementOfForms, is_plain, AllPlain, AgreementFrom}
use Rattle.law_file.proofs.Tests.{not-both}
use Rattle.law_agreement.proofs.Numbers as numbers
use Rattle.law_lists.proofs.Theorem as lists

-- ---- a step as crates/spec_book has it

widen : Step → wide.Step
widen (calling c) = wide.calling c
widen compacting = wide.compacting
widen (listing c work list) = wide.listing c work list
widen (journaling c work j) = wide.journaling c work j
widen (storing key recs W) = wide.storing key recs W
widen (reading key room) = wide.reading key room
widen (converting L) = wide.converting L
widen (dating name t) = wide.dating name t

widen-all : List Step → List wide.Step
widen-all [] = []
widen-all (c ∷ cs) = widen c ∷ widen-all cs

-- it is no start
widen-alone : (c : Step) → no_start (widen c) ≡ true
unfolding widen no_start second_of
widen-alone (calling c) = refl
widen-alone compacting = refl
widen-alone (listing c work list) = refl
widen-alone (journaling c work j) = refl
widen-alone (storing key recs W) = refl
widen-alone (reading key room) = refl
widen-alone (converting L) = refl
widen-alone (dating name t) = refl

all-alone : (cs : List Step) → AllAre no_start (widen-all cs)
unfolding AllAre widen-all
all-alone [] = tt
all-alone (c ∷ cs) = (widen-alone c, all-alone cs)

-- it does the same to an image
perform-same : (c : Step) (img : Bytes) → wide.perform_on (widen c) img ≡ perform_on c img
unfolding widen wide.perform_on wide.dated_outcome perform_on dated_outcome
perform-same (calling c) img = refl
perform-same compacting img = refl
perform-same (listing c work list) img = refl
perform-same (journaling c work j) img = refl
perform-same (storing key recs W) img = refl
perform-same (reading key room) img = refl
perform-same (converting L) img = refl
perform-same (dating name t) img = refl

-- and to the book
step-same : (t : Bool) (c : Step) (b : Book) → wide-told.book_step t (widen c) b ≡ book_step t c b
unfolding widen wide-told.book_step book_step
step-same t (calling c) b = refl
step-same t compacting b = refl
step-same t (listing c work list) b = refl
step-same t (journaling c work j) b = refl
step-same t (storing key recs W) b = refl
step-same t (reading key room) b = refl
step-same t (converting L) b = refl
step-same t (dating name e) b = refl

-- ---- on the state

answer-same : (c : Step) (img : Bytes) → (wide.perform (widen c) (wide.alone img)).answer ≡ (perform c (alone img)).answer
unfolding wide.perform wide.alone_after perform alone_after
answer-same c img = ap (λ (o : Outcome Bytes). o.answer) (perform-same c img)

after-same : (c : Step) (img : Bytes)
    → (wide.perform (widen c) (wide.alone img)).after ≡ wide.alone (perform_on c img).after
after-same c img =
    lists.after_one (widen c) img (widen-alone c)
    ∙ ap (λ (o : Outcome Bytes). wide.alone o.after) (perform-same c img)

tells-same : (c : Step) (img : Bytes) → wide-told.tells (widen c) (wide.alone img) ≡ tells c (alone img)
unfolding wide-told.tells tells
tells-same c img = ap (λ (a : Answer). eqb a.number 17) (answer-same c img)

-- ---- lists

on-answers : (cs : List Step) (img : Bytes) → answers wide.perform_on (widen-all cs) img ≡ answers perform_on cs img
unfolding answers widen-all
on-answers [] img = refl
on-answers (c ∷ cs) img =
    rw (perform-same c img)
    (ap (λ (more : List Answer). (perform_on c img).answer ∷ more) (on-answers cs (perform_on c img).after))

on-after : (cs : List Step) (img : Bytes)
    → state_after wide.perform_on (widen-all cs) img ≡ state_after perform_on cs img
unfolding state_after widen-all
on-after [] img = refl
on-after (c ∷ cs) img =
    ap (λ (o : Outcome Bytes). state_after wide.perform_on (widen-all cs) o.after) (perform-same c img)
    ∙ on-after cs (perform_on c img).after

-- the state is the image
state-answers : (cs : List Step) (img : Bytes) → answers perform cs (alone img) ≡ answers perform_on cs img
unfolding answers perform alone_after
state-answers [] img = refl
state-answers (c ∷ cs) img =
    ap (λ (more : List Answer). (perform_on c img).answer ∷ more) (state-answers cs (perform_on c img).after)

state-after : (cs : List Step) (img : Bytes) → state_after perform cs (alone img) ≡ alone (state_after perform_on cs img)
unfolding state_after perform alone_after
state-after [] img = refl
state-after (c ∷ cs) img = state-after cs (perform_on c img).after

-- the book, told what the file answers
told-answers : (cs : List Step) (img : Bytes) (b : Book)
    → answers wide-told.book_told (wide-told.told_by (widen-all cs) (wide.alone img)) b
    ≡ answers book_told (told_by cs (alone img)) b
unfolding answers widen-all wide-told.told_by wide-told.book_told told_by book_told perform alone_after
told-answers [] img b = refl
told-answers (c ∷ cs) img b =
    rw (tells-same c img, step-same (tells c (alone img)) c b, after-same c img)
    (ap (λ (more : List Answer). (book_step (tells c (alone img)) c b).answer ∷ more)
    (told-answers cs (perform_on c img).after _))

told-after : (cs : List Step) (img : Bytes) (b : Book)
    → state_after wide-told.book_told (wide-told.told_by (widen-all cs) (wide.alone img)) b
    ≡ state_after book_told (told_by cs (alone img)) b
unfolding state_after widen-all wide-told.told_by wide-told.book_told told_by book_told perform alone_after
told-after [] img b = refl
told-after (c ∷ cs) img b =
    rw (tells-same c img, step-same (tells c (alone img)) c b, after-same c img)
    (told-after cs (perform_on c img).after _)

-- ---- the theorem

-- on one image
pub agreement-of-forms : AgreementOfForms
unfolding AgreementOfForms Starts Agrees state_text wide-start.Starts wide-demand.Agrees wide-demand.state_text wide-demand.AgreementOfForms
agreement-of-forms img b start steps =
    let k = all-alone steps in
    let whole = lists.agreement-of-forms img b start (widen-all steps) k in (
      state-answers steps img
          ∙ sym (on-answers steps img)
          ∙ sym (lists.answers-alone (widen-all steps) img k)
          ∙ whole.0
          ∙ told-answers steps img b,
      λ name.
          ap (λ (s : State). state_text s name) (state-after steps img)
          ∙ ap (λ (x : Bytes). file_text x name) (sym (on-after steps img))
          ∙ sym (ap (λ (s : wide.State). wide-demand.state_text s name) (lists.after-alone (widen-all steps) img k))
          ∙ whole.1 name
          ∙ ap (λ (x : Book). book_text x name) (told-after steps img b),
    )

pub demand3 : Demand3
unfolding Demand3 AgreementOfForms
demand3 (alone img) b start steps p = agreement-of-forms img b start steps

-- ---- of plain calls

plain-same : (c : Step) → wide-demand.is_plain (widen c) ≡ is_plain c
unfolding widen wide-demand.is_plain is_plain
plain-same (calling c) = refl
plain-same compacting = refl
plain-same (listing c work list) = refl
plain-same (journaling c work j) = refl
plain-same (storing key recs W) = refl
plain-same (reading key room) = refl
plain-same (converting L) = refl
plain-same (dating name t) = refl

all-plain : (cs : List Step) → AllPlain cs → AllAre wide-demand.is_plain (widen-all cs)
unfolding AllAre widen-all AllPlain
all-plain [] p = tt
all-plain (c ∷ cs) p = (plain-same c ∙ p.0, all-plain cs p.1)

book-answers : (cs : List Step) (b : Book)
    → answers (wide-told.book_step false) (widen-all cs) b ≡ answers (book_step false) cs b
unfolding answers widen-all
book-answers [] b = refl
book-answers (c ∷ cs) b =
    rw (step-same false c b)
    (ap (λ (more : List Answer). (book_step false c b).answer ∷ more) (book-answers cs (book_step false c b).after))

book-after : (cs : List Step) (b : Book)
    → state_after (wide-told.book_step false) (widen-all cs) b ≡ state_after (book_step false) cs b
unfolding state_after widen-all
book-after [] b = refl
book-after (c ∷ cs) b =
    ap (λ (o : Outcome Book). state_after (wide-told.book_step false) (widen-all cs) o.after) (step-same false c b)
    ∙ book-after cs (book_step false c b).after

pub agreement-from : AgreementFrom
unfolding AgreementFrom Starts wide-start.Starts wide-demand.AgreementFrom
agreement-from img b start steps p =
    let whole = lists.agreement-from img b start (widen-all steps) (all-plain steps p) in (
      sym (on-answers steps img) ∙ whole.0 ∙ book-answers steps b,
      λ name.
          ap (λ (x : Bytes). file_text x name) (sym (on-after steps img))
          ∙ whole.1 name
          ∙ ap (λ (x : Book). book_text x name) (book-after steps b),
    )

-- ---- numbers

-- which numbers a step of the book may answer
pub step-of : (P : ℕ → Type 0) (b : Book) → ((n : ℕ) → n ≤ 10 → P n) → P 14 → ((m : ℕ) → P (first_no (room_asks b m)))
    → P 13 → P 16 → P 17 → P 19 → P 20 → P 23 → (t : Bool) (c : Step)
    → P (book_step t c b).answer.number
step-of P b few absent room p₁₃ p₁₆ p₁₇ p₁₉ p₂₀ p₂₃ t c =
    subst (λ (o : Outcome Book). P o.answer.number) (step-same t c b)
    (numbers.step-of P b few absent room p₁₃ p₁₆ p₁₇ p₁₉ p₂₀ p₂₃ t (widen c)
    (λ h. absurd (not-both (no_start (widen c)) (widen-alone c) h)))
