-- Demand 3: on every list of calls, from every accepted create and from every sound image, file and book give the same
-- answers, and after it the file finds exactly the book's points with the book's texts: `Demand3` of
-- crates/spec_book/specs/Demand.antt, and its named cases.
--     Held s b            the relation of file and book, of the state that lists go over
--     held-step           one step keeps it, with equal answers
--     same-answers, held_after      so does every list
--     texts-agree         files and books in the relation find the same points with the same texts
--     held-agrees         the theorem for every state and book in the relation
--     started             every start is in the relation
--     demand3             the theorem
--     growth-agreement, agreement-of-forms, agreement-from, agreement      its named cases
-- Assumes nothing.
use mathlib.Core.Path.{◌≡◌, refl, sym, ap, ap₂, ◌∙◌, subst}
use Prim.Native.Nat.{ℕ}
use mathlib.Core.Bool.{Bool, true, false, cond, ◌&&◌}
use mathlib.Core.List.{List, [], ◌∷◌, ◌++◌}
use mathlib.Core.Logic.{inl, inr}
use mathlib.Core.Option.{Option, none, some}
use lib.ListN.{length}
use Rattle.spec_file.specs.Bytes.{Bytes}
use Rattle.spec_file.specs.Image.{Layout, layout_of}
use Rattle.spec_file.specs.Search.{search, is_met}
use Rattle.spec_file.specs.Questions.{name_allowed, create_number}
use Rattle.spec_file.specs.Create.{slots_asked, fresh_image}
use Rattle.spec_file.specs.Calls.{Answer, Outcome, plain, create, lookup}
use Rattle.spec_file.specs.Lists.{Call, adding, deleting, looking, counting, call, answers, state_after}
use Rattle.spec_book.specs.Steps.{Step, calling, compacting, listing, journaling, storing, reading, converting, perform_on, grow_call, perform_pair, State, alone, growing, left_in, pair_state, second_of, goes_on, alone_after, pair_after, perform, dating, starting}
use Rattle.spec_book.specs.Book.{Book, step_of, new_book, second_allowed, book_start, book_call}
use Rattle.spec_moves.specs.Moves.{Pair, lowest_slot}
use Rattle.spec_book.specs.Told.{book_step, tells, told_by, book_told}
use Rattle.spec_book.specs.Reopened.{terms_of, Starts}
use Rattle.spec_book.specs.Demand.{file_text, state_text, text_of, book_text, held_in_growth, permits, Permitted, Agrees, Demand3, AllAre, no_start, AgreementOfForms, GrowthAgreement, is_plain, AgreementFrom, Agreement}
use Rattle.law_file.proofs.Tests.{by_bool, not-both}
use Rattle.law_file.proofs.Opened.{first_no-none, first_no-yes, first_no-no}
use Rattle.law_file.proofs.Accepted.{accepted-facts}
use Rattle.law_file.proofs.Outcomes.{settled-yes}
use Rattle.law_agreement.proofs.Reflect.{Reflects, Reflected}
use Rattle.law_agreement.proofs.Found.{points-agree}
use Rattle.law_agreement.proofs.Checked.{check-file}
use Rattle.law_agreement.proofs.Reopened.{file-reflects}
use Rattle.law_agreement.proofs.Forms.{same_step}
use Rattle.law_agreement.proofs.Fresh.{slots_asked-some, fresh-reflects}
use Rattle.law_growth.proofs.Moving.{GrownIn, own-layout}
use Rattle.law_growth.proofs.Looking.{SameGrown, same_count, same-looking, pair-agrees}
use Rattle.law_growth.proofs.Changing.{same-adding, same-deleting, same-storing}
use Rattle.law_growth.proofs.Choosing.{same-reading, same-dated}
use Rattle.law_growth.proofs.Starting.{start-number, begun, finished}

-- ---- one step

unfoldable pub Held : State → Book → Type 0
Held (alone img) b = Reflected img b
Held (growing p) b = GrownIn p b

-- a pair in the relation, by whether a point is left in the old image
pub held-pair : (p : Pair) (b : Book) → GrownIn p b → Held (pair_state p) b
unfolding Held pair_state left_in
held-pair p b (c, d, r) = go (lowest_slot p.old) refl
  where
    go : (f : Option ℕ) → lowest_slot p.old ≡ f → Held (left_in p f) b
    go none e = unfold Held left_in in (layout_of p.new, finished p c d b r e)
    go (some i) e = unfold Held left_in in (c, d, r)

-- the book's outcome, told what the file answers
abbrev pub book_at : Step → State → Book → Book
book_at c s b = (book_step (tells c s) c b).after

-- a start, on one image
module _ (img new : Bytes) (b : Book) (r₀ : Reflected img b) where
  r : Reflects (layout_of img) img b
  r = own-layout r₀.0 img b r₀.1

  start-answer : (perform_on (starting new) img).answer ≡ (book_start b new).answer
  unfolding perform_on book_start step_of
  start-answer = ap plain (start-number img new b r)

  start-held : Held (goes_on img (perform_on (starting new) img) (some new)) (book_start b new).after
  unfolding perform_on book_start step_of goes_on plain
  start-held =
      let n = start-number img new b r in
      by_bool (second_allowed b new)
      (λ y.
      let z = first_no-yes 21 (second_allowed b new) [] y ∙ first_no-none in
      rw (n ∙ z, z) (held-pair _ _ (_, _, begun img new b r y)))
      (λ y.
      let z = first_no-no 21 (second_allowed b new) [] y in
      rw (n ∙ z, z) (unfold Held in r₀))

-- a step on two images
same-pair : (c : Step) (p : Pair) (b : Book) (t : Bool) → GrownIn p b → held_in_growth c ≡ true
    → SameGrown (perform_pair c p) (book_step t c b)
unfolding perform_pair book_step grow_call book_call held_in_growth
same-pair (calling (adding key bytes mode)) p b t (c, d, r) h = (same-adding p c d b r key bytes mode).both
same-pair (calling (deleting key)) p b t (c, d, r) h = (same-deleting p c d b r key).both
same-pair (calling (looking key)) p b t (c, d, r) h = same-looking p c d b r key
same-pair (calling counting) p b t (c, d, r) h = same_count p c d b r
same-pair compacting p b t w h = absurd (not-both false h refl)
same-pair (listing c work list) p b t w h = absurd (not-both false h refl)
same-pair (journaling c work j) p b t w h = absurd (not-both false h refl)
same-pair (storing key recs W) p b t (c, d, r) h = (same-storing p c d b r key recs W).both
same-pair (reading key room) p b t (c, d, r) h = same-reading p c d b r key room
same-pair (converting L) p b t w h = absurd (not-both false h refl)
same-pair (dating name e) p b t (c, d, r) h = same-dated p c d b r name e
same-pair (starting new) p b t w h = absurd (not-both false h refl)

-- a step is a start, or not
by-start {ℓ} : {A : Type ℓ} (c : Step) → (no_start c ≡ true → second_of c ≡ none → A)
    → ((new : Bytes) → c ≡ starting new → A) → A
unfolding no_start second_of
by-start (calling c) n y = n refl refl
by-start compacting n y = n refl refl
by-start (listing c work list) n y = n refl refl
by-start (journaling c work j) n y = n refl refl
by-start (storing key recs W) n y = n refl refl
by-start (reading key room) n y = n refl refl
by-start (converting L) n y = n refl refl
by-start (dating name t) n y = n refl refl
by-start (starting new) n y = y new refl

-- after a step that is no start, on one image
pub after_one : (c : Step) (img : Bytes) → no_start c ≡ true
    → (perform c (alone img)).after ≡ alone (perform_on c img).after
unfolding perform alone_after
after_one c img k =
    by-start c
    (λ n e. ap (goes_on img (perform_on c img)) e ∙ (unfold goes_on in refl))
    (λ new e. absurd (not-both (no_start c) k (ap no_start e ∙ (unfold no_start second_of in refl))))

module _ (c : Step) where
  pub same_answer : (s : State) (b : Book) → Held s b → permits c s ≡ true
      → (perform c s).answer ≡ (book_step (tells c s) c b).answer
  unfolding Held perform alone_after pair_after permits
  same_answer (alone img) b (g, r) p =
      by-start c
      (λ n e. (same_step g img b r c n).1.answer)
      (λ new e. rw e (unfold book_step in start-answer img new b (g, r)))
  same_answer (growing p) b w h = (same-pair c p b (tells c (growing p)) w h).answer

  pub held-step : (s : State) (b : Book) → Held s b → permits c s ≡ true
      → Held (perform c s).after (book_at c s b)
  unfolding Held perform alone_after pair_after permits
  held-step (alone img) b (g, r) p =
      by-start c
      (λ n e.
      let w = same_step g img b r c n in
      rw e (unfold goes_on Held in (w.0, w.1.after)))
      (λ new e. rw e (unfold book_step second_of in start-held img new b (g, r)))
  held-step (growing p) b w h = held-pair _ _ (same-pair c p b (tells c (growing p)) w h).after

-- ---- lists of calls

-- the book after a list, told what the file answered
abbrev pub book_after : List Step → State → Book → Book
book_after steps s b = state_after book_told (told_by steps s) b

pub same-answers : (steps : List Step) (s : State) (b : Book) → Held s b → Permitted steps s
    → answers perform steps s ≡ answers book_told (told_by steps s) b
unfolding answers told_by book_told Permitted
same-answers [] s b h p = refl
same-answers (c ∷ cs) s b h p =
    ap₂ ◌∷◌ (same_answer c s b h p.0)
    (same-answers cs (perform c s).after (book_at c s b) (held-step c s b h p.0) p.1)

pub held_after : (steps : List Step) (s : State) (b : Book) → Held s b → Permitted steps s
    → Held (state_after perform steps s) (book_after steps s b)
unfolding state_after told_by book_told Permitted
held_after [] s b h p = h
held_after (c ∷ cs) s b h p =
    held_after cs (perform c s).after (book_at c s b) (held-step c s b h p.0) p.1

-- ---- the closing clause

pub texts-agree : (s : State) (b : Book) → Held s b → (name : Bytes) → state_text s name ≡ book_text b name
unfolding Held state_text
texts-agree (alone img) b r name = points-agree img b r name
texts-agree (growing p) b (c, d, r) name = pair-agrees p c d b r name

-- ---- the theorem

pub held-agrees : (s : State) (b : Book) → Held s b → (steps : List Step) → Permitted steps s → Agrees s b steps
unfolding Agrees
held-agrees s b h steps p = (
  same-answers steps s b h p,
  λ name. texts-agree (state_after perform steps s) (book_after steps s b) (held_after steps s b h p) name,
)

-- create's image and the new book are in the relation
pub reflects-created : (img : Bytes) (K N seed : ℕ) → (create img K N seed).answer.number ≡ 0
    → Reflected (create img K N seed).after (new_book (terms_of (length img) K (slots_asked N)))
unfolding create plain
reflects-created img K N seed ok =
    let fresh = fresh_image (length img) K (slots_asked N) seed in (
      layout_of fresh,
      subst (λ (i : Bytes). Reflects (layout_of fresh) i (new_book (terms_of (length img) K (slots_asked N))))
          (sym (settled-yes (create_number (length img) K (slots_asked N)) img fresh ok))
          (fresh-reflects (length img) K (slots_asked N) seed (accepted-facts (length img) K (slots_asked N) ok)
          (slots_asked-some N)),
    )

-- every start is in the relation
pub started : (s : State) (b : Book) → Starts s b → Held s b
unfolding Starts Held
started (alone img) b (inl c) =
    rw (c.file-is, c.book-is) (reflects-created c.slice c.K c.N c.seed c.accepted)
started (alone img) b (inr r) =
    rw r.book-is (layout_of img, file-reflects img (check-file img r.bytes r.checked))
started (growing p) b start = absurd start

pub demand3 : Demand3
unfolding Demand3
demand3 s b start steps p = held-agrees s b (started s b start) steps p

-- ---- its case on one image

-- one image takes every step, and stays one until growth starts
pub permitted-alone : (steps : List Step) (img : Bytes) → AllAre no_start steps → Permitted steps (alone img)
unfolding Permitted permits AllAre
permitted-alone [] img k = tt
permitted-alone (c ∷ cs) img k = (
  refl,
  subst (Permitted cs) (sym (after_one c img k.0)) (permitted-alone cs (perform_on c img).after k.1),
)

pub agreement-of-forms : AgreementOfForms
unfolding AgreementOfForms Demand3
agreement-of-forms img b start steps k = demand3 (alone img) b start steps (permitted-alone steps img k)

-- ---- its case with one start

-- growth's calls may stand on one image and on two
pub permitted-growth : (steps : List Step) (s : State) → AllAre held_in_growth steps → Permitted steps s
unfolding Permitted AllAre
permitted-growth [] s k = tt
permitted-growth (c ∷ cs) s k = (allowed s, permitted-growth cs (perform c s).after k.1)
  where
    allowed : (s : State) → permits c s ≡ true
    allowed (alone img) = unfold permits in refl
    allowed (growing p) = unfold permits in k.0

-- a list on one image, and more after it
permitted-then : (steps more : List Step) (img : Bytes) → AllAre no_start steps
    → ((img' : Bytes) → Permitted more (alone img')) → Permitted (steps ++ more) (alone img)
unfolding Permitted permits AllAre
permitted-then [] more img k f = f img
permitted-then (c ∷ cs) more img k f = (
  refl,
  subst (Permitted (cs ++ more)) (sym (after_one c img k.0))
      (permitted-then cs more (perform_on c img).after k.1 f),
)

pub growth-agreement : GrowthAgreement
unfolding GrowthAgreement Demand3
growth-agreement img b start before after new k h =
    demand3 (alone img) b start (before ++ (starting new ∷ after))
    (permitted-then before (starting new ∷ after) img k
    (λ img'. unfold Permitted permits in (refl, permitted-growth after (perform (starting new) (alone img')).after h)))

-- ---- its case of plain calls

-- a plain step is no start
plain-alone : (c : Step) → is_plain c ≡ true → no_start c ≡ true
unfolding is_plain no_start second_of
plain-alone (calling c) p = refl
plain-alone compacting p = refl
plain-alone (listing c work list) p = refl
plain-alone (journaling c work j) p = refl
plain-alone (storing name recs W) p = refl
plain-alone (reading name room) p = refl
plain-alone (converting L) p = refl
plain-alone (dating name t) p = refl
plain-alone (starting new) p = absurd (not-both false p refl)

all-alone : (steps : List Step) → AllAre is_plain steps → AllAre no_start steps
unfolding AllAre
all-alone [] p = tt
all-alone (c ∷ cs) p = (plain-alone c p.0, all-alone cs p.1)

-- a list on one image, without the state
pub answers-alone : (steps : List Step) (img : Bytes) → AllAre no_start steps
    → answers perform steps (alone img) ≡ answers perform_on steps img
unfolding answers AllAre
answers-alone [] img k = refl
answers-alone (c ∷ cs) img k =
    ap₂ ◌∷◌ (unfold perform alone_after in refl)
    (ap (answers perform cs) (after_one c img k.0) ∙ answers-alone cs (perform_on c img).after k.1)

pub after-alone : (steps : List Step) (img : Bytes) → AllAre no_start steps
    → state_after perform steps (alone img) ≡ alone (state_after perform_on steps img)
unfolding state_after AllAre
after-alone [] img k = refl
after-alone (c ∷ cs) img k =
    ap (state_after perform cs) (after_one c img k.0) ∙ after-alone cs (perform_on c img).after k.1

-- what the book is told of a plain step changes nothing
plain-told : (c : Step) → is_plain c ≡ true → (t : Bool) (b : Book) → book_step t c b ≡ book_step false c b
unfolding book_step is_plain
plain-told (calling c) p t b = refl
plain-told compacting p t b = refl
plain-told (listing c work list) p t b = absurd (not-both false p refl)
plain-told (journaling c work j) p t b = absurd (not-both false p refl)
plain-told (storing name recs W) p t b = refl
plain-told (reading name room) p t b = refl
plain-told (converting L) p t b = refl
plain-told (dating name e) p t b = refl
plain-told (starting new) p t b = refl

plain-answers : (steps : List Step) → AllAre is_plain steps → (s : State) (b : Book)
    → answers book_told (told_by steps s) b ≡ answers (book_step false) steps b
unfolding AllAre answers told_by book_told
plain-answers [] p s b = refl
plain-answers (c ∷ cs) p s b =
    rw (plain-told c p.0 (tells c s) b)
    (ap (λ (more : List Answer). (book_step false c b).answer ∷ more) (plain-answers cs p.1 (perform c s).after _))

plain-after : (steps : List Step) → AllAre is_plain steps → (s : State) (b : Book)
    → book_after steps s b ≡ state_after (book_step false) steps b
unfolding AllAre state_after told_by book_told
plain-after [] p s b = refl
plain-after (c ∷ cs) p s b =
    ap (λ (o : Outcome Book). book_after cs (perform c s).after o.after) (plain-told c p.0 (tells c s) b)
    ∙ plain-after cs p.1 (perform c s).after (book_step false c b).after

pub agreement-from : AgreementFrom
unfolding AgreementFrom AgreementOfForms Agrees state_text
agreement-from img b start steps p =
    let alone' = all-alone steps p in
    let whole = agreement-of-forms img b start steps alone' in (
      sym (answers-alone steps img alone') ∙ whole.0 ∙ plain-answers steps p (alone img) b,
      λ name.
          sym (ap (λ (s : State). state_text s name) (after-alone steps img alone'))
          ∙ whole.1 name
          ∙ ap (λ (x : Book). book_text x name) (plain-after steps p (alone img) b),
    )

-- ---- document 01's own

steps_of : List Call → List Step
steps_of [] = []
steps_of (c ∷ cs) = calling c ∷ steps_of cs

all_plain : (calls : List Call) → AllAre is_plain (steps_of calls)
unfolding AllAre is_plain steps_of
all_plain [] = tt
all_plain (c ∷ cs) = (refl, all_plain cs)

file-answers : (calls : List Call) (img : Bytes) → answers perform_on (steps_of calls) img ≡ answers call calls img
unfolding answers perform_on steps_of
file-answers [] img = refl
file-answers (c ∷ cs) img = ap (λ (more : List Answer). (call c img).answer ∷ more) (file-answers cs _)

file-after : (calls : List Call) (img : Bytes) → state_after perform_on (steps_of calls) img ≡ state_after call calls img
unfolding state_after perform_on steps_of
file-after [] img = refl
file-after (c ∷ cs) img = file-after cs (call c img).after

book-answers : (calls : List Call) (b : Book)
    → answers (book_step false) (steps_of calls) b ≡ answers book_call calls b
unfolding answers book_step steps_of
book-answers [] b = refl
book-answers (c ∷ cs) b = ap (λ (more : List Answer). (book_call c b).answer ∷ more) (book-answers cs _)

book-after : (calls : List Call) (b : Book)
    → state_after (book_step false) (steps_of calls) b ≡ state_after book_call calls b
unfolding state_after book_step steps_of
book-after [] b = refl
book-after (c ∷ cs) b = book-after cs (book_call c b).after

pub agreement : Agreement
unfolding Agreement AgreementFrom Starts
agreement slice K N seed ok calls =
    let from =
    agreement-from _ _
    (inl (record { slice = slice; K = K; N = N; seed = seed; accepted = ok; file-is = refl; book-is = refl }))
    (steps_of calls) (all_plain calls) in (
      sym (file-answers calls _) ∙ from.0 ∙ book-answers calls _,
      λ name.
          sym (ap (λ (img : Bytes). file_text img name) (file-after calls _))
          ∙ from.1 name
          ∙ ap (λ (x : Book). book_text x name) (book-after calls _),
    )
