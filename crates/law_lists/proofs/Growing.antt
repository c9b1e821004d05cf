-- Growth in the words of a user, of every pair of images that calls have reached.
--     both-sound            the check says sound of both images
--     not-in-both           no point is in both
--     left_of                how many points are still in the old image
--     moves-eight           an accepted add, delete or storing leaves 8 fewer there, or none
--     moves-nine            and at most 9 fewer: the one that it names and 8 more
--     growth-ends           growth ends after at most ⌈C / 8⌉ of them, C being the old image's number of points
--     says-as-after         what is found during growth, and what count answers, is what is found and answered once
--                           any number of further points, or all, have moved
-- Assumes nothing.
use mathlib.Core.Path.{◌≡◌, refl, sym, ap, ◌∙◌, subst}
use Prim.Native.Nat.{ℕ, zero, suc, ◌+◌, ◌-◌, ◌*◌, ◌≤◌, ◌<◌}
use native.Mathlib.Omega.{arith}
use mathlib.Core.Bool.{Bool, true, false}
use mathlib.Core.List.{List, [], ◌∷◌}
use mathlib.Core.Option.{Option, none, some, none-ne-some}
use lib.ListN.{length}
use lib.Dec.{eqb}
use borrow.Author.Tests.{eq-eqb}
use Rattle.spec_file.specs.Bytes.{Bytes}
use Rattle.spec_file.specs.Limits.{points_field}
use Rattle.spec_file.specs.Image.{field, Layout, layout_of}
use Rattle.spec_file.specs.Search.{met, search, is_met}
use Rattle.spec_file.specs.Questions.{name_allowed}
use Rattle.spec_file.specs.Calls.{Answer, Outcome}
use Rattle.spec_file.specs.Lists.{Call, adding, deleting, looking, counting, state_after}
use Rattle.spec_file.specs.Inspect.{check, sound}
use Rattle.spec_moves.specs.Moves.{Pair, lowest_slot, moves, moves_each}
use Rattle.spec_growth.specs.Growth.{grow_count}
use Rattle.spec_book.specs.Steps.{Step, calling, compacting, listing, journaling, storing, reading, converting, dating, starting, grow_call, perform_on, perform_pair, State, alone, growing, left_in, pair_state, second_of, goes_on, alone_after, pair_after, perform}
use Rattle.spec_book.specs.Book.{Entry, Book, find, book_count}
use Rattle.spec_book.specs.Told.{book_step, tells}
use Rattle.spec_book.specs.Demand.{state_text, pair_text, book_text, held_in_growth, permits, Permitted, no_start}
use Rattle.law_file.proofs.Tests.{by_bool, not-both}
use Rattle.law_agreement.proofs.Reflect.{Reflects}
use Rattle.law_agreement.proofs.Checked.{file-check}
use Rattle.law_agreement.proofs.Simple.{found-met, found_none, by-met}
use Rattle.law_growth.proofs.Joins.{Joins}
use Rattle.law_growth.proofs.Moving.{Grown, GrownIn, moves-keep, lowest-counts}
use Rattle.spec_book.specs.Reopened.{Starts}
use Rattle.law_growth.proofs.Looking.{same_count, pair-agrees}
use Rattle.law_growth.proofs.Changing.{same-adding, same-deleting, same-storing}
use Rattle.law_lists.proofs.Theorem.{Held, book_at, held-step, after_one, texts-agree}
use Rattle.law_lists.proofs.Reached.{Reached, reached-held}

-- ---- both images

module _ (p : Pair) (b : Book) (r : Reached (growing p) b) where
  grown : GrownIn p b
  unfolding Held
  grown = reached-held (growing p) b r

  pub both-sound : (check p.old ≡ sound) × (check p.new ≡ sound)
  both-sound =
      let w = grown.2 in (
        file-check (layout_of p.old) p.old w.old.file,
        file-check (layout_of p.new) p.new w.new.file,
      )

  -- a name that is found in the old image is not found in the new one
  pub not-in-both : (key : Bytes) → name_allowed (layout_of p.old).K key ≡ true
      → is_met (search (layout_of p.old) p.old key) ≡ true
      → is_met (search (layout_of p.new) p.new key) ≡ false
  not-in-both key a m =
      let c = grown.0 in
      let d = grown.1 in
      let w = grown.2 in
      let a' = subst (λ (k : ℕ). name_allowed k key ≡ true) w.key a in
      by-met (layout_of p.old) p.old c w.old key
      (λ i e. by-met (layout_of p.new) p.new d w.new key
      (λ k f. absurd (none-ne-some _
      (sym (w.joins.apart key _ (found-met (layout_of p.old) p.old c w.old key a i e))
      ∙ found-met (layout_of p.new) p.new d w.new key a' k f)))
      (λ n. n))
      (λ n. absurd (not-both (is_met (search (layout_of p.old) p.old key)) m n))

  -- ---- what is said during growth is what is said after it

  pub says-as-after : (n : ℕ) → ((name : Bytes) → pair_text (moves n p) name ≡ pair_text p name)
      × ((grow_count (moves n p)).answer ≡ (grow_count p).answer)
  says-as-after n =
      let w = moves-keep n p b grown in (
        (λ name.
            pair-agrees (moves n p) w.0 w.1 b w.2 name
            ∙ sym (pair-agrees p grown.0 grown.1 b grown.2 name)),
        (same_count (moves n p) w.0 w.1 b w.2).answer
            ∙ sym (same_count p grown.0 grown.1 b grown.2).answer,
      )

-- ---- growth ends

-- how many points are still to move
unfoldable pub left_of : State → ℕ
left_of (alone img) = 0
left_of (growing p) = field p.old points_field

-- the steps that move points
unfoldable pub moves_points : Step → Bool
moves_points (calling (adding key bytes mode)) = true
moves_points (calling (deleting key)) = true
moves_points (calling (looking key)) = false
moves_points (calling counting) = false
moves_points compacting = false
moves_points (listing c work list) = false
moves_points (journaling c work j) = false
moves_points (storing key recs W) = true
moves_points (reading key room) = false
moves_points (converting L) = false
moves_points (dating name t) = false
moves_points (starting new) = false

-- a pair's state has no more to move than its old image has points
left-pair : (p : Pair) → left_of (pair_state p) ≤ field p.old points_field
unfolding pair_state
left-pair p = go (lowest_slot p.old)
  where
    go : (f : Option ℕ) → left_of (left_in p f) ≤ field p.old points_field
    go none = unfold left_in left_of in omega arith
    go (some i) = unfold left_in left_of in omega arith

eight : (c : Step) (p : Pair) (b : Book) → GrownIn p b → moves_points c ≡ true → (perform_pair c p).answer.number ≡ 0
    → field (perform_pair c p).after.old points_field ≤ field p.old points_field - 8
unfolding moves_points perform_pair grow_call
eight (calling (adding key bytes mode)) p b (c, d, r) m z = (same-adding p c d b r key bytes mode).fewer z
eight (calling (deleting key)) p b (c, d, r) m z = (same-deleting p c d b r key).fewer z
eight (calling (looking key)) p b w m z = absurd (not-both false m refl)
eight (calling counting) p b w m z = absurd (not-both false m refl)
eight compacting p b w m z = absurd (not-both false m refl)
eight (listing c work list) p b w m z = absurd (not-both false m refl)
eight (journaling c work j) p b w m z = absurd (not-both false m refl)
eight (storing key recs W) p b (c, d, r) m z = (same-storing p c d b r key recs W).fewer z
eight (reading key room) p b w m z = absurd (not-both false m refl)
eight (converting L) p b w m z = absurd (not-both false m refl)
eight (dating name t) p b w m z = absurd (not-both false m refl)
eight (starting new) p b w m z = absurd (not-both false m refl)

nine : (c : Step) (p : Pair) (b : Book) → GrownIn p b → moves_points c ≡ true → (perform_pair c p).answer.number ≡ 0
    → field p.old points_field ≤ field (perform_pair c p).after.old points_field + 9
unfolding moves_points perform_pair grow_call
nine (calling (adding key bytes mode)) p b (c, d, r) m z = (same-adding p c d b r key bytes mode).at_most z
nine (calling (deleting key)) p b (c, d, r) m z = (same-deleting p c d b r key).at_most z
nine (calling (looking key)) p b w m z = absurd (not-both false m refl)
nine (calling counting) p b w m z = absurd (not-both false m refl)
nine compacting p b w m z = absurd (not-both false m refl)
nine (listing c work list) p b w m z = absurd (not-both false m refl)
nine (journaling c work j) p b w m z = absurd (not-both false m refl)
nine (storing key recs W) p b (c, d, r) m z = (same-storing p c d b r key recs W).at_most z
nine (reading key room) p b w m z = absurd (not-both false m refl)
nine (converting L) p b w m z = absurd (not-both false m refl)
nine (dating name t) p b w m z = absurd (not-both false m refl)
nine (starting new) p b w m z = absurd (not-both false m refl)

-- such a step is no start, and may stand on one image and on two
move-alone : (c : Step) → moves_points c ≡ true → (no_start c ≡ true) × (held_in_growth c ≡ true)
unfolding moves_points no_start second_of held_in_growth
move-alone (calling (adding key bytes mode)) m = (refl, refl)
move-alone (calling (deleting key)) m = (refl, refl)
move-alone (calling (looking key)) m = (refl, refl)
move-alone (calling counting) m = (refl, refl)
move-alone compacting m = absurd (not-both false m refl)
move-alone (listing c work list) m = absurd (not-both false m refl)
move-alone (journaling c work j) m = absurd (not-both false m refl)
move-alone (storing key recs W) m = (refl, refl)
move-alone (reading key room) m = (refl, refl)
move-alone (converting L) m = absurd (not-both false m refl)
move-alone (dating name t) m = (refl, refl)
move-alone (starting new) m = absurd (not-both false m refl)

pub move-permitted : (c : Step) → moves_points c ≡ true → (s : State) → permits c s ≡ true
unfolding permits
move-permitted c m (alone img) = refl
move-permitted c m (growing p) = (move-alone c m).1

held-eight : (c : Step) (s : State) (b : Book) → Held s b → moves_points c ≡ true → (perform c s).answer.number ≡ 0
    → left_of (perform c s).after ≤ left_of s - 8
unfolding Held
held-eight c (alone img) b h m z =
    subst (λ (x : State). left_of x ≤ left_of (alone img) - 8) (sym (after_one c img (move-alone c m).0))
    (unfold left_of in omega arith)
held-eight c (growing p) b h m z =
    unfold perform pair_after left_of in
    omega (arith, left-pair (perform_pair c p).after, eight c p b h m z)

pub moves-eight : (s : State) (b : Book) → Reached s b → (c : Step) → moves_points c ≡ true
    → (perform c s).answer.number ≡ 0 → left_of (perform c s).after ≤ left_of s - 8
moves-eight s b r c m z = held-eight c s b (reached-held s b r) m z

-- a pair that calls have reached: the old image after an accepted call has at most 9 points fewer
pub moves-nine : (p : Pair) (b : Book) → Reached (growing p) b → (c : Step) → moves_points c ≡ true
    → (perform_pair c p).answer.number ≡ 0
    → field p.old points_field ≤ field (perform_pair c p).after.old points_field + 9
unfolding Held
moves-nine p b r c m z = nine c p b (reached-held (growing p) b r) m z

-- a list of accepted adds, deletes and storings
unfoldable pub Moving : List Step → State → Type 0
Moving [] s = Unit {0}
Moving (c ∷ cs) s =
    (moves_points c ≡ true) × ((perform c s).answer.number ≡ 0) × Moving cs (perform c s).after

-- while it grows, the old image has a point
abbrev Live : State → Type 0
Live (alone img) = Unit {0}
Live (growing p) = (i : ℕ) × (lowest_slot p.old ≡ some i)

live-pair : (p : Pair) → Live (pair_state p)
unfolding pair_state
live-pair p = go (lowest_slot p.old) refl
  where
    go : (f : Option ℕ) → lowest_slot p.old ≡ f → Live (left_in p f)
    go none e = unfold left_in in tt
    go (some i) e = unfold left_in in (i, e)

live_on : (img : Bytes) (o : Outcome Bytes) (f : Option Bytes) → Live (goes_on img o f)
unfolding goes_on
live_on img o none = tt
live_on img o (some new) =
    by_bool (eqb o.answer.number 0)
    (λ y. rw y (live-pair (record { old = img; new = new })))
    (λ n. rw n tt)

live-step : (c : Step) (s : State) → Live (perform c s).after
unfolding perform alone_after pair_after
live-step c (alone img) = live_on img (perform_on c img) (second_of c)
live-step c (growing p) = live-pair (perform_pair c p).after

live-after : (steps : List Step) (s : State) → Live s → Live (state_after perform steps s)
unfolding state_after
live-after [] s l = l
live-after (c ∷ cs) s l = live-after cs (perform c s).after (live-step c s)

live-start : (s : State) (b : Book) → Starts s b → Live s
unfolding Starts
live-start (alone img) b start = tt
live-start (growing p) b start = absurd start

pub reached-live : (s : State) (b : Book) → Reached s b → Live s
reached-live s b r =
    rw r.file-is (live-after r.steps r.first (live-start r.first r.opening r.starts))

-- what is left after such a list, of a state in the relation
pub record Ends (s s' : State) (n : ℕ) : Type 0 where
  pub book : Book
  pub held : Held s' book
  pub fewer : left_of s' ≤ left_of s - 8 * n

run_ends : (steps : List Step) (s : State) (b : Book) → Held s b → Moving steps s
    → Ends s (state_after perform steps s) (length steps)
unfolding state_after Moving
run_ends [] s b h w = record { book = b; held = h; fewer = omega arith }
run_ends (c ∷ cs) s b h w =
    let first = held-eight c s b h w.0 w.1 in
    let rest : Ends (perform c s).after (state_after perform cs (perform c s).after) (length cs) =
    run_ends cs (perform c s).after (book_at c s b) (held-step c s b h (move-permitted c w.0 s)) w.2 in
    record { book = rest.book; held = rest.held; fewer = omega (arith, first, rest.fewer) }

-- nothing left to move: there is one image
one_left : (s : State) (b : Book) → Held s b → Live s → left_of s ≡ 0 → (img : Bytes) × (s ≡ alone img)
unfolding Held left_of
one_left (alone img) b h l z = (img, refl)
one_left (growing p) b (c, d, r) l z = absurd (lowest-counts p.old c r.old l.0 l.1 z)

-- after at most ⌈C / 8⌉ accepted adds, deletes and storings the old image is finished with
pub growth-ends : (s : State) (b : Book) → Reached s b → (steps : List Step) → Moving steps s
    → left_of s ≤ 8 * length steps → (img : Bytes) × (state_after perform steps s ≡ alone img)
growth-ends s b r steps w l =
    let e = run_ends steps s b (reached-held s b r) w in
    one_left (state_after perform steps s) e.book e.held (live-after steps s (reached-live s b r))
    (omega (arith, e.fewer, l))
