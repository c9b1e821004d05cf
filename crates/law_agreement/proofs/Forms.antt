-- Each step of a list keeps the relation of file and book, with equal answers. A form that is refused neither with 16
-- nor with 17 is the plain call, of the file and of the book.
--     same-call, same-changed    a call keeps the relation; so does one that has forms
--     Plain o                 an outcome that is an answer's number, and the image as it was where that is not 0
--     listed_plain            the listed form of such a call, its slices allowed, is that call; journaled-plain: so is
--                             the journaled form, its journal allowed too
--     same_step               every step on one image, so none but a start, keeps the relation, with equal answers;
--                             same_layout: and the layout, unless it is a conversion
-- Assumes nothing.
use mathlib.Core.Path.{◌≡◌, refl, sym, ap, ap₂, ◌∙◌, subst}
use Prim.Native.Nat.{ℕ, ◌+◌, ◌-◌, ◌≤◌}
use native.Mathlib.Omega.{arith}
use mathlib.Core.Bool.{Bool, true, false, cond, ◌&&◌}
use mathlib.Core.List.{List, [], ◌∷◌}
use lib.ListN.{length}
use lib.Dec.{eqb}
use borrow.Author.Tests.{ne_eqb}
use Rattle.spec_file.specs.Bytes.{Bytes}
use Rattle.spec_file.specs.Image.{Layout, layout_of, data_start}
use Rattle.spec_file.specs.Questions.{ask, first_no}
use Rattle.spec_file.specs.Calls.{Answer, Outcome, plain, settled, add, delete}
use Rattle.spec_file.specs.Lists.{Call, adding, deleting, looking, counting, call}
use Rattle.spec_compaction.specs.Compact.{compact}
use Rattle.spec_changes.specs.Changes.{list_allowed, work_allowed, worked_number, Listed, listed}
use Rattle.spec_changes.specs.Journal.{journal_allowed, journaled_number, Journaled, journaled}
use Rattle.spec_book.specs.Steps.{Change, adds, deletes, compacts, changed, Step, calling, compacting, listing, journaling, storing, reading, converting, listed_outcome, journaled_outcome, perform_on, alone, second_of, alone_after, perform, dating, starting}
use Rattle.spec_book.specs.Book.{Terms, Book, step_of, guarded, book_call}
use Rattle.spec_book.specs.Told.{book_changed, image_length, told_number, book_step, tells}
use Rattle.spec_book.specs.Demand.{no_start}
use Rattle.law_file.proofs.Tests.{by_bool, by-eq, zero-yes, zero-no, not-both}
use Rattle.law_file.proofs.Outcomes.{settled-yes, settled-no}
use Rattle.law_agreement.proofs.Reflect.{Reflects}
use Rattle.law_agreement.proofs.Simple.{Same, Alike, same_count, same-lookup, same-delete}
use Rattle.law_agreement.proofs.Add.{same_add}
use Rattle.law_agreement.proofs.Dating.{same-dating}
use Rattle.law_agreement.proofs.Compacting.{same-compact}
use Rattle.law_agreement.proofs.Converting.{same-convert}
use Rattle.law_agreement.proofs.Recorded.{same_store, same_read}

-- the step leaves the list in the image where it is: every one on one image except the converter
abbrev pub Remaining : Step → Type 0
Remaining c = (L : ℕ) → c ≡ converting L → ⊥

-- ---- calls

module _ (g : Layout) (img : Bytes) (b : Book) (r : Reflects g img b) where
  pub same-call : (c : Call) → Same g (call c img) (book_call c b)
  unfolding call book_call
  same-call (adding key bytes mode) = same_add g img b r key bytes mode
  same-call (deleting key) = same-delete g img b r key
  same-call (looking key) = same-lookup g img b r key
  same-call counting = same_count g img b r

  pub same-changed : (c : Change) → Same g (changed c img) (book_changed c b)
  unfolding changed book_changed
  same-changed (adds key bytes mode) = same_add g img b r key bytes mode
  same-changed (deletes key) = same-delete g img b r key
  same-changed compacts = same-compact g img b r

-- ---- a form and its plain call

-- an outcome by its number: "A refused call .. changes no byte"
pub record Plain (img : Bytes) (o : Outcome Bytes) : Type 0 where
  pub answer-is : o.answer ≡ plain o.answer.number
  pub refused-is : (o.answer.number ≡ 0 → ⊥) → o.after ≡ img

settled_plain : (img : Bytes) (n : ℕ) (x : Bytes) → Plain img (record { after = settled n img x; answer = plain n })
unfolding plain
settled_plain img n x = record { answer-is = refl; refused-is = λ z. settled-no n img x z }

pub change-plain : (c : Change) (img : Bytes) → Plain img (changed c img)
unfolding changed add delete compact
change-plain (adds key bytes mode) img = settled_plain img _ _
change-plain (deletes key) img = settled_plain img _ _
change-plain compacts img = settled_plain img _ _

-- the image that a call leaves, settled by its own number
settled-own : (img : Bytes) (o : Outcome Bytes) → Plain img o → settled o.answer.number img o.after ≡ o.after
settled-own img o p =
    by-eq o.answer.number 0
    (λ z. settled-yes o.answer.number img o.after z)
    (λ z. settled-no o.answer.number img o.after z ∙ sym (p.refused-is z))

module _ (do' : Bytes → Outcome Bytes) (img : Bytes) (p : Plain img (do' img)) (work : ℕ) (list : Bytes) where
  abbrev allowed : Bool
  allowed = list_allowed (length list) && work_allowed (length img) work

  abbrev own : ℕ
  own = (do' img).answer.number

  pub listed_plain : allowed ≡ true → listed_outcome (listed do' img work list) ≡ do' img
  unfolding listed_outcome listed worked_number
  listed_plain h =
      rw h (
      ap₂ (λ (a : Bytes) (n : Answer). record { after = a; answer = n }) (settled-own img (do' img) p)
      (sym p.answer-is)
      )

  pub listed-16 : allowed ≡ false → listed_outcome (listed do' img work list) ≡ record { after = img; answer = plain 16 }
  unfolding listed_outcome listed worked_number settled
  listed-16 h = rw h refl

-- of the journaled form, by its number: the plain call's where the working slice is allowed, 17 where that is 0 and the
-- journal is not allowed
module _ (do' : Bytes → Outcome Bytes) (img : Bytes) (p : Plain img (do' img)) (work : ℕ) (j : Bytes) where
  abbrev call-number : ℕ
  call-number = (do' img).answer.number

  abbrev takes : Bool
  takes = journal_allowed img (do' img).after j

  by_number : (n : ℕ) → journaled_number do' img work j ≡ n
      → journaled_outcome (journaled do' img work j)
      ≡ record { after = settled n img (do' img).after; answer = plain n }
  unfolding journaled_outcome journaled
  by_number n h = rw h refl

  pub journaled-16 : work_allowed (length img) work ≡ false
      → journaled_outcome (journaled do' img work j) ≡ record { after = img; answer = plain 16 }
  unfolding journaled_number worked_number settled
  journaled-16 h = by_number 16 (rw h refl)

  module _ (fits : work_allowed (length img) work ≡ true) where
    -- refused by its own questions
    pub journaled-refused : (call-number ≡ 0 → ⊥) → journaled_outcome (journaled do' img work j) ≡ do' img
    unfolding journaled_number worked_number
    journaled-refused z =
        by_number call-number (rw fits (zero-no call-number (cond takes 0 17) call-number z))
        ∙ ap₂ (λ (a : Bytes) (n : Answer). record { after = a; answer = n }) (settled-own img (do' img) p)
        (sym p.answer-is)

    module _ (z : call-number ≡ 0) where
      number_is : journaled_number do' img work j ≡ cond takes 0 17
      unfolding journaled_number worked_number
      number_is = rw fits (zero-yes call-number (cond takes 0 17) call-number z)

      pub journaled-plain : takes ≡ true → journaled_outcome (journaled do' img work j) ≡ do' img
      journaled-plain h =
          by_number call-number (number_is ∙ ap (λ (t : Bool). cond t 0 17) h ∙ sym z)
          ∙ ap₂ (λ (a : Bytes) (n : Answer). record { after = a; answer = n }) (settled-own img (do' img) p)
          (sym p.answer-is)

      pub journaled-17 : takes ≡ false
          → journaled_outcome (journaled do' img work j) ≡ record { after = img; answer = plain 17 }
      unfolding settled
      journaled-17 h = by_number 17 (number_is ∙ ap (λ (t : Bool). cond t 0 17) h)

-- ---- a form keeps the relation

module _ (g : Layout) (img : Bytes) (b : Book) (r : Reflects g img b) where
  -- the book knows the image's length
  pub image-length : image_length b.terms ≡ length img
  unfolding image_length layout_of
  image-length =
      let o = r.file.opened in
      let at : data_start g.K g.N ≡ g.D =
      ap (λ (l : Layout). data_start l.K l.N) (sym r.file.layout) ∙ sym o.data-at
      ∙ ap (λ (l : Layout). l.D) r.file.layout in
      let below : g.D ≤ length img =
      subst (λ (d : ℕ). d ≤ length img) (ap (λ (l : Layout). l.D) r.file.layout)
      (omega (arith, o.free-low, o.free-high)) in
      ap (λ (t : Terms). data_start t.K t.N + t.R) r.terms ∙ omega (arith, at, below)

  -- 16, by the image's length or by what the book takes for it
  module _ (c : Change) (asks : ℕ → Bool) where
    abbrev plainly-done : Outcome Book
    plainly-done = book_changed c b

    abbrev asked : Outcome Book
    asked = guarded b (ask 16 (asks (image_length b.terms)) ∷ []) plainly-done

    asked-length : asked ≡ guarded b (ask 16 (asks (length img)) ∷ []) plainly-done
    asked-length = ap (λ (l : ℕ). guarded b (ask 16 (asks l) ∷ []) plainly-done) image-length

    asked-yes : asks (length img) ≡ true → asked ≡ plainly-done
    unfolding guarded first_no ask
    asked-yes h = asked-length ∙ rw h refl

    asked-16 : asks (length img) ≡ false → asked ≡ record { after = b; answer = plain 16 }
    unfolding guarded step_of first_no ask
    asked-16 h = asked-length ∙ rw h refl

  pub same-listing : (c : Change) (work : ℕ) (list : Bytes) (t : Bool)
      → Same g (perform_on (listing c work list) img) (book_step t (listing c work list) b)
  unfolding perform_on book_step
  same-listing c work list t =
      let asks : ℕ → Bool = λ (l : ℕ). list_allowed (length list) && work_allowed l work in
      by_bool (asks (length img))
      (λ h. rw (
        listed_plain (changed c) img (change-plain c img) work list h,
        asked-yes c asks h,
      ) (same-changed g img b r c))
      (λ h. rw (
        listed-16 (changed c) img (change-plain c img) work list h,
        asked-16 c asks h,
      ) (record { answer = refl; after = r }))

  -- what the book is told changes nothing where its own questions have a number, or where it is told of none
  told-refused : (t : Bool) (o : Outcome Book) → (o.answer.number ≡ 0 → ⊥) → told_number t b o ≡ o
  unfolding told_number
  told-refused t o z = by_bool t (λ h. rw (h, ne_eqb o.answer.number 0 z) refl) (λ h. rw h refl)

  told-17 : (o : Outcome Book) → o.answer.number ≡ 0 → told_number true b o ≡ record { after = b; answer = plain 17 }
  unfolding told_number step_of first_no ask
  told-17 o z = rw z refl

  module _ (c : Change) (work : ℕ) (j : Bytes) where
    abbrev done : Outcome Bytes
    done = changed c img

    abbrev booked : Outcome Book
    booked = book_changed c b

    abbrev told : Outcome Bytes → Bool
    told o = eqb o.answer.number 17

    same-done : Same g done booked
    same-done = same-changed g img b r c

    book-number : booked.answer.number ≡ done.answer.number
    book-number = ap (λ (x : Answer). x.number) (sym same-done.answer)

    asks : ℕ → Bool
    asks l = work_allowed l work

    -- once it is known what the file does
    by-file : (o : Outcome Bytes) → journaled_outcome (journaled (changed c) img work j) ≡ o
        → Same g o (told_number (told o) b (asked c asks))
        → Same g (perform_on (journaling c work j) img)
        (book_step (told (perform_on (journaling c work j) img)) (journaling c work j) b)
    unfolding perform_on book_step asks
    by-file o e s = rw e s

    -- accepted: the book is not told of a 17
    not-told : done.answer.number ≡ 0 → Same g done (told_number (told done) b booked)
    unfolding told_number
    not-told z =
        subst (λ (t : Bool). Same g done (told_number t b booked)) (sym (ap (λ (n : ℕ). eqb n 17) z)) same-done

    pub same-journaling : Same g (perform_on (journaling c work j) img)
        (book_step (told (perform_on (journaling c work j) img)) (journaling c work j) b)
    unfolding asks plain told_number
    same-journaling =
        by_bool (work_allowed (length img) work)
        (λ fits. by-eq done.answer.number 0
        (λ z. by_bool (journal_allowed img done.after j)
        (λ h. by-file done (journaled-plain (changed c) img (change-plain c img) work j fits z h)
        (rw (asked-yes c asks fits) (not-told z)))
        (λ h. by-file _ (journaled-17 (changed c) img (change-plain c img) work j fits z h)
        (rw (asked-yes c asks fits, told-17 booked (book-number ∙ z)) (record { answer = refl; after = r }))))
        (λ z. by-file done (journaled-refused (changed c) img (change-plain c img) work j fits z)
        (rw (asked-yes c asks fits, told-refused (told done) booked (λ e. z (sym book-number ∙ e))) same-done)))
        (λ h. by-file _ (journaled-16 (changed c) img (change-plain c img) work j h)
        (rw (asked-16 c asks h) (record { answer = refl; after = r })))

  -- in the same layout, but for the converter
  pub same_step : (c : Step) → no_start c ≡ true → Alike (perform_on c img) (book_step (tells c (alone img)) c b)
  unfolding perform_on book_step no_start second_of
  same_step (calling c) k = (g, same-call g img b r c)
  same_step compacting k = (g, same-compact g img b r)
  same_step (listing c work list) k = (g, same-listing c work list (tells (listing c work list) (alone img)))
  same_step (journaling c work j) k = (g, (unfold tells perform alone_after in same-journaling c work j))
  same_step (storing key recs W) k = (g, same_store g img b r key recs W)
  same_step (reading key room) k = (g, same_read g img b r key room)
  same_step (converting L) k = same-convert img b (g, r) L
  same_step (dating name t) k = (g, same-dating g img b r name t)
  same_step (starting new) k = absurd (not-both false k refl)

  pub same_layout : (c : Step) → Remaining c → (n : no_start c ≡ true) → (same_step c n).0 ≡ g
  unfolding same_step no_start second_of
  same_layout (calling c) k n = refl
  same_layout compacting k n = refl
  same_layout (listing c work list) k n = refl
  same_layout (journaling c work j) k n = refl
  same_layout (storing key recs W) k n = refl
  same_layout (reading key room) k n = refl
  same_layout (converting L) k n = absurd (k L refl)
  same_layout (dating name t) k n = refl
  same_layout (starting new) k n = absurd (not-both false n refl)
