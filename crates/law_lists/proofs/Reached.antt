-- What holds of every file that calls have reached, from an accepted create or from any sound image, in words that a
-- user thinks in.
--     Reached s b         s is the state, and b the book, after some list of calls in any forms from such a start
--     reached-start, reached-reopened      a start is reached, and so is any sound image, with the book read off it
--     reached-after       more calls reach on
--     reached-cut         so does a call by way of the journal that was cut, and recovered
--     no-point-twice      no point stands in two slots
--     reached-sound       the check says sound
--     reached-read        a search reads at most N slots, and at most C + 1; so does that of each call:
--     reached-add, reached-delete, reached-lookup
-- Assumes nothing.
use mathlib.Core.Path.{◌≡◌, refl, sym, ap, ap₂, ◌∙◌, subst}
use Prim.Native.Nat.{ℕ, ◌≤◌, ◌<◌}
use mathlib.Core.Bool.{true}
use mathlib.Core.List.{List, [], ◌∷◌, ◌++◌}
use mathlib.Core.Logic.{◌⊎◌, inl, inr}
use Rattle.spec_file.specs.Bytes.{Bytes}
use Rattle.spec_file.specs.Image.{Layout, layout_of}
use Rattle.spec_file.specs.Search.{slots_read}
use Rattle.spec_file.specs.Calls.{Outcome, add_read, delete_read, lookup_read}
use Rattle.spec_file.specs.Lists.{state_after}
use Rattle.spec_changes.specs.Journal.{Disk, updates, cut_after, recovered, CutSafe}
use Rattle.spec_book.specs.Steps.{Step, State, alone, perform}
use Rattle.spec_book.specs.Book.{Book}
use Rattle.spec_book.specs.Told.{Told, told_by, book_told}
use Rattle.spec_book.specs.Reopened.{book_of, Starts}
use Rattle.spec_book.specs.Demand.{Permitted}
use Rattle.spec_file.specs.Inspect.{check, sound}
use Rattle.law_file.proofs.Bytes.{AreBytes}
use Rattle.law_file.proofs.Table.{Taken, key_at}
use Rattle.law_file.proofs.CallsRead.{Few, sound-read, sound-add, sound-delete, sound-lookup}
use Rattle.law_agreement.proofs.File.{File}
use Rattle.law_agreement.proofs.Reflect.{Reflected}
use Rattle.law_agreement.proofs.Checked.{file-check}
use Rattle.law_lists.proofs.Theorem.{Held, book_at, book_after, held_after, started}

-- the state and the book after some list of calls from a start: an accepted create, or any sound image
pub record Reached (s : State) (b : Book) : Type 0 where
  pub first : State
  pub opening : Book
  pub starts : Starts first opening
  pub steps : List Step
  pub permitted : Permitted steps first
  pub file-is : s ≡ state_after perform steps first
  pub book-is : b ≡ book_after steps first opening

pub reached-start : (s : State) (b : Book) → Starts s b → Reached s b
unfolding state_after told_by Permitted
reached-start s b start =
    record { first = s; opening = b; starts = start; steps = []; permitted = tt; file-is = refl; book-is = refl }

-- a sound image is reached, with the book read off it
pub reached-reopened : (img : Bytes) → AreBytes img → check img ≡ sound → Reached (alone img) (book_of img)
unfolding Starts
reached-reopened img bytes ok =
    reached-start (alone img) (book_of img) (inr (record { bytes = bytes; checked = ok; book-is = refl }))

pub reached-held : (s : State) (b : Book) → Reached s b → Held s b
reached-held s b r =
    rw (r.file-is, r.book-is)
    (held_after r.steps _ _ (started r.first r.opening r.starts) r.permitted)

-- ---- more calls reach on

-- one list of calls after another: the file, the book, and what they may hold
file-append : (cs ds : List Step) (s : State)
    → state_after perform (cs ++ ds) s ≡ state_after perform ds (state_after perform cs s)
unfolding state_after
file-append [] ds s = refl
file-append (c ∷ cs) ds s = file-append cs ds (perform c s).after

book-append : (cs ds : List Step) (s : State) (b : Book)
    → book_after (cs ++ ds) s b ≡ book_after ds (state_after perform cs s) (book_after cs s b)
unfolding state_after told_by book_told
book-append [] ds s b = refl
book-append (c ∷ cs) ds s b = book-append cs ds (perform c s).after (book_at c s b)

permitted-append : (cs ds : List Step) (s : State) → Permitted cs s → Permitted ds (state_after perform cs s)
    → Permitted (cs ++ ds) s
unfolding state_after Permitted
permitted-append [] ds s p q = q
permitted-append (c ∷ cs) ds s p q = (p.0, permitted-append cs ds (perform c s).after p.1 q)

pub reached-after : (s : State) (b : Book) → Reached s b → (steps : List Step) → Permitted steps s
    → Reached (state_after perform steps s) (book_after steps s b)
reached-after s b r steps p =
    record {
      first = r.first;
      opening = r.opening;
      starts = r.starts;
      steps = r.steps ++ steps;
      permitted =
          permitted-append r.steps steps r.first r.permitted
          (subst (λ (x : State). Permitted steps x) r.file-is p);
      file-is = ap (state_after perform steps) r.file-is ∙ sym (file-append r.steps steps _);
      book-is =
          ap₂ (λ (x : State) (y : Book). book_after steps x y) r.file-is r.book-is
          ∙ sym (book-append r.steps steps _ _);
    }

pub reached-step : (s : State) (b : Book) → Reached s b → (c : Step) → Permitted (c ∷ []) s
    → Reached (perform c s).after (book_at c s b)
reached-step s b r c p = unfold state_after told_by book_told in reached-after s b r (c ∷ []) p

-- ---- a cut, and its recovery

-- A call from img to img' was cut after n writes, and the image is recovered: what it holds now is reached, with the
-- book before the call or with the one after it; once the mark was written, with the one after.
module _ (img img' : Bytes) (b b' : Book) (r : Reached (alone img) b) (r' : Reached (alone img') b') (j : Bytes)
    (safe : CutSafe img img' j) (n : ℕ) (junk : ℕ → ℕ) where
  abbrev pub found : Bytes
  found = (recovered (cut_after n junk (updates img img' j) (record { image = img; journal = j }))).image

  pub reached-cut : Reached (alone found) b ⊎ Reached (alone found) b'
  unfolding CutSafe
  reached-cut = either (safe n junk).either
    where
      either : (found ≡ img) ⊎ (found ≡ img') → Reached (alone found) b ⊎ Reached (alone found) b'
      either (inl e) = inl (rw e r)
      either (inr e) = inr (rw e r')

  pub reached-marked : 2 ≤ n → Reached (alone found) b'
  unfolding CutSafe
  reached-marked m = rw ((safe n junk).after-mark m) r'

-- ---- one image

module _ (img : Bytes) (b : Book) (r : Reached (alone img) b) where
  pub reached-reflects : Reflected img b
  unfolding Held
  reached-reflects = reached-held (alone img) b r

  -- no point stands twice
  pub no-point-twice : (i j : ℕ) → i < (layout_of img).N → j < (layout_of img).N
      → Taken (layout_of img) img i → Taken (layout_of img) img j
      → key_at (layout_of img) img i ≡ key_at (layout_of img) img j
      → i ≡ j
  no-point-twice i j li lj ti tj e =
      let s = reached-reflects in
      let f : File (layout_of img) img = subst (λ (l : Layout). File l img) (sym s.1.file.layout) s.1.file in
      f.table.distinct i j li lj ti tj e

  -- the check says sound
  pub reached-sound : check img ≡ sound
  reached-sound =
      let s = reached-reflects in
      file-check s.0 img s.1.file

  -- how many slots a search reads: at most all, and at most one more than C
  module _ (key : Bytes) where
    pub reached-read : Few img (slots_read (layout_of img) img key)
    reached-read = sound-read img reached-sound key

    -- what the call on a reached file reports, C being that before the call
    pub reached-add : (mode : ℕ) → Few img (add_read img key mode)
    reached-add = sound-add img reached-sound key

    pub reached-delete : Few img (delete_read img key)
    reached-delete = sound-delete img reached-sound key

    pub reached-lookup : Few img (lookup_read img key)
    reached-lookup = sound-lookup img reached-sound key
