-- The list's book and the new image's book under the same add: what the first accepts the second does too, and both
-- are changed alike.
--     Numbered b s    a step of the book answers a number alone, and a refused one leaves the book
--     Edit            the same entry put into both, or neither changed
-- Assumes nothing.
use mathlib.Core.Path.{◌≡◌, refl, sym, ap, ◌∙◌, subst}
use Prim.Native.Nat.{ℕ, suc, ◌+◌, ◌≤◌, ◌<◌}
use native.Mathlib.Omega.{arith}
use mathlib.Core.Bool.{Bool, true, false, cond, ◌&&◌}
use mathlib.Core.List.{List, [], ◌∷◌, ◌++◌}
use mathlib.Core.Option.{Option, none, some}
use lib.ListN.{length}
use lib.Dec.{leb, ltb, eqb}
use borrow.Author.Tests.{ne_eqb, eq-eqb, le-leb, leb-true, lt-ltb, ltb-true}
use Rattle.spec_file.specs.Bytes.{Bytes}
use Rattle.spec_file.specs.Messages.{bytes_of}
use Rattle.spec_file.specs.Questions.{Question, ask, first_no, name_allowed}
use Rattle.spec_file.specs.Calls.{Answer, Outcome, plain}
use Rattle.spec_book.specs.Book.{Entry, Terms, Book, find, without, with_entry, step_of, room_asks, entered, noting, bare, placed, add_absent, replace, append, withdrawn, add_present, add_found, guarded, book_add, delete_found, book_delete, space_for_all}
use Rattle.law_file.proofs.Tests.{by_bool, by-eq}
use Rattle.law_file.proofs.Opened.{first_no-none, first_no-yes, first_no-no, first_no-head, first_no-tail}
use Rattle.law_agreement.proofs.Entries.{removed, find-same, length-with_entry-new, length-with_entry-old}
use Rattle.law_growth.proofs.Joins.{joined, Joins, same-find}

-- ---- steps answer a number alone

pub record Numbered (b : Book) (s : Outcome Book) : Type 0 where
  pub number : s.answer ≡ plain s.answer.number
  pub kept : (s.answer.number ≡ 0 → ⊥) → s.after ≡ b

module _ (b : Book) where
  told-step : (asks : List Question) (y : Book) → Numbered b (step_of b asks y)
  unfolding step_of plain
  told-step asks y = record { number = refl; kept = λ z. rw (ne_eqb (first_no asks) 0 z) refl }

  pub told-guarded : (asks : List Question) (s : Outcome Book) → Numbered b s → Numbered b (guarded b asks s)
  unfolding guarded
  told-guarded asks s t =
      by_bool (eqb (first_no asks) 0) (λ h. rw h t) (λ h. rw h (told-step asks b))

  told-absent : (key bytes : Bytes) (mode : ℕ) → Numbered b (add_absent b key bytes mode)
  unfolding add_absent
  told-absent key bytes mode =
      by_bool (eqb mode 4) (λ h. rw h (told-step _ b))
      (λ h. rw h (by_bool (eqb mode 3 && eqb (length bytes) 0) (λ k. rw k (told-step _ _)) (λ k. rw k (told-step _ _))))

  told-present : (e : Entry) (bytes : Bytes) (mode : ℕ) → Numbered b (add_present b e bytes mode)
  unfolding add_present replace append
  told-present e bytes mode =
      by_bool (eqb mode 1) (λ h. rw h (told-step _ b)) (λ h₁. rw h₁
      (by_bool (eqb mode 2)
      (λ h. rw h (by_bool (e.offset? && leb (length bytes) e.held) (λ k. rw k (told-step _ _))
      (λ k. rw k (told-step _ _))))
      (λ h₂. rw h₂
      (by_bool (eqb mode 4) (λ h. rw h (told-step _ _)) (λ h. rw h
      (by_bool (eqb (length bytes) 0) (λ k. rw k (told-step _ _)) (λ k. rw k (told-step _ _))))))))

  pub told-found : (key bytes : Bytes) (mode : ℕ) (f : Option Entry) → Numbered b (add_found b key bytes mode f)
  unfolding add_found
  told-found key bytes mode none = told-absent key bytes mode
  told-found key bytes mode (some e) = told-present e bytes mode

  pub told_add : (key bytes : Bytes) (mode : ℕ) → Numbered b (book_add b key bytes mode)
  unfolding book_add
  told_add key bytes mode = told-guarded _ _ (told-found key bytes mode (find key b.entries))

  told-gone : (key : Bytes) (f : Option Entry) → Numbered b (delete_found b key f)
  unfolding delete_found
  told-gone key none = told-step _ _
  told-gone key (some e) = told-step _ _

  pub told-delete : (key : Bytes) → Numbered b (book_delete b key)
  unfolding book_delete
  told-delete key = told-guarded _ _ (told-gone key (find key b.entries))

-- ---- the same edit of two books

pub data Edit (key : Bytes) (b d b' d' : Book) : Type 0 where
  same : b' ≡ b → d' ≡ d → Edit key b d b' d'
  put : (e : Entry) (more : ℕ) → e.name ≡ key → b' ≡ entered b e more → d' ≡ entered d e more
      → length (with_entry e b.entries) ≤ b.terms.N → b.used + more ≤ b.terms.R → Edit key b d b' d'

module _ (c d b : Book) (j : Joins c d b) (key : Bytes) (gone : find key c.entries ≡ none) where
  -- what the list's book accepts, the new image's does, and both are changed alike
  abbrev Both : Outcome Book → Outcome Book → Type 0
  Both o p = o.answer.number ≡ 0 → (p.answer.number ≡ 0) × Edit key b d o.after p.after

  step-put : (asks asks' : List Question) (e : Entry) (more more' : ℕ) → e.name ≡ key → more' ≡ more
      → (first_no asks ≡ 0 → first_no asks' ≡ 0) → (first_no asks ≡ 0 → length (with_entry e b.entries) ≤ b.terms.N)
      → (first_no asks ≡ 0 → b.used + more ≤ b.terms.R)
      → Both (step_of b asks (entered b e more)) (step_of d asks' (entered d e more'))
  unfolding step_of plain
  step-put asks asks' e more more' n q to lo hi z = (
    to z,
    put e more n (rw z refl) (rw (to z) (ap (entered d e) q)) (lo z) (hi z),
  )

  step-refuse : (n : ℕ) (o : Outcome Book) → (n ≡ 0 → ⊥) → Both (step_of b (ask n false ∷ []) b) o
  unfolding step_of plain
  step-refuse n o z e = absurd (z (sym (first_no-no n false [] refl) ∙ e))

  -- 12 and 13 of the two
  heads : d.terms.head ≡ b.terms.head
  heads = ap (λ (t : Terms). t.head) (sym j.terms)

  space-of : (m : ℕ) → first_no (room_asks b m) ≡ 0 → b.used + (b.terms.head + m) ≤ b.terms.R
  unfolding room_asks
  space-of m z =
      let le : b.used + b.terms.head + m ≤ b.terms.R = leb-true _ _
      (first_no-head 13 (leb (b.used + b.terms.head + m) b.terms.R) [] (λ y. omega arith)
      (first_no-tail 12 (leb m b.terms.most) _ (λ y. omega arith) z)) in
      omega arith

  room-too : (m : ℕ) → first_no (room_asks b m) ≡ 0 → first_no (room_asks d m) ≡ 0
  unfolding room_asks
  room-too m z =
      let y₁₂ = first_no-head 12 (leb m b.terms.most) _ (λ y. omega arith) z in
      let sp : b.used + (b.terms.head + m) ≤ b.terms.R = space-of m z in
      let le : d.used + d.terms.head + m ≤ d.terms.R =
      omega (arith, sp, j.used, ap (λ (t : Terms). t.R) j.terms, heads) in
      first_no-yes 12 _ _ (ap (λ (t : Terms). leb m t.most) (sym j.terms) ∙ y₁₂)
      ∙ first_no-yes 13 _ [] (le-leb _ _ le)
      ∙ first_no-none

  more-too : (m : ℕ) → d.terms.head + m ≡ b.terms.head + m
  more-too m = ap (λ (x : ℕ). x + m) heads

  -- ---- absent
  module _ (none-b : find key b.entries ≡ none) (bytes : Bytes) (mode : ℕ) where
    abbrev ten : Book → Question
    ten x = ask 10 (ltb (length x.entries) x.terms.N)

    less-b : (more : List Question) → first_no (ten b ∷ more) ≡ 0 → length b.entries < b.terms.N
    less-b more z = ltb-true _ _ (first_no-head 10 (ltb (length b.entries) b.terms.N) more (λ y. omega arith) z)

    ten-too : (more more' : List Question) → (first_no more ≡ 0 → first_no more' ≡ 0)
        → first_no (ten b ∷ more) ≡ 0 → first_no (ten d ∷ more') ≡ 0
    ten-too more more' to z =
        let l : length d.entries < d.terms.N =
        omega (arith, less-b more z, j.number, ap (λ (t : Terms). t.N) j.terms) in
        first_no-yes 10 _ more' (lt-ltb _ _ l)
        ∙ to (first_no-tail 10 (ltb (length b.entries) b.terms.N) more (λ y. omega arith) z)

    one_more : (e : Entry) → e.name ≡ key → (more : List Question) → first_no (ten b ∷ more) ≡ 0
        → length (with_entry e b.entries) ≤ b.terms.N
    one_more e n more z =
        omega (
          arith,
          less-b more z,
          length-with_entry-new e b.entries (ap (λ (k : Bytes). find k b.entries) n ∙ none-b),
        )

    both-absent : Both (add_absent b key bytes mode) (add_absent d key bytes mode)
    unfolding add_absent placed
    both-absent =
        by_bool (eqb mode 4) (λ h. rw h (step-refuse 14 (step_of d (ask 14 false ∷ []) d) (λ z. omega arith)))
        (λ h. rw h (by_bool (eqb mode 3 && eqb (length bytes) 0)
        (λ k. rw k (step-put _ _ (bare key) 0 0 (unfold bare in refl) refl (ten-too [] [] (λ z. z))
        (one_more (bare key) (unfold bare in refl) [])
        (λ z. omega (arith, j.space-within))))
        (λ k. rw k (step-put _ _ (noting key bytes) _ _ (unfold noting in refl) (more-too (length bytes))
        (ten-too (room_asks b (length bytes)) (room_asks d (length bytes)) (room-too (length bytes)))
        (one_more (noting key bytes) (unfold noting in refl) (room_asks b (length bytes)))
        (λ z. space-of (length bytes)
        (first_no-tail 10 (ltb (length b.entries) b.terms.N) _ (λ y. omega arith) z))))))

  -- ---- present
  module _ (e : Entry) (found-b : find key b.entries ≡ some e) (bytes : Bytes) (mode : ℕ) where
    is_name : e.name ≡ key
    is_name = find-same key b.entries e found-b

    as_many : (x : Entry) → x.name ≡ key → length (with_entry x b.entries) ≤ b.terms.N
    as_many x n =
        omega (
          arith,
          j.points-within,
          length-with_entry-old x b.entries e (ap (λ (k : Bytes). find k b.entries) n ∙ found-b),
        )

    within : b.used + 0 ≤ b.terms.R
    within = omega (arith, j.space-within)

    both-placed : (t : Bytes) → Both (step_of b (room_asks b (length t)) (placed b e.name t))
        (step_of d (room_asks d (length t)) (placed d e.name t))
    unfolding placed noting
    both-placed t =
        step-put _ _ (noting e.name t) _ _ is_name (more-too (length t)) (room-too (length t))
        (λ z. as_many (noting e.name t) is_name) (space-of (length t))

    both-put : (x : Entry) → x.name ≡ key → Both (step_of b [] (entered b x 0)) (step_of d [] (entered d x 0))
    both-put x n = step-put [] [] x 0 0 n refl (λ z. z) (λ z. as_many x n) (λ z. within)

    both-same : Both (step_of b [] b) (step_of d [] d)
    unfolding step_of plain
    both-same z = (z, same (rw z refl) (rw z refl))

    both-present : Both (add_present b e bytes mode) (add_present d e bytes mode)
    unfolding add_present replace append
    both-present =
        by_bool (eqb mode 1) (λ h. rw h (step-refuse 9 (step_of d (ask 9 false ∷ []) d) (λ z. omega arith))) (λ h₁. rw h₁
        (by_bool (eqb mode 2)
        (λ h. rw h (by_bool (e.offset? && leb (length bytes) e.held)
        (λ k. rw k (both-put (noting e.name bytes) (unfold noting in is_name)))
        (λ k. rw k (both-placed bytes))))
        (λ h₂. rw h₂
        (by_bool (eqb mode 4) (λ h. rw h (both-put (withdrawn e) (unfold withdrawn in is_name))) (λ h. rw h
        (by_bool (eqb (length bytes) 0) (λ k. rw k both-same)
        (λ k. rw k (both-placed (bytes_of e.text ++ bytes)))))))))

  pub both_found : (bytes : Bytes) (mode : ℕ) (f : Option Entry) → find key b.entries ≡ f
      → Both (add_found b key bytes mode f) (add_found d key bytes mode f)
  unfolding add_found
  both_found bytes mode none q = both-absent q bytes mode
  both_found bytes mode (some e) q = both-present e q bytes mode
