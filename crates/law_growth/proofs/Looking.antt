-- Lookup and count during growth: the answers are the book's, and the pair finds the book's points with its texts.
-- Assumes nothing.
use mathlib.Core.Path.{◌≡◌, refl, sym, ap, ap₂, ◌∙◌, subst}
use Prim.Native.Nat.{ℕ, ◌+◌}
use native.Mathlib.Omega.{arith}
use mathlib.Core.Bool.{Bool, true, false, cond, not, ◌&&◌, ◌||◌}
use mathlib.Core.List.{List, [], ◌∷◌}
use mathlib.Core.Option.{Option, none, some}
use lib.ListN.{length, get_or}
use lib.Dec.{leb, eqb}
use borrow.Author.Tests.{eq-eqb, eqb-true}
use Rattle.spec_file.specs.Bytes.{Bytes, part, same}
use Rattle.spec_file.specs.Limits.{points_field, free_field, magic, major, minor, patch, version_field}
use Rattle.spec_file.specs.Image.{field, Layout, layout_of}
use Rattle.spec_file.specs.Search.{Probe, met, empty, exhausted, search, is_met}
use Rattle.spec_file.specs.Messages.{bytes_of}
use Rattle.spec_file.specs.Questions.{Question, ask, first_no, name_allowed, version_known, open_number}
use Rattle.spec_file.specs.Calls.{Answer, Outcome, plain, lookup}
use Rattle.spec_book.specs.Demand.{pair_text, book_text, text_of}
use Rattle.spec_book.specs.Book.{Entry, Terms, Book, find, step_of, guarded, lookup_found, book_lookup, book_count, trimmed}
use Rattle.law_file.proofs.Tests.{by_bool, and_left, and_right, and-true}
use Rattle.law_file.proofs.Opened.{Opened, first_no-none, first_no-yes, first_no-no, first_no-opened}
use Rattle.law_agreement.proofs.File.{Allowed}
use Rattle.law_agreement.proofs.Reflect.{Reflects}
use Rattle.law_agreement.proofs.Simple.{Same, guarded-yes, guarded-no, open₀, book-key, found-met, found_none, by-met, same-lookup}
use Rattle.spec_moves.specs.Moves.{Pair, same_kind}
use Rattle.spec_growth.specs.Growth.{second_known, pair_opened, pair_number, both_points, old_probe, held_in_new, holder, grow_name_number, grow_lookup, grow_count}
use Rattle.law_growth.proofs.Joins.{joined, Joins}
use Rattle.law_growth.proofs.Moving.{Grown, GrownIn}
use Rattle.law_growth.proofs.Versions.{same-major}

-- equal answers, and states in the relation
pub record SameGrown (o : Outcome Pair) (s : Outcome Book) : Type 0 where
  pub answer : o.answer ≡ s.answer
  pub after : GrownIn o.after s.after

-- ---- 21 never comes

module _ (p : Pair) (c d b : Book) (r : Grown p c d b) where
  pub known : second_known p ≡ true
  unfolding second_known same_kind
  known =
      and-true _ _ (eq-eqb _ 0 (open₀ r.new))
      (and-true _ _
      (eq-eqb _ _
      (same-major p.new p.old r.new.file.opened r.old.file.opened (sym r.width)))
      (eq-eqb _ _ (sym r.key)))

  pub pair-asks : (more : List Question) → pair_number p more ≡ first_no more
  unfolding pair_number pair_opened
  pair-asks more = first_no-opened p.old _ (open₀ r.old) ∙ first_no-yes 21 _ more known

  pub list-key : b.terms.K ≡ (layout_of p.old).K
  list-key = ap (λ (t : Terms). t.K) r.joins.terms ∙ book-key r.new ∙ sym r.key

  pub both-points : both_points p ≡ length b.entries
  unfolding both_points
  both-points = omega (arith, r.joins.number, r.old.number, r.new.number)

  pub same_count : SameGrown (grow_count p) (book_count b)
  unfolding grow_count book_count
  same_count =
      record {
        answer = rw (pair-asks [] ∙ first_no-none, both-points) refl;
        after = (c, d, r);
      }

-- ---- lookup

-- what the book answers of an entry
abbrev pub looked : Option Entry → Answer
looked none = plain 14
looked (some e) = record { number = 0; amount = length (bytes_of e.text); text = e.text; epoch = 0 }

found-answer : (b : Book) (f : Option Entry) → (lookup_found b f).answer ≡ looked f
unfolding lookup_found step_of
found-answer b none = ap plain (first_no-no 14 false [] refl)
found-answer b (some e) = refl

book-looked : (b : Book) (key : Bytes) → name_allowed b.terms.K key ≡ true
    → (book_lookup b key).answer ≡ looked (find key b.entries)
unfolding book_lookup
book-looked b key a =
    ap (λ (o : Outcome Book). o.answer) (guarded-yes b _ _ (first_no-yes 7 _ [] a ∙ first_no-none))
    ∙ found-answer b (find key b.entries)

looked-trimmed : (e : Entry) → looked (some (trimmed e)) ≡ looked (some e)
unfolding trimmed
looked-trimmed e = refl

book-stays : (b : Book) (key : Bytes) → (book_lookup b key).after ≡ b
unfolding book_lookup guarded step_of
book-stays b key =
    by_bool (eqb (first_no (ask 7 (name_allowed b.terms.K key) ∷ [])) 0)
    (λ h. rw h (found (find key b.entries)))
    (λ h. rw h refl)
  where
    found : (f : Option Entry) → (lookup_found b f).after ≡ b
    found none = unfold lookup_found step_of in (rw (first_no-no 14 false [] refl) refl)
    found (some e) = unfold lookup_found in refl

module _ (p : Pair) (c d b : Book) (r : Grown p c d b) (key : Bytes) where
  abbrev g : Layout
  g = layout_of p.old

  abbrev h : Layout
  h = layout_of p.new

  -- one image's lookup, by its own book
  module _ (a : Allowed g key) where
    a-new : Allowed h key
    a-new = subst (λ (k : ℕ). name_allowed k key ≡ true) r.key a

    in-old : (lookup p.old key).answer ≡ looked (find key c.entries)
    in-old =
        (same-lookup g p.old c r.old key).answer
        ∙ book-looked c key (subst (λ (k : ℕ). name_allowed k key ≡ true) (sym (book-key r.old)) a)

    in-new : (lookup p.new key).answer ≡ looked (find key d.entries)
    in-new =
        (same-lookup h p.new d r.new key).answer
        ∙ book-looked d key (subst (λ (k : ℕ). name_allowed k key ≡ true) (sym (book-key r.new)) a-new)

    -- "Lookups search old, then new": what a call answers on the image that holds the name, where on each image it is
    -- what the image's book has of the name
    module _ (on : Bytes → Answer) (tells : Option Entry → Answer)
        (trims : (e : Entry) → tells (some (trimmed e)) ≡ tells (some e))
        (of-old : on p.old ≡ tells (find key c.entries))
        (of-new : on p.new ≡ tells (find key d.entries)) where
      met-yes : {i : ℕ} → search g p.old key ≡ met i → is_met (search g p.old key) ≡ true
      unfolding is_met
      met-yes m = ap is_met m

      pub by-holder : on (holder p key) ≡ tells (find key b.entries)
      unfolding holder held_in_new old_probe
      by-holder =
          by-met g p.old c r.old key
          (λ i m.
          let q = found-met g p.old c r.old key a i m in
          ap (λ (t : Bool). on (cond (not t) p.new p.old)) (met-yes m)
          ∙ of-old
          ∙ ap tells q
          ∙ sym (trims _)
          ∙ ap tells (sym (r.joins.points key ∙ ap (λ (f : Option Entry). joined f (find key d.entries)) q)))
          (λ n.
          let q = found_none g p.old c r.old key a n in
          ap (λ (t : Bool). on (cond (not t) p.new p.old)) n
          ∙ of-new
          ∙ ap tells (sym (r.joins.points key ∙ ap (λ (f : Option Entry). joined f (find key d.entries)) q)))

    pub holder-answer : (lookup (holder p key) key).answer ≡ looked (find key b.entries)
    holder-answer = by-holder (λ (img : Bytes). (lookup img key).answer) looked looked-trimmed in-old in-new

  book-seven : name_allowed g.K key ≡ false → (book_lookup b key).answer ≡ plain 7
  unfolding book_lookup step_of
  book-seven n =
      let f : first_no (ask 7 (name_allowed b.terms.K key) ∷ []) ≡ 7 =
      first_no-no 7 _ [] (ap (λ (k : ℕ). name_allowed k key) (list-key p c d b r) ∙ n) in
      ap (λ (o : Outcome Book). o.answer) (guarded-no b _ _ (λ z. omega (arith, z, f))) ∙ ap plain f

  pub same-looking : SameGrown (grow_lookup p key) (book_lookup b key)
  unfolding grow_lookup grow_name_number
  same-looking =
      record {
        answer =
            by_bool (name_allowed g.K key)
            (λ a.
            let n₀ = pair-asks p c d b r (ask 7 (name_allowed g.K key) ∷ []) ∙ first_no-yes 7 _ [] a ∙ first_no-none in
            rw n₀ (holder-answer a
            ∙ sym (book-looked b key (subst (λ (k : ℕ). name_allowed k key ≡ true) (sym (list-key p c d b r)) a))))
            (λ n.
            let n₇ = pair-asks p c d b r (ask 7 (name_allowed g.K key) ∷ []) ∙ first_no-no 7 _ [] n in
            rw n₇ (sym (book-seven n)));
        after = (c, d, subst (Grown p c d) (sym (book-stays b key)) r);
      }

-- ---- what is found

looked-text : (f : Option Entry) (e : Entry) → f ≡ some e → (looked f).text ≡ e.text
looked-text f e q = ap (λ (x : Option Entry). (looked x).text) q

module _ (p : Pair) (c d b : Book) (r : Grown p c d b) (name : Bytes) where
  abbrev g₂ : Layout
  g₂ = layout_of p.old

  abbrev h₂ : Layout
  h₂ = layout_of p.new

  found : (e : Entry) → find name b.entries ≡ some e → name_allowed g₂.K name ≡ true
      → some (lookup (holder p name) name).answer.text ≡ text_of (find name b.entries)
  unfolding text_of
  found e q a =
      ap some (ap (λ (x : Answer). x.text) (holder-answer p c d b r name a) ∙ looked-text _ e q) ∙ sym (ap text_of q)

  pub pair-agrees : pair_text p name ≡ book_text b name
  unfolding pair_text book_text text_of old_probe is_met
  pair-agrees =
      by_bool (name_allowed g₂.K name)
      (λ a.
      let a' = subst (λ (k : ℕ). name_allowed k name ≡ true) r.key a in
      by-met g₂ p.old c r.old name
      (λ i m.
      let q = r.joins.points name
      ∙ ap (λ (f : Option Entry). joined f (find name d.entries)) (found-met g₂ p.old c r.old name a i m) in
      rw (a, m) (found _ q a))
      (λ n.
      let q = r.joins.points name
      ∙ ap (λ (f : Option Entry). joined f (find name d.entries)) (found_none g₂ p.old c r.old name a n) in
      by-met h₂ p.new d r.new name
      (λ i m. rw (a, n, m) (found _ (q ∙ found-met h₂ p.new d r.new name a' i m) a))
      (λ n'. rw (a, n, n') (sym (ap text_of (q ∙ found_none h₂ p.new d r.new name a' n'))))))
      (λ n.
      rw n (sym (ap text_of (r.joins.points name
      ∙ ap₂ joined (r.old.others name n)
      (r.new.others name (ap (λ (k : ℕ). name_allowed k name) (sym r.key) ∙ n))))))
