-- Job 11: a conversion keeps the relation of file and book, in the other layout, with equal answers.
--     is-file          1 of the target, 20 and 13 decide, of a file that has the invariant
--     carrying         where it is accepted, the target with the messages of so many places, and its book
--     same-convert     the call
-- Assumes nothing.
use mathlib.Core.Path.{◌≡◌, refl, sym, ap, ap₂, ◌∙◌, subst}
use Prim.Native.Nat.{ℕ, zero, suc, ◌+◌, ◌-◌, ◌%◌, ◌≤◌, ◌<◌}
use native.Mathlib.Omega.{arith}
use mathlib.Core.Bool.{Bool, true, false, cond, not, ◌&&◌, ◌||◌}
use mathlib.Core.List.{List, [], ◌∷◌}
use mathlib.Core.Option.{Option, none, some, none-ne-some, some-injective}
use lib.ListN.{length}
use lib.Dec.{eqb, leb}
use borrow.Author.Tests.{eqb-true, leb-true, le-leb, not-true, not-false}
use Rattle.spec_file.specs.Bytes.{Bytes}
use Rattle.spec_file.specs.Limits.{page_size, most_image, free_field}
use Rattle.spec_file.specs.Image.{field, major_of, wide, width_of, most_of, data_start, Layout, layout_of, slot, offset_of, vacant}
use Rattle.spec_file.specs.Messages.{head_size, length_at, text_at, is_active, shown}
use Rattle.spec_file.specs.Questions.{Question, ask, first_no, size_allowed, version_known, header_sound, opened, open_number, name_allowed}
use Rattle.spec_file.specs.Calls.{Outcome, plain, settled}
use Rattle.spec_file.specs.Inspect.{taken, check, sound}
use Rattle.spec_compaction.specs.Compact.{is_sound}
use Rattle.spec_book.specs.Book.{Entry, Terms, Book, find, step_of, trimmed_all, space_for, space_for_all, other_terms, text_fits, texts_fit, converted_book, convert_asks, book_convert}
use Rattle.spec_book.specs.Reopened.{entry_at, entries_from, book_of}
use Rattle.law_file.proofs.Tests.{by_bool, by-eq, and_left, and_right, and-true, not-both}
use Rattle.law_file.proofs.Bytes.{part_length}
use Rattle.law_file.proofs.Opened.{Opened, facts-opened, first_no-yes, first_no-no, first_no-head, first_no-tail, first_no-opened}
use Rattle.law_file.proofs.Outcomes.{settled-yes, settled-no}
use Rattle.law_compaction.proofs.Packing.{start_at, Live, Stretches}
use Rattle.law_agreement.proofs.File.{File, file-data}
use Rattle.law_agreement.proofs.Entries.{Distinct, find_none, find-here, find-on}
use Rattle.law_agreement.proofs.Reflect.{Reflects, Reflected, terms_for}
use Rattle.law_agreement.proofs.Checked.{file-check}
use Rattle.law_agreement.proofs.Compact.{file-stretches}
use Rattle.law_agreement.proofs.Simple.{Same, Alike, same-refused, same-accepted}
use Rattle.law_agreement.proofs.Reopened.{from-taken, from-vacant, file-reflects}
use Rattle.law_agreement.proofs.Trimmed.{space-same}
use Rattle.spec_conversion.specs.Convert.{other_major, recast, other_layout, bare_image, carried_from, converted, needs, needs_from, told, told_from, lengths_told, target_holds, convert_number, convert}
use Rattle.law_agreement.proofs.Carrying.{Carrying, carry-all, reflects-carried}
use Rattle.law_agreement.proofs.Bare.{bare_book, base-carrying}

-- ---- question 20 by entries

both_ways : (x y : Bool) → (x ≡ true → y ≡ true) → (y ≡ true → x ≡ true) → x ≡ y
both_ways true y f g = sym (f refl)
both_ways false true f g = g refl
both_ways false false f g = refl

module _ (most : ℕ) where
  fit-one : (es : List Entry) → texts_fit most es ≡ true → (name : Bytes) (e : Entry) → find name es ≡ some e
      → text_fits most e.text ≡ true
  unfolding texts_fit find
  fit-one [] t name e h = absurd (none-ne-some e h)
  fit-one (x ∷ es) t name e h =
      let ih : find name es ≡ some e → text_fits most e.text ≡ true =
      fit-one es (and_right (text_fits most x.text) _ t) name e in
      by_bool (Rattle.spec_file.specs.Bytes.same x.name name)
      (λ y. ap (λ (z : Entry). text_fits most z.text) (sym (some-injective x e (rw y at h)))
      ∙ and_left (text_fits most x.text) _ t)
      (λ n. ih (rw n at h))

  fit_all : (es : List Entry) → Distinct es
      → ((name : Bytes) (e : Entry) → find name es ≡ some e → text_fits most e.text ≡ true) → texts_fit most es ≡ true
  unfolding texts_fit
  fit_all [] d f = refl
  fit_all (x ∷ es) d f =
      let ih : ((name : Bytes) (e : Entry) → find name es ≡ some e → text_fits most e.text ≡ true)
      → texts_fit most es ≡ true = fit_all es d.1 in
      and-true (text_fits most x.text) (texts_fit most es)
      (f x.name x (find-here x es x.name refl))
      (ih (λ name e h. f name e (find-on x es name
      (λ q. none-ne-some e (sym d.0 ∙ ap (λ (k : Bytes). find k es) q ∙ h)) ∙ h)))

  fits-same : (es fs : List Entry) → Distinct es → Distinct fs → ((name : Bytes) → find name es ≡ find name fs)
      → texts_fit most es ≡ texts_fit most fs
  fits-same es fs d c same' =
      both_ways (texts_fit most es) (texts_fit most fs)
      (λ t. fit_all fs c (λ name e h. fit-one es t name e (same' name ∙ h)))
      (λ t. fit_all es d (λ name e h. fit-one fs t name e (sym (same' name) ∙ h)))

-- ---- questions 20 and 13 of the file are those of the book read off it

module _ (g h : Layout) (img : Bytes) (f : File g img) where
  S : Stretches g img
  S = file-stretches g img f

  text-length : (i : ℕ) → Live g img i → length (text_at g img (start_at g img i)) ≡ length_at g img (start_at g img i)
  unfolding text_at
  text-length i v =
      part_length img (start_at g img i + head_size g) (length_at g img (start_at g img i))
      (omega (arith, S.end i v, S.free-high))

  needs-entry : (i : ℕ) → i < g.N → taken g img i ≡ true
      → needs g h img i ≡ space_for (head_size h) (entry_at g img i).text
  unfolding needs entry_at shown space_for
  needs-entry i l t =
      by_bool (is_active img (start_at g img i))
      (λ a. rw (t, a) (ap (λ (n : ℕ). head_size h + n) (sym (text-length i (record { low = l; is = t; active = a })))))
      (λ a. rw (t, a) refl)

  needs-entries : (left i : ℕ) → i + left ≤ g.N
      → needs_from g h img left i ≡ space_for_all (head_size h) (entries_from g img left i)
  unfolding needs_from space_for_all
  needs-entries zero i l = unfold entries_from in refl
  needs-entries (suc left) i l =
      let ih : needs_from g h img left (suc i) ≡ space_for_all (head_size h) (entries_from g img left (suc i))
      = needs-entries left (suc i) (omega arith) in
      by_bool (taken g img i)
      (λ t.
      ap₂ ◌+◌ (needs-entry i (omega arith) t) ih
      ∙ ap (space_for_all (head_size h)) (sym (from-taken g img left i t)))
      (λ t. omega (arith, ih, nothing i t, ap (space_for_all (head_size h)) (from-vacant g img left i t)))
    where
      nothing : (i : ℕ) → taken g img i ≡ false → needs g h img i ≡ 0
      nothing i t = unfold needs in rw t refl

  told-entry : (i : ℕ) → i < g.N → taken g img i ≡ true → told g h img i ≡ text_fits h.most (entry_at g img i).text
  unfolding told entry_at shown text_fits
  told-entry i l t =
      by_bool (is_active img (start_at g img i))
      (λ a. rw (t, a) (ap (λ (n : ℕ). leb n h.most) (sym (text-length i (record { low = l; is = t; active = a })))))
      (λ a. rw (t, a) refl)

  told_entries : (left i : ℕ) → i + left ≤ g.N
      → told_from g h img left i ≡ texts_fit h.most (entries_from g img left i)
  unfolding told_from texts_fit
  told_entries zero i l = unfold entries_from in refl
  told_entries (suc left) i l =
      let ih : told_from g h img left (suc i) ≡ texts_fit h.most (entries_from g img left (suc i))
      = told_entries left (suc i) (omega arith) in
      by_bool (taken g img i)
      (λ t. ap₂ ◌&&◌ (told-entry i (omega arith) t) ih ∙ ap (texts_fit h.most) (sym (from-taken g img left i t)))
      (λ t. ap (λ (x : Bool). x && told_from g h img left (suc i)) (nothing i t) ∙ ih
      ∙ ap (texts_fit h.most) (sym (from-vacant g img left i t)))
    where
      nothing : (i : ℕ) → taken g img i ≡ false → told g h img i ≡ true
      nothing i t = unfold told in rw t refl

  -- a length that is told
  told-live : (left i : ℕ) → told_from g h img left i ≡ true → (k : ℕ) → i ≤ k → k < i + left → Live g img k
      → length_at g img (start_at g img k) ≤ h.most
  unfolding told_from
  told-live zero i t k lo hi v = absurd (omega arith)
  told-live (suc left) i t k lo hi v =
      let ih : suc i ≤ k → length_at g img (start_at g img k) ≤ h.most
      = λ l. told-live left (suc i) (and_right (told g h img i) _ t) k l (omega arith) v in
      by-eq i k
      (λ q. leb-true _ _ (here k v (ap (told g h img) (sym q) ∙ and_left (told g h img i) _ t)))
      (λ n. ih (omega arith))
    where
      here : (k : ℕ) → Live g img k → told g h img k ≡ true → leb (length_at g img (start_at g img k)) h.most ≡ true
      here k v t = unfold told in (rw (v.is, v.active) at t)

-- question 1, by numbers
abbrev pub size_facts : ℕ → Type 0
size_facts L = (L % page_size ≡ 0) × (page_size ≤ L) × (L ≤ most_image)

size-facts : (L : ℕ) → size_allowed L ≡ true → size_facts L
unfolding size_allowed
size-facts L h =
    let a = and_left (eqb (L % page_size) 0 && leb page_size L) (leb L most_image) h in (
      eqb-true (L % page_size) 0 (and_left (eqb (L % page_size) 0) (leb page_size L) a),
      leb-true page_size L (and_right (eqb (L % page_size) 0) (leb page_size L) a),
      leb-true L most_image (and_right (eqb (L % page_size) 0 && leb page_size L) (leb L most_image) h),
    )

-- the other version is of the other width
other-yes : (v : ℕ) → wide v ≡ true → wide (other_major v) ≡ false
unfolding other_major
other-yes v y = rw y (unfold wide in refl)

other-no : (v : ℕ) → wide v ≡ false → wide (other_major v) ≡ true
unfolding other_major
other-no v n = rw n (unfold wide in refl)

-- ---- the call

module _ (img : Bytes) (b : Book) (r : Reflects (layout_of img) img b) (L : ℕ) where
  abbrev G : Layout
  G = layout_of img

  abbrev H : Layout
  H = other_layout img

  abbrev f : File G img
  f = r.file

  read_off : Reflects G img (book_of img)
  read_off = file-reflects img f

  same-book : (name : Bytes) → find name b.entries ≡ find name (book_of img).entries
  same-book name =
      by_bool (name_allowed G.K name)
      (λ a. sym (r.points name a) ∙ read_off.points name a)
      (λ n. r.others name n ∙ sym (read_off.others name n))

  entries-read : (book_of img).entries ≡ entries_from G img G.N 0
  unfolding book_of
  entries-read = refl

  -- the book's terms are the target's
  data_is : data_start G.K G.N ≡ G.D
  unfolding layout_of
  data_is = sym f.opened.data-at

  other-data : data_start H.K H.N ≡ G.D
  unfolding other_layout recast
  other-data = data_is

  terms-are : other_terms b.terms L ≡ terms_for H L
  terms-are = ap (λ (t : Terms). other_terms t L) r.terms ∙ other
    where
      width : {w : Bool} → wide (major_of img) ≡ w → G.W ≡ cond w 4 3
      width q = unfold layout_of width_of in rw q refl

      other : other_terms (terms_for G (length img)) L ≡ terms_for H L
      other =
          by_bool (wide (major_of img))
          (λ y.
          unfold other_terms other_layout recast head_size width_of most_of in
          rw (width y, other-yes (major_of img) y, data_is) refl)
          (λ n.
          unfold other_terms other_layout recast head_size width_of most_of in
          rw (width n, other-no (major_of img) n, data_is) refl)

  pub needs-is : needs_from G H img G.N 0 ≡ space_for_all (head_size H) b.entries
  needs-is =
      needs-entries G H img f G.N 0 (omega arith)
      ∙ ap (space_for_all (head_size H)) (sym entries-read)
      ∙ sym (space-same (head_size H) b.entries (book_of img).entries r.distinct read_off.distinct same-book)

  told_is : lengths_told img ≡ texts_fit H.most b.entries
  unfolding lengths_told
  told_is =
      told_entries G H img f G.N 0 (omega arith)
      ∙ ap (texts_fit H.most) (sym entries-read)
      ∙ sym (fits-same H.most b.entries (book_of img).entries r.distinct read_off.distinct same-book)

  -- 1, 20 and 13 decide
  pub asks : List Question
  asks = ask 1 (size_allowed L) ∷ ask 20 (lengths_told img) ∷ ask 13 (target_holds img L) ∷ []

  pub is-file : convert_number img L ≡ first_no asks
  unfolding convert_number asks is_sound open_number opened
  is-file =
      let z = facts-opened img f.opened in
      let t₁ = first_no-tail 1 (size_allowed (length img)) _ (λ q. omega arith) z in
      let t₅ = first_no-tail 5 (version_known img) _ (λ q. omega arith) t₁ in
      let s₁ = first_no-head 1 (size_allowed (length img)) _ (λ q. omega arith) z in
      let s₅ = first_no-head 5 (version_known img) _ (λ q. omega arith) t₁ in
      let s₆ = first_no-head 6 (header_sound img) [] (λ q. omega arith) t₅ in
      first_no-yes 1 (size_allowed (length img)) _ s₁
      ∙ by_bool (size_allowed L)
      (λ y.
      first_no-yes 1 (size_allowed L) _ y
      ∙ first_no-yes 5 (version_known img) _ s₅
      ∙ first_no-yes 6 (header_sound img) _ s₆
      ∙ first_no-yes 15 (is_sound (check img)) _ (ap is_sound (file-check G img f))
      ∙ sym (first_no-yes 1 (size_allowed L) _ y))
      (λ n. first_no-no 1 (size_allowed L) _ n ∙ sym (first_no-no 1 (size_allowed L) _ n))

  is-book : first_no (convert_asks b L) ≡ first_no asks
  unfolding convert_asks asks target_holds
  is-book =
      rw (terms-are, told_is, needs-is, other-data) refl

  pub same-D : H.D ≡ G.D
  unfolding other_layout recast
  same-D = refl

  pub same-K : H.K ≡ G.K
  unfolding other_layout recast
  same-K = refl

  pub same-N : H.N ≡ G.N
  unfolding other_layout recast
  same-N = refl

  holds-le : target_holds img L ≡ true → G.D + needs_from G H img G.N 0 ≤ L
  unfolding target_holds
  holds-le h = leb-true _ _ h

  tells_all : lengths_told img ≡ true → told_from G H img G.N 0 ≡ true
  unfolding lengths_told
  tells_all h = h

  -- accepted
  pub book-is : converted_book b L
      ≡ record {
        terms = terms_for H L;
        entries = trimmed_all b.entries;
        used = space_for_all (head_size H) b.entries;
      }
  unfolding converted_book
  book-is = rw terms-are refl

  -- where none of them answers no
  module _ (z₀ : first_no asks ≡ 0) where
    z : first_no (ask 1 (size_allowed L) ∷ ask 20 (lengths_told img) ∷ ask 13 (target_holds img L) ∷ []) ≡ 0
    unfolding asks
    z = z₀

    z₁ : first_no (ask 20 (lengths_told img) ∷ ask 13 (target_holds img L) ∷ []) ≡ 0
    z₁ = first_no-tail 1 (size_allowed L) _ (λ q. omega arith) z

    pub size : size_facts L
    size = size-facts L (first_no-head 1 (size_allowed L) _ (λ q. omega arith) z)

    -- each length is one that the target's headers can tell
    pub lengths : (i : ℕ) → Live G img i → length_at G img (start_at G img i) ≤ H.most
    lengths i v =
        told-live G H img f G.N 0
        (tells_all (first_no-head 20 (lengths_told img) _ (λ q. omega arith) z₁)) i (omega arith) (omega (arith, v.low))
        v

    pub holds : G.D + needs_from G H img G.N 0 ≤ L
    holds =
        holds-le
        (first_no-head 13 (target_holds img L) [] (λ q. omega arith)
        (first_no-tail 20 (lengths_told img) _ (λ q. omega arith) z₁))

    pub room : H.D + space_for_all (head_size H) b.entries ≤ L
    room = omega (arith, same-D, holds, needs-is)

    -- the target with the messages of so many places, and its book
    pub carrying : (left : ℕ)
        → (c : Book) × Carrying G H img b L (G.D + left) (carried_from G H img left G.D (bare_image img L)) c
    carrying left =
        carry-all G H img b r same-K same-N lengths L room left G.D (bare_image img L) (bare_book H L b)
        (base-carrying img b r L size.0 size.1 size.2 (omega (arith, holds)) (file-stretches G img f).low)

    pub accepted : Reflects H (converted img L) (converted_book b L)
    unfolding converted
    accepted =
        let all = field img free_field - G.D in
        let w = carrying all in
        let e : G.D + all ≡ field img free_field = omega (arith, (file-stretches G img f).free-low) in
        subst (Reflects H (carried_from G H img all G.D (bare_image img L))) (sym book-is)
        (reflects-carried G H img b r same-K same-N lengths L room
        (carried_from G H img all G.D (bare_image img L)) w.0
        (subst (λ (p : ℕ). Carrying G H img b L p (carried_from G H img all G.D (bare_image img L)) w.0) e w.1))

  accept : first_no (convert_asks b L) ≡ 0
      → Same H
      (record { after = settled (convert_number img L) img (converted img L); answer = plain (convert_number img L) })
      (step_of b (convert_asks b L) (converted_book b L))
  unfolding step_of
  accept z =
      let n : convert_number img L ≡ 0 = is-file ∙ sym is-book ∙ z in
      record {
        answer = ap plain (n ∙ sym z);
        after = rw (settled-yes (convert_number img L) img (converted img L) n, z) (accepted (sym is-book ∙ z));
      }

  same_layout : Alike (convert img L) (book_convert b L)
  unfolding convert book_convert
  same_layout =
      by-eq (first_no (convert_asks b L)) 0
      (λ z. (H, accept z))
      (λ z. (
        G,
        same-refused G img b r (convert_number img L) (converted img L) (convert_asks b L) (converted_book b L)
            (is-file ∙ sym is-book) z,
      ))

pub same-convert : (img : Bytes) (b : Book) → Reflected img b → (L : ℕ) → Alike (convert img L) (book_convert b L)
same-convert img b (g, r) L =
    same_layout img b (subst (λ (l : Layout). Reflects l img b) (sym r.file.layout) r) L
