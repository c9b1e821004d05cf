-- Document 02, Job 13, after every list of calls: the names of the slots that are listed are the book's names in the
-- ranges, each once, and they are as many: `NamesListed` of crates/spec_range/specs/Listed.antt.
--     names_of es          the names of a book's entries
--     among-known, known_among      a name in the ranges is one of them where the book has an entry of that name
--     reached-select      the law, of every file that calls have reached
--     reached-asks        the call's number is what the book's terms say: 22 and 16
-- Assumes nothing.
use mathlib.Core.Path.{◌≡◌, refl, sym, ap, ap₂, ◌∙◌, subst}
use Prim.Native.Nat.{ℕ, zero, suc, ◌+◌}
use native.Mathlib.Omega.{arith}
use mathlib.Core.Bool.{Bool, true, false, cond, ◌&&◌}
use mathlib.Core.List.{List, [], ◌∷◌}
use mathlib.Core.Logic.{inl, inr}
use mathlib.Core.Option.{some, none-ne-some}
use lib.ListN.{length}
use Rattle.spec_file.specs.Bytes.{Bytes}
use Rattle.spec_file.specs.Image.{Layout, layout_of}
use Rattle.spec_file.specs.Questions.{Question, ask, first_no, name_allowed}
use Rattle.spec_file.specs.Inspect.{taken}
use Rattle.spec_range.specs.Ranges.{key_in_ranges, selects, chosen_from, selected, ranges_allowed, list_holds, select_asks, select_number, select}
use Rattle.spec_range.specs.Listed.{number_at, Wanted, Lists, names_in, Among, NamesListed}
use Rattle.spec_book.specs.Steps.{alone}
use Rattle.spec_book.specs.Book.{Entry, Terms, Book, find}
use Rattle.spec_book.specs.Reopened.{entry_at, entries_from, book_of}
use Rattle.law_file.proofs.Tests.{by_bool, by-either}
use Rattle.law_file.proofs.Bytes.{by-same}
use Rattle.law_file.proofs.Opened.{facts-opened, first_no-opened}
use Rattle.law_file.proofs.Probe.{search-met, search-finds, met-taken}
use Rattle.law_file.proofs.Table.{key_at}
use Rattle.law_range.proofs.Ranges.{key-lies, lies-key}
use Rattle.law_range.proofs.Chosen.{chosen-yes, chosen-no}
use Rattle.law_range.proofs.Number.{select-fills, select-number}
use Rattle.law_range.proofs.Selected.{wanted-taken, taken-wanted}
use Rattle.law_range.proofs.Listed.{select-lists}
use Rattle.law_agreement.proofs.File.{allowed-zero, file-some}
use Rattle.law_agreement.proofs.Entries.{Distinct, find_none, find-here, find-on}
use Rattle.law_agreement.proofs.Reflect.{Reflects}
use Rattle.law_agreement.proofs.Simple.{found-met, found_none, by-met}
use Rattle.law_agreement.proofs.Checked.{taken-allowed}
use Rattle.law_agreement.proofs.Reopened.{from-taken, from-vacant, file-reflects}
use Rattle.law_agreement.proofs.Trimmed.{sum_same}
use Rattle.law_lists.proofs.Reached.{Reached, reached-reflects}

-- ---- the book's names in the ranges

unfoldable pub names_of : List Entry → List Bytes
names_of [] = []
names_of (e ∷ es) = e.name ∷ names_of es

module _ (lowest highest : Bytes) where
  abbrev pub within : List Entry → List Bytes
  within es = names_in lowest highest (names_of es)

  inside : (e : Entry) (es : List Entry) → key_in_ranges lowest highest e.name ≡ true
      → within (e ∷ es) ≡ e.name ∷ within es
  unfolding names_in names_of
  inside e es h = rw h refl

  outside : (e : Entry) (es : List Entry) → key_in_ranges lowest highest e.name ≡ false → within (e ∷ es) ≡ within es
  unfolding names_in names_of
  outside e es h = rw h refl

  -- the book has an entry of that name, which lies in the ranges
  abbrev pub Known : Bytes → List Entry → Type 0
  Known name es = (e : Entry) × (find name es ≡ some e) × (key_in_ranges lowest highest name ≡ true)

  pub among-known : (name : Bytes) (es : List Entry) → Among name (within es) → Known name es
  among-known name [] a = absurd (unfold names_in names_of in a)
  among-known name (e ∷ es) a =
      let ih : Among name (within es) → Known name es = among-known name es in
      let here : e.name ≡ name → key_in_ranges lowest highest e.name ≡ true → Known name (e ∷ es) =
      λ q h. (e, find-here e es name q, ap (key_in_ranges lowest highest) (sym q) ∙ h) in
      let on : Among name (within es) → Known name (e ∷ es) =
      λ m. let k = ih m in
      by-same e.name name
      (λ q. here q (ap (key_in_ranges lowest highest) q ∙ k.2))
      (λ n. (k.0, find-on e es name n ∙ k.1, k.2)) in
      by_bool (key_in_ranges lowest highest e.name)
      (λ h. by-either (subst (Among name) (inside e es h) a) (λ q. here q h) on)
      (λ h. on (subst (Among name) (outside e es h) a))

  pub known_among : (name : Bytes) (es : List Entry) (x : Entry) → find name es ≡ some x
      → key_in_ranges lowest highest name ≡ true → Among name (within es)
  known_among name [] x f h = absurd (none-ne-some x (sym (find_none name) ∙ f))
  known_among name (e ∷ es) x f h =
      let ih : find name es ≡ some x → Among name (within es) = λ k. known_among name es x k h in
      by-same e.name name
      (λ q. subst (Among name) (sym (inside e es (ap (key_in_ranges lowest highest) q ∙ h))) (inl q))
      (λ n.
      let m = ih (sym (find-on e es name n) ∙ f) in
      by_bool (key_in_ranges lowest highest e.name)
      (λ k. subst (Among name) (sym (inside e es k)) (inr m))
      (λ k. subst (Among name) (sym (outside e es k)) m))

  -- ---- how many they are, as a sum over the entries
  abbrev one : Entry → ℕ
  one e = cond (key_in_ranges lowest highest e.name) 1 0

  abbrev pub many : List Entry → ℕ
  many es = length (within es)

  pub many_more : (e : Entry) (es : List Entry) → many (e ∷ es) ≡ one e + many es
  many_more e es =
      by_bool (key_in_ranges lowest highest e.name)
      (λ h.
      let w : one e ≡ 1 = ap (λ (b : Bool). cond {A = ℕ} b 1 0) h in
      omega (arith, ap length (inside e es h)))
      (λ h.
      let w : one e ≡ 0 = ap (λ (b : Bool). cond {A = ℕ} b 1 0) h in
      omega (arith, ap length (outside e es h)))

  pub many-same : (es fs : List Entry) → Distinct es → Distinct fs → ((name : Bytes) → find name es ≡ find name fs)
      → many es ≡ many fs
  many-same = sum_same one many (unfold names_in names_of in refl) many_more

  -- ---- the book read off an image has an entry for each taken slot
  selects-both : (g : Layout) (img : Bytes) (i : ℕ) {a c : Bool} → taken g img i ≡ a
      → key_in_ranges lowest highest (key_at g img i) ≡ c → selects g img lowest highest i ≡ (a && c)
  unfolding selects
  selects-both g img i s t = ap₂ ◌&&◌ s t

  many-from : (g : Layout) (img : Bytes) (left i : ℕ)
      → length (chosen_from (selects g img lowest highest) left i) ≡ many (entries_from g img left i)
  unfolding entry_at
  many-from g img zero i = unfold chosen_from entries_from names_in names_of in refl
  many-from g img (suc left) i =
      let ih : length (chosen_from (selects g img lowest highest) left (suc i)) ≡ many (entries_from g img left (suc i)) =
      many-from g img left (suc i) in
      let test : ℕ → Bool = selects g img lowest highest in
      let rest = entries_from g img left (suc i) in
      by_bool (taken g img i)
      (λ t. by_bool (key_in_ranges lowest highest (key_at g img i))
      (λ h. omega (
        arith,
        ap length (chosen-yes test left i (selects-both g img i t h)),
        ap many (from-taken g img left i t),
        ap length (inside (entry_at g img i) rest h),
      ))
      (λ h. omega (
        arith,
        ap length (chosen-no test left i (selects-both g img i t h)),
        ap many (from-taken g img left i t),
        ap length (outside (entry_at g img i) rest h),
      )))
      (λ t. omega (
        arith,
        ap length (chosen-no test left i (selects-both g img i t refl)),
        ap many (from-vacant g img left i t),
      ))

-- ---- a list beside the book

module _ (img : Bytes) (b : Book) (lowest highest : Bytes) (r : Reflects (layout_of img) img b) where
  abbrev g : Layout
  g = layout_of img

  abbrev names : List Bytes
  names = within lowest highest b.entries

  -- the book and the one read off the image say the same of every name
  read_off : Reflects g img (book_of img)
  read_off = file-reflects img r.file

  same-book : (name : Bytes) → find name (book_of img).entries ≡ find name b.entries
  same-book name =
      by_bool (name_allowed g.K name)
      (λ a. sym (read_off.points name a) ∙ r.points name a)
      (λ n. read_off.others name n ∙ sym (r.others name n))

  pub many_is : length (selected g img lowest highest) ≡ length names
  unfolding selected book_of
  many_is =
      many-from lowest highest g img g.N 0
      ∙ many-same lowest highest (book_of img).entries b.entries read_off.distinct r.distinct same-book

  -- a slot that is listed has a name of the book's
  pub wanted-among : (i : ℕ) → Wanted img lowest highest i → Among (key_at g img i) names
  wanted-among i w =
      let key = key_at g img i in
      let t = wanted-taken img lowest highest i w in
      let m = search-finds g img key (file-some r.file) i r.file.table w.below t refl in
      let a = taken-allowed g img r.file i w.below t in
      known_among lowest highest key b.entries _ (found-met g img b r key a i m)
      (lies-key lowest highest key w.lies)

  -- a name of the book's has a slot that is listed
  pub known-wanted : (name : Bytes) (e : Entry) → find name b.entries ≡ some e
      → key_in_ranges lowest highest name ≡ true
      → (i : ℕ) × Wanted img lowest highest i × (key_at g img i ≡ name)
  known-wanted name e f h =
      by_bool (name_allowed g.K name)
      (λ a. by-met g img b r name
      (λ i m.
      let s = search-met g img name (file-some r.file) i m in (
        i,
        taken-wanted img lowest highest i s.0
            (met-taken g img name (file-some r.file) i (allowed-zero g name a) m)
            (key-lies lowest highest (key_at g img i) (ap (key_in_ranges lowest highest) s.1 ∙ h)),
        s.1,
      ))
      (λ n. absurd (none-ne-some e (sym (found_none g img b r name a n) ∙ f))))
      (λ n. absurd (none-ne-some e (sym (r.others name n) ∙ f)))

module _ (img : Bytes) (b : Book) (lowest highest list : Bytes) (r : Reflects (layout_of img) img b)
    (ok : (select img lowest highest list).number ≡ 0) where
  abbrev after : Bytes
  after = (select img lowest highest list).list

  abbrev found : ℕ
  found = (select img lowest highest list).found

  lists : Lists img lowest highest list after found
  lists = select-lists img lowest highest list ok

  as_many : found ≡ length (names img b lowest highest r)
  as_many =
      (select-fills img lowest highest list (sym (select-number img lowest highest list) ∙ ok)).0
      ∙ many_is img b lowest highest r

  names-listed : NamesListed img (names_of b.entries) lowest highest after found
  names-listed =
      record {
        number_is = as_many;
        only = λ j l. wanted-among img b lowest highest r (number_at after j) (lists.only j l);
        all = λ name a.
            let k = among-known lowest highest name b.entries a in
            let w = known-wanted img b lowest highest r name k.0 k.1 k.2 in
            let j = lists.all w.0 w.1 in
            (j.0, j.1, ap (key_at (layout_of img) img) j.2 ∙ w.2);
        once = λ j k a c e.
            let s = lists.only j a in
            let t = lists.only k c in
            lists.once j k a c
            (r.file.table.distinct (number_at after j) (number_at after k) s.below t.below
            (wanted-taken img lowest highest (number_at after j) s)
            (wanted-taken img lowest highest (number_at after k) t) e);
      }

-- ---- on every file that calls have reached

module _ (img : Bytes) (b : Book) (reached : Reached (alone img) b) where
  -- in the layout of the image's own header
  own : Reflects (layout_of img) img b
  own =
      let r = reached-reflects img b reached in
      subst (λ (l : Layout). Reflects l img b) (sym r.1.file.layout) r.1

  pub reached-select : (lowest highest list : Bytes) → (select img lowest highest list).number ≡ 0
      → NamesListed img (names_of b.entries) lowest highest (select img lowest highest list).list
      (select img lowest highest list).found
  reached-select lowest highest list ok = names-listed img b lowest highest list own ok

  -- questions 22 and 16 by the book's terms
  abbrev book_asks : Terms → Bytes → Bytes → Bytes → List Question
  book_asks t lowest highest list =
      ask 22 (ranges_allowed t.K lowest highest) ∷ ask 16 (list_holds t.N (length list)) ∷ []

  pub reached-asks : (lowest highest list : Bytes)
      → (select img lowest highest list).number ≡ first_no (book_asks b.terms lowest highest list)
  unfolding select_number select_asks
  reached-asks lowest highest list =
      select-number img lowest highest list
      ∙ first_no-opened img (select_asks (layout_of img) lowest highest (length list))
      (facts-opened img own.file.opened)
      ∙ ap (λ (t : Terms). first_no (book_asks t lowest highest list)) (sym own.terms)
