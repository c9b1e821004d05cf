-- The entry of a prism at an epoch: the file's choice is the book's own, and their answers are equal.
--     Chose es o        o is the entry of the name with the largest epoch at most t among es, or there is none
--     latest-chose      so is the book's choice
--     Picks, picks      the slot that the file chooses has the entry that the book chooses, or both choose none
--     same-dating       file and book answer alike
-- Assumes nothing.
use mathlib.Core.Path.{◌≡◌, refl, sym, ap, ap₂, ◌∙◌, subst}
use Prim.Native.Nat.{ℕ, ◌-◌, ◌≤◌, ◌<◌}
use native.Mathlib.Omega.{arith}
use mathlib.Core.Bool.{Bool, true, false, cond, not}
use mathlib.Core.List.{List, [], ◌∷◌}
use mathlib.Core.Logic.{◌⊎◌, inl, inr}
use mathlib.Core.Option.{Option, none, some, none-ne-some, some-injective}
use lib.ListN.{length}
use lib.Dec.{leb, eqb}
use borrow.Author.Tests.{le-leb, lt-leb, eq-eqb, ne_eqb}
use Rattle.spec_file.specs.Bytes.{Bytes, all_zero}
use Rattle.spec_file.specs.Image.{Layout, layout_of, slot, offset_of, vacant}
use Rattle.spec_file.specs.Search.{Probe, met, empty, exhausted, search, is_met, slot_of}
use Rattle.spec_file.specs.Messages.{shown, bytes_of}
use Rattle.spec_file.specs.Questions.{Question, ask, first_no, name_allowed, message_sound, shown_asks}
use Rattle.spec_file.specs.Calls.{Answer, Outcome, plain}
use Rattle.spec_epoch.specs.Epochs.{epoch_of, dated_key, dated_by, epoch_at, eligible, chosen, key_dated, prism_allowed, at_epoch_number, Dated, shown_at, refused_dated, at_epoch}
use Rattle.spec_book.specs.Steps.{dated_outcome}
use Rattle.spec_book.specs.Book.{Entry, Book, find, step_of, guarded, telling, later_entry, latest_entry, dated_found, book_at_epoch}
use Rattle.law_file.proofs.Tests.{by_bool, by_le, and-true, not-both}
use Rattle.law_file.proofs.Bytes.{by-same}
use Rattle.law_file.proofs.Slots.{length-slot, length-key_of}
use Rattle.law_file.proofs.Opened.{first_no-none, first_no-yes, first_no-no}
use Rattle.law_file.proofs.Outcomes.{shown-14, shown-0}
use Rattle.law_file.proofs.Table.{Taken, key_at, entry_of}
use Rattle.law_file.proofs.Probe.{search-met}
use Rattle.law_file.proofs.Insert.{entry-taken}
use Rattle.law_epoch.proofs.Choice.{dated-key, dated-at-most, eligible-taken, eligible-dated, eligible-yes, Latest, Leads, chosen-leads}
use Rattle.law_epoch.proofs.Answers.{number-23, number-7, number-on, refused-is, accepted-is, at_length}
use Rattle.law_agreement.proofs.File.{Allowed, allowed-length, allowed-zero, value_of, point_of-some, file-room, file-some}
use Rattle.law_agreement.proofs.Entries.{Distinct, find-here, find-on}
use Rattle.law_agreement.proofs.Reflect.{Reflects}
use Rattle.law_agreement.proofs.Simple.{Same, guarded-yes, guarded-no, book-key, open₀, found_none, by-met}

-- ---- the book's choice

module _ (K : ℕ) (name : Bytes) (t : ℕ) where
  abbrev Dates : Entry → Bool
  Dates e = dated_by K name t e.name

  abbrev epoch : Entry → ℕ
  epoch e = epoch_of K e.name

  pub record Leading (es : List Entry) (e : Entry) : Type 0 where
    pub there : Distinct es → find e.name es ≡ some e
    pub dated : Dates e ≡ true
    pub largest : (x : Bytes) (f : Entry) → find x es ≡ some f → Dates f ≡ true → epoch f ≤ epoch e

  unfoldable pub Chose : List Entry → Option Entry → Type 0
  Chose es none = (x : Bytes) (f : Entry) → find x es ≡ some f → Dates f ≡ false
  Chose es (some e) = Leading es e

  -- an entry found is the first one, or is found among the others
  by-found {ℓ} : {A : Type ℓ} (e : Entry) (es : List Entry) (x : Bytes) (f : Entry) → find x (e ∷ es) ≡ some f
      → (e ≡ f → A) → (find x es ≡ some f → A) → A
  by-found e es x f q here there =
      by-same e.name x
      (λ s. here (some-injective e f (sym (find-here e es x s) ∙ q)))
      (λ s. there (sym (find-on e es x s) ∙ q))

  -- one that stands among the others stands behind the first
  still-there : (e : Entry) (es : List Entry) (m : Entry) → (Distinct es → find m.name es ≡ some m)
      → Distinct (e ∷ es) → find m.name (e ∷ es) ≡ some m
  still-there e es m h d =
      by-same e.name m.name
      (λ q.
      absurd (none-ne-some m (sym d.0 ∙ ap (λ (x : Bytes). find x es) q ∙ h d.1)))
      (λ q. find-on e es m.name q ∙ h d.1)

  -- the first one is not of the name, or its epoch is above t
  chose-no : (e : Entry) (es : List Entry) (o : Option Entry) → Dates e ≡ false → Chose es o → Chose (e ∷ es) o
  unfolding Chose
  chose-no e es none n h = λ x f q. by-found e es x f q (λ s. ap Dates (sym s) ∙ n) (λ s. h x f s)
  chose-no e es (some m) n h =
      record {
        there = still-there e es m h.there;
        dated = h.dated;
        largest = λ x f q y.
            by-found e es x f q (λ s. absurd (not-both (Dates f) y (ap Dates (sym s) ∙ n))) (λ s. h.largest x f s y);
      }

  -- it is
  chose-first : (e : Entry) (es : List Entry) → Dates e ≡ true
      → ((x : Bytes) (f : Entry) → find x es ≡ some f → Dates f ≡ true → epoch f ≤ epoch e) → Leading (e ∷ es) e
  chose-first e es y h =
      record {
        there = λ d. find-here e es e.name refl;
        dated = y;
        largest = λ x f q z.
            by-found e es x f q (λ s. let l : epoch e ≡ epoch f = ap epoch s in omega arith) (λ s. h x f s z);
      }

  chose-yes : (e : Entry) (es : List Entry) (o : Option Entry) → Dates e ≡ true → Chose es o
      → Chose (e ∷ es) (later_entry K e o)
  unfolding Chose later_entry
  chose-yes e es none y h = chose-first e es y (λ x f q z. absurd (not-both (Dates f) z (h x f q)))
  chose-yes e es (some m) y h =
      by_le (epoch m) (epoch e)
      (λ l.
      rw (le-leb (epoch m) (epoch e) l)
      (chose-first e es y (λ x f q z. let s = h.largest x f q z in omega arith)))
      (λ l.
      rw (lt-leb (epoch m) (epoch e) l)
      (record {
        there = still-there e es m h.there;
        dated = h.dated;
        largest = λ x f q z.
            by-found e es x f q (λ s. let r : epoch e ≡ epoch f = ap epoch s in omega arith)
            (λ s. h.largest x f s z);
      }))

  pub latest-chose : (es : List Entry) → Chose es (latest_entry K name t es)
  unfolding Chose latest_entry find
  latest-chose [] = λ x f q. absurd (none-ne-some f q)
  latest-chose (e ∷ es) =
      let ih : Chose es (latest_entry K name t es) = latest-chose es in
      by_bool (Dates e)
      (λ y. rw y (chose-yes e es (latest_entry K name t es) y ih))
      (λ n. rw n (chose-no e es (latest_entry K name t es) n ih))

-- ---- file and book

module _ (img : Bytes) (b : Book) (r : Reflects (layout_of img) img b) (name : Bytes) (t : ℕ) where
  abbrev g : Layout
  g = layout_of img

  abbrev filed : Outcome Bytes
  filed = dated_outcome img (at_epoch img name t)

  -- both refuse with the same number
  both-refused : (asks : List Question) → at_epoch_number img name t ≡ first_no asks → (first_no asks ≡ 0 → ⊥)
      → Same g filed (step_of b asks b)
  unfolding step_of dated_outcome refused_dated plain
  both-refused asks e z =
      record {
        answer =
            ap (λ (d : Dated). (dated_outcome img d).answer) (refused-is img name t (first_no asks) e z);
        after = rw (ne_eqb (first_no asks) 0 z) r;
      }

  -- ---- a slot and an entry

  -- the key of a taken slot
  key-allowed : (i : ℕ) → i < g.N → Taken g img i → Allowed g (key_at g img i)
  unfolding name_allowed vacant
  key-allowed i l v =
      and-true (eqb (length (key_at g img i)) g.K) (not (all_zero (key_at g img i)))
      (eq-eqb (length (key_at g img i)) g.K
      (length-key_of g (slot g img i) (length-slot g img (file-room r.file) i l)))
      (ap not v)

  -- an entry of the book stands in the table
  pub record Stands (e : Entry) : Type 0 where
    pub at : ℕ
    pub below : at < g.N
    pub taken_is : Taken g img at
    pub key-is : key_at g img at ≡ e.name

  stands : (e : Entry) → find e.name b.entries ≡ some e → Stands e
  unfolding vacant
  stands e q =
      by_bool (name_allowed g.K e.name)
      (λ a. by-met g img b r e.name
      (λ j m.
      let s = search-met g img e.name (file-some r.file) j m in
      record {
        at = j;
        below = s.0;
        taken_is = ap all_zero s.1 ∙ allowed-zero g e.name a;
        key-is = s.1;
      })
      (λ h. absurd (none-ne-some e (sym (found_none g img b r e.name a h) ∙ q))))
      (λ n. absurd (none-ne-some e (sym (r.others e.name n) ∙ q)))

  -- one that the book may choose is one that the file may
  stands-eligible : (e : Entry) (s : Stands e) → dated_by g.K name t e.name ≡ true
      → eligible g img name t s.at ≡ true
  unfolding epoch_at
  stands-eligible e s y =
      eligible-yes g img name t s.at s.taken_is
      (subst (λ (x : Bytes). x ≡ dated_key name (epoch_of g.K x)) (sym s.key-is)
      (dated-key g.K name t e.name y))
      (subst (λ (x : Bytes). epoch_of g.K x ≤ t) (sym s.key-is) (dated-at-most g.K name t e.name y))

  -- ---- the choice

  abbrev booked : Option Entry
  booked = latest_entry g.K name t b.entries

  -- where the file has none, the book has none
  book-none : ((j : ℕ) → j < g.N → eligible g img name t j ≡ false) → booked ≡ none
  unfolding Chose
  book-none f = go booked refl (latest-chose g.K name t b.entries)
    where
      go : (o : Option Entry) → booked ≡ o → Chose g.K name t b.entries o → booked ≡ none
      go none q c = q
      go (some e) q c =
          let s = stands e (c.there r.distinct) in
          absurd (not-both (eligible g img name t s.at) (stands-eligible e s c.dated) (f s.at s.below))

  same-absent : ((j : ℕ) → j < g.N → eligible g img name t j ≡ false) → at_epoch_number img name t ≡ 14
      → Same g filed (dated_found b booked)
  unfolding dated_found
  same-absent f e =
      let absent : first_no (ask 14 false ∷ []) ≡ 14 = first_no-no 14 false [] refl in
      subst (λ (o : Option Entry). Same g filed (dated_found b o)) (sym (book-none f))
      (both-refused (ask 14 false ∷ []) (e ∙ sym absent) (λ z. omega (arith, z, absent)))

  module _ (i : ℕ) (f : Latest g img name t g.N i) where
    abbrev key : Bytes
    key = key_at g img i

    -- the entry of slot i
    abbrev value : Entry
    value = value_of g img key (offset_of g (slot g img i))

    is-taken : Taken g img i
    is-taken = eligible-taken g img name t i f.dated

    allowed : Allowed g key
    allowed = key-allowed i f.below is-taken

    stored : entry_of g img key ≡ some (slot g img i)
    stored = entry-taken g img i (file-some r.file) r.file.table f.below is-taken

    found : find key b.entries ≡ some value
    found = sym (r.points key allowed) ∙ point_of-some g img key (slot g img i) stored

    dates : dated_by g.K name t key ≡ true
    dates = eligible-dated g img name t i f.dated

    -- a name is known by its epoch
    same-epoch : (x : Bytes) → dated_by g.K name t x ≡ true → epoch_of g.K x ≡ epoch_of g.K key → x ≡ key
    same-epoch x y q =
        dated-key g.K name t x y ∙ ap (dated_key name) q ∙ sym (dated-key g.K name t key dates)

    -- the book chooses the entry of the slot that the file chooses
    book-some : booked ≡ some value
    unfolding Chose epoch_at
    book-some = go booked refl (latest-chose g.K name t b.entries)
      where
        go : (o : Option Entry) → booked ≡ o → Chose g.K name t b.entries o → booked ≡ some value
        go none q c = absurd (not-both (dated_by g.K name t key) dates (c key value found))
        go (some e) q c =
            let there = c.there r.distinct in
            let s = stands e there in
            let file-most = f.largest s.at s.below (stands-eligible e s c.dated) in
            let book-most = c.largest key value found dates in
            let at : epoch_of g.K (key_at g img s.at) ≡ epoch_of g.K e.name =
            ap (epoch_of g.K) s.key-is in
            let n : e.name ≡ key = same-epoch e.name c.dated (omega (arith, file-most, book-most, at)) in
            q ∙ sym there ∙ ap (λ (x : Bytes). find x b.entries) n ∙ found

    sound : message_sound g img (offset_of g (slot g img i)) ≡ true
    sound = (r.file.messages key (slot g img i) allowed stored).sound

    -- what both tell of it
    told : at_epoch img name t ≡ shown_at g img i → filed.answer ≡ telling value (epoch_of b.terms.K key)
    unfolding dated_outcome shown_at epoch_at
    told is =
        let d = at_epoch img name t in
        ap (λ (m : ℕ). record { number = d.number; amount = m; text = d.text; epoch = d.epoch })
        (sym (at_length img name t))
        ∙ ap (λ (x : Dated).
        record { number = x.number; amount = length (bytes_of x.text); text = x.text; epoch = x.epoch }) is
        ∙ ap (λ (K : ℕ). telling value (epoch_of K key)) (sym (book-key r))

    same_met : at_epoch img name t ≡ shown_at g img i → Same g filed (dated_found b booked)
    same_met is =
        subst (λ (o : Option Entry). Same g filed (dated_found b o)) (sym book-some)
        (record { answer = unfold dated_found in told is; after = unfold dated_outcome dated_found in r })

  -- the file's slot and the book's entry
  pub record Picks (e : Entry) : Type 0 where
    pub at : ℕ
    pub met-is : chosen g img name t ≡ met at
    pub booked-is : booked ≡ some e
    pub epoch-is : epoch_at g img at ≡ epoch_of g.K e.name

  pub picks : ((is_met (chosen g img name t) ≡ false) × (booked ≡ none)) ⊎ ((e : Entry) × Picks e)
  unfolding Leads is_met
  picks = go (chosen g img name t) refl
    where
      leads : (s : Probe) → chosen g img name t ≡ s → Leads g img name t g.N s
      leads s q = subst (Leads g img name t g.N) q (chosen-leads g img name t)

      go : (s : Probe) → chosen g img name t ≡ s
          → ((is_met (chosen g img name t) ≡ false) × (booked ≡ none)) ⊎ ((e : Entry) × Picks e)
      go (met i) q =
          let f : Latest g img name t g.N i = leads (met i) q in
          inr (
            value i f,
            record { at = i; met-is = q; booked-is = book-some i f; epoch-is = unfold epoch_at in refl },
          )
      go (empty i) q = absurd (leads (empty i) q)
      go exhausted q = inl (ap is_met q, book-none (leads exhausted q))

  -- after questions 1, 5, 6, 23 and 7
  module _ (k : key_dated g.K ≡ true) (n : prism_allowed g.K name ≡ true) where
    number_is : at_epoch_number img name t ≡ first_no (shown_asks g img (chosen g img name t))
    number_is = number-on img name t (open₀ r) k n

    same_chosen : Same g filed (dated_found b booked)
    unfolding Leads is_met slot_of
    same_chosen = go (chosen g img name t) refl
      where
        leads : (s : Probe) → chosen g img name t ≡ s → Leads g img name t g.N s
        leads s q = subst (Leads g img name t g.N) q (chosen-leads g img name t)

        number : (s : Probe) → chosen g img name t ≡ s → at_epoch_number img name t ≡ first_no (shown_asks g img s)
        number s q = number_is ∙ ap (λ (x : Probe). first_no (shown_asks g img x)) q

        go : (s : Probe) → chosen g img name t ≡ s → Same g filed (dated_found b booked)
        go (met i) q =
            let f : Latest g img name t g.N i = leads (met i) q in
            let z = number (met i) q ∙ shown-0 g img i (sound i f) in
            same_met i f (accepted-is img name t z ∙ ap (λ (x : Probe). shown_at g img (slot_of x)) q)
        go (empty i) q = absurd (leads (empty i) q)
        go exhausted q = same-absent (leads exhausted q) (number exhausted q ∙ shown-14 g img exhausted refl)

  -- ---- the questions before it
  abbrev asks : List Question
  asks = ask 23 (key_dated g.K) ∷ ask 7 (prism_allowed g.K name) ∷ []

  book-is : book_at_epoch b name t ≡ guarded b asks (dated_found b booked)
  unfolding book_at_epoch
  book-is =
      ap (λ (K : ℕ).
      guarded b (ask 23 (key_dated K) ∷ ask 7 (prism_allowed K name) ∷ [])
      (dated_found b (latest_entry K name t b.entries))) (book-key r)

  asked-refused : (n : ℕ) → (n ≡ 0 → ⊥) → at_epoch_number img name t ≡ n → first_no asks ≡ n
      → Same g filed (guarded b asks (dated_found b booked))
  asked-refused n z e q =
      let no' : first_no asks ≡ 0 → ⊥ = λ x. z (sym q ∙ x) in
      subst (Same g filed) (sym (guarded-no b asks (dated_found b booked) no')) (both-refused asks (e ∙ sym q) no')

  pub same-dated : Same g filed (book_at_epoch b name t)
  same-dated =
      subst (Same g filed) (sym book-is)
      (by_bool (key_dated g.K)
      (λ k. by_bool (prism_allowed g.K name)
      (λ n.
      subst (Same g filed)
      (sym (guarded-yes b asks (dated_found b booked)
      (first_no-yes 23 (key_dated g.K) _ k ∙ first_no-yes 7 (prism_allowed g.K name) [] n ∙ first_no-none)))
      (same_chosen k n))
      (λ n.
      asked-refused 7 (λ z. omega arith) (number-7 img name t (open₀ r) k n)
      (first_no-yes 23 (key_dated g.K) _ k ∙ first_no-no 7 (prism_allowed g.K name) [] n)))
      (λ k.
      asked-refused 23 (λ z. omega arith) (number-23 img name t (open₀ r) k) (first_no-no 23 (key_dated g.K) _ k)))

-- of any layout
pub same-dating : (g : Layout) (img : Bytes) (b : Book) → Reflects g img b → (name : Bytes) (t : ℕ)
    → Same g (dated_outcome img (at_epoch img name t)) (book_at_epoch b name t)
same-dating g img b r name t =
    subst (λ (l : Layout). Same l (dated_outcome img (at_epoch img name t)) (book_at_epoch b name t)) r.file.layout
    (same-dated img b (subst (λ (l : Layout). Reflects l img b) (sym r.file.layout) r) name t)
