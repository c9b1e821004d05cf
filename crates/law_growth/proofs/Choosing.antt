-- Reading records, and the choice by epoch, during growth: the answers are the book's.
--     latest-old, latest-new, latest-none      the choice of two books joined, by the choice of each
--     same-reading, same-dated                 the calls
-- Assumes nothing.
use mathlib.Core.Path.{◌≡◌, refl, sym, ap, ap₂, ◌∙◌, subst}
use Prim.Native.Nat.{ℕ, ◌≤◌, ◌<◌}
use native.Mathlib.Omega.{arith}
use mathlib.Core.Bool.{Bool, true, false, cond, not, ◌&&◌, ◌||◌}
use mathlib.Core.List.{List, [], ◌∷◌}
use mathlib.Core.Logic.{◌⊎◌, inl, inr}
use mathlib.Core.Option.{Option, none, some, none-ne-some, some-injective}
use lib.ListN.{length}
use lib.Dec.{ltb, eqb}
use borrow.Author.Tests.{lt-ltb, le-ltb, ne_eqb}
use Rattle.spec_file.specs.Bytes.{Bytes}
use Rattle.spec_file.specs.Image.{Layout, layout_of}
use Rattle.spec_file.specs.Search.{Probe, met, is_met, slot_of}
use Rattle.spec_file.specs.Messages.{bytes_of}
use Rattle.spec_file.specs.Questions.{Question, ask, first_no, name_allowed}
use Rattle.spec_file.specs.Calls.{Answer, Outcome, plain}
use Rattle.spec_records.specs.Records.{readable, records_answer, read_records}
use Rattle.spec_epoch.specs.Epochs.{epoch_of, dated_key, dated_by, epoch_at, chosen, key_dated, prism_allowed, Dated, refused_dated, at_epoch}
use Rattle.spec_book.specs.Steps.{dated_outcome}
use Rattle.spec_book.specs.Book.{Entry, Book, find, step_of, guarded, telling, read_found, book_read, latest_entry, dated_found, book_at_epoch, trimmed}
use Rattle.law_file.proofs.Tests.{by_bool, by-eq, by_le, not-both}
use Rattle.law_file.proofs.Opened.{first_no-none, first_no-yes, first_no-no}
use Rattle.law_epoch.proofs.Choice.{dated-key}
use Rattle.law_agreement.proofs.File.{Allowed}
use Rattle.law_agreement.proofs.Entries.{Distinct}
use Rattle.law_agreement.proofs.Reflect.{Reflects}
use Rattle.law_agreement.proofs.Simple.{Same, guarded-yes, guarded-no, book-key}
use Rattle.law_agreement.proofs.Recorded.{same_read}
use Rattle.law_agreement.proofs.Dating.{Leading, Chose, latest-chose, Picks, picks, same-dating}
use Rattle.law_agreement.proofs.Steps.{book-read, book-dated}
use Rattle.spec_moves.specs.Moves.{Pair}
use Rattle.spec_growth.specs.Growth.{grow_name_number, holder, grow_read, dated_in_new, dated_holder, grow_dated_number, grow_at_epoch}
use Rattle.law_growth.proofs.Joins.{joined, Joins, by-find}
use Rattle.law_growth.proofs.Moving.{Grown, GrownIn}
use Rattle.law_growth.proofs.Looking.{SameGrown, pair-asks, list-key, by-holder}

-- ---- a call that reads, by its questions before the image that holds the name

-- refused alike, or answered alike
same-told : (p : Pair) (c d b : Book) (r : Grown p c d b) (n : ℕ) (asks : List Question) (a : Answer) (s : Outcome Book)
    → n ≡ first_no asks → (first_no asks ≡ 0 → a ≡ s.answer) → (guarded b asks s).after ≡ b
    → SameGrown (record { after = p; answer = cond (eqb n 0) a (plain n) }) (guarded b asks s)
unfolding step_of
same-told p c d b r n asks a s e f k =
    record {
      answer =
          by-eq n 0
          (λ z. rw z (f (sym e ∙ z) ∙ sym (ap (λ (o : Outcome Book). o.answer) (guarded-yes b asks s (sym e ∙ z)))))
          (λ z.
          rw (ne_eqb n 0 z)
          (ap plain e ∙ sym (ap (λ (o : Outcome Book). o.answer) (guarded-no b asks s (λ y. z (e ∙ y))))));
      after = (c, d, subst (Grown p c d) (sym k) r);
    }

-- ---- reading

-- what the book answers of an entry's records
abbrev fetched : ℕ → Option Entry → Answer
fetched room none = plain 14
fetched room (some e) =
    records_answer (first_no (ask 19 (readable (bytes_of e.text) room) ∷ [])) (bytes_of e.text)

read_answer : (b : Book) (room : ℕ) (f : Option Entry) → (read_found b room f).answer ≡ fetched room f
unfolding read_found step_of
read_answer b room none = ap plain (first_no-no 14 false [] refl)
read_answer b room (some e) = refl

book-fetched : (b : Book) (key : Bytes) (room : ℕ) → name_allowed b.terms.K key ≡ true
    → (book_read b key room).answer ≡ fetched room (find key b.entries)
unfolding book_read
book-fetched b key room a =
    ap (λ (o : Outcome Book). o.answer) (guarded-yes b _ _ (first_no-yes 7 _ [] a ∙ first_no-none))
    ∙ read_answer b room (find key b.entries)

fetched-trimmed : (room : ℕ) (e : Entry) → fetched room (some (trimmed e)) ≡ fetched room (some e)
unfolding trimmed
fetched-trimmed room e = refl

module _ (p : Pair) (c d b : Book) (r : Grown p c d b) (key : Bytes) (room : ℕ) where
  abbrev g : Layout
  g = layout_of p.old

  abbrev h : Layout
  h = layout_of p.new

  read-holder : Allowed g key → (read_records (holder p key) key room).answer ≡ fetched room (find key b.entries)
  read-holder a =
      by-holder p c d b r key a (λ (img : Bytes). (read_records img key room).answer) (fetched room)
      (fetched-trimmed room)
      ((same_read g p.old c r.old key room).answer
      ∙ book-fetched c key room (subst (λ (k : ℕ). name_allowed k key ≡ true) (sym (book-key r.old)) a))
      ((same_read h p.new d r.new key room).answer
      ∙ book-fetched d key room (subst (λ (k : ℕ). name_allowed k key ≡ true) (r.key ∙ sym (book-key r.new)) a))

  pub same-reading : SameGrown (grow_read p key room) (book_read b key room)
  unfolding grow_read grow_name_number book_read
  same-reading =
      same-told p c d b r _ _ _ _
      (pair-asks p c d b r _ ∙ ap (λ (k : ℕ). first_no (ask 7 (name_allowed k key) ∷ [])) (sym (list-key p c d b r)))
      (λ z. read-holder (seven z) ∙ sym (read_answer b room (find key b.entries)))
      (unfold book_read in book-read b key room)
    where
      seven : first_no (ask 7 (name_allowed b.terms.K key) ∷ []) ≡ 0 → Allowed (layout_of p.old) key
      seven z =
          by_bool (name_allowed (layout_of p.old).K key) (λ y. y)
          (λ n. absurd (apart (sym (first_no-no 7 _ [] (ap (λ (k : ℕ). name_allowed k key) (list-key p c d b r) ∙ n))
          ∙ z)))
        where
          apart : ◌≡◌ {A = ℕ} 7 0 → ⊥
          apart y = omega (arith, y)

-- ---- the choice of two books joined

module _ (c d b : Book) (j : Joins c d b) (dc : Distinct c.entries) (dd : Distinct d.entries) (K : ℕ)
    (name : Bytes) (t : ℕ) where
  abbrev latest : Book → Option Entry
  latest x = latest_entry K name t x.entries

  abbrev Dates : Entry → Bool
  Dates e = dated_by K name t e.name

  abbrev epoch : Entry → ℕ
  epoch e = epoch_of K e.name

  chose : (x : Book) (o : Option Entry) → latest x ≡ o → Chose K name t x.entries o
  chose x o q = subst (Chose K name t x.entries) q (latest-chose K name t x.entries)

  -- an entry of the list's book is one of the two, by its name and text
  by-join {ℓ} : {A : Type ℓ} (x : Bytes) (f : Entry) → find x b.entries ≡ some f
      → ((e : Entry) → find x c.entries ≡ some e → trimmed e ≡ f → A)
      → (find x d.entries ≡ some f → A) → A
  by-join x f q old new =
      by-find (find x c.entries)
      (λ n. new (sym (j.points x ∙ ap (λ (o : Option Entry). joined o (find x d.entries)) n) ∙ q))
      (λ e y. old e y (some-injective (trimmed e) f
      (sym (j.points x ∙ ap (λ (o : Option Entry). joined o (find x d.entries)) y) ∙ q)))

  -- the choice is the only one that leads
  one-leads : (e : Entry) → find e.name b.entries ≡ some e → Dates e ≡ true
      → ((x : Bytes) (f : Entry) → find x b.entries ≡ some f → Dates f ≡ true → epoch f ≤ epoch e)
      → latest b ≡ some e
  unfolding Chose
  one-leads e there dated largest = go (latest b) refl (chose b (latest b) refl)
    where
      go : (o : Option Entry) → latest b ≡ o → Chose K name t b.entries o → latest b ≡ some e
      go none q h = absurd (not-both (Dates e) dated (h e.name e there))
      go (some f) q h =
          let here = h.there j.distinct in
          let l₁ = h.largest e.name e there dated in
          let l₂ = largest f.name f here h.dated in
          let same : epoch f ≡ epoch e = omega (arith, l₁, l₂) in
          let n : f.name ≡ e.name =
          dated-key K name t f.name h.dated
          ∙ ap (dated_key name) same
          ∙ sym (dated-key K name t e.name dated) in
          q ∙ sym here ∙ ap (λ (x : Bytes). find x b.entries) n ∙ there

  -- none of the chosen of a book is later than e
  abbrev NotLater : Option Entry → Entry → Type 0
  NotLater none e = Unit {0}
  NotLater (some f) e = epoch f ≤ epoch e

  at_most : (x : Book) (o : Option Entry) (e : Entry) → latest x ≡ o → NotLater o e
      → (y : Bytes) (f : Entry) → find y x.entries ≡ some f → Dates f ≡ true → epoch f ≤ epoch e
  unfolding Chose
  at_most x none e q l y f s z = absurd (not-both (Dates f) z (chose x none q y f s))
  at_most x (some m) e q l y f s z = omega (arith, l, (chose x (some m) q).largest y f s z)

  trimmed-name : (e : Entry) → (trimmed e).name ≡ e.name
  unfolding trimmed
  trimmed-name e = refl

  -- all of b is at most so late, if c and d are
  both_most : (m : Entry) → (o o' : Option Entry) → latest c ≡ o → latest d ≡ o' → NotLater o m → NotLater o' m
      → (x : Bytes) (f : Entry) → find x b.entries ≡ some f → Dates f ≡ true → epoch f ≤ epoch m
  both_most m o o' q q' l l' x f s z =
      by-join x f s
      (λ e y is.
      let n : f.name ≡ e.name = ap (λ (u : Entry). u.name) (sym is) ∙ trimmed-name e in
      let le = at_most c o m q l x e y (ap (dated_by K name t) (sym n) ∙ z) in
      let eq : epoch f ≡ epoch e = ap (epoch_of K) n in
      omega (arith, le, eq))
      (λ y. at_most d o' m q' l' x f y z)

  pub latest-old : (e : Entry) (o : Option Entry) → latest c ≡ some e → latest d ≡ o → NotLater o e
      → latest b ≡ some (trimmed e)
  unfolding Chose
  latest-old e o q q' l =
      let h = chose c (some e) q in
      let n = trimmed-name e in
      let there : find (trimmed e).name b.entries ≡ some (trimmed e) =
      ap (λ (x : Bytes). find x b.entries) n ∙ j.points e.name
      ∙ ap (λ (f : Option Entry). joined f (find e.name d.entries)) (h.there dc) in
      one-leads (trimmed e) there (ap (dated_by K name t) n ∙ h.dated)
      (λ x f s z.
      let le = both_most e (some e) o q q' (omega arith) l x f s z in
      let eq : epoch (trimmed e) ≡ epoch e = ap (epoch_of K) n in
      omega (arith, le, eq))

  pub latest-new : (f : Entry) (o : Option Entry) → latest d ≡ some f → latest c ≡ o → NotLater o f
      → find f.name c.entries ≡ none → latest b ≡ some f
  unfolding Chose
  latest-new f o q q' l absent =
      let h = chose d (some f) q in
      let there : find f.name b.entries ≡ some f =
      j.points f.name ∙ ap (λ (u : Option Entry). joined u (find f.name d.entries)) absent ∙ h.there dd in
      one-leads f there h.dated (both_most f o (some f) q' q l (omega arith))

  -- the old image has no entry of that name
  pub not-old : (f : Entry) → latest d ≡ some f → find f.name c.entries ≡ none
  unfolding Chose
  not-old f q =
      by-find (find f.name c.entries) (λ n. n)
      (λ e y. absurd (none-ne-some f
      (sym (j.apart f.name e y) ∙ (chose d (some f) q).there dd)))

  pub latest-none : latest c ≡ none → latest d ≡ none → latest b ≡ none
  unfolding Chose
  latest-none q q' = go (latest b) refl (chose b (latest b) refl)
    where
      go : (o : Option Entry) → latest b ≡ o → Chose K name t b.entries o → latest b ≡ none
      go none s h = s
      go (some f) s h =
          by-join f.name f (h.there j.distinct)
          (λ e y is. absurd (not-both (Dates e)
          (ap (dated_by K name t) (sym (trimmed-name e) ∙ ap (λ (u : Entry). u.name) is) ∙ h.dated)
          (chose c none q f.name e y)))
          (λ y. absurd (not-both (Dates f) h.dated (chose d none q' f.name f y)))

-- ---- the choice by epoch

-- what is told of an entry, or of none
abbrev told_at : ℕ → Option Entry → Answer
told_at K none = plain 14
told_at K (some e) = telling e (epoch_of K e.name)

told-trimmed : (K : ℕ) (e : Entry) → told_at K (some (trimmed e)) ≡ told_at K (some e)
unfolding trimmed
told-trimmed K e = refl

dated-answer : (b : Book) (f : Option Entry) → (dated_found b f).answer ≡ told_at b.terms.K f
unfolding dated_found step_of
dated-answer b none = ap plain (first_no-no 14 false [] refl)
dated-answer b (some e) = refl

abbrev first : ℕ → Bytes → List Question
first K name = ask 23 (key_dated K) ∷ ask 7 (prism_allowed K name) ∷ []

book-told : (b : Book) (name : Bytes) (t : ℕ) → first_no (first b.terms.K name) ≡ 0
    → (book_at_epoch b name t).answer ≡ told_at b.terms.K (latest_entry b.terms.K name t b.entries)
unfolding book_at_epoch
book-told b name t z =
    ap (λ (o : Outcome Book). o.answer) (guarded-yes b _ _ z)
    ∙ dated-answer b (latest_entry b.terms.K name t b.entries)

module _ (p : Pair) (c d b : Book) (r : Grown p c d b) (name : Bytes) (t : ℕ) where
  abbrev g₁ : Layout
  g₁ = layout_of p.old

  abbrev h₁ : Layout
  h₁ = layout_of p.new

  abbrev K : ℕ
  K = g₁.K

  abbrev on : Bytes → Answer
  on img = (dated_outcome img (at_epoch img name t)).answer

  abbrev of : Book → Option Entry
  of x = latest_entry K name t x.entries

  module _ (z : first_no (first K name) ≡ 0) where
    at_key : {k : ℕ} → k ≡ K → first_no (first k name) ≡ 0
    at_key e = ap (λ (k : ℕ). first_no (first k name)) e ∙ z

    key-c : c.terms.K ≡ K
    key-c = book-key r.old

    key-d : d.terms.K ≡ K
    key-d = book-key r.new ∙ sym r.key

    of-old : on p.old ≡ told_at K (of c)
    of-old =
        (same-dating g₁ p.old c r.old name t).answer
        ∙ book-told c name t (at_key key-c)
        ∙ ap (λ (k : ℕ). told_at k (latest_entry k name t c.entries)) key-c

    of-new : on p.new ≡ told_at K (of d)
    of-new =
        (same-dating h₁ p.new d r.new name t).answer
        ∙ book-told d name t (at_key key-d)
        ∙ ap (λ (k : ℕ). told_at k (latest_entry k name t d.entries)) key-d

    abbrev s-old : Probe
    s-old = chosen g₁ p.old name t

    abbrev s-new : Probe
    s-new = chosen h₁ p.new name t

    in-old : dated_in_new p name t ≡ false → {f : Option Entry} → of c ≡ f → of b ≡ f → on (dated_holder p name t)
        ≡ told_at K (of b)
    unfolding dated_holder
    in-old n e q = ap (λ (x : Bool). on (cond x p.new p.old)) n ∙ of-old ∙ ap (told_at K) (e ∙ sym q)

    in-old-trimmed : dated_in_new p name t ≡ false → (e : Entry) → of c ≡ some e → of b ≡ some (trimmed e)
        → on (dated_holder p name t) ≡ told_at K (of b)
    unfolding dated_holder
    in-old-trimmed n e y q =
        ap (λ (x : Bool). on (cond x p.new p.old)) n ∙ of-old ∙ ap (told_at K) y ∙ sym (told-trimmed K e)
        ∙ ap (told_at K) (sym q)

    in-new : dated_in_new p name t ≡ true → {f : Option Entry} → of d ≡ f → of b ≡ f → on (dated_holder p name t)
        ≡ told_at K (of b)
    unfolding dated_holder
    in-new n e q = ap (λ (x : Bool). on (cond x p.new p.old)) n ∙ of-new ∙ ap (told_at K) (e ∙ sym q)

    -- the new book's choice, by K of the old image
    d-choice : {f : Option Entry} → latest_entry h₁.K name t d.entries ≡ f → of d ≡ f
    d-choice q = ap (λ (k : ℕ). latest_entry k name t d.entries) r.key ∙ q

    no-new : is_met s-new ≡ false → dated_in_new p name t ≡ false
    unfolding dated_in_new
    no-new n = rw n refl

    only-new : is_met s-old ≡ false → is_met s-new ≡ true → dated_in_new p name t ≡ true
    unfolding dated_in_new
    only-new n y = rw (n, y) refl

    -- both have one
    both-met : (i k : ℕ) → s-old ≡ met i → s-new ≡ met k
        → dated_in_new p name t ≡ ltb (epoch_at g₁ p.old i) (epoch_at h₁ p.new k)
    unfolding dated_in_new is_met slot_of
    both-met i k e f = rw (e, f) refl

    met-yes : {s : Probe} {i : ℕ} → s ≡ met i → is_met s ≡ true
    unfolding is_met
    met-yes e = ap is_met e

    holder-told : on (dated_holder p name t) ≡ told_at K (of b)
    holder-told = go (picks p.old c r.old name t) (picks p.new d r.new name t)
      where
        go : ((is_met s-old ≡ false) × (of c ≡ none)) ⊎ ((e : Entry) × Picks p.old c r.old name t e)
            → ((is_met s-new ≡ false) × (latest_entry h₁.K name t d.entries ≡ none))
            ⊎ ((f : Entry) × Picks p.new d r.new name t f)
            → on (dated_holder p name t) ≡ told_at K (of b)
        go (inl (n, q)) (inl (n', q')) =
            in-old (no-new n') q
            (latest-none c d b r.joins r.old.distinct r.new.distinct K name t q (d-choice q'))
        go (inl (n, q)) (inr (f, w)) =
            let q' = d-choice w.booked-is in
            in-new (only-new n (met-yes w.met-is)) q'
            (latest-new c d b r.joins r.old.distinct r.new.distinct K name t f none q' q tt
            (not-old c d b r.joins r.old.distinct r.new.distinct K name t f q'))
        go (inr (e, w)) (inl (n', q')) =
            in-old-trimmed (no-new n') e w.booked-is
            (latest-old c d b r.joins r.old.distinct r.new.distinct K name t e none w.booked-is
            (d-choice q') tt)
        go (inr (e, w)) (inr (f, w')) =
            let q' = d-choice w'.booked-is in
            let is = both-met w.at w'.at w.met-is w'.met-is in
            let at_new : epoch_at h₁ p.new w'.at ≡ epoch_of K f.name =
            w'.epoch-is ∙ ap (λ (k : ℕ). epoch_of k f.name) (sym r.key) in
            by_le (epoch_of K f.name) (epoch_of K e.name)
            (λ l.
            in-old-trimmed (is ∙ le-ltb (epoch_at g₁ p.old w.at) (epoch_at h₁ p.new w'.at)
            (omega (arith, l, at_new, w.epoch-is))) e w.booked-is
            (latest-old c d b r.joins r.old.distinct r.new.distinct K name t e (some f) w.booked-is q' l))
            (λ l.
            in-new (is ∙ lt-ltb (epoch_at g₁ p.old w.at) (epoch_at h₁ p.new w'.at)
            (omega (arith, l, at_new, w.epoch-is))) q'
            (latest-new c d b r.joins r.old.distinct r.new.distinct K name t f (some e) q' w.booked-is
            (omega (arith, l)) (not-old c d b r.joins r.old.distinct r.new.distinct K name t f q')))

  -- the answer of an outcome by its number
  dated-cond : (x : Bytes) (n : ℕ) (w : Dated)
      → dated_outcome p (cond (eqb n 0) w (refused_dated n))
      ≡ record { after = p; answer = cond (eqb n 0) (dated_outcome x w).answer (plain n) }
  unfolding dated_outcome refused_dated plain
  dated-cond x n w = by_bool (eqb n 0) (λ y. rw y refl) (λ y. rw y refl)

  pub same-dated : SameGrown (dated_outcome p (grow_at_epoch p name t)) (book_at_epoch b name t)
  unfolding grow_at_epoch grow_dated_number book_at_epoch
  same-dated =
      let e = pair-asks p c d b r (first K name) in
      subst (λ (o : Outcome Pair). SameGrown o (book_at_epoch b name t))
      (sym (dated-cond (dated_holder p name t) (grow_dated_number p name) (at_epoch (dated_holder p name t) name t)))
      (same-told p c d b r (grow_dated_number p name) _ _ _
      (e ∙ ap (λ (k : ℕ). first_no (first k name)) (sym (list-key p c d b r)))
      (λ z.
      holder-told (ap (λ (k : ℕ). first_no (first k name)) (sym (list-key p c d b r)) ∙ z)
      ∙ ap (λ (k : ℕ). told_at k (latest_entry k name t b.entries)) (sym (list-key p c d b r))
      ∙ sym (dated-answer b (latest_entry b.terms.K name t b.entries)))
      (unfold book_at_epoch in book-dated b name t))
