-- Job 11: while messages are carried into the target one by one, the target is in the relation with a book whose
-- entries have the texts of those carried so far. No byte is looked at: each message is a `relocate` of Place.
--     Carrying p t c      the target t and its book c, with the messages that begin below p
--     carry-on            one place further; carry-all: to the end
--     reflects-carried    the book then says what the compacted book says
-- Assumes nothing.
use mathlib.Core.Path.{◌≡◌, refl, sym, ap, ap₂, ◌∙◌, subst}
use Prim.Native.Nat.{ℕ, zero, suc, ◌+◌, ◌-◌, ◌≤◌, ◌<◌}
use native.Mathlib.Nat.{add-zero}
use native.Mathlib.Omega.{arith}
use mathlib.Core.Bool.{Bool, true, false, cond, not, ◌&&◌}
use mathlib.Core.List.{List, [], ◌∷◌}
use mathlib.Core.Option.{Option, none, some, none-ne-some, some-injective}
use lib.ListN.{length}
use lib.Dec.{eqb}
use borrow.Author.Tests.{eqb-true, eq-eqb, not-true, not-false}
use Rattle.spec_file.specs.Bytes.{Bytes, all_zero}
use Rattle.spec_file.specs.Limits.{points_field, free_field, table_start, word}
use Rattle.spec_file.specs.Image.{field, Layout, layout_of, slot, put_slot, key_of, offset_of, slot_bytes, vacant, slot_size}
use Rattle.spec_file.specs.Search.{met, search}
use Rattle.spec_file.specs.Messages.{head_size, length_at, text_at, is_active, shown, bytes_of, is_text, held, take_space, retire, relocated}
use Rattle.spec_file.specs.Questions.{name_allowed}
use Rattle.spec_file.specs.Inspect.{taken, lowest}
use Rattle.spec_book.specs.Book.{Entry, Terms, Book, find, with_entry, entered, noting, bare, placed, trimmed, trimmed_all, space_for, space_for_all}
use Rattle.law_file.proofs.Tests.{by_bool, by-eq, by_le, and_left, and_right, and-true, not-both}
use Rattle.law_file.proofs.Bytes.{by-same, part_length}
use Rattle.law_file.proofs.Slots.{Room, length-slot, length-key_of, length-entry, key_of-entry, slot-put_slot-same, slot-put_slot-other, length-put_slot}
use Rattle.law_file.proofs.Table.{Taken, key_at, entry_of, Findable}
use Rattle.law_file.proofs.Probe.{search-finds}
use Rattle.law_file.proofs.Insert.{entry-met, entry-taken}
use Rattle.law_file.proofs.Stretch.{span, held-some}
use Rattle.law_file.proofs.Effects.{active-some, Spaced}
use Rattle.law_file.proofs.Verdict.{lowest-some, lowest-none}
use Rattle.law_compaction.proofs.Packing.{start_at, Live, Stretches}
use Rattle.law_agreement.proofs.File.{Allowed, allowed-length, allowed-zero, File, file-room, file-some, file-most, point_of, point_of-some, point_of-none, value_of, by-entry}
use Rattle.law_agreement.proofs.Entries.{Distinct, find-with_entry, find-with_entry-other, distinct-with_entry, length-with_entry-old, find-same}
use Rattle.law_agreement.proofs.Reflect.{Reflects, terms_for}
use Rattle.law_agreement.proofs.Checked.{taken-allowed, entry-slot}
use Rattle.law_agreement.proofs.Compact.{file-stretches}
use Rattle.law_agreement.proofs.Simple.{found-met}
use Rattle.law_agreement.proofs.Space.{space-is}
use Rattle.law_agreement.proofs.Place.{relocate}
use Rattle.law_agreement.proofs.Trimmed.{trimmed_of, find-trimmed, distinct-trimmed, length-trimmed, space-same}
use Rattle.spec_conversion.specs.Convert.{slot_with, carried, carried_slot, carried_at, carried_from}
use Rattle.law_agreement.proofs.Spaces.{space-with, space-le}
use Rattle.law_agreement.proofs.Named.{is-taken, allowed_at, book-has, book-slot}

-- ---- one message

retire-none : (t : Bytes) → retire t 0 ≡ t
unfolding retire is_active
retire-none t = refl

-- a text for a point that has no offset
carry : (h : Layout) (t : Bytes) (c : Book) → Reflects h t c → (key : Bytes) → Allowed h key → (text : Bytes)
    → length text ≤ h.most → field t free_field + head_size h + length text ≤ length t
    → (i : ℕ) → search h t key ≡ met i → offset_of h (slot h t i) ≡ 0
    → Reflects h (carried h t i key text) (placed c key text)
unfolding carried relocated
carry h t c r key a text short room i m z =
    subst
    (λ (u : Bytes).
    Reflects h (put_slot h (take_space h u text) i (slot_bytes key (field t free_field))) (placed c key text))
    (ap (retire t) z ∙ retire-none t)
    (relocate h t c r key a text short room i m)

-- ---- the target so far

-- the target t, of L bytes, and its book c, with the messages of img that begin below p; b is img's book
pub record Carrying (g h : Layout) (img : Bytes) (b : Book) (L p : ℕ) (t : Bytes) (c : Book) : Type 0 where
  pub related : Reflects h t c
  pub size : length t ≡ L
  pub keys : (i : ℕ) → i < g.N → key_at h t i ≡ key_at g img i
  pub here : (i : ℕ) → Live g img i → start_at g img i < p
      → find (key_at g img i) c.entries ≡ some (noting (key_at g img i) (text_at g img (start_at g img i)))
  pub waiting : (i : ℕ) → i < g.N → taken g img i ≡ true
      → (is_active img (start_at g img i) ≡ true → p ≤ start_at g img i)
      → find (key_at g img i) c.entries ≡ some (bare (key_at g img i))
  pub no_more : (name : Bytes) → find name b.entries ≡ none → find name c.entries ≡ none
  pub count : length c.entries ≡ length b.entries
  pub space : c.used ≡ space_for_all (head_size h) c.entries

by-found {ℓ} : {A : Type ℓ} (o : Option Entry) → (o ≡ none → A) → ((e : Entry) → o ≡ some e → A) → A
by-found none n y = n refl
by-found (some e) n y = y e refl

by_number {ℓ} : {A : Type ℓ} (o : Option ℕ) → (o ≡ none → A) → ((i : ℕ) → o ≡ some i → A) → A
by_number none n y = n refl
by_number (some i) n y = y i refl

shown-yes : (g : Layout) (img : Bytes) (o : ℕ) → is_active img o ≡ true → shown g img o ≡ some (text_at g img o)
unfolding shown
shown-yes g img o a = rw a refl

shown-no : (g : Layout) (img : Bytes) (o : ℕ) → is_active img o ≡ false → shown g img o ≡ none
unfolding shown
shown-no g img o a = rw a refl

space-trimmed : (head : ℕ) (es : List Entry) → space_for_all head (trimmed_all es) ≡ space_for_all head es
unfolding space_for_all trimmed_all trimmed
space-trimmed head [] = refl
space-trimmed head (e ∷ es) = ap (λ (n : ℕ). space_for head e.text + n) (space-trimmed head es)

module _ (g h : Layout) (img : Bytes) (b : Book) (r : Reflects g img b) (eq_k : h.K ≡ g.K) (eq_n : h.N ≡ g.N)
    (told : (i : ℕ) → Live g img i → length_at g img (start_at g img i) ≤ h.most)
    (L : ℕ) (holds : h.D + space_for_all (head_size h) b.entries ≤ L) where
  abbrev f : File g img
  f = r.file

  S : Stretches g img
  S = file-stretches g img f

  abbrev key : ℕ → Bytes
  key i = key_at g img i

  abbrev text : ℕ → Bytes
  text i = text_at g img (start_at g img i)

  -- ---- the source's slots and its book

  allowed : (i : ℕ) → i < g.N → taken g img i ≡ true → Allowed g (key i)
  allowed = allowed_at g img b r

  allowed' : (i : ℕ) → i < g.N → taken g img i ≡ true → Allowed h (key i)
  allowed' i l t = ap (λ (k : ℕ). name_allowed k (key i)) eq_k ∙ allowed i l t

  one-slot : (i j : ℕ) → i < g.N → j < g.N → taken g img i ≡ true → taken g img j ≡ true → key i ≡ key j → i ≡ j
  one-slot i j li lj ti tj e = f.table.distinct i j li lj (is-taken g img b r i ti) (is-taken g img b r j tj) e

  pub text-length : (i : ℕ) → Live g img i → length (text i) ≡ length_at g img (start_at g img i)
  unfolding text_at
  text-length i v =
      part_length img (start_at g img i + head_size g) (length_at g img (start_at g img i))
      (omega (arith, S.end i v, S.free-high))

  abbrev C : ℕ → Bytes → Book → Type 0
  C = Carrying g h img b L

  -- ---- a slot's entry so far

  by-plan {ℓ} : {A : Type ℓ} {p : ℕ} {t : Bytes} {c : Book} → C p t c → (j : ℕ) → j < g.N → taken g img j ≡ true
      → (Live g img j → find (key j) c.entries ≡ some (noting (key j) (text j)) → A)
      → (find (key j) c.entries ≡ some (bare (key j)) → A) → A
  by-plan {p = p} s j l t yes' no' =
      by_bool (is_active img (start_at g img j))
      (λ a. by_le (suc (start_at g img j)) p
      (λ le.
      let v : Live g img j = record { low = l; is = t; active = a } in
      yes' v (s.here j v (omega arith)))
      (λ lt. no' (s.waiting j l t (λ q. omega arith))))
      (λ a. no' (s.waiting j l t (λ q. absurd (not-both (is_active img (start_at g img j)) q a))))

  -- it takes no more space than the source's
  plan-le : {p : ℕ} {t : Bytes} {c : Book} → C p t c → (name : Bytes) (e : Entry) → find name c.entries ≡ some e
      → (x : Entry) × (find name b.entries ≡ some x)
      × (space_for (head_size h) e.text ≤ space_for (head_size h) x.text)
  plan-le {c = c} s name e q =
      by-found (find name b.entries)
      (λ n. absurd (none-ne-some e (sym (s.no_more name n) ∙ q)))
      (λ x y.
      let w = book-slot g img b r name x y in
      let j = w.0 in
      let has : find name b.entries ≡ some (value_of g img (key j) (start_at g img j)) =
      ap (λ (k : Bytes). find k b.entries) (sym w.3) ∙ book-has g img b r j w.1 w.2 in
      let at : find (key j) c.entries ≡ some e = ap (λ (k : Bytes). find k c.entries) w.3 ∙ q in
      by-plan s j w.1 w.2
      (λ v z.
      let is : e ≡ noting (key j) (text j) = some-injective _ _ (sym at ∙ z) in
      let same' =
      both (ap (λ (x : Entry). x.text) is ∙ texts (key j) (text j)) (shown-yes g img (start_at g img j) v.active) in
      (_, has, omega (arith, same')))
      (λ z.
      let is : e ≡ bare (key j) = some-injective _ _ (sym at ∙ z) in
      (_, has, omega (arith, nothing (ap (λ (x : Entry). x.text) is ∙ none-text (key j))))))
    where
      texts : (k t : Bytes) → (noting k t).text ≡ some t
      texts k t = unfold noting in refl

      none-text : (k : Bytes) → (bare k).text ≡ none
      none-text k = unfold bare in refl

      both : {a a' : Option Bytes} {t : Bytes} → a ≡ some t → a' ≡ some t
          → space_for (head_size h) a ≡ space_for (head_size h) a'
      both p q = ap (space_for (head_size h)) (p ∙ sym q)

      nothing : {a : Option Bytes} → a ≡ none → space_for (head_size h) a ≡ 0
      nothing p = unfold space_for in ap (space_for (head_size h)) p

  -- ---- the message of slot i, which begins at p or above

  module _ (p : ℕ) (t : Bytes) (c : Book) (s : C p t c) (i : ℕ) (v : Live g img i)
      (late : p ≤ start_at g img i) where
    abbrev k : Bytes
    k = key i

    abbrev m : Bytes
    m = text i

    abbrev t' : Bytes
    t' = carried h t i k m

    F : File h t
    F = s.related.file

    low' : i < h.N
    low' = omega (arith, v.low, eq_n)

    a' : Allowed h k
    a' = allowed' i v.low v.is

    bare-here : find k c.entries ≡ some (bare k)
    bare-here = s.waiting i v.low v.is (λ q. late)

    finds : search h t k ≡ met i
    unfolding vacant
    finds =
        search-finds h t k (file-some F) i F.table low'
        (ap all_zero (s.keys i v.low) ∙ allowed-zero h k a') (s.keys i v.low)

    pub no-offset : offset_of h (slot h t i) ≡ 0
    unfolding bare
    no-offset =
        let e : bare k ≡ value_of h t k (offset_of h (slot h t i)) =
        some-injective _ _ (sym bare-here ∙ found-met h t c s.related k a' i finds) in
        eqb-true (offset_of h (slot h t i)) 0
        (not-false (eqb (offset_of h (slot h t i)) 0) (sym (ap (λ (x : Entry). x.offset?) e)))

    short : length m ≤ h.most
    short = omega (arith, text-length i v, told i v)

    es : List Entry
    es = with_entry (noting k m) c.entries

    names : (noting k m).name ≡ k
    unfolding noting
    names = refl

    more : space_for_all (head_size h) es ≡ head_size h + length m + space_for_all (head_size h) c.entries
    unfolding es noting bare space_for
    more = space-with (head_size h) (noting k m) (bare k) c.entries bare-here refl

    other : (name : Bytes) → (name ≡ k → ⊥) → find name es ≡ find name c.entries
    unfolding es
    other name n = find-with_entry-other (noting k m) c.entries name (λ q. n (q ∙ names))

    this : find k es ≡ some (noting k m)
    unfolding es
    this = ap (λ (x : Bytes). find x (with_entry (noting k m) c.entries)) (sym names)
        ∙ find-with_entry (noting k m) c.entries

    le : space_for_all (head_size h) es ≤ space_for_all (head_size h) b.entries
    unfolding es noting
    le =
        space-le (head_size h) es b.entries (distinct-with_entry (noting k m) c.entries s.related.distinct)
        r.distinct
        (λ name e q.
        by-same name k
        (λ z.
        let is : noting k m ≡ e = some-injective _ _ (sym this ∙ ap (λ (x : Bytes). find x es) (sym z) ∙ q) in (
          _,
          ap (λ (x : Bytes). find x b.entries) z ∙ book-has g img b r i v.low v.is,
          omega (
            arith,
            ap (λ (x : Entry). space_for (head_size h) x.text) is,
            ap (space_for (head_size h)) (shown-yes g img (start_at g img i) v.active),
          ),
        ))
        (λ n. plan-le s name e (sym (other name n) ∙ q)))

    pub carry-room : field t free_field + head_size h + length m ≤ length t
    carry-room = omega (arith, le, more, s.related.used, s.space, s.size, holds)

    related' : Reflects h t' (placed c k m)
    related' = carry h t c s.related k a' m short carry-room i finds no-offset

    spaced : Spaced h t m
    spaced = space-is h t F m (omega (arith, short, file-most F)) carry-room

    grown-room : Room h (length (take_space h t m))
    grown-room = rw spaced.kept.fixed.size (file-room F)

    fits : (x : ℕ) → length (slot_bytes k x) ≡ slot_size h
    fits x = length-entry h k x (allowed-length h k a')

    keys' : (j : ℕ) → j < g.N → key_at h t' j ≡ key j
    unfolding carried
    keys' j l =
        by-eq j i
        (λ q. ap (key_at h t') q
        ∙ ap (key_of h)
        (slot-put_slot-same h (take_space h t m) grown-room i (slot_bytes k (field t free_field)) low' (fits _))
        ∙ key_of-entry h k (field t free_field) (allowed-length h k a') ∙ ap key (sym q))
        (λ n. ap (key_of h)
        (slot-put_slot-other h (take_space h t m) grown-room i (slot_bytes k (field t free_field)) j low' (fits _) n
        ∙ spaced.slots j (omega (arith, l, eq_n)))
        ∙ s.keys j l)

    size' : length t' ≡ L
    unfolding carried
    size' =
        length-put_slot h (take_space h t m) grown-room i (slot_bytes k (field t free_field)) low' (fits _)
        ∙ spaced.kept.fixed.size ∙ s.size

    differs : (j : ℕ) → j < g.N → taken g img j ≡ true → (j ≡ i → ⊥) → key j ≡ k → ⊥
    differs j l u n q = n (one-slot j i l v.low u v.is q)

    entries-are : (placed c k m).entries ≡ es
    unfolding placed entered es
    entries-are = refl

    used-is : (placed c k m).used ≡ c.used + (c.terms.head + length m)
    unfolding placed entered
    used-is = refl

    pub carry-live : start_at g img i ≡ p → C (suc p) t' (placed c k m)
    carry-live at =
        record {
          related = related';
          size = size';
          keys = keys';
          here = λ j w l.
              rw entries-are
              (by-eq j i
              (λ q. rw q this)
              (λ n.
              other (key j) (differs j w.low w.is n)
              ∙ s.here j w (by-eq (start_at g img j) p
              (λ e. absurd (n (S.alone j i w v (e ∙ sym at))))
              (λ e. omega (arith, e, l)))));
          waiting = λ j l u z.
              rw entries-are
              (other (key j) (differs j l u
              (λ q.
              let a = z (ap (λ (x : ℕ). is_active img (start_at g img x)) q ∙ v.active) in
              omega (arith, a, ap (start_at g img) q, at)))
              ∙ s.waiting j l u (λ a. omega (arith, z a)));
          no_more = λ name n.
              rw entries-are
              (other name
              (λ q. none-ne-some _
              (sym n ∙ ap (λ (x : Bytes). find x b.entries) q ∙ book-has g img b r i v.low v.is))
              ∙ s.no_more name n);
          count =
              rw entries-are
              (unfold es noting in (length-with_entry-old (noting k m) c.entries (bare k) bare-here ∙ s.count));
          space =
              used-is
              ∙ omega (arith, s.space, more, ap (λ (x : Terms). x.head) s.related.terms)
              ∙ ap (space_for_all (head_size h)) (sym entries-are);
        }

  -- no message begins at p
  carry-none : (p : ℕ) (t : Bytes) (c : Book) → C p t c → ((i : ℕ) → Live g img i → start_at g img i ≡ p → ⊥)
      → C (suc p) t c
  carry-none p t c s n =
      record {
        related = s.related;
        size = s.size;
        keys = s.keys;
        here = λ j w l. s.here j w (by-eq (start_at g img j) p (λ e. absurd (n j w e)) (λ e. omega (arith, e, l)));
        waiting = λ j l u z. s.waiting j l u (λ a. omega (arith, z a));
        no_more = s.no_more;
        count = s.count;
        space = s.space;
      }

  carry-at : (p : ℕ) (t : Bytes) (c : Book) → C p t c → (c' : Book) × C (suc p) (carried_at g h img p t) c'
  unfolding carried_at carried_slot slot_with
  carry-at p t c s =
      let test : ℕ → Bool = λ (i : ℕ). taken g img i && eqb (offset_of g (slot g img i)) p in
      by_bool (is_active img p)
      (λ a. by_number (lowest test g.N 0)
      (λ n. rw (a, n) (
        c,
        carry-none p t c s (λ i v e.
            not-both (test i)
            (and-true (taken g img i) (eqb (start_at g img i) p) v.is (eq-eqb (start_at g img i) p e))
            (lowest-none test g.N 0 n i (omega arith) (omega (arith, v.low)))),
      ))
      (λ i y.
      let w = lowest-some test g.N 0 i y in
      let e : start_at g img i ≡ p =
      eqb-true (start_at g img i) p (and_right (taken g img i) (eqb (start_at g img i) p) w.2) in
      let v : Live g img i =
      record {
        low = omega (arith, w.1);
        is = and_left (taken g img i) (eqb (start_at g img i) p) w.2;
        active = ap (is_active img) e ∙ a;
      } in
      rw (a, y) (
        _,
        subst (λ (q : ℕ). C (suc p) (carried h t i (key i) (text_at g img q)) (placed c (key i) (text i))) e
            (carry-live p t c s i v (omega (arith, e)) e),
      )))
      (λ a. rw a (c, carry-none p t c s (λ i v e. not-both (is_active img p) (ap (is_active img) (sym e) ∙ v.active) a)))

  pub carry-all : (left p : ℕ) (t : Bytes) (c : Book) → C p t c
      → (c' : Book) × C (p + left) (carried_from g h img left p t) c'
  unfolding carried_from
  carry-all zero p t c s = (c, subst (λ (q : ℕ). C q t c) (sym (add-zero p)) s)
  carry-all (suc left) p t c s =
      let w = carry-at p t c s in
      let e : suc p + left ≡ p + suc left = omega arith in
      let z = carry-all left (suc p) (carried_at g h img p t) w.0 w.1 in
      (z.0, subst (λ (q : ℕ). C q (carried_from g h img left (suc p) (carried_at g h img p t)) z.0) e z.1)

  -- ---- all of them

  module _ (t : Bytes) (c : Book) (s : C (field img free_field) t c) where
    same-final : (name : Bytes) → find name c.entries ≡ find name (trimmed_all b.entries)
    same-final name =
        by-found (find name b.entries)
        (λ n. s.no_more name n ∙ ap trimmed_of (sym n) ∙ sym (find-trimmed name b.entries))
        (λ x y.
        let w = book-slot g img b r name x y in
        let j = w.0 in
        let o = start_at g img j in
        let has : find name b.entries ≡ some (value_of g img (key j) o) =
        ap (λ (k : Bytes). find k b.entries) (sym w.3) ∙ book-has g img b r j w.1 w.2 in
        ap (λ (k : Bytes). find k c.entries) (sym w.3)
        ∙ by_bool (is_active img o)
        (λ a.
        let v : Live g img j = record { low = w.1; is = w.2; active = a } in
        s.here j v (omega (arith, S.end j v, head-some))
        ∙ ap some (trim-yes (key j) o a))
        (λ a.
        s.waiting j w.1 w.2 (λ q. absurd (not-both (is_active img o) q a))
        ∙ ap some (trim-no (key j) o a))
        ∙ ap trimmed_of (sym has) ∙ sym (find-trimmed name b.entries))
      where
        head-some : 0 < head_size g
        head-some = unfold head_size in omega arith

        trim-yes : (k : Bytes) (o : ℕ) → is_active img o ≡ true → noting k (text_at g img o) ≡ trimmed (value_of g img k o)
        trim-yes k o a = unfold noting trimmed bytes_of is_text in rw (shown-yes g img o a) refl

        trim-no : (k : Bytes) (o : ℕ) → is_active img o ≡ false → bare k ≡ trimmed (value_of g img k o)
        trim-no k o a = unfold bare trimmed bytes_of is_text in rw (shown-no g img o a) refl

    pub reflects-carried : Reflects h t
        (record {
          terms = terms_for h L;
          entries = trimmed_all b.entries;
          used = space_for_all (head_size h) b.entries;
        })
    reflects-carried =
        let q = s.related in
        let spaces : space_for_all (head_size h) c.entries ≡ space_for_all (head_size h) b.entries =
        space-same (head_size h) c.entries (trimmed_all b.entries) q.distinct
        (distinct-trimmed b.entries r.distinct) same-final
        ∙ space-trimmed (head_size h) b.entries in
        record {
          file = q.file;
          terms = ap (terms_for h) (sym s.size);
          used = omega (arith, q.used, s.space, spaces);
          number = length-trimmed b.entries ∙ sym s.count ∙ q.number;
          points = λ name a. q.points name a ∙ same-final name;
          others = λ name n. sym (same-final name) ∙ q.others name n;
          distinct = distinct-trimmed b.entries r.distinct;
        }
