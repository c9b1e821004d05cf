-- Add, delete and storing during growth keep the relation, with the book's answers.
-- Assumes nothing.
use mathlib.Core.Path.{◌≡◌, refl, sym, ap, ap₂, ◌∙◌, subst}
use Prim.Native.Nat.{ℕ, zero, suc, ◌+◌, ◌-◌, ◌≤◌, ◌<◌}
use native.Mathlib.Omega.{arith}
use mathlib.Core.Bool.{Bool, true, false, cond, ◌&&◌}
use mathlib.Core.List.{List, [], ◌∷◌}
use mathlib.Core.Option.{Option, none, some, none-ne-some}
use lib.ListN.{length}
use lib.Dec.{eqb}
use borrow.Author.Tests.{eq-eqb, ne_eqb}
use Rattle.spec_file.specs.Bytes.{Bytes, all_zero}
use Rattle.spec_file.specs.Limits.{points_field, free_field, key_field, slots_field, data_field}
use Rattle.spec_file.specs.Image.{field, Layout, layout_of, data_start, slot, key_of, vacant}
use Rattle.spec_file.specs.Search.{Probe, met, empty, exhausted, search, is_met}
use Rattle.spec_file.specs.Messages.{head_size, added}
use Rattle.spec_file.specs.Delete.{deleted}
use Rattle.spec_file.specs.Questions.{Question, ask, first_no, name_allowed, mode_known, named, removed_asks, delete_asks, delete_number, add_number}
use Rattle.spec_file.specs.Calls.{Answer, Outcome, plain, settled, add, delete}
use Rattle.spec_columns.specs.Columns.{whole_records, columns}
use Rattle.spec_book.specs.Book.{Entry, Terms, Book, find, without, step_of, add_found, guarded, book_add, book_store, delete_found, book_delete, entered, space_for_all}
use Rattle.law_file.proofs.Tests.{by_bool, by-eq, not-both}
use Rattle.law_file.proofs.Opened.{first_no-none, first_no-yes, first_no-no, first_no-head, first_no-tail, first_no-opened}
use Rattle.law_file.proofs.Outcomes.{settled-yes}
use Rattle.law_file.proofs.Table.{Taken}
use Rattle.law_file.proofs.Probe.{search-met}
use Rattle.law_agreement.proofs.File.{Allowed, allowed-zero, File, file-some}
use Rattle.law_agreement.proofs.Reflect.{Reflects}
use Rattle.law_agreement.proofs.Entries.{removed, find-without-same}
use Rattle.law_agreement.proofs.Simple.{Same, guarded-yes, guarded-no, open₀, book-key, found_none, by-met, same-delete}
use Rattle.law_agreement.proofs.Add.{same_add}
use Rattle.spec_moves.specs.Moves.{Pair, active_space, moves, moves_each, moved_over}
use Rattle.spec_growth.specs.Growth.{named_number, named_moved, old_probe, ready, pair_number, both_points, reckoned_place, beside_asks, own_asks, first_of, in_turn, grow_add_number, grow_delete_number, grow_store_number, settled_pair, acted, added_pair, grow_add, grow_delete, grow_store}
use Rattle.law_growth.proofs.Joins.{joined, Joins, same-find, by-find, joins-enter, joins-remove}
use Rattle.law_growth.proofs.Moving.{Grown, GrownIn, own-layout, move-accepted, move-fewer, move-keeps, moves-keep, moves-fewer}
use Rattle.law_growth.proofs.Looking.{SameGrown, pair-asks, list-key, both-points}
use Rattle.law_growth.proofs.Edits.{Numbered, told-guarded, told-found, told-delete, Edit, same, put, both_found}
use Rattle.law_growth.proofs.Sums.{active-space}
use Rattle.law_growth.proofs.Own.{own-number}

-- ---- the named point is moved

-- as many points are in the old image as before, or one less
abbrev pub OneLess : Pair → Pair → Type 0
OneLess p q =
    (field q.old points_field ≤ field p.old points_field)
    × (field p.old points_field ≤ suc (field q.old points_field))

pub record Ready (p : Pair) (b : Book) (key : Bytes) : Type 0 where
  pub accepted : named_number p (old_probe p key) ≡ 0
  pub c : Book
  pub d : Book
  pub grown : Grown (ready p key) c d b
  pub gone : find key c.entries ≡ none
  pub one_less : OneLess p (ready p key)

none-due : (p : Pair) (s : Probe) → is_met s ≡ false → named_number p s ≡ 0
unfolding is_met named_number
none-due p (met i) e = absurd (not-both true refl e)
none-due p (empty i) e = refl
none-due p exhausted e = refl

none-moved : (p : Pair) (s : Probe) → is_met s ≡ false → named_moved p s ≡ p
unfolding is_met named_moved
none-moved p (met i) e = absurd (not-both true refl e)
none-moved p (empty i) e = refl
none-moved p exhausted e = refl

module _ (p : Pair) (c d b : Book) (r : Grown p c d b) (key : Bytes) (a : Allowed (layout_of p.old) key) where
  abbrev g : Layout
  g = layout_of p.old

  make : {x : Pair} {c' d' : Book} → named_number p (old_probe p key) ≡ 0 → ready p key ≡ x → Grown x c' d' b
      → find key c'.entries ≡ none → length c'.entries ≤ length c.entries
      → length c.entries ≤ suc (length c'.entries) → Ready p b key
  make {x} {c'} {d'} n e w gone no_more one =
      record {
        accepted = n;
        c = c';
        d = d';
        grown = subst (λ (y : Pair). Grown y c' d' b) (sym e) w;
        gone = gone;
        one_less =
            rw e (
              omega (arith, no_more, w.old.number, r.old.number),
              omega (arith, one, w.old.number, r.old.number),
            );
      }

  met-ready : (i : ℕ) → search g p.old key ≡ met i → Ready p b key
  unfolding ready old_probe named_number named_moved
  met-ready i m =
      let f = search-met g p.old key (file-some r.old.file) i m in
      let v : Taken g p.old i = unfold vacant in (ap all_zero f.1 ∙ allowed-zero g key a) in
      make (ap (named_number p) m ∙ move-accepted p c d b r i f.0 v) (ap (named_moved p) m)
      (move-keeps p c d b r i f.0 v)
      (ap (λ (k : Bytes). find key (without k c.entries)) f.1
      ∙ find-without-same key c.entries r.old.distinct)
      (omega (arith, move-fewer p c d b r i f.0 v)) (omega (arith, move-fewer p c d b r i f.0 v))

  pub ready-keeps : Ready p b key
  unfolding ready old_probe
  ready-keeps =
      by-met g p.old c r.old key met-ready
      (λ n. make (none-due p _ n) (none-moved p _ n) r (found_none g p.old c r.old key a n)
      (omega arith) (omega arith))

-- ---- numbers in turn

module _ (p : Pair) (first : List Question) (key : Bytes) (own : List Question) where
  turn-own : pair_number p first ≡ 0 → named_number p (old_probe p key) ≡ 0 → in_turn p first key own ≡ first_no own
  unfolding in_turn first_of
  turn-own e f = rw (e, f) refl

  turn-first : {n : ℕ} → pair_number p first ≡ n → (n ≡ 0 → ⊥) → in_turn p first key own ≡ n
  unfolding in_turn first_of
  turn-first {n} e z = rw (e, ne_eqb n 0 z) refl

-- an accepted call: the pair that its last moves begin with, and where they end
pub record Acted (p x : Pair) (b : Book) : Type 0 where
  pub begin : Pair
  pub grown : GrownIn begin b
  pub ends : x ≡ moves moves_each begin
  pub one_less : OneLess p begin

-- equal answers, and states in the relation; where it is accepted, 8 points less are left in the old image, or none,
-- and at most 9 less
pub record SameMoved (p : Pair) (o : Outcome Pair) (s : Outcome Book) : Type 0 where
  pub both : SameGrown o s
  pub fewer : o.answer.number ≡ 0 → field o.after.old points_field ≤ field p.old points_field - moves_each
  pub at_most : o.answer.number ≡ 0
      → field p.old points_field ≤ field o.after.old points_field + suc moves_each

-- a call by its number
same-change : (n : ℕ) (p x : Pair) (b : Book) (s : Outcome Book) → Numbered b s → GrownIn p b → n ≡ s.answer.number
    → (n ≡ 0 → Acted p x s.after) → SameMoved p (settled_pair n p x) s
unfolding settled_pair plain
same-change n p x b s t r e f =
    record {
      both =
          record {
            answer = ap plain e ∙ sym t.number;
            after =
                by-eq n 0
                (λ z. rw (eq-eqb n 0 z)
                (let w = f z in
                subst (λ (y : Pair). GrownIn y s.after) (sym w.ends)
                (moves-keep moves_each w.begin _ w.grown)))
                (λ z. rw (ne_eqb n 0 z) (subst (GrownIn p) (sym (t.kept (λ y. z (e ∙ y)))) r));
          };
      fewer = λ z. rw (eq-eqb n 0 z)
          (let w = f z in
          subst (λ (y : Pair). field y.old points_field ≤ field p.old points_field - moves_each) (sym w.ends)
          (omega (arith, moves-fewer moves_each w.begin _ w.grown, w.one_less.0)));
      at_most = λ z. rw (eq-eqb n 0 z)
          (let w = f z in
          subst (λ (y : Pair). field p.old points_field ≤ field y.old points_field + suc moves_each) (sym w.ends)
          (omega (arith, moves-fewer moves_each w.begin _ w.grown, w.one_less.1)));
    }

-- the place from which new space is reckoned is D and the space that the book has used
pub place_is : (p : Pair) (c d b : Book) → Grown p c d b → reckoned_place p ≡ (layout_of p.new).D + b.used
unfolding reckoned_place
place_is p c d b r =
    let head : d.terms.head ≡ head_size (layout_of p.old) =
    ap (λ (u : Terms). u.head) r.new.terms ∙ (unfold head_size in ap (λ (n : ℕ). n + 1) (sym r.width)) in
    omega (
      arith,
      r.new.used,
      active-space p.old c r.old,
      r.joins.used,
      ap (λ (n : ℕ). space_for_all n c.entries) head,
    )

-- ---- the call's own part, on a pair whose old image does not have the name

module _ (q : Pair) (c d b : Book) (r : Grown q c d b) (key : Bytes) (a : Allowed (layout_of q.old) key)
    (gone : find key c.entries ≡ none) where
  abbrev h : Layout
  h = layout_of q.new

  a-new : Allowed h key
  a-new = subst (λ (k : ℕ). name_allowed k key ≡ true) r.key a

  a-d : name_allowed d.terms.K key ≡ true
  a-d = subst (λ (k : ℕ). name_allowed k key ≡ true) (sym (book-key r.new)) a-new

  a-b : name_allowed b.terms.K key ≡ true
  a-b = subst (λ (k : ℕ). name_allowed k key ≡ true) (sym (list-key q c d b r)) a

  -- ---- delete

  book-is : (x : Book) → name_allowed x.terms.K key ≡ true
      → book_delete x key ≡ delete_found x key (find key x.entries)
  unfolding book_delete
  book-is x y = guarded-yes x _ _ (first_no-yes 7 _ [] y ∙ first_no-none)

  absent-number : (x : Book) → (delete_found x key none).answer.number ≡ 14
  unfolding delete_found step_of plain
  absent-number x = first_no-no 14 false [] refl

  present-number : (x : Book) (e : Entry) → (delete_found x key (some e)).answer.number ≡ 0
  unfolding delete_found step_of plain
  present-number x e = first_no-none

  present-after : (x : Book) (e : Entry) → (delete_found x key (some e)).after ≡ removed key x
  unfolding delete_found step_of
  present-after x e = rw first_no-none refl

  delete-number : first_no (removed_asks h q.new (search h q.new key)) ≡ (book_delete d key).answer.number
  unfolding delete plain
  delete-number = sym asks ∙ ap (λ (x : Answer). x.number) (same-delete h q.new d r.new key).answer
    where
      asks : delete_number q.new key ≡ first_no (removed_asks h q.new (search h q.new key))
      asks = unfold delete_number delete_asks in
          (first_no-opened q.new _ (open₀ r.new) ∙ first_no-yes 7 _ _ a-new)

  found-b : {f : Option Entry} → find key d.entries ≡ f → book_delete b key ≡ delete_found b key f
  found-b e = book-is b a-b ∙ ap (delete_found b key) (same-find c d b r.joins key gone ∙ e)

  found-d : {f : Option Entry} → find key d.entries ≡ f → book_delete d key ≡ delete_found d key f
  found-d e = book-is d a-d ∙ ap (delete_found d key) e

  both-numbers : (book_delete d key).answer.number ≡ (book_delete b key).answer.number
  both-numbers =
      by-find (find key d.entries)
      (λ e.
      ap (λ (o : Outcome Book). o.answer.number) (found-d e) ∙ absent-number d
      ∙ sym (ap (λ (o : Outcome Book). o.answer.number) (found-b e) ∙ absent-number b))
      (λ x e.
      ap (λ (o : Outcome Book). o.answer.number) (found-d e) ∙ present-number d x
      ∙ sym (ap (λ (o : Outcome Book). o.answer.number) (found-b e) ∙ present-number b x))

  pub own-delete-number : first_no (removed_asks h q.new (search h q.new key)) ≡ (book_delete b key).answer.number
  own-delete-number = delete-number ∙ both-numbers

  pub own-delete : (book_delete b key).answer.number ≡ 0
      → GrownIn (record { old = q.old; new = deleted h q.new (search h q.new key) }) (book_delete b key).after
  own-delete z =
      by-find (find key d.entries)
      (λ e. absurd (fourteen (sym (ap (λ (o : Outcome Book). o.answer.number) (found-b e) ∙ absent-number b) ∙ z)))
      (λ x e.
      let rd : Reflects h (deleted h q.new (search h q.new key)) (removed key d) =
      subst (Reflects h (deleted h q.new (search h q.new key)))
      (ap (λ (o : Outcome Book). o.after) (found-d e) ∙ present-after d x) after-d in
      subst (GrownIn (record { old = q.old; new = deleted h q.new (search h q.new key) }))
      (sym (ap (λ (o : Outcome Book). o.after) (found-b e) ∙ present-after b x)) (
        c,
        removed key d,
        record {
          old = r.old;
          new = own-layout h _ _ rd;
          joins = joins-remove c d b r.joins key gone r.new.distinct x e;
          key = r.key ∙ sym (ap (λ (l : Layout). l.K) rd.file.layout);
          width = r.width ∙ sym (ap (λ (l : Layout). l.W) rd.file.layout);
        },
      ))
    where
      fourteen : ◌≡◌ {A = ℕ} 14 0 → ⊥
      fourteen y = omega (arith, y)

      number₀ : delete_number q.new key ≡ 0
      number₀ = unfold delete plain in
          (ap (λ (x : Answer). x.number) (same-delete h q.new d r.new key).answer ∙ both-numbers ∙ z)

      after-d : Reflects h (deleted h q.new (search h q.new key)) (book_delete d key).after
      after-d =
          subst (λ (x : Bytes). Reflects h x (book_delete d key).after)
          (settled-yes (delete_number q.new key) q.new _ number₀)
          (unfold delete in (same-delete h q.new d r.new key).after)

  -- ---- add

  module _ (bytes : Bytes) (mode : ℕ) (k : mode_known mode ≡ true) where
    abbrev added-b : Outcome Book
    added-b = add_found b key bytes mode (find key b.entries)

    pub own-add-number : first_no (own_asks q key bytes mode) ≡ added-b.answer.number
    unfolding own_asks
    own-add-number =
        own-number h q.new c d b r.new r.joins key a-new gone (both_points q) (reckoned_place q)
        (both-points q c d b r) (place_is q c d b r) bytes mode k

    d-is : book_add d key bytes mode ≡ add_found d key bytes mode (find key b.entries)
    unfolding book_add named
    d-is =
        guarded-yes d _ _ (first_no-yes 7 _ _ a-d ∙ first_no-yes 8 _ [] k ∙ first_no-none)
        ∙ ap (add_found d key bytes mode) (sym (same-find c d b r.joins key gone))

    edited : (b' d' : Book) → Edit key b d b' d' → Joins c d' b'
    edited b' d' (same y z) =
        subst (λ (x : Book). Joins c d' x) (sym y) (subst (λ (x : Book). Joins c x b) (sym z) r.joins)
    edited b' d' (put e more n y z lo hi) =
        subst (λ (x : Book). Joins c d' x) (sym y)
        (subst (λ (x : Book). Joins c x (entered b e more)) (sym z)
        (joins-enter c d b r.joins key gone e n more lo hi))

    pub own-add : added-b.answer.number ≡ 0
        → GrownIn (record { old = q.old; new = added h q.new key bytes mode }) added-b.after
    own-add z =
        let both = both_found c d b r.joins key gone bytes mode (find key b.entries) refl z in
        let n₀ : add_number q.new key bytes mode ≡ 0 =
        number_is ∙ ap (λ (o : Outcome Book). o.answer.number) d-is ∙ both.0 in
        let rd : Reflects h (added h q.new key bytes mode) (book_add d key bytes mode).after =
        subst (λ (x : Bytes). Reflects h x (book_add d key bytes mode).after)
        (settled-yes (add_number q.new key bytes mode) q.new _ n₀) after_is in (
          c,
          (book_add d key bytes mode).after,
          record {
            old = r.old;
            new = own-layout h _ _ rd;
            joins = edited _ _
                (subst (λ (o : Outcome Book). Edit key b d added-b.after o.after) (sym d-is) both.1);
            key = r.key ∙ sym (ap (λ (l : Layout). l.K) rd.file.layout);
            width = r.width ∙ sym (ap (λ (l : Layout). l.W) rd.file.layout);
          },
        )
      where
        number_is : add_number q.new key bytes mode ≡ (book_add d key bytes mode).answer.number
        number_is = unfold add plain in
            ap (λ (x : Answer). x.number) (same_add h q.new d r.new key bytes mode).answer

        after_is : Reflects h (settled (add_number q.new key bytes mode) q.new (added h q.new key bytes mode))
            (book_add d key bytes mode).after
        after_is = unfold add in (same_add h q.new d r.new key bytes mode).after

-- ---- the calls

module _ (p : Pair) (c d b : Book) (r : Grown p c d b) (key : Bytes) where
  abbrev g₁ : Layout
  g₁ = layout_of p.old

  -- the old image's K after the named move
  ready-allowed : (w : Ready p b key) → Allowed g₁ key → Allowed (layout_of (ready p key).old) key
  ready-allowed w a =
      subst (λ (k : ℕ). name_allowed k key ≡ true)
      (sym (list-key p c d b r) ∙ list-key (ready p key) w.c w.d b w.grown) a

  7≢0 : ◌≡◌ {A = ℕ} 7 0 → ⊥
  7≢0 y = omega (arith, y)

  book-7 : name_allowed g₁.K key ≡ false → (book_delete b key).answer.number ≡ 7
  unfolding book_delete guarded step_of plain
  book-7 no' =
      let f : first_no (ask 7 (name_allowed b.terms.K key) ∷ []) ≡ 7 =
      first_no-no 7 _ [] (ap (λ (k : ℕ). name_allowed k key) (list-key p c d b r) ∙ no') in
      rw f refl

  pub same-deleting : SameMoved p (grow_delete p key) (book_delete b key)
  unfolding grow_delete grow_delete_number acted
  same-deleting =
      by_bool (name_allowed g₁.K key)
      (λ a.
      let w = ready-keeps p c d b r key a in
      let a' = ready-allowed w a in
      let n = turn-own p _ key _ (pair-asks p c d b r _ ∙ first_no-yes 7 _ [] a ∙ first_no-none) w.accepted
      ∙ own-delete-number (ready p key) w.c w.d b w.grown key a' w.gone in
      same-change _ p _ b _ (told-delete b key) (c, d, r) n
      (λ z.
      record {
        begin = _;
        grown = own-delete (ready p key) w.c w.d b w.grown key a' w.gone (sym n ∙ z);
        ends = refl;
        one_less = w.one_less;
      }))
      (λ no'.
      let seven : pair_number p (ask 7 (name_allowed g₁.K key) ∷ []) ≡ 7 = pair-asks p c d b r _
      ∙ first_no-no 7 _ [] no' in
      let n = turn-first p _ key _ seven 7≢0 in
      same-change _ p _ b _ (told-delete b key) (c, d, r) (n ∙ sym (book-7 no')) (λ z. absurd (7≢0 (sym n ∙ z))))

  -- ---- adding and storing

  -- by the questions that come before the named point's move, of the file's K and of the book's
  module _ (bytes : Bytes) (mode : ℕ) (first : ℕ → List Question)
      (pass : first_no (first g₁.K) ≡ 0 → Allowed g₁ key × (mode_known mode ≡ true)) where
    abbrev number : ℕ
    number = in_turn p (first g₁.K) key (own_asks (ready p key) key bytes mode)

    abbrev booked : Outcome Book
    booked = guarded b (first b.terms.K) (add_found b key bytes mode (find key b.entries))

    asks-same : first_no (first b.terms.K) ≡ first_no (first g₁.K)
    asks-same = ap (λ (k : ℕ). first_no (first k)) (list-key p c d b r)

    told : Numbered b booked
    told = told-guarded b _ _ (told-found b key bytes mode (find key b.entries))

    refused-number : (first_no (first g₁.K) ≡ 0 → ⊥) → booked.answer.number ≡ first_no (first b.terms.K)
    unfolding step_of plain
    refused-number z = ap (λ (o : Outcome Book). o.answer.number) (guarded-no b _ _ (λ y. z (sym asks-same ∙ y)))

    pub same-placing : SameMoved p (settled_pair number p (added_pair p key bytes mode)) booked
    unfolding added_pair acted
    same-placing =
        by-eq (first_no (first g₁.K)) 0
        (λ z.
        let a = (pass z).0 in
        let k = (pass z).1 in
        let w = ready-keeps p c d b r key a in
        let a' = ready-allowed w a in
        let is : booked ≡ add_found b key bytes mode (find key b.entries) = guarded-yes b _ _ (asks-same ∙ z) in
        let n : number ≡ (add_found b key bytes mode (find key b.entries)).answer.number =
        turn-own p _ key _ (pair-asks p c d b r _ ∙ z) w.accepted
        ∙ own-add-number (ready p key) w.c w.d b w.grown key a' w.gone bytes mode k in
        same-change _ p _ b _ told (c, d, r) (n ∙ sym (ap (λ (o : Outcome Book). o.answer.number) is))
        (λ y. subst (λ (o : Outcome Book). Acted p (added_pair p key bytes mode) o.after) (sym is)
        (record {
          begin = _;
          grown = own-add (ready p key) w.c w.d b w.grown key a' w.gone bytes mode k (sym n ∙ y);
          ends = refl;
          one_less = w.one_less;
        })))
        (λ z.
        let m : number ≡ first_no (first g₁.K) = turn-first p _ key _ (pair-asks p c d b r _) z in
        same-change _ p _ b _ told (c, d, r) (m ∙ sym asks-same ∙ sym (refused-number z)) (λ y. absurd (z (sym m ∙ y))))

  pub same-adding : (bytes : Bytes) (mode : ℕ) → SameMoved p (grow_add p key bytes mode) (book_add b key bytes mode)
  unfolding grow_add grow_add_number book_add
  same-adding bytes mode =
      same-placing bytes mode (λ k. named k key mode [])
      (λ z. unfold named in
      (let y₈ = first_no-tail 7 (name_allowed g₁.K key) (ask 8 (mode_known mode) ∷ []) (λ q. omega arith) z in (
        first_no-head 7 (name_allowed g₁.K key) (ask 8 (mode_known mode) ∷ []) (λ q. omega arith) z,
        first_no-head 8 (mode_known mode) [] (λ q. omega arith) y₈,
      )))

  pub same-storing : (recs : Bytes) (W : ℕ) → SameMoved p (grow_store p key recs W) (book_store b key recs W)
  unfolding grow_store grow_store_number book_store
  same-storing recs W =
      same-placing (columns W recs) 2
      (λ k. ask 7 (name_allowed k key) ∷ ask 19 (whole_records W (length recs)) ∷ [])
      (λ z. (
        first_no-head 7 (name_allowed g₁.K key) (ask 19 (whole_records W (length recs)) ∷ []) (λ q. omega arith) z,
        unfold mode_known in refl,
      ))
