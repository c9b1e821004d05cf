-- A move keeps the relation of the two images and the book, and is never refused in it.
--     Grown p c d b     the old image has the book c, the new one d, and both together are b
--     move-accepted, move-keeps      one move; moves-keep: so many; moves-fewer: each leaves one point less behind
-- Assumes nothing.
use mathlib.Core.Path.{◌≡◌, refl, sym, ap, ◌∙◌, subst}
use Prim.Native.Nat.{ℕ, zero, suc, ◌+◌, ◌-◌, ◌^◌, ◌≤◌, ◌<◌}
use native.Mathlib.Omega.{arith}
use mathlib.Core.Bool.{Bool, true, false, cond, not, ◌&&◌}
use mathlib.Core.List.{List, [], ◌∷◌}
use mathlib.Core.Option.{Option, none, some, none-ne-some}
use lib.ListN.{length}
use lib.Dec.{leb, ltb, eqb}
use borrow.Author.Tests.{le-leb, lt-ltb, ne_eqb, not-true, not-false}
use Rattle.spec_file.specs.Bytes.{Bytes}
use Rattle.spec_file.specs.Limits.{points_field, free_field, length_width, most_length}
use Rattle.spec_file.specs.Image.{field, Layout, layout_of, slot, key_of, offset_of, vacant}
use Rattle.spec_file.specs.Search.{Probe, met, empty, exhausted, search, is_met}
use Rattle.spec_file.specs.Messages.{head_size, length_at, text_at, is_active, shown, held, bytes_of, is_text, fresh_text, placed_text, added}
use Rattle.spec_file.specs.Delete.{deleted_at}
use Rattle.spec_file.specs.Questions.{Question, ask, first_no, name_allowed, mode_known, named, message_sound, some_point, met_in_mode4, new_in_mode1, slot_to_take, met_message_sound, length_allowed, space_left, point_asks, add_number}
use Rattle.spec_file.specs.Calls.{Answer, Outcome, plain, settled, add}
use Rattle.spec_file.specs.Inspect.{taken, next_taken}
use Rattle.spec_book.specs.Book.{Entry, Terms, Book, find, without, step_of, room_asks, entered, noting, bare, placed, add_absent, add_found, guarded, book_add, trimmed, space_for, space_for_all}
use Rattle.law_file.proofs.Tests.{by_bool, not-both, and-true}
use Rattle.law_file.proofs.Opened.{first_no-none, first_no-yes, first_no-no, first_no-head, first_no-tail}
use Rattle.law_file.proofs.Outcomes.{settled-yes, add-point}
use Rattle.law_file.proofs.Verdict.{lowest-some, lowest-none}
use Rattle.law_file.proofs.Total.{total-same, total-const, term-le}
use Rattle.law_file.proofs.Stretch.{span, Stored, sound-lies}
use Rattle.law_file.proofs.Effects.{active-some}
use Rattle.law_file.proofs.Table.{Taken, weight, weigh}
use Rattle.law_file.proofs.Probe.{by-search, search-finds}
use Rattle.law_file.proofs.Insert.{entry-met, weigh-vacant, weigh-taken}
use Rattle.law_agreement.proofs.File.{Allowed, value_of, File, file-some}
use Rattle.law_agreement.proofs.Reflect.{Reflects}
use Rattle.law_agreement.proofs.Entries.{removed, length_without}
use Rattle.law_agreement.proofs.Spaces.{space-without}
use Rattle.law_agreement.proofs.Checked.{taken-allowed}
use Rattle.law_agreement.proofs.Simple.{Same, guarded-yes, open₀, found-met, found_none, met-sound, by-met, one_less, gone}
use Rattle.law_agreement.proofs.Add.{same_add}
use Rattle.law_agreement.proofs.Compacting.{length-text, shown-active, shown-inactive}
use Rattle.spec_moves.specs.Moves.{Pair, move_text, move_mode, move_key, move_asks, moved_over, lowest_slot, moves}
use Rattle.law_growth.proofs.Versions.{same-most, text-short}
use Rattle.law_growth.proofs.Joins.{joined, Joins, joins-move}

-- ---- the relation

pub record Grown (p : Pair) (c d b : Book) : Type 0 where
  pub old : Reflects (layout_of p.old) p.old c
  pub new : Reflects (layout_of p.new) p.new d
  pub joins : Joins c d b
  pub key : (layout_of p.old).K ≡ (layout_of p.new).K
  pub width : (layout_of p.old).W ≡ (layout_of p.new).W

-- by the image's own layout
pub own-layout : (g : Layout) (img : Bytes) (b : Book) → Reflects g img b → Reflects (layout_of img) img b
own-layout g img b r = subst (λ (l : Layout). Reflects l img b) (sym r.file.layout) r

-- ---- the book takes a point in

abbrev pub entry_for : Bytes → Option Bytes → Entry
entry_for key t = record { name = key; text = t; held = length (bytes_of t); offset? = is_text t }

-- there is room for a point with the text t
pub record Room (d : Book) (t : Option Bytes) : Type 0 where
  pub points : length d.entries < d.terms.N
  pub short : (x : Bytes) → t ≡ some x → length x ≤ d.terms.most
  pub space : d.used + space_for d.terms.head t ≤ d.terms.R

take_in : (d : Book) (key : Bytes) (t : Option Bytes) → name_allowed d.terms.K key ≡ true
    → find key d.entries ≡ none → Room d t
    → book_add d key (bytes_of t) (move_mode t)
    ≡ record { after = entered d (entry_for key t) (space_for d.terms.head t); answer = plain 0 }
unfolding book_add move_mode bytes_of is_text add_found add_absent step_of room_asks placed noting bare space_for named mode_known
take_in d key none a n r =
    guarded-yes d _ _ (first_no-yes 7 _ _ a ∙ first_no-yes 8 true [] refl ∙ first_no-none)
    ∙ rw (n, first_no-yes 10 (ltb (length d.entries) d.terms.N) [] (lt-ltb _ _ r.points), first_no-none) refl
take_in d key (some x) a n r =
    let sp : d.used + d.terms.head + length x ≤ d.terms.R = omega (arith, r.space) in
    guarded-yes d _ _ (first_no-yes 7 _ _ a ∙ first_no-yes 8 true [] refl ∙ first_no-none)
    ∙ rw (
      n,
      first_no-yes 10 (ltb (length d.entries) d.terms.N)
          (ask 12 (leb (length x) d.terms.most) ∷ ask 13 (leb (d.used + d.terms.head + length x) d.terms.R)
          ∷ [])
          (lt-ltb _ _ r.points),
      first_no-yes 12 (leb (length x) d.terms.most)
          (ask 13 (leb (d.used + d.terms.head + length x) d.terms.R) ∷ [])
          (le-leb _ _ (r.short x refl)),
      first_no-yes 13 (leb (d.used + d.terms.head + length x) d.terms.R) [] (le-leb _ _ sp),
      first_no-none,
    ) refl

-- ---- what an add of a point that is absent asks

placed-fresh : (h : Layout) (img : Bytes) (s : Probe) (bytes : Bytes) (mode : ℕ) → is_met s ≡ false
    → placed_text h img s bytes mode ≡ fresh_text bytes mode
unfolding placed_text is_met
placed-fresh h img (met i) bytes mode e = absurd (not-both true refl e)
placed-fresh h img (empty i) bytes mode e = refl
placed-fresh h img exhausted bytes mode e = refl

move-fresh : (t : Option Bytes) → fresh_text (bytes_of t) (move_mode t) ≡ t
unfolding fresh_text bytes_of move_mode is_text
move-fresh none = refl
move-fresh (some x) = refl

move-mode : (t : Option Bytes) → mode_known (move_mode t) ≡ true
unfolding mode_known move_mode is_text
move-mode none = refl
move-mode (some x) = refl

-- ---- one move

module _ (p : Pair) (c d b : Book) (r : Grown p c d b) (i : ℕ) (l : i < (layout_of p.old).N)
    (v : Taken (layout_of p.old) p.old i) where
  abbrev g : Layout
  g = layout_of p.old

  abbrev h : Layout
  h = layout_of p.new

  abbrev o : ℕ
  o = offset_of g (slot g p.old i)

  abbrev key : Bytes
  key = key_of g (slot g p.old i)

  abbrev t : Option Bytes
  t = shown g p.old o

  abbrev e : Entry
  e = value_of g p.old key o

  a : Allowed g key
  a = taken-allowed g p.old r.old.file i l v

  m : search g p.old key ≡ met i
  m = search-finds g p.old key (file-some r.old.file) i r.old.file.table l v refl

  q : find key c.entries ≡ some e
  q = found-met g p.old c r.old key a i m

  a-new : Allowed h key
  a-new = subst (λ (k : ℕ). name_allowed k key ≡ true) r.key a

  absent : find key d.entries ≡ none
  absent = r.joins.apart key e q

  new-terms : d.terms ≡ record { K = h.K; N = h.N; R = length p.new - h.D; head = head_size h; most = h.most }
  new-terms = r.new.terms

  short : (x : Bytes) → t ≡ some x → length x ≤ d.terms.most
  unfolding bytes_of layout_of
  short x y =
      by_bool (is_active p.old o)
      (λ act.
      let z : o ≡ 0 → ⊥ = active-some p.old o act in
      let st : Stored g p.old o = r.old.file.messages key (slot g p.old i) a (entry-met g p.old key i m) in
      let end = (sound-lies g p.old o st.sound z).end in
      let n : length (text_at g p.old o) ≡ length_at g p.old o =
      length-text g p.old o (omega (arith, end, r.old.file.opened.free-high)) in
      let is : length (bytes_of t) ≡ length x = ap (λ (u : Option Bytes). length (bytes_of u)) y in
      let is₂ : length (bytes_of t) ≡ length (text_at g p.old o) =
      ap (λ (u : Option Bytes). length (bytes_of u)) (shown-active g p.old o act) in
      let le : length_at g p.old o ≤ g.most =
      text-short p.old r.old.file.opened o (length_at g p.old o) z (st.short z)
      (omega (arith, end, r.old.file.opened.free-high)) in
      let m₁ : d.terms.most ≡ h.most = ap (λ (u : Terms). u.most) new-terms in
      let m₂ : g.most ≡ h.most =
      same-most p.old p.new r.old.file.opened r.new.file.opened r.width in
      omega (arith, le, n, is, is₂, m₁, m₂))
      (λ no'. absurd (none-ne-some x (sym (shown-inactive g p.old o no') ∙ y)))

  room : Room d t
  room =
      let one : suc (length (without key c.entries)) ≡ length c.entries = length_without key c.entries e q in
      let tn : b.terms.N ≡ d.terms.N = ap (λ (u : Terms). u.N) r.joins.terms in
      let tr : b.terms.R ≡ d.terms.R = ap (λ (u : Terms). u.R) r.joins.terms in
      record {
        points = omega (arith, one, tn, r.joins.number, r.joins.points-within);
        short = short;
        space = omega (
          arith,
          tr,
          r.joins.used,
          r.joins.space-within,
          space-without d.terms.head key c.entries e q,
        );
      }

  same_in : Same h (add p.new key (bytes_of t) (move_mode t))
      (record { after = entered d (entry_for key t) (space_for d.terms.head t); answer = plain 0 })
  same_in =
      subst (Same h (add p.new key (bytes_of t) (move_mode t)))
      (take_in d key t (subst (λ (u : Terms). name_allowed u.K key ≡ true) (sym new-terms) a-new) absent room)
      (same_add h p.new d r.new key (bytes_of t) (move_mode t))

  number_in : add_number p.new key (bytes_of t) (move_mode t) ≡ 0
  unfolding add plain
  number_in = ap (λ (x : Answer). x.number) same_in.answer

  not-met : is_met (search h p.new key) ≡ false
  not-met =
      by-met h p.new d r.new key
      (λ j mj. absurd (none-ne-some _ (sym absent ∙ found-met h p.new d r.new key a-new j mj)))
      (λ n. n)

  pub move-accepted : first_no (move_asks p i) ≡ 0
  unfolding move_asks move_key move_text point_asks
  move-accepted =
      let s = search h p.new key in
      let text : placed_text h p.new s (bytes_of t) (move_mode t) ≡ t =
      placed-fresh h p.new s (bytes_of t) (move_mode t) not-met ∙ move-fresh t in
      let n₁₄ = sym (add-point p.new key (open₀ r.new) (bytes_of t) (move_mode t) a-new (move-mode t))
      ∙ number_in in
      let n₉ = first_no-tail 14 (met_in_mode4 s (move_mode t)) _ (λ z. omega arith) n₁₄ in
      let n₁₀ = first_no-tail 9 (new_in_mode1 s (move_mode t)) _ (λ z. omega arith) n₉ in
      let n₁₁ = first_no-tail 10 (slot_to_take (field p.new points_field) h.N s) _ (λ z. omega arith) n₁₀ in
      let n₁₂ = first_no-tail 11 (met_message_sound h p.new s) _ (λ z. omega arith) n₁₁ in
      first_no-yes 11 (message_sound g p.old o && some_point p.old) _
      (and-true _ _ (met-sound g p.old c r.old key a i m)
      (unfold some_point in le-leb 1 (field p.old points_field)
      (omega (arith, one_less g p.old c r.old key a i m))))
      ∙ first_no-yes 9 (not (is_met s)) _ (ap not not-met)
      ∙ first_no-yes 10 (slot_to_take (field p.new points_field) h.N s) _
      (first_no-head 10 (slot_to_take (field p.new points_field) h.N s) _ (λ z. omega arith) n₁₀)
      ∙ subst (λ (u : Option Bytes). first_no (ask 12 (length_allowed h u)
      ∷ ask 13 (space_left h (field p.new free_field) (length p.new) u) ∷ []) ≡ 0) text n₁₂

  -- one point less stays behind
  pub move-fewer : suc (length (removed key c).entries) ≡ length c.entries
  move-fewer = length_without key c.entries e q

  pub move-keeps : Grown (moved_over p i) (removed key c) (entered d (entry_for key t) (space_for d.terms.head t)) b
  unfolding moved_over move_key move_text
  move-keeps =
      let g' : Reflects g (deleted_at g p.old i) (removed key c) = gone g p.old c r.old key a i m in
      let h' : Reflects h (added h p.new key (bytes_of t) (move_mode t))
      (entered d (entry_for key t) (space_for d.terms.head t)) =
      subst (λ (x : Bytes). Reflects h x (entered d (entry_for key t) (space_for d.terms.head t)))
      (settled-yes (add_number p.new key (bytes_of t) (move_mode t)) p.new _ number_in)
      (unfold add in same_in.after) in
      record {
        old = own-layout g _ _ g';
        new = own-layout h _ _ h';
        joins =
            joins-move c d b r.joins key r.old.distinct e q (entry_for key t) refl (unfold trimmed in refl)
            (space_for d.terms.head t) refl;
        key =
            ap (λ (x : Layout). x.K) g'.file.layout ∙ r.key ∙ sym (ap (λ (x : Layout). x.K) h'.file.layout);
        width =
            ap (λ (x : Layout). x.W) g'.file.layout ∙ r.width ∙ sym
            (ap (λ (x : Layout). x.W) h'.file.layout);
      }

-- ---- so many moves

abbrev pub GrownIn : Pair → Book → Type 0
GrownIn p b = (c : Book) × (d : Book) × Grown p c d b

by-slot {ℓ} : {A : Type ℓ} (f : Option ℕ) → (f ≡ none → A) → ((i : ℕ) → f ≡ some i → A) → A
by-slot none n y = n refl
by-slot (some i) n y = y i refl

lowest-taken : (img : Bytes) (i : ℕ) → lowest_slot img ≡ some i → (i < (layout_of img).N) × Taken (layout_of img) img i
unfolding lowest_slot next_taken taken
lowest-taken img i e =
    let f = lowest-some (taken (layout_of img) img) ((layout_of img).N - 0) 0 i e in
    (omega (arith, f.1), not-true _ f.2)

-- no taken slot, no point
pub none_left : (img : Bytes) (c : Book) → Reflects (layout_of img) img c → lowest_slot img ≡ none
    → field img points_field ≡ 0
unfolding lowest_slot next_taken taken
none_left img c r e =
    r.file.counted ∙ weight-empty
  where
    g : Layout
    g = layout_of img

    bare-slot : (i : ℕ) → i < g.N → vacant g (slot g img i) ≡ true
    bare-slot i l =
        not-false (vacant g (slot g img i))
        (lowest-none (taken g img) (g.N - 0) 0 e i (omega arith) (omega (arith, l)))

    weight-empty : weight g img (λ s. 1) ≡ 0
    weight-empty = unfold weight in
        (total-same (λ i. weigh g (λ s. 1) (slot g img i)) (λ i. 0) g.N
        (λ i l. weigh-vacant g (λ s. 1) (slot g img i) (bare-slot i l))
        ∙ total-const 0 g.N ∙ omega arith)

-- a taken slot is a point
pub lowest-counts : (img : Bytes) (c : Book) → Reflects (layout_of img) img c → (i : ℕ) → lowest_slot img ≡ some i
    → field img points_field ≡ 0 → ⊥
lowest-counts img c r i e z =
    let f = lowest-taken img i e in
    let w : weight (layout_of img) img (λ s. 1) ≡ 0 = sym r.file.counted ∙ z in
    let le : weigh (layout_of img) (λ s. 1) (slot (layout_of img) img i) ≤ weight (layout_of img) img (λ s. 1) =
    unfold weight in term-le (λ k. weigh (layout_of img) (λ s. 1) (slot (layout_of img) img k)) (layout_of img).N i
    f.0 in
    omega (arith, le, w, weigh-taken (layout_of img) (λ s. 1) (slot (layout_of img) img i) f.1)

moves-end : (n : ℕ) (p : Pair) → lowest_slot p.old ≡ none → moves (suc n) p ≡ p
unfolding moves
moves-end n p e = rw (e, moves)

moves-on : (n : ℕ) (p : Pair) (i : ℕ) → lowest_slot p.old ≡ some i → first_no (move_asks p i) ≡ 0
    → moves (suc n) p ≡ moves n (moved_over p i)
unfolding moves
moves-on n p i e y = rw (e, moves, y)

pub moves-keep : (n : ℕ) (p : Pair) (b : Book) → GrownIn p b → GrownIn (moves n p) b
moves-keep zero p b r = unfold moves in r
moves-keep (suc n) p b r =
    let ih : (i : ℕ) → GrownIn (moved_over p i) b → GrownIn (moves n (moved_over p i)) b = λ i. moves-keep n
    (moved_over p i) b in
    by-slot (lowest_slot p.old)
    (λ e. subst (λ (x : Pair). GrownIn x b) (sym (moves-end n p e)) r)
    (λ i e.
    let f = lowest-taken p.old i e in
    let y = move-accepted p r.0 r.1 b r.2 i f.0 f.1 in
    subst (λ (x : Pair). GrownIn x b) (sym (moves-on n p i e y))
    (ih i (_, _, move-keeps p r.0 r.1 b r.2 i f.0 f.1)))

-- each leaves one point less in the old image, until none is left
pub moves-fewer : (n : ℕ) (p : Pair) (b : Book) → GrownIn p b
    → field (moves n p).old points_field ≡ field p.old points_field - n
moves-fewer zero p b r = unfold moves in omega arith
moves-fewer (suc n) p b r =
    let ih : (i : ℕ) → GrownIn (moved_over p i) b
    → field (moves n (moved_over p i)).old points_field ≡ field (moved_over p i).old points_field - n =
    λ i. moves-fewer n (moved_over p i) b in
    by-slot (lowest_slot p.old)
    (λ e.
    subst (λ (x : Pair). field x.old points_field ≡ field p.old points_field - suc n) (sym (moves-end n p e))
    (omega (arith, none_left p.old r.0 r.2.old e)))
    (λ i e.
    let f = lowest-taken p.old i e in
    let y = move-accepted p r.0 r.1 b r.2 i f.0 f.1 in
    let w = move-keeps p r.0 r.1 b r.2 i f.0 f.1 in
    let less = move-fewer p r.0 r.1 b r.2 i f.0 f.1 in
    subst (λ (x : Pair). field x.old points_field ≡ field p.old points_field - suc n) (sym (moves-on n p i e y))
    (omega (arith, ih i (_, _, w), less, w.old.number, r.2.old.number)))
