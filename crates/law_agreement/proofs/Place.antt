-- Messages in new space: questions 12 and 13 of the file are the book's; an insert and a relocation keep the relation.
--     place-both                  questions 12 and 13, of the file and of the book
--     place-length, place-space    what a yes to both gives
--     relocate, insert           the relation after a message is placed: its length is allowed, and there is space
-- Assumes nothing.
use mathlib.Core.Path.{◌≡◌, refl, sym, ap, ap₂, ◌∙◌, subst}
use Prim.Native.Nat.{ℕ, ◌+◌, ◌-◌, ◌^◌, ◌≤◌, ◌<◌}
use native.Mathlib.Omega.{arith}
use mathlib.Core.Bool.{Bool}
use mathlib.Core.List.{[], ◌∷◌}
use mathlib.Core.Option.{none, some}
use lib.ListN.{length}
use lib.Dec.{leb}
use borrow.Author.Tests.{leb-true, le-leb, lt-leb}
use Rattle.spec_file.specs.Bytes.{Bytes}
use Rattle.spec_file.specs.Limits.{points_field, free_field}
use Rattle.spec_file.specs.Image.{field, Layout, slot, put_slot, slot_bytes, offset_of}
use Rattle.spec_file.specs.Search.{met, empty, search}
use Rattle.spec_file.specs.Messages.{head_size, retire, take_space, enter, inserted, relocated}
use Rattle.spec_file.specs.Questions.{ask, first_no, length_allowed, space_left, place_number}
use Rattle.spec_book.specs.Book.{Terms, Book, find, room_asks, entered, noting, placed}
use Rattle.law_file.proofs.Tests.{by_le}
use Rattle.law_file.proofs.Opened.{first_no-head, first_no-tail}
use Rattle.law_file.proofs.Effects.{Spaced}
use Rattle.law_file.proofs.Table.{entry_of}
use Rattle.law_file.proofs.Probe.{search-frame}
use Rattle.law_file.proofs.Insert.{entry-met, entry-empty}
use Rattle.law_file.proofs.Stretch.{lies-sound}
use Rattle.law_agreement.proofs.File.{Allowed, point_of, point_of-none, File, file-some, file-most, file-room, Change, file-change, change-trans, change-any}
use Rattle.law_agreement.proofs.Retire.{retire-change, retire-slot, retire-field}
use Rattle.law_agreement.proofs.Space.{written-value, space-change, space-file, space-is, space-written, space-some, space-lies, space-away}
use Rattle.law_agreement.proofs.Slots.{Unshared, set-change, set-point, set-field, enter-change, enter-point, enter-points, enter-free}
use Rattle.law_agreement.proofs.Entries.{length-with_entry-new, length-with_entry-old}
use Rattle.law_agreement.proofs.Reflect.{Reflects, reflect-entered}
use Rattle.law_agreement.proofs.Simple.{found-met}

-- ---- questions 12 and 13

leb-shift : (D U x L k : ℕ) → x ≡ D + U → D ≤ L → leb (x + k) L ≡ leb (U + k) (L - D)
leb-shift D U x L k e h =
    by_le (x + k) L
    (λ l. le-leb (x + k) L l ∙ sym (le-leb (U + k) (L - D) (omega arith)))
    (λ l. lt-leb (x + k) L l ∙ sym (lt-leb (U + k) (L - D) (omega arith)))

module _ (g : Layout) (img : Bytes) (b : Book) (r : Reflects g img b) (t : Bytes) where
  pub place-both : place_number g img (some t) ≡ first_no (room_asks b (length t))
  unfolding length_allowed space_left room_asks
  place-both =
      ap₂ (λ (x y : Bool). first_no (ask 12 x ∷ ask 13 y ∷ []))
      (ap (λ (m : Terms). leb (length t) m.most) (sym r.terms))
      (ap (λ (n : ℕ). leb n (length img)) (regroup (field img free_field))
      ∙ leb-shift g.D b.used (field img free_field) (length img) (head_size g + length t) r.used
      (file-room r.file).area
      ∙ ap (λ (n : ℕ). leb n (length img - g.D)) (sym (regroup b.used))
      ∙ ap (λ (m : Terms). leb (b.used + m.head + length t) m.R) (sym r.terms))
    where
      regroup : (n : ℕ) → n + head_size g + length t ≡ n + (head_size g + length t)
      regroup n = omega arith

  -- what a yes to both gives
  pub place-length : first_no (room_asks b (length t)) ≡ 0 → length t ≤ g.most
  unfolding room_asks
  place-length h =
      let yes = first_no-head 12 (leb (length t) b.terms.most) _ (λ z. omega arith) h in
      omega (arith, leb-true (length t) b.terms.most yes, ap (λ (m : Terms). m.most) r.terms)

  pub place-space : first_no (room_asks b (length t)) ≡ 0 → field img free_field + head_size g + length t ≤ length img
  unfolding room_asks
  place-space h =
      let le : b.used + b.terms.head + length t ≤ b.terms.R =
      leb-true _ _
      (first_no-head 13 (leb (b.used + b.terms.head + length t) b.terms.R) [] (λ z. omega arith)
      (first_no-tail 12 (leb (length t) b.terms.most) _ (λ z. omega arith) h)) in
      let hd : b.terms.head ≡ head_size g = ap (λ (m : Terms). m.head) r.terms in
      let rr : b.terms.R ≡ length img - g.D = ap (λ (m : Terms). m.R) r.terms in
      omega (arith, r.used, (file-room r.file).area)

-- ---- a message that was placed, and its point's slot

-- the new message is sound, and meets no other point's
unshared-space : (g : Layout) (img : Bytes) (f : File g img) (t : Bytes) (s : length t < 256 ^ g.W)
    (l : field img free_field + head_size g + length t ≤ length img) → (key : Bytes)
    → Unshared g (take_space g img t) key (field img free_field)
unshared-space g img f t s l key =
    record {
      stored =
          record {
            sound = lies-sound g (take_space g img t) (field img free_field) (space-lies g img f t s l);
            short = λ z. rw (space-written g img f t s l).count s;
          };
      small = omega (arith, f.opened.free-high, f.opened.size-high);
      away = λ z key' s' a' n e z'. space-away g img f t s l key' s' a' e z';
    }

more-is : (g : Layout) (img : Bytes) (b : Book) → Reflects g img b → (m : ℕ) → head_size g + m ≡ b.terms.head + m
more-is g img b r m = ap (λ (x : ℕ). x + m) (sym (ap (λ (y : Terms). y.head) r.terms))

module _ (g : Layout) (img : Bytes) (b : Book) (r : Reflects g img b) (key : Bytes) (a : Allowed g key) (t : Bytes)
    (short : length t ≤ g.most)
    (l₁ : field img free_field + head_size g + length t ≤ length img) where
  abbrev x : ℕ
  x = field img free_field

  s₁ : length t < 256 ^ g.W
  s₁ = omega (arith, short, file-most r.file)

  -- "Otherwise the old header, if there is one, becomes "d" and new space is taken."
  module _ (i : ℕ) (m : search g img key ≡ met i) where
    abbrev off : Bytes
    off = retire img (offset_of g (slot g img i))

    e₁ : entry_of g img key ≡ some (slot g img i)
    e₁ = entry-met g img key i m

    off-change : Change g img off key
    off-change = retire-change g img r.file key (slot g img i) a e₁

    off-file : File g off
    off-file = file-change g img off key r.file off-change

    off-free : field off free_field ≡ x
    off-free = retire-field g img r.file key (slot g img i) a e₁ free_field (omega arith)

    off-fits : field off free_field + head_size g + length t ≤ length off
    off-fits = rw (off-free, off-change.kept.size) l₁

    abbrev grown : Bytes
    grown = take_space g off t

    space₁ : Spaced g off t
    space₁ = space-is g off off-file t s₁ off-fits

    grown-file : File g grown
    grown-file = space-file g off off-file t s₁ off-fits

    grown-met : search g grown key ≡ met i
    grown-met =
        search-frame g off grown key (file-some r.file) space₁.slots
        ∙ search-frame g img off key (file-some r.file) (retire-slot g img r.file key (slot g img i) a e₁)
        ∙ m

    own₁ : Unshared g grown key (field off free_field)
    own₁ = unshared-space g off off-file t s₁ off-fits key

    abbrev final : Bytes
    final = put_slot g grown i (slot_bytes key (field off free_field))

    final-change : Change g img final key
    final-change =
        change-trans g img off final key off-change
        (change-trans g off grown final key
        (change-any g off grown off-file (space-change g off off-file t s₁ off-fits) key)
        (set-change g grown grown-file key a (field off free_field) own₁ i grown-met))

    final-point : point_of g final key ≡ some (noting key t)
    final-point =
        set-point g grown grown-file key a (field off free_field) own₁ i grown-met
        ∙ ap some
        (written-value g grown (field off free_field) t (space-written g off off-file t s₁ off-fits)
        (space-some g off off-file t s₁ off-fits) key)

    final-free : field final free_field ≡ x + (b.terms.head + length t)
    final-free =
        set-field g grown grown-file key a (field off free_field) own₁ i grown-met free_field (omega arith)
        ∙ space₁.free
        ∙ omega (arith, off-free, more-is g img b r (length t))

    final-points : field final points_field ≡ field img points_field
    final-points =
        set-field g grown grown-file key a (field off free_field) own₁ i grown-met points_field (omega arith)
        ∙ space₁.points
        ∙ retire-field g img r.file key (slot g img i) a e₁ points_field (omega arith)

    pub relocate : Reflects g (relocated g img i (offset_of g (slot g img i)) key t) (placed b key t)
    unfolding relocated placed noting
    relocate =
        subst (λ (y : ℕ). Reflects g (put_slot g grown i (slot_bytes key y))
        (entered b (noting key t) (b.terms.head + length t))) off-free
        (reflect-entered g img final key b r a final-change (noting key t) (b.terms.head + length t) refl
        final-point final-free
        (length-with_entry-old _ b.entries _ (found-met g img b r key a i m) ∙ r.number ∙ sym final-points))

  -- "Add, key absent: the entry goes to the empty slot where the search ended"
  module _ (i : ℕ) (m : search g img key ≡ empty i) (left : field img points_field < g.N) where
    abbrev wide : Bytes
    wide = take_space g img t

    space₂ : Spaced g img t
    space₂ = space-is g img r.file t s₁ l₁

    wide-file : File g wide
    wide-file = space-file g img r.file t s₁ l₁

    wide-empty : search g wide key ≡ empty i
    wide-empty = search-frame g img wide key (file-some r.file) space₂.slots ∙ m

    wide-left : field wide points_field < g.N
    wide-left = rw space₂.points left

    own₂ : Unshared g wide key x
    own₂ = unshared-space g img r.file t s₁ l₁ key

    absent : find key b.entries ≡ none
    absent = sym (r.points key a) ∙ point_of-none g img key (entry-empty g img key i m)

    pub insert : Reflects g (inserted g img i key (some t)) (placed b key t)
    unfolding inserted placed noting
    insert =
        reflect-entered g img (enter g wide i key x) key b r a
        (change-trans g img wide (enter g wide i key x) key
        (change-any g img wide r.file (space-change g img r.file t s₁ l₁) key)
        (enter-change g wide wide-file key a x own₂ i wide-empty wide-left))
        (noting key t) (b.terms.head + length t) refl
        (enter-point g wide wide-file key a x own₂ i wide-empty wide-left
        ∙ ap some (written-value g wide x t (space-written g img r.file t s₁ l₁)
        (space-some g img r.file t s₁ l₁) key))
        (enter-free g wide wide-file key a x own₂ i wide-empty wide-left
        ∙ space₂.free
        ∙ omega (arith, more-is g img b r (length t)))
        (length-with_entry-new _ b.entries absent
        ∙ omega (
          arith,
          r.number,
          enter-points g wide wide-file key a x own₂ i wide-empty wide-left,
          space₂.points,
        ))
