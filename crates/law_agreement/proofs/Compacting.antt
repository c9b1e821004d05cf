-- Compaction keeps the relation of file and book, and both answer 0.
--     value-compact      what a point is afterwards
--     space-file         the space of the book's texts is that of the file's active messages
--     same-compact       the call
-- Assumes nothing.
use mathlib.Core.Path.{◌≡◌, refl, sym, ap, ◌∙◌, subst}
use Prim.Native.Nat.{ℕ, zero, suc, ◌+◌, ◌≤◌, ◌<◌}
use native.Mathlib.Nat.{zero-add, add-zero}
use native.Mathlib.Omega.{arith}
use mathlib.Core.Bool.{Bool, true, false, not}
use mathlib.Core.List.{[]}
use mathlib.Core.Option.{Option, none, some}
use lib.ListN.{length}
use borrow.Author.Tests.{ne_eqb, not-true, not-false}
use Rattle.spec_file.specs.Bytes.{Bytes}
use Rattle.spec_file.specs.Image.{Layout, slot, offset_of, slot_bytes, vacant}
use Rattle.spec_file.specs.Messages.{head_size, length_at, text_at, is_active, shown, bytes_of, is_text, held}
use Rattle.spec_file.specs.Questions.{name_allowed}
use Rattle.spec_file.specs.Inspect.{taken}
use Rattle.spec_compaction.specs.Compact.{packed, packed_offset, compacted, compact}
use Rattle.spec_book.specs.Book.{Entry, Terms, Book, find, trimmed, space_for, space_for_all, compacted_book, book_compact}
use Rattle.spec_book.specs.Reopened.{entry_at, entries_from, book_of}
use Rattle.law_file.proofs.Tests.{by_bool}
use Rattle.law_file.proofs.Bytes.{part_length}
use Rattle.law_file.proofs.Total.{total}
use Rattle.law_file.proofs.Table.{entry_of, weigh, weight}
use Rattle.law_file.proofs.Insert.{weigh-vacant}
use Rattle.law_file.proofs.Stretch.{span, held-some}
use Rattle.law_file.proofs.Effects.{active-some}
use Rattle.law_compaction.proofs.Packing.{start_at, Live}
use Rattle.law_compaction.proofs.Packed.{active_span}
use Rattle.law_compaction.proofs.Compacted.{text_at-moved, length_at-moved}
use Rattle.law_agreement.proofs.File.{Allowed, File, point_of, point_of-some, point_of-none, value_of, by-entry}
use Rattle.law_agreement.proofs.Reflect.{Reflects}
use Rattle.law_agreement.proofs.Simple.{Same}
use Rattle.law_agreement.proofs.Compact.{file-stretches, file-compact, free-compact, points-compact, length-compact, weight-compact, entry-compact, entry-compact-none, offset-compact, by-moved, compact-after, compact-answer}
use Rattle.law_agreement.proofs.Reopened.{from-taken, from-vacant, file-reflects}
use Rattle.law_agreement.proofs.Trimmed.{trimmed_of, find-trimmed, distinct-trimmed, length-trimmed, space-same}

-- ---- a message's text

pub length-text : (g : Layout) (img : Bytes) (o : ℕ) → o + span g img o ≤ length img
    → length (text_at g img o) ≡ length_at g img o
unfolding text_at
length-text g img o h = part_length img (o + head_size g) (length_at g img o) (omega arith)

pub shown-active : (g : Layout) (img : Bytes) (o : ℕ) → is_active img o ≡ true → shown g img o ≡ some (text_at g img o)
unfolding shown
shown-active g img o a = rw a refl

pub shown-inactive : (g : Layout) (img : Bytes) (o : ℕ) → is_active img o ≡ false → shown g img o ≡ none
unfolding shown
shown-inactive g img o a = rw a refl

-- what an entry with a text is, and one without
abbrev trimmed_to : Bytes → Option Bytes → Entry
trimmed_to key t = record { name = key; text = t; held = length (bytes_of t); offset? = is_text t }

-- ---- a point afterwards

module _ (g : Layout) (img : Bytes) (f : File g img) where
  abbrev img' : Bytes
  img' = compacted g img

  value-compact : (key s : Bytes) → Allowed g key → entry_of g img key ≡ some s
      → value_of g img' key (packed_offset g img (offset_of g s)) ≡ trimmed (value_of g img key (offset_of g s))
  unfolding trimmed bytes_of is_text
  value-compact key s a e =
      let o = offset_of g s in
      let p = packed_offset g img (offset_of g s) in
      by-moved g img f key s a e
      (λ h h' in' m.
      let z : p ≡ 0 → ⊥ = active-some img' p h' in
      let t : shown g img' p ≡ shown g img o =
      shown-active g img' p h' ∙ ap some (text_at-moved g img o img' p m) ∙ sym (shown-active g img o h) in
      let n : held g img' p ≡ length (bytes_of (shown g img o)) =
      held-some g img' p z ∙ length_at-moved g img o img' p m ∙ sym (length-text g img o in')
      ∙ ap (λ (x : Option Bytes). length (bytes_of x)) (sym (shown-active g img o h)) in
      entry-is key t n (ap not (ne_eqb p 0 z) ∙ ap is_text (sym (shown-active g img o h))))
      (λ h z.
      ap (value_of g img' key) z ∙ gone key ∙ ap (trimmed_to key) (sym (shown-inactive g img o h)))
    where
      entry-is : (key : Bytes) {t t' : Option Bytes} {n n' : ℕ} {b b' : Bool} → t ≡ t' → n ≡ n' → b ≡ b'
          → ◌≡◌ {A = Entry} (record { name = key; text = t; held = n; offset? = b })
          (record { name = key; text = t'; held = n'; offset? = b' })
      entry-is key q r s = cc

      gone : (key : Bytes) → value_of g img' key 0 ≡ trimmed_to key none
      gone key = unfold shown held is_active bytes_of is_text in refl

  point-compact : (key : Bytes) → Allowed g key → point_of g img' key ≡ trimmed_of (point_of g img key)
  point-compact key a =
      by-entry (entry_of g img key)
      (λ e.
      point_of-none g img' key (entry-compact-none g img f key e) ∙ ap trimmed_of (sym (point_of-none g img key e)))
      (λ s e.
      point_of-some g img' key (slot_bytes key (packed_offset g img (offset_of g s))) (entry-compact g img f key s a e)
      ∙ ap (λ (o : ℕ). some (value_of g img' key o)) (offset-compact g img f key s a e)
      ∙ ap some (value-compact key s a e)
      ∙ ap trimmed_of (sym (point_of-some g img key s e)))

  -- ---- the space of the texts

  slot-space : (i : ℕ) → i < g.N → taken g img i ≡ true
      → space_for (head_size g) (entry_at g img i).text ≡ weigh g (active_span g img) (slot g img i)
  unfolding entry_at weigh active_span taken
  slot-space i l t =
      let o = start_at g img i in
      let v = not-true (vacant g (slot g img i)) t in
      by_bool (is_active img o)
      (λ a.
      let live : Live g img i = record { low = l; is = unfold taken in t; active = a } in
      let in' : o + span g img o ≤ length img =
      omega (arith, (file-stretches g img f).end i live, (file-stretches g img f).free-high) in
      ap (space_for (head_size g)) (shown-active g img o a) ∙ rw (v, a) (some-space o in'))
      (λ a. ap (space_for (head_size g)) (shown-inactive g img o a) ∙ rw (v, a) none-space)
    where
      some-space : (o : ℕ) → o + span g img o ≤ length img
          → space_for (head_size g) (some (text_at g img o)) ≡ span g img o
      some-space o h = unfold space_for in ap (λ (n : ℕ). head_size g + n) (length-text g img o h)

      none-space : space_for (head_size g) none ≡ 0
      none-space = unfold space_for in refl

  abbrev ws : ℕ → ℕ
  ws i = weigh g (active_span g img) (slot g img i)

  -- those of the slots from i on, and those below i
  space-from : (n i : ℕ) → i + n ≤ g.N
      → space_for_all (head_size g) (entries_from g img n i) + total ws i ≡ total ws (i + n)
  unfolding total space_for_all
  space-from zero i l =
      let none' : entries_from g img zero i ≡ [] = unfold entries_from in refl in
      omega (arith, ap (space_for_all (head_size g)) none', ap (total ws) (add-zero i))
  space-from (suc n) i l =
      let ih : space_for_all (head_size g) (entries_from g img n (suc i)) + (total ws i + ws i) ≡ total ws (suc i + n)
      = space-from n (suc i) (omega arith) in
      let at : suc i + n ≡ i + suc n = omega arith in
      by_bool (taken g img i)
      (λ t. omega (
        arith,
        ih,
        ap (total ws) at,
        ap (space_for_all (head_size g)) (from-taken g img n i t),
        slot-space i (omega arith) t,
      ))
      (λ t. omega (
        arith,
        ih,
        ap (total ws) at,
        ap (space_for_all (head_size g)) (from-vacant g img n i t),
        weigh-vacant g (active_span g img) (slot g img i) (vacant-of i t),
      ))
    where
      vacant-of : (i : ℕ) → taken g img i ≡ false → vacant g (slot g img i) ≡ true
      vacant-of i t = unfold taken in not-false (vacant g (slot g img i)) t

  space-file : space_for_all (head_size g) (entries_from g img g.N 0) ≡ weight g img (active_span g img)
  unfolding weight total
  space-file =
      let all : space_for_all (head_size g) (entries_from g img g.N 0) + 0 ≡ total ws (0 + g.N)
      = space-from g.N 0 (omega arith) in
      omega (arith, ap (total ws) (zero-add g.N))

-- the book's texts take the space of the file's active messages
module _ (g : Layout) (img : Bytes) (b : Book) (r : Reflects g img b) where
  read_off : Reflects g img (book_of img)
  read_off =
      subst (λ (l : Layout). Reflects l img (book_of img)) r.file.layout
      (file-reflects img (subst (λ (l : Layout). File l img) (sym r.file.layout) r.file))

  -- both say the same of every name
  same-book : (name : Bytes) → find name b.entries ≡ find name (book_of img).entries
  same-book name =
      by_bool (name_allowed g.K name)
      (λ a. sym (r.points name a) ∙ read_off.points name a)
      (λ h. r.others name h ∙ sym (read_off.others name h))

  entries-read : (book_of img).entries ≡ entries_from g img g.N 0
  unfolding book_of
  entries-read = ap (λ (l : Layout). entries_from l img l.N 0) r.file.layout

  space-book : space_for_all b.terms.head b.entries ≡ length (packed g img)
  space-book =
      ap (λ (t : Terms). space_for_all t.head b.entries) r.terms
      ∙ space-same (head_size g) b.entries (book_of img).entries r.distinct read_off.distinct same-book
      ∙ ap (space_for_all (head_size g)) entries-read
      ∙ space-file g img r.file
      ∙ sym (weight-compact g img r.file)

  -- ---- the relation, and the call

  pub reflects-compact : Reflects g (compacted g img) (compacted_book b)
  unfolding compacted_book
  reflects-compact =
      let f = r.file in
      record {
        file = file-compact g img f;
        terms = rw (length-compact g img f) r.terms;
        used = free-compact g img f ∙ ap (λ (n : ℕ). g.D + n) (sym space-book);
        number = length-trimmed b.entries ∙ r.number ∙ sym (points-compact g img f);
        points = λ name a.
            point-compact g img f name a ∙ ap trimmed_of (r.points name a) ∙ sym (find-trimmed name b.entries);
        others = λ name h. find-trimmed name b.entries ∙ ap trimmed_of (r.others name h);
        distinct = distinct-trimmed b.entries r.distinct;
      }

  pub same-compact : Same g (compact img) (book_compact b)
  unfolding book_compact
  same-compact =
      record {
        answer = compact-answer g img r.file;
        after =
            subst (λ (i : Bytes). Reflects g i (compacted_book b)) (sym (compact-after g img r.file))
            reflects-compact;
      }
