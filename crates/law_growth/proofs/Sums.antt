-- The space of the old image's active messages is that of its book's texts.
-- Assumes nothing.
use mathlib.Core.Path.{◌≡◌, refl, sym, ap, ap₂, ◌∙◌, subst}
use Prim.Native.Nat.{ℕ, zero, suc, ◌+◌, ◌≤◌, ◌<◌}
use native.Mathlib.Omega.{arith}
use mathlib.Core.Bool.{Bool, true, false, cond, not, ◌&&◌}
use mathlib.Core.List.{List, [], ◌∷◌}
use mathlib.Core.Option.{Option, none, some}
use lib.ListN.{length}
use borrow.Author.Tests.{not-true}
use Rattle.spec_file.specs.Bytes.{Bytes}
use Rattle.spec_file.specs.Image.{Layout, layout_of, slot, key_of, offset_of, vacant}
use Rattle.spec_file.specs.Messages.{head_size, length_at, text_at, is_active, shown}
use Rattle.spec_file.specs.Questions.{name_allowed, message_sound}
use Rattle.spec_file.specs.Inspect.{taken}
use Rattle.spec_book.specs.Book.{Entry, Terms, Book, find, space_for, space_for_all}
use Rattle.spec_book.specs.Reopened.{entry_at, entries_from, book_of}
use Rattle.law_file.proofs.Tests.{by_bool, and-true}
use Rattle.law_file.proofs.Stretch.{Stored, sound-lies}
use Rattle.law_file.proofs.Effects.{active-some}
use Rattle.law_file.proofs.Table.{Taken}
use Rattle.law_file.proofs.Probe.{search-finds}
use Rattle.law_file.proofs.Insert.{entry-met}
use Rattle.law_agreement.proofs.File.{File, file-some}
use Rattle.law_agreement.proofs.Reflect.{Reflects}
use Rattle.law_agreement.proofs.Checked.{taken-allowed}
use Rattle.law_agreement.proofs.Reopened.{from-taken, from-vacant, file-reflects}
use Rattle.law_agreement.proofs.Trimmed.{space-same}
use Rattle.law_agreement.proofs.Compacting.{length-text, shown-active, shown-inactive}
use Rattle.spec_moves.specs.Moves.{active_at, active_from, active_space}

module _ (g : Layout) (img : Bytes) (f : File g img) where
  stored_at : (i : ℕ) → i < g.N → Taken g img i → Stored g img (offset_of g (slot g img i))
  stored_at i l v =
      let m = search-finds g img (key_of g (slot g img i)) (file-some f) i f.table l v refl in
      f.messages (key_of g (slot g img i)) (slot g img i) (taken-allowed g img f i l v)
      (entry-met g img (key_of g (slot g img i)) i m)

  active-slot : (i : ℕ) → i < g.N → taken g img i ≡ true
      → active_at g img i ≡ space_for (head_size g) (entry_at g img i).text
  unfolding active_at entry_at
  active-slot i l t =
      let o = offset_of g (slot g img i) in
      let v : Taken g img i = unfold taken in not-true (vacant g (slot g img i)) t in
      let st = stored_at i l v in
      by_bool (is_active img o)
      (λ a.
      let end = (sound-lies g img o st.sound (active-some img o a)).end in
      rw (t, a, st.sound)
      (sym (ap (space_for (head_size g)) (shown-active g img o a)
      ∙ some-space (text_at g img o)
      ∙ ap (λ (n : ℕ). head_size g + n) (length-text g img o (omega (arith, end, f.opened.free-high))))))
      (λ a. rw (t, a) (sym (ap (space_for (head_size g)) (shown-inactive g img o a) ∙ none-space)))
    where
      some-space : (x : Bytes) → space_for (head_size g) (some x) ≡ head_size g + length x
      some-space x = unfold space_for in refl

      none-space : space_for (head_size g) none ≡ 0
      none-space = unfold space_for in refl

  idle-slot : (i : ℕ) → taken g img i ≡ false → active_at g img i ≡ 0
  unfolding active_at
  idle-slot i t = rw t refl

  active-from : (n i : ℕ) → i + n ≤ g.N
      → active_from g img n i ≡ space_for_all (head_size g) (entries_from g img n i)
  unfolding active_from space_for_all
  active-from zero i l = unfold entries_from in refl
  active-from (suc n) i l =
      let ih : active_from g img n (suc i) ≡ space_for_all (head_size g) (entries_from g img n (suc i))
      = active-from n (suc i) (omega arith) in
      by_bool (taken g img i)
      (λ t.
      ap₂ ◌+◌ (active-slot i (omega arith) t) ih
      ∙ sym (ap (space_for_all (head_size g)) (from-taken g img n i t)))
      (λ t. omega (arith, idle-slot i t, ih, ap (space_for_all (head_size g)) (from-vacant g img n i t)))

module _ (img : Bytes) (c : Book) (r : Reflects (layout_of img) img c) where
  read_off : Reflects (layout_of img) img (book_of img)
  read_off = file-reflects img r.file

  same-book : (name : Bytes) → find name c.entries ≡ find name (book_of img).entries
  same-book name =
      by_bool (name_allowed (layout_of img).K name)
      (λ a. sym (r.points name a) ∙ read_off.points name a)
      (λ h. r.others name h ∙ sym (read_off.others name h))

  pub active-space : active_space img ≡ space_for_all (head_size (layout_of img)) c.entries
  unfolding active_space book_of
  active-space =
      active-from (layout_of img) img r.file (layout_of img).N 0 (omega arith)
      ∙ sym (space-same (head_size (layout_of img)) c.entries (book_of img).entries r.distinct read_off.distinct
      same-book)
