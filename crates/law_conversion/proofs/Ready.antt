-- Document 02, Job 11: the converter's target while messages are carried into it, in terms of images alone. The proof
-- goes by the book (crates/law_agreement/proofs/Carrying.antt); what is said here does not speak of it.
--     accepted-sound     the converter accepts sound images alone
--     Ready              the target with the messages that begin below p: opened, in the other layout, with every key
--                        in its slot, and with room for each message that still waits
--     ready              so it is at every place
--     lengths-told       each length is one that the target's headers can tell
--     widening-told      "20 on narrowing": on widening no length is above the bound, for an image is not so long
-- Assumes nothing.
use mathlib.Core.Path.{◌≡◌, refl, sym, ap, ◌∙◌}
use Prim.Native.Nat.{ℕ, zero, suc, ◌+◌, ◌-◌, ◌≤◌, ◌<◌}
use native.Mathlib.Omega.{arith}
use mathlib.Core.Bool.{true, false, ◌&&◌}
use mathlib.Core.List.{[], ◌∷◌}
use lib.ListN.{length}
use borrow.Author.Tests.{le-leb}
use Rattle.spec_file.specs.Bytes.{Bytes}
use Rattle.spec_file.specs.Limits.{free_field, most_wide}
use Rattle.spec_file.specs.Image.{field, major_of, wide, most_of, Layout, layout_of, slot, offset_of}
use Rattle.spec_file.specs.Messages.{head_size, length_at, is_active}
use Rattle.spec_file.specs.Questions.{ask, first_no, size_allowed, version_known, header_sound}
use Rattle.spec_file.specs.Inspect.{taken, Verdict, sound, slot_bad, count_bad, check}
use Rattle.spec_compaction.specs.Compact.{is_sound}
use Rattle.spec_conversion.specs.Convert.{other_major, recast, other_layout, bare_image, carried_from, told, told_from, lengths_told, target_holds, convert_number}
use Rattle.spec_book.specs.Book.{Book}
use Rattle.spec_book.specs.Reopened.{book_of}
use Rattle.law_file.proofs.Tests.{by_bool, and_left, and_right, and-true, not-both}
use Rattle.law_file.proofs.Bytes.{AreBytes}
use Rattle.law_file.proofs.Opened.{Opened, opened-facts, first_no-head, first_no-tail}
use Rattle.law_file.proofs.Verdict.{check-open}
use Rattle.law_file.proofs.Table.{key_at}
use Rattle.law_compaction.proofs.Packing.{start_at, Live, Stretches, sound-stretches}
use Rattle.law_agreement.proofs.File.{File}
use Rattle.law_agreement.proofs.Reflect.{Reflects}
use Rattle.law_agreement.proofs.Checked.{check-file}
use Rattle.law_agreement.proofs.Reopened.{file-reflects}
use Rattle.law_agreement.proofs.Carrying.{Carrying, text-length, carry-room, no-offset}
use Rattle.law_agreement.proofs.Converting.{asks, is-file, same-K, same-N, lengths, room, carrying}

-- ---- accepted

sound-verdict : (v : Verdict) → is_sound v ≡ true → v ≡ sound
unfolding is_sound
sound-verdict (Verdict.refused n) h = absurd (not-both false h refl)
sound-verdict sound h = refl
sound-verdict (slot_bad i) h = absurd (not-both false h refl)
sound-verdict count_bad h = absurd (not-both false h refl)

pub accepted-sound : (img : Bytes) (L : ℕ) → convert_number img L ≡ 0 → check img ≡ sound
unfolding convert_number
accepted-sound img L z =
    let a = first_no-tail 1 (size_allowed (length img)) _ (λ q. omega arith) z in
    let b = first_no-tail 1 (size_allowed L) _ (λ q. omega arith) a in
    let c = first_no-tail 5 (version_known img) _ (λ q. omega arith) b in
    let d = first_no-tail 6 (header_sound img) _ (λ q. omega arith) c in
    sound-verdict (check img) (first_no-head 15 (is_sound (check img)) _ (λ q. omega arith) d)

-- ---- 20

module _ (img : Bytes) (ok : check img ≡ sound) (narrow : wide (major_of img) ≡ false) where
  other-wide : wide (other_major (major_of img)) ≡ true
  unfolding other_major
  other-wide = rw narrow (unfold wide in refl)

  most-is : (other_layout img).most ≡ most_wide
  unfolding other_layout recast most_of
  most-is = rw other-wide refl

  live-told : (i : ℕ) → Live (layout_of img) img i
      → length_at (layout_of img) img (start_at (layout_of img) img i) ≤ (other_layout img).most
  live-told i v =
      let s = sound-stretches img ok in
      let o = opened-facts img (check-open img ok) in
      omega (arith, most-is, s.end i v, s.free-high, s.head, o.size-high)

  one_told : (i : ℕ) → i < (layout_of img).N → told (layout_of img) (other_layout img) img i ≡ true
  unfolding told
  one_told i low =
      by_bool (taken (layout_of img) img i && is_active img (start_at (layout_of img) img i))
      (λ y. rw (
        y,
        le-leb _ _
            (live-told i
            (record {
              low = low;
              is = and_left (taken (layout_of img) img i) _ y;
              active = and_right (taken (layout_of img) img i) _ y;
            })),
      ) refl)
      (λ n. rw n refl)

  all_told : (left i : ℕ) → i + left ≤ (layout_of img).N → told_from (layout_of img) (other_layout img) img left i ≡ true
  unfolding told_from
  all_told zero i l = refl
  all_told (suc left) i l =
      and-true (told (layout_of img) (other_layout img) img i) _ (one_told i (omega arith))
      (all_told left (suc i) (omega arith))

  pub widening-told : lengths_told img ≡ true
  unfolding lengths_told
  widening-told = all_told (layout_of img).N 0 (omega arith)

-- ---- the target so far

pub record Ready (img : Bytes) (L p : ℕ) (t : Bytes) : Type 0 where
  pub layout : layout_of t ≡ other_layout img
  pub opened : Opened t
  pub size : length t ≡ L
  -- "each point's slot"
  pub keys : (i : ℕ) → i < (layout_of img).N → key_at (other_layout img) t i ≡ key_at (layout_of img) img i
  -- a message that still waits: its slot has no offset yet, and there is room for it
  pub waits : (i : ℕ) → Live (layout_of img) img i → p ≤ start_at (layout_of img) img i
      → offset_of (other_layout img) (slot (other_layout img) t i) ≡ 0
  pub fits : (i : ℕ) → Live (layout_of img) img i → p ≤ start_at (layout_of img) img i
      → field t free_field + head_size (other_layout img) + length_at (layout_of img) img (start_at (layout_of img) img i)
      ≤ length t

module _ (img : Bytes) (bytes : AreBytes img) (L : ℕ) (ok : convert_number img L ≡ 0) where
  abbrev g : Layout
  g = layout_of img

  abbrev h : Layout
  h = other_layout img

  file : File g img
  file = check-file img bytes (accepted-sound img L ok)

  abbrev b : Book
  b = book_of img

  r : Reflects g img b
  r = file-reflects img file

  none-asked : first_no (asks img b r L) ≡ 0
  none-asked = sym (is-file img b r L) ∙ ok

  pub lengths-told : (i : ℕ) → Live g img i → length_at g img (start_at g img i) ≤ h.most
  lengths-told = lengths img b r L none-asked

  -- with the messages of so many places
  pub ready : (left : ℕ) → Ready img L (g.D + left) (carried_from g h img left g.D (bare_image img L))
  ready left =
      let w = carrying img b r L none-asked left in
      let t = carried_from g h img left g.D (bare_image img L) in
      let p = g.D + left in
      let K = same-K img b r L in
      let N = same-N img b r L in
      let told = lengths img b r L none-asked in
      let holds = room img b r L none-asked in
      record {
        layout = w.1.related.file.layout;
        opened = w.1.related.file.opened;
        size = w.1.size;
        keys = w.1.keys;
        waits = λ i v late. no-offset g h img b r K N told L holds p t w.0 w.1 i v late;
        fits = λ i v late.
            omega (
              arith,
              carry-room g h img b r K N told L holds p t w.0 w.1 i v late,
              text-length g h img b r K N told L holds i v,
            );
      }
