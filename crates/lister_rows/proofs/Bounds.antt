-- How long the text of an image of at most 65,536 bytes is.
--     listed-bound, printed-bound      at most 262,144 bytes
-- Each slot of K + 4 bytes gives a line of at most 13 + 2 K bytes: at most 4 bytes of text for each of its own.
-- Assumes nothing.
use mathlib.Core.Path.{◌≡◌, refl, ap}
use Prim.Native.Nat.{ℕ, zero, suc, ◌+◌, ◌*◌, ◌≤◌, ◌<◌}
use native.Mathlib.Nat.{suc-mul, mul-le-mul, mul-one}
use native.Mathlib.Omega.{arith}
use mathlib.Core.Bool.{Bool, true, cond}
use lib.ListN.{length, length-append}
use borrow.Author.Tests.{le-leb, lt-leb}
use Rattle.spec_file.specs.Bytes.{Bytes}
use Rattle.spec_file.specs.Image.{layout_of, slot_size, slot, key_of, offset_of}
use Rattle.spec_file.specs.Messages.{is_active, shown_length}
use Rattle.spec_file.specs.Questions.{size_allowed, version_known, header_sound, message_sound, open_number}
use Rattle.spec_file.specs.Inspect.{taken}
use Rattle.law_file.proofs.Tests.{by_bool, by-eq, by_le}
use Rattle.law_file.proofs.Slots.{length-slot, length-key_of}
use Rattle.law_file.proofs.Opened.{opened-facts, opened-room}
use Rattle.law_file.proofs.Effects.{message-end, active-some}
use Rattle.message_read.proofs.Sound.{length-shown-yes, length-shown-no}
use Rattle.header_questions.proofs.Headers.{open-0, open-1, open-5, open-6}
use Rattle.lister_rows.specs.Listed.{heading, length_text, line, row, lines, listed, most_listed, too_long, printed, most_printed}
use Rattle.lister_text.proofs.Numbers.{decimal-5, length-hexes}
use Rattle.lister_rows.proofs.Rows.{text-bad, text-sound, row-taken, row-vacant, line-length, refused-length, listed-closed, listed-open}

module _ (img : Bytes) (small : length img ≤ most_listed) (open₀ : open_number img ≡ 0) where
  shown-bound : (o : ℕ) → message_sound (layout_of img) img o ≡ true → shown_length (layout_of img) img o < 100000
  shown-bound o s =
      let f = opened-facts img open₀ in
      by_bool (is_active img o)
      (λ a.
      let end = message-end img f o s (active-some img o a) in
      omega (arith, length-shown-yes (layout_of img) img o a, end, f.free-high))
      (λ a. omega (arith, length-shown-no (layout_of img) img o a))

  text-bound : (o : ℕ) → length (length_text (layout_of img) img o) ≤ 5
  text-bound o =
      let g = layout_of img in
      by_bool (message_sound g img o)
      (λ s.
      let m = shown_length g img o in
      omega (arith, ap length (text-sound g img o o refl s m refl), decimal-5 m (shown-bound o s)))
      (λ s. omega (arith, ap length (text-bad g img o o refl s)))

  -- the table lies in the image, so that its slots are no more than its bytes
  few-slots : (layout_of img).N ≤ most_listed
  unfolding slot_size
  few-slots =
      let g = layout_of img in
      let r = opened-room img (opened-facts img open₀) in
      let one : g.N * 1 ≤ g.N * slot_size g = mul-le-mul (omega arith) (omega arith) in
      omega (arith, one, mul-one g.N, r.table, r.area, small)

  line-bound : (i : ℕ) → i < (layout_of img).N → length (line (layout_of img) img i) ≤ 4 * slot_size (layout_of img)
  unfolding slot_size
  line-bound i l =
      let f = opened-facts img open₀ in
      let n = few-slots in
      let g = layout_of img in
      let key = key_of g (slot g img i) in
      let k : length key ≡ g.K = length-key_of g (slot g img i) (length-slot g img (opened-room img f) i l) in
      let o = offset_of g (slot g img i) in
      omega (arith, line-length g img i, decimal-5 i (omega arith), length-hexes key, text-bound o)

  row-bound : (i : ℕ) → i < (layout_of img).N → length (row (layout_of img) img i) ≤ 4 * slot_size (layout_of img)
  row-bound i l =
      by_bool (taken (layout_of img) img i)
      (λ t. omega (arith, ap length (row-taken (layout_of img) img i t), line-bound i l))
      (λ t. omega (arith, ap length (row-vacant (layout_of img) img i t)))

  lines-bound : (left i : ℕ) → i + left ≤ (layout_of img).N
      → length (lines (layout_of img) img left i) ≤ 4 * (left * slot_size (layout_of img))
  unfolding lines
  lines-bound zero i h = omega arith
  lines-bound (suc left) i h =
      let ih : length (lines (layout_of img) img left (suc i)) ≤ 4 * (left * slot_size (layout_of img)) =
      lines-bound left (suc i) (omega arith) in
      omega (
        arith,
        length-append (row (layout_of img) img i) (lines (layout_of img) img left (suc i)),
        row-bound i (omega arith),
        suc-mul left (slot_size (layout_of img)),
      )

  open-bound : length (listed img) ≤ most_printed
  open-bound =
      let r = opened-room img (opened-facts img open₀) in
      omega (
        arith,
        ap length (listed-open img (layout_of img).N open₀ refl),
        length-append heading (lines (layout_of img) img (layout_of img).N 0),
        lines-bound (layout_of img).N 0 (omega arith),
        r.table,
        r.area,
      )

-- the number that refuses is 1, 5 or 6
number_bound : (img : Bytes) → open_number img < 100000
number_bound img =
    let small : (n : ℕ) → open_number img ≡ n → n < 100000 → open_number img < 100000 = λ n e l. omega arith in
    by_bool (size_allowed (length img))
    (λ a. by_bool (version_known img)
    (λ b. by_bool (header_sound img)
    (λ c. small 0 (open-0 img a b c) (omega arith))
    (λ c. small 6 (open-6 img a b c) (omega arith)))
    (λ b. small 5 (open-5 img a b) (omega arith)))
    (λ a. small 1 (open-1 img a) (omega arith))

pub listed-bound : (img : Bytes) → length img ≤ most_listed → length (listed img) ≤ most_printed
listed-bound img small =
    by-eq (open_number img) 0 (open-bound img small)
    (λ n.
    let r = open_number img in
    omega (arith, ap length (listed-closed img r refl n), refused-length r, decimal-5 r (number_bound img)))

-- ---- the lister's input
pub printed-listed : (bytes : Bytes) → length bytes ≤ most_listed → printed bytes ≡ listed bytes
unfolding printed
printed-listed bytes h = ap (λ (b : Bool). cond b (listed bytes) too_long) (le-leb (length bytes) most_listed h)

pub printed-long : (bytes : Bytes) → most_listed < length bytes → printed bytes ≡ too_long
unfolding printed
printed-long bytes h = ap (λ (b : Bool). cond b (listed bytes) too_long) (lt-leb (length bytes) most_listed h)

pub printed-bound : (bytes : Bytes) → length (printed bytes) ≤ most_printed
printed-bound bytes =
    by_le (length bytes) most_listed
    (λ h. omega (arith, ap length (printed-listed bytes h), listed-bound bytes h))
    (λ h. omega (arith, ap length (printed-long bytes h)))
