-- The image that create leaves: its header is accepted, its slots are empty, and the new book reflects it.
--     fresh-reflects      create's image and the new book
-- Assumes nothing.
use mathlib.Core.Path.{◌≡◌, refl, sym, ap, ap₂, ◌∙◌}
use Prim.Native.Nat.{ℕ, ◌+◌, ◌-◌, ◌*◌, ◌≤◌, ◌<◌}
use native.Mathlib.Omega.{arith}
use native.Mathlib.Nat.{add-zero}
use mathlib.Core.Bool.{true}
use mathlib.Core.List.{◌++◌}
use mathlib.Core.Option.{none, none-ne-some}
use lib.ListN.{length, take, drop, replicate, length-append, length-replicate, replicate-append-replicate}
use lib.Seq.{drop-append-add, take_at, drop_at}
use lib.Dec.{eqb}
use borrow.Author.Tests.{eqb-false}
use Rattle.spec_file.specs.Bytes.{Bytes, part, number, digits, zeros, same}
use Rattle.spec_file.specs.Limits.{major, key_field, slots_field, points_field, data_field, free_field, header_size, scramble_start, scramble_count}
use Rattle.spec_file.specs.Image.{field, data_start, major_of, wide, width_of, most_of, Layout, layout_of, slot_size, slot_start, slot, blank, vacant}
use Rattle.spec_file.specs.Create.{drawn_bytes, slots_asked, fresh_header, fresh_image}
use Rattle.spec_file.specs.Messages.{head_size}
use Rattle.spec_file.specs.Questions.{version_known}
use Rattle.spec_book.specs.Book.{new_book}
use Rattle.spec_book.specs.Reopened.{terms_of}
use Rattle.law_file.proofs.Fresh.{length-drawn_bytes}
use Rattle.law_file.proofs.Tests.{by_bool, by-eq, not-both}
use Rattle.law_file.proofs.Bytes.{number-digits-fits, length-zeros}
use Rattle.law_file.proofs.Slots.{Room, slot-end, slot-above, vacant-blank}
use Rattle.law_file.proofs.Opened.{Opened, opened-room}
use Rattle.law_file.proofs.Accepted.{Accepted}
use Rattle.law_file.proofs.Table.{Taken, entry_of, weight, weigh}
use Rattle.law_file.proofs.Insert.{entry_absent, weigh-vacant}
use Rattle.law_file.proofs.Total.{total-same, total-const}
use Rattle.law_agreement.proofs.File.{Allowed, allowed-zero, point_of-none, File}
use Rattle.law_agreement.proofs.Entries.{find_none}
use Rattle.law_agreement.proofs.Reflect.{Reflects}

pub slots_asked-some : (N : ℕ) → 1 ≤ slots_asked N
unfolding slots_asked
slots_asked-some N = by_bool (eqb N 0) (λ h. rw h (omega arith)) (λ h. rw h (pos N (eqb-false N 0 h)))
  where
    pos : (n : ℕ) → (n ≡ 0 → ⊥) → 1 ≤ n
    pos n z = by-eq n 0 (λ e. absurd (z e)) (λ e. omega arith)

-- ---- the image's bytes

-- a part of what stands behind a list, and of zeros
part-behind : (a c : Bytes) (p m n : ℕ) → length a ≡ n → n ≤ p → part (a ++ c) p m ≡ part c (p - n) m
unfolding part
part-behind a c p m n e h =
    ap (take m)
    (ap (λ (x : ℕ). drop x (a ++ c)) (split e h) ∙ drop-append-add a c (p - n))
  where
    split : length a ≡ n → n ≤ p → p ≡ length a + (p - n)
    split e h = omega arith

pub part-zeros : (n p m : ℕ) → p + m ≤ n → part (zeros n) p m ≡ zeros m
unfolding part zeros
part-zeros n p m h =
    ap (λ (x : ℕ). take m (drop p (replicate x 0))) (sum h)
    ∙ ap (λ (l : Bytes). take m (drop p l)) (sym (replicate-append-replicate p (m + (n - (p + m))) 0))
    ∙ ap (take m) (drop_at (replicate p 0) (replicate (m + (n - (p + m))) 0) p (length-replicate p 0))
    ∙ ap (take m) (sym (replicate-append-replicate m (n - (p + m)) 0))
    ∙ take_at (replicate m 0) (replicate (n - (p + m)) 0) m (length-replicate m 0)
  where
    sum : p + m ≤ n → n ≡ p + (m + (n - (p + m)))
    sum h = omega arith

module _ (L K N seed : ℕ) (ok : Accepted L K N) (pos : 1 ≤ N) where
  img : Bytes
  img = fresh_image L K N seed

  -- what create fills: the header, and behind a gap the scramble
  abbrev gap : ℕ
  gap = scramble_start - header_size

  abbrev filled : ℕ
  filled = scramble_start + 4 * scramble_count

  front : Bytes
  front = fresh_header K N ++ zeros gap ++ drawn_bytes seed 0 scramble_count

  img-front : img ≡ front ++ zeros (L - filled)
  unfolding img front fresh_image
  img-front = refl

  length_front : length front ≡ filled
  unfolding front fresh_header digits
  length_front =
      length-append (fresh_header K N ++ zeros gap) (drawn_bytes seed 0 scramble_count)
      ∙ ap₂ ◌+◌ (length-append (fresh_header K N) (zeros gap)) (length-drawn_bytes seed 0 scramble_count)
      ∙ ap (λ (n : ℕ). header_size + n + 4 * scramble_count) (length-zeros gap)

  fresh-length : length img ≡ L
  fresh-length =
      ap length img-front ∙ length-append front (zeros (L - filled)) ∙ ap₂ ◌+◌ length_front (length-zeros (L - filled))
      ∙ omega (arith, ok.size_low)

  fresh-zeros : (p m : ℕ) → filled ≤ p → p + m ≤ L → part img p m ≡ zeros m
  fresh-zeros p m lo hi =
      ap (λ (l : Bytes). part l p m) img-front
      ∙ part-behind front (zeros (L - filled)) p m filled length_front lo
      ∙ part-zeros (L - filled) (p - filled) m (omega arith)

  -- the header's fields
  fresh-K : field img key_field ≡ K
  unfolding field img fresh_image fresh_header part digits
  fresh-K = number-digits-fits 4 K (omega (arith, ok.key-high))

  fresh-N : field img slots_field ≡ N
  unfolding field img fresh_image fresh_header part digits
  fresh-N = number-digits-fits 4 N (omega (arith, ok.slots-high))

  fresh-C : field img points_field ≡ 0
  unfolding field img fresh_image fresh_header part digits number
  fresh-C = refl

  fresh-D : field img data_field ≡ data_start K N
  unfolding field img fresh_image fresh_header part digits
  fresh-D = number-digits-fits 4 (data_start K N) (omega (arith, ok.fits, ok.size-high))

  fresh-X : field img free_field ≡ data_start K N
  unfolding field img fresh_image fresh_header part digits
  fresh-X = number-digits-fits 4 (data_start K N) (omega (arith, ok.fits, ok.size-high))

  fresh-opened : Opened img
  unfolding field img fresh_image fresh_header part digits number version_known same
  fresh-opened =
      record {
        page = rw fresh-length ok.page;
        size_low = rw fresh-length ok.size_low;
        size-high = rw fresh-length ok.size-high;
        version = refl;
        key-low = rw fresh-K ok.key-low;
        key-high = rw fresh-K ok.key-high;
        slots-low = rw fresh-N pos;
        slots-high = rw fresh-N ok.slots-high;
        points = omega arith;
        first = omega arith;
        last = omega arith;
        scramble-at = refl;
        table_at = refl;
        data-at = rw (fresh-D, fresh-K, fresh-N) refl;
        free-low = rw fresh-D (omega arith);
        free-high = rw (fresh-X, fresh-length) ok.fits;
      }

  g : Layout
  g = layout_of img

  fresh-room : Room g (length img)
  unfolding g
  fresh-room = opened-room img fresh-opened

  -- every slot is blank
  fresh-slot : (i : ℕ) → i < g.N → slot g img i ≡ blank g
  unfolding slot blank
  fresh-slot i l =
      fresh-zeros (slot_start g i) (slot_size g) (omega (arith, slot-above g i))
      (omega (arith, slot-end g fresh-room i l, fresh-room.area, fresh-length))

  fresh-vacant : (i : ℕ) → i < g.N → vacant g (slot g img i) ≡ true
  fresh-vacant i l = ap (vacant g) (fresh-slot i l) ∙ vacant-blank g

  none-taken : (i : ℕ) → i < g.N → Taken g img i → ⊥
  none-taken i l t = not-both (vacant g (slot g img i)) (fresh-vacant i l) t

  fresh-some : 0 < g.N
  unfolding g layout_of
  fresh-some = rw fresh-N pos

  fresh-entry : (key : Bytes) → Allowed g key → entry_of g img key ≡ none
  fresh-entry key a = entry_absent g img key fresh-some (λ k l t e. none-taken k l t) (allowed-zero g key a)

  fresh-file : File g img
  unfolding g
  fresh-file =
      record {
        layout = refl;
        opened = fresh-opened;
        table =
            record {
              paths = λ i k li lk t h. absurd (none-taken i li t);
              distinct = λ i j li lj t u e. absurd (none-taken i li t);
            };
        counted = fresh-C ∙ sym nothing;
        messages = λ key s a e. absurd (none-ne-some s (sym (fresh-entry key a) ∙ e));
        apart = λ key key' s s' a a' n e e' z z'. absurd (none-ne-some s (sym (fresh-entry key a) ∙ e));
      }
    where
      nothing : weight g img (λ s. 1) ≡ 0
      nothing =
          unfold weight in
          (total-same (λ i. weigh g (λ s. 1) (slot g img i)) (λ i. 0) g.N
          (λ i l. weigh-vacant g (λ s. 1) (slot g img i) (fresh-vacant i l))
          ∙ omega (arith, total-const 0 g.N))

  fresh-major : major_of img ≡ major
  unfolding img major_of fresh_image fresh_header
  fresh-major = refl

  pub fresh-reflects : Reflects (layout_of (fresh_image L K N seed)) (fresh_image L K N seed) (new_book (terms_of L K N))
  unfolding g img new_book terms_of layout_of head_size width_of most_of wide
  fresh-reflects =
      record {
        file = fresh-file;
        terms = rw (fresh-K, fresh-N, fresh-D, fresh-length, fresh-major) refl;
        used = fresh-X ∙ sym fresh-D ∙ sym (add-zero (field img data_field));
        number = sym fresh-C;
        points = λ name a. point_of-none g img name (fresh-entry name a) ∙ sym (find_none name);
        others = λ name h. find_none name;
        distinct = tt;
      }
