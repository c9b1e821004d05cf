-- What an accepted header says: questions 1, 5 and 6 as facts on numbers, and back; the order of questions.
--     Opened img        the facts, by name
--     opened-facts, facts-opened        from `open_number img ≡ 0`, and to it
--     first_no-opened, first_no-refused    a call's number after questions 1, 5 and 6
-- Assumes nothing.
use mathlib.Core.Path.{◌≡◌, refl, sym, ◌∙◌, subst}
use Prim.Native.Nat.{ℕ, ◌+◌, ◌*◌, ◌%◌, ◌^◌, ◌≤◌, ◌<◌}
use native.Mathlib.Omega.{arith}
use mathlib.Core.Bool.{Bool, true, false, ◌&&◌}
use mathlib.Core.List.{List, [], ◌∷◌}
use lib.ListN.{length}
use lib.Dec.{leb, eqb}
use borrow.Author.Tests.{leb-true, le-leb, eqb-true, eq-eqb}
use Rattle.spec_file.specs.Bytes.{Bytes}
use Rattle.spec_file.specs.Limits.{page_size, most_image, most_key, most_slots, most_character, key_field, slots_field, points_field, first_field, last_field, scramble_field, table_field, data_field, free_field, scramble_start, table_start}
use Rattle.spec_file.specs.Image.{field, round_up, data_start, layout_of, slot_size}
use Rattle.spec_file.specs.Questions.{Question, ask, first_no, size_allowed, key_allowed, slots_allowed, version_known, header_sound, opened, open_number}
use Rattle.law_file.proofs.Tests.{by_bool, and_left, and_right, and-true}
use Rattle.law_file.proofs.Slots.{Room}

-- ---- the first no

pub first_no-none : first_no [] ≡ 0
unfolding first_no
first_no-none = refl

-- a question answered yes is passed over
pub first_no-yes : (n : ℕ) (b : Bool) (qs : List Question) → b ≡ true → first_no (ask n b ∷ qs) ≡ first_no qs
unfolding first_no ask
first_no-yes n b qs h = rw h

pub first_no-no : (n : ℕ) (b : Bool) (qs : List Question) → b ≡ false → first_no (ask n b ∷ qs) ≡ n
unfolding first_no ask
first_no-no n b qs h = rw h

-- where the first no is none, each was answered yes
pub first_no-head : (n : ℕ) (b : Bool) (qs : List Question) → (n ≡ 0 → ⊥) → first_no (ask n b ∷ qs) ≡ 0 → b ≡ true
first_no-head n b qs z h = by_bool b (λ y. y) (λ no'. absurd (z (sym (first_no-no n b qs no') ∙ h)))

pub first_no-tail : (n : ℕ) (b : Bool) (qs : List Question) → (n ≡ 0 → ⊥) → first_no (ask n b ∷ qs) ≡ 0 → first_no qs ≡ 0
first_no-tail n b qs z h = sym (first_no-yes n b qs (first_no-head n b qs z h)) ∙ h

-- ---- the data offset

-- D is the first multiple of a page at or above n
pub round_up-least : (n : ℕ) → n ≤ round_up n
unfolding round_up
round_up-least n = omega arith

-- ---- the facts

pub record Opened (img : Bytes) : Type 0 where
  pub page : length img % page_size ≡ 0
  pub size_low : page_size ≤ length img
  pub size-high : length img ≤ most_image
  pub version : version_known img ≡ true
  pub key-low : 1 ≤ field img key_field
  pub key-high : field img key_field ≤ most_key
  pub slots-low : 1 ≤ field img slots_field
  pub slots-high : field img slots_field ≤ most_slots
  pub points : field img points_field ≤ field img slots_field
  pub first : field img first_field ≤ field img last_field
  pub last : field img last_field ≤ most_character
  pub scramble-at : field img scramble_field ≡ scramble_start
  pub table_at : field img table_field ≡ table_start
  pub data-at : field img data_field ≡ data_start (field img key_field) (field img slots_field)
  pub free-low : field img data_field ≤ field img free_field
  pub free-high : field img free_field ≤ length img

pub opened-facts : (img : Bytes) → open_number img ≡ 0 → Opened img
unfolding open_number opened size_allowed header_sound key_allowed slots_allowed
opened-facts img h =
    let L = length img in
    let f_k = field img key_field in
    let f_n = field img slots_field in
    let f_c = field img points_field in
    let f_f = field img first_field in
    let f_e = field img last_field in
    let f_d = field img data_field in
    let f_x = field img free_field in
    let h5 = first_no-tail 1 _ _ (λ z. omega arith) h in
    let h6 = first_no-tail 5 _ _ (λ z. omega arith) h5 in
    let size = first_no-head 1 (eqb (L % page_size) 0 && leb page_size L && leb L most_image) _ (λ z. omega arith) h in
    let ver = first_no-head 5 (version_known img) _ (λ z. omega arith) h5 in
    let a = leb 1 f_k && leb f_k most_key in
    let b = leb 1 f_n && leb f_n most_slots in
    let c = leb f_c f_n in
    let d = leb f_f f_e && leb f_e most_character in
    let e = eqb (field img scramble_field) scramble_start && eqb (field img table_field) table_start in
    let f = eqb f_d (data_start f_k f_n) in
    let g = leb f_d f_x && leb f_x L in
    let all = first_no-head 6 (a && b && c && d && e && f && g) [] (λ z. omega arith) h6 in
    let to-f = and_left (a && b && c && d && e && f) g all in
    let to-e = and_left (a && b && c && d && e) f to-f in
    let to-d = and_left (a && b && c && d) e to-e in
    let to-c = and_left (a && b && c) d to-d in
    let to-b = and_left (a && b) c to-c in
    let is-a = and_left a b to-b in
    let is_b = and_right a b to-b in
    let is_c = and_right (a && b) c to-c in
    let is-d = and_right (a && b && c) d to-d in
    let is-e = and_right (a && b && c && d) e to-e in
    let is_f = and_right (a && b && c && d && e) f to-f in
    let is-g = and_right (a && b && c && d && e && f) g all in
    record {
      page = eqb-true (L % page_size) 0 (and_left _ _ (and_left _ _ size));
      size_low = leb-true page_size L (and_right (eqb (L % page_size) 0) _ (and_left _ _ size));
      size-high = leb-true L most_image (and_right (eqb (L % page_size) 0 && leb page_size L) _ size);
      version = ver;
      key-low = leb-true 1 f_k (and_left _ _ is-a);
      key-high = leb-true f_k most_key (and_right (leb 1 f_k) _ is-a);
      slots-low = leb-true 1 f_n (and_left _ _ is_b);
      slots-high = leb-true f_n most_slots (and_right (leb 1 f_n) _ is_b);
      points = leb-true f_c f_n is_c;
      first = leb-true f_f f_e (and_left _ _ is-d);
      last = leb-true f_e most_character (and_right (leb f_f f_e) _ is-d);
      scramble-at = eqb-true (field img scramble_field) scramble_start (and_left _ _ is-e);
      table_at =
          eqb-true (field img table_field) table_start (and_right (eqb (field img scramble_field) scramble_start) _ is-e);
      data-at = eqb-true f_d (data_start f_k f_n) is_f;
      free-low = leb-true f_d f_x (and_left _ _ is-g);
      free-high = leb-true f_x L (and_right (leb f_d f_x) _ is-g);
    }

-- and back: each fact is a question's yes
pub facts-opened : (img : Bytes) → Opened img → open_number img ≡ 0
unfolding open_number opened size_allowed header_sound key_allowed slots_allowed
facts-opened img o =
    let L = length img in
    let f_k = field img key_field in
    let f_n = field img slots_field in
    let f_e = field img last_field in
    let f_x = field img free_field in
    first_no-yes 1 _ _
    (and-true (eqb (L % page_size) 0 && leb page_size L) _
    (and-true (eqb (L % page_size) 0) _ (eq-eqb _ _ o.page) (le-leb _ _ o.size_low)) (le-leb _ _ o.size-high))
    ∙ first_no-yes 5 _ _ o.version
    ∙ first_no-yes 6 _ _
    (and-true _ (leb (field img data_field) f_x && leb f_x L)
    (and-true _ (eqb (field img data_field) (data_start f_k f_n))
    (and-true _ (eqb (field img scramble_field) scramble_start && eqb (field img table_field) table_start)
    (and-true _ (leb (field img first_field) f_e && leb f_e most_character)
    (and-true _ (leb (field img points_field) f_n)
    (and-true (leb 1 f_k && leb f_k most_key) (leb 1 f_n && leb f_n most_slots)
    (and-true (leb 1 f_k) _ (le-leb _ _ o.key-low) (le-leb _ _ o.key-high))
    (and-true (leb 1 f_n) _ (le-leb _ _ o.slots-low) (le-leb _ _ o.slots-high)))
    (le-leb _ _ o.points))
    (and-true (leb (field img first_field) f_e) _ (le-leb _ _ o.first) (le-leb _ _ o.last)))
    (and-true (eqb (field img scramble_field) scramble_start) _ (eq-eqb _ _ o.scramble-at) (eq-eqb _ _ o.table_at)))
    (eq-eqb _ _ o.data-at))
    (and-true (leb (field img data_field) f_x) _ (le-leb _ _ o.free-low) (le-leb _ _ o.free-high)))
    ∙ first_no-none

-- ---- what follows

-- the table lies below the data area, and both in the image
pub opened-room : (img : Bytes) → Opened img → Room (layout_of img) (length img)
unfolding layout_of data_start slot_size
opened-room img o =
    record {
      table =
          subst (λ (d : ℕ). table_start + field img slots_field * (field img key_field + 4) ≤ d) (sym o.data-at)
          (round_up-least (table_start + field img slots_field * (field img key_field + 4)));
      area = omega (arith, o.free-low, o.free-high);
    }

-- "Of the fields named here, one with its top bit set fails": none that passes is 2^31 or more
pub record SmallFields (img : Bytes) : Type 0 where
  pub key : field img key_field < 2 ^ 31
  pub slots : field img slots_field < 2 ^ 31
  pub points : field img points_field < 2 ^ 31
  pub first : field img first_field < 2 ^ 31
  pub last : field img last_field < 2 ^ 31
  pub scramble-at : field img scramble_field < 2 ^ 31
  pub table_at : field img table_field < 2 ^ 31
  pub data-at : field img data_field < 2 ^ 31
  pub free : field img free_field < 2 ^ 31

pub top_bit : (img : Bytes) → open_number img ≡ 0 → SmallFields img
top_bit img h =
    let o = opened-facts img h in
    record {
      key = omega (arith, o);
      slots = omega (arith, o);
      points = omega (arith, o);
      first = omega (arith, o);
      last = omega (arith, o);
      scramble-at = omega (arith, o);
      table_at = omega (arith, o);
      data-at = omega (arith, o);
      free = omega (arith, o);
    }

-- ---- a call's number: the opening's where that refuses, else that of the questions after it
pub first_no-opened : (img : Bytes) (more : List Question) → open_number img ≡ 0
    → first_no (opened img more) ≡ first_no more
unfolding open_number opened
first_no-opened img more h =
    let h5 = first_no-tail 1 (size_allowed (length img)) _ (λ z. omega arith) h in
    let h6 = first_no-tail 5 (version_known img) _ (λ z. omega arith) h5 in
    first_no-yes 1 (size_allowed (length img)) _ (first_no-head 1 _ _ (λ z. omega arith) h)
    ∙ first_no-yes 5 (version_known img) _ (first_no-head 5 _ _ (λ z. omega arith) h5)
    ∙ first_no-yes 6 (header_sound img) more (first_no-head 6 _ [] (λ z. omega arith) h6)

pub first_no-refused : (img : Bytes) (more : List Question) → (open_number img ≡ 0 → ⊥)
    → first_no (opened img more) ≡ open_number img
unfolding open_number opened
first_no-refused img more h =
    by_bool (size_allowed (length img))
    (λ a. first_no-yes 1 _ _ a ∙ by_bool (version_known img)
    (λ b. first_no-yes 5 _ _ b ∙ by_bool (header_sound img)
    (λ c. absurd (h (first_no-yes 1 _ _ a ∙ first_no-yes 5 _ _ b ∙ first_no-yes 6 _ [] c ∙ first_no-none)))
    (λ c. first_no-no 6 _ more c ∙ sym (first_no-yes 1 _ _ a ∙ first_no-yes 5 _ _ b ∙ first_no-no 6 _ [] c)))
    (λ b. first_no-no 5 _ _ b ∙ sym (first_no-yes 1 _ _ a ∙ first_no-no 5 _ _ b)))
    (λ a. first_no-no 1 _ _ a ∙ sym (first_no-no 1 _ _ a))
