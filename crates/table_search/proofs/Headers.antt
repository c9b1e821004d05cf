-- What the shape of an opened image says of places: bounds on its numbers, and a slot's bytes as parts of the image.
--     Header img s        the bounds, by name; `header` gives them of an opened image
--     layout-key, layout-slots, slot-place, slot-room      the layout's numbers are the shape's
--     Placed, placed-opened, placed-room      the table lies in the image
--     Spot, spot          what a function that goes to slot i needs
--     key-part, offset-part, put-slot      the part that code cuts out is the slot's key, offset, bytes
--     offset-written      the offset's field written is the slot with another offset
-- Assumes nothing.
use mathlib.Core.Path.{◌≡◌, refl, sym, ap, ap₂, ◌∙◌, subst}
use Prim.Native.Nat.{ℕ, zero, suc, ◌+◌, ◌-◌, ◌*◌, ◌%◌, ◌≤◌, ◌<◌}
use native.Mathlib.Nat.{zero-add, suc-add, suc-mul, mul-le-mul_right}
use native.Mathlib.Omega.{arith}
use mathlib.Core.List.{[], ◌∷◌, ◌++◌, append-nil}
use lib.ListN.{length, take, drop}
use lib.Seq.{drop-drop, take_at, drop_at, drop-length}
use borrow.Rule.Slice.PartMut.{put_mid}
use Rattle.spec_file.specs.Bytes.{Bytes, part, store, number, digits}
use Rattle.spec_file.specs.Limits.{page_size, most_image, most_key, most_slots, most_character, scramble_start, table_start, slots_field, multiplier_field, start_field, first_field, last_field}
use Rattle.spec_file.specs.Image.{field, set_field, hash_from, hash, scramble, home, Layout, layout_of, slot_size, slot_start, slot, put_slot, key_of, offset_of, slot_bytes}
use Rattle.spec_file.specs.Questions.{open_number}
use Rattle.law_file.proofs.Bytes.{part_length, length_digits}
use Rattle.law_file.proofs.Stores.{store-part, store-append}
use Rattle.law_file.proofs.Slots.{Room, key_of-slot}
use Rattle.law_file.proofs.Opened.{opened-facts, opened-room}
use Rattle.law_file.proofs.Table.{key_at}
use Rattle.header_layout.specs.Shapes.{shape_of, Open}
use Rattle.header_layout.specs.declared.shape.Shape.{Shape}
use Rattle.table_search.specs.Slots.{Placed}

-- ---- the layout's numbers
module _ (img : Bytes) (s : Shape) (is : s ≡ shape_of img) where
  pub layout-key : (layout_of img).K ≡ s.keylen
  unfolding layout_of shape_of
  layout-key = ap (λ (t : Shape). t.keylen) (sym is)

  pub layout-slots : (layout_of img).N ≡ s.slots
  unfolding layout_of shape_of
  layout-slots = ap (λ (t : Shape). t.slots) (sym is)

  pub slot-place : (i : ℕ) → slot_start (layout_of img) i ≡ table_start + i * (s.keylen + 4)
  unfolding slot_start slot_size
  slot-place i = ap (λ (k : ℕ). table_start + i * (k + 4)) layout-key

  pub slot-room : slot_size (layout_of img) ≡ s.keylen + 4
  unfolding slot_size
  slot-room = ap (λ (k : ℕ). k + 4) layout-key

-- ---- bounds
pub record Header (img : Bytes) (s : Shape) : Type 0 where
  pub key-low : 1 ≤ s.keylen
  pub key-high : s.keylen ≤ most_key
  pub slots-low : 1 ≤ s.slots
  pub slots-high : s.slots ≤ most_slots
  pub first : s.first ≤ s.last
  pub last : s.last ≤ most_character
  pub area : s.area.0 ≤ length img
  pub size_low : page_size ≤ length img
  pub size-high : length img ≤ most_image

pub header : (img : Bytes) (s : Shape) → Open img s → Header img s
unfolding shape_of layout_of
header img s open₀ =
    let o = opened-facts img open₀.accepted in
    subst (Header img) (sym open₀.shape)
    (record {
      key-low = o.key-low;
      key-high = o.key-high;
      slots-low = o.slots-low;
      slots-high = o.slots-high;
      first = o.first;
      last = o.last;
      area = omega (arith, o);
      size_low = o.size_low;
      size-high = o.size-high;
    })

pub room : (img : Bytes) → open_number img ≡ 0 → Room (layout_of img) (length img)
room img h = opened-room img (opened-facts img h)

-- ---- where slots stand
pub placed-room : (img : Bytes) (s : Shape) → s ≡ shape_of img → s.keylen ≤ most_key → s.slots ≤ most_slots
    → Room (layout_of img) (length img) → Placed img s
unfolding slot_size
placed-room img s is hk hs r =
    record {
      shape = is;
      key-high = hk;
      slots-high = hs;
      table =
          subst (λ (n : ℕ). table_start + n ≤ length img)
          (ap₂ (λ (n k : ℕ). n * (k + 4)) (layout-slots img s is) (layout-key img s is))
          (omega (arith, r.table, r.area));
    }

pub placed-opened : (img : Bytes) (s : Shape) → Open img s → Placed img s
placed-opened img s o =
    let b = header img s o in
    placed-room img s o.shape b.key-high b.slots-high (room img o.accepted)

-- what a function that goes to slot i needs: bounds for its place, and that the slot ends in the image
pub record Spot (img : Bytes) (s : Shape) (i : ℕ) : Type 0 where
  pub slot-high : i < most_slots
  pub key-high : s.keylen ≤ most_key
  pub ends : table_start + i * (s.keylen + 4) + (s.keylen + 4) ≤ length img

pub spot-placed : (img : Bytes) (s : Shape) (i : ℕ) → Placed img s → i < s.slots → Spot img s i
spot-placed img s i p l =
    let le : suc i * (s.keylen + 4) ≤ s.slots * (s.keylen + 4) = mul-le-mul_right (s.keylen + 4) l in
    record {
      slot-high = omega (arith, p.slots-high);
      key-high = p.key-high;
      ends = omega (arith, p.table, suc-mul i (s.keylen + 4));
    }

pub spot : (img : Bytes) (s : Shape) (i : ℕ) → Open img s → i < s.slots → Spot img s i
spot img s i o l = spot-placed img s i (placed-opened img s o) l

-- ---- parts
drop-take : (k m : ℕ) (l : Bytes) → drop k (take (k + m) l) ≡ take m (drop k l)
drop-take zero m l = ap (λ (n : ℕ). take n l) (zero-add m)
drop-take (suc k) zero [] = rw (suc-add k 0)
drop-take (suc k) (suc m) [] = rw (suc-add k (suc m))
drop-take (suc k) m (x ∷ l) = rw (suc-add k m) (drop-take k m l)

module _ (img : Bytes) (s : Shape) (is : s ≡ shape_of img) (i a : ℕ) (at : a ≡ table_start + i * (s.keylen + 4)) where
  place : a ≡ slot_start (layout_of img) i
  place = at ∙ sym (slot-place img s is i)

  pub key-part : (e : ℕ) → e ≡ a + s.keylen → take (e - a) (drop a img) ≡ key_at (layout_of img) img i
  unfolding part
  key-part e h =
      let m : e - a ≡ (layout_of img).K = omega (arith, layout-key img s is) in
      ap₂ (λ (m p : ℕ). take m (drop p img)) m place ∙ sym (key_of-slot (layout_of img) img i)

  -- bytes put in the slot's place
  pub put-slot : (e : ℕ) (v : Bytes) → e ≡ a + (s.keylen + 4) → length v ≡ s.keylen + 4
      → put_mid a (e - a) img v ≡ put_slot (layout_of img) img i v
  unfolding put_slot store
  put-slot e v h l =
      let m : e - a ≡ length v = omega arith in
      ap₂ (λ (m p : ℕ). take p img ++ (v ++ drop m (drop p img))) m place

  pub offset-part : part img (a + s.keylen) 4 ≡ drop (layout_of img).K (slot (layout_of img) img i)
  unfolding slot slot_size part
  offset-part =
      ap₂ (λ (k p : ℕ). take 4 (drop (p + k) img)) (sym (layout-key img s is)) place
      ∙ ap (take 4) (sym (drop-drop (layout_of img).K (slot_start (layout_of img) i) img))
      ∙ sym (drop-take (layout_of img).K 4 (drop (slot_start (layout_of img) i) img))

  pub offset-is : field img (a + s.keylen) ≡ offset_of (layout_of img) (slot (layout_of img) img i)
  unfolding field offset_of
  offset-is = ap number offset-part

-- ---- the hash of a key
pub home-is : (img : Bytes) (s : Shape) → s ≡ shape_of img → (key : Bytes) (h : ℕ)
    → h ≡ hash_from s.multiplier s.first s.last
    (take (scramble_start + 4 * (s.last - s.first + 1) - scramble_start) (drop scramble_start img)) s.basis key
    → h % s.slots ≡ home (layout_of img) key
unfolding home layout_of hash scramble part shape_of
home-is img s is key h =
    subst (λ (t : Shape). h ≡ hash_from t.multiplier t.first t.last
    (take (scramble_start + 4 * (t.last - t.first + 1) - scramble_start) (drop scramble_start img)) t.basis key
    → h % t.slots ≡ home (layout_of img) key)
    (sym is) (λ e. ap (λ (n : ℕ). n % field img slots_field) (e ∙ whole))
  where
    count : ℕ
    count = 4 * (field img last_field - field img first_field + 1)

    whole : hash_from (field img multiplier_field) (field img first_field) (field img last_field)
        (take (scramble_start + count - scramble_start) (drop scramble_start img)) (field img start_field) key
        ≡ hash_from (field img multiplier_field) (field img first_field) (field img last_field)
        (take count (drop scramble_start img)) (field img start_field) key
    whole =
        let m : scramble_start + count - scramble_start ≡ count = omega arith in
        ap (λ (n : ℕ). hash_from (field img multiplier_field) (field img first_field) (field img last_field)
        (take n (drop scramble_start img)) (field img start_field) key) m

-- ---- an entry: the key, and the offset behind it
pub entry-written : (key rest : Bytes) (o : ℕ) → length rest ≡ 4
    → set_field (key ++ rest) (length key) o ≡ slot_bytes key o
unfolding set_field store slot_bytes
entry-written key rest o l =
    ap₂ (λ (a b : Bytes). a ++ (digits 4 o ++ drop (length (digits 4 o)) b))
    (take_at key rest (length key) refl) (drop_at key rest (length key) refl)
    ∙ ap (λ (b : Bytes). key ++ (digits 4 o ++ b)) nothing
    ∙ ap (λ (b : Bytes). key ++ b) (append-nil (digits 4 o))
  where
    nothing : drop (length (digits 4 o)) rest ≡ []
    nothing = ap (λ (n : ℕ). drop n rest) (length_digits 4 o ∙ sym l) ∙ drop-length rest

-- ---- the offset's field
pub offset-written : (g : Layout) (img : Bytes) (i o : ℕ) → slot_start g i + slot_size g ≤ length img
    → set_field img (slot_start g i + g.K) o ≡ put_slot g img i (slot_bytes (key_of g (slot g img i)) o)
unfolding set_field put_slot slot_bytes
offset-written g img i o h =
    let p = slot_start g i in
    let key = part img p g.K in
    let end : p + g.K + 4 ≤ length img = unfold slot_size in (omega (arith, h)) in
    let l : length key ≡ g.K = part_length img p g.K (omega (arith, end)) in
    ap₂ (λ (x : Bytes) (n : ℕ). store x n (digits 4 o)) (sym (store-part img p g.K (omega (arith, end))))
    (ap (λ (n : ℕ). p + n) (sym l))
    ∙ store-append img p key (digits 4 o) (omega (arith, l, end, four))
    ∙ ap (λ (k : Bytes). store img p (k ++ digits 4 o)) (sym (key_of-slot g img i))
  where
    four : length (digits 4 o) ≡ 4
    four = unfold digits in refl
