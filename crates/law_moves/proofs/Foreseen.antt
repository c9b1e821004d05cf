-- The point that was moved, on any image: where it stands in the new one, and what the call's own questions then say.
-- So the number of a call on a name still in the old image is known before a byte is written.
--     put-met           a search that ended at an empty slot meets the key once it is put there
--     Entered           what an entry leaves
--     Arrived           what a moved point has in the new image
--     own-foreseen      the call's own number, 9 to 13, on the new image after the named point's move
-- Assumes nothing.
use mathlib.Core.Path.{◌≡◌, refl, sym, ap, ap₂, ◌∙◌, subst}
use Prim.Native.Nat.{ℕ, ◌+◌, ◌^◌, ◌≤◌, ◌<◌}
use native.Mathlib.Omega.{arith}
use native.Mathlib.Nat.{add-zero}
use native.Mathlib.Numerals.{add-one}
use mathlib.Core.Logic.{inl, inr}
use mathlib.Core.Bool.{Bool, true, false, cond, not, ◌&&◌, ◌||◌}
use mathlib.Core.List.{List, [], ◌∷◌, ◌++◌}
use mathlib.Core.Option.{Option, none, some}
use lib.ListN.{length, take, drop}
use lib.Seq.{take_at, drop_at, take-length}
use lib.Dec.{leb, eqb}
use borrow.Author.Tests.{ne_eqb, eq-eqb, not-true}
use Rattle.spec_file.specs.Bytes.{Bytes, part, store, number, digits, all_zero}
use Rattle.spec_file.specs.Limits.{active, points_field, free_field, table_start, version_field, word, slots_field, major, minor, patch}
use Rattle.spec_file.specs.Image.{field, major_of, wide, Layout, layout_of, slot, put_slot, key_of, offset_of, slot_bytes, slot_size, slot_start, vacant, home}
use Rattle.spec_file.specs.Search.{Probe, met, empty, exhausted, search, dist}
use Rattle.spec_file.specs.Messages.{head_size, letter_at, length_at, text_at, message, shown, held, is_active, bytes_of, is_text, take_space, enter, inserted, fresh_text, renewed_text, added_at, noted, added}
use Rattle.spec_file.specs.Questions.{first_no, mode_known, message_sound}
use Rattle.law_file.proofs.Tests.{by_bool, by-eq, by_le, not-both, and_right}
use Rattle.law_file.proofs.Bytes.{part-part, length_digits, number-digits-fits}
use Rattle.law_file.proofs.Cyclic.{dist_same}
use Rattle.law_file.proofs.Opened.{Opened, opened-room}
use Rattle.law_file.proofs.Slots.{Room, slot-above, layout-most, slot-put_slot-same, slot-put_slot-other, part-put_slot-outside, field-put_slot, length-put_slot, length-entry, key_of-entry, offset_of-entry, part-set_field-other, field-set_field-other, field-set_field-same, slot-end}
use Rattle.law_file.proofs.Kept.{Kept, kept-layout, kept_trans, kept_store, kept-points, opened-known, version-fixed, version-known, version-elsewhere, opened-kept}
use Rattle.law_file.proofs.Effects.{Spaced, spaced, space-opened}
use Rattle.law_file.proofs.Stretch.{Lies, lies-sound, none-sound}
use Rattle.law_file.proofs.Table.{Taken, key_at}
use Rattle.law_file.proofs.Probe.{by-search, search-met, search-empty, search-exhausted, search-frame, home-lt}
use Rattle.law_file.proofs.Texts.{by_mode, replaced-none, replaced-some, appended-none, appended-some, withdrawn-none}
use Rattle.spec_growth.specs.Growth.{beside_asks}
use Rattle.law_moves.proofs.Beside.{room_number, room-none, beside-9, beside-renewed}

-- ---- a search that ended at an empty slot meets the key once it is put there

module _ (g : Layout) (img img' key : Bytes) (pos : 0 < g.N) (j : ℕ) (e : search g img key ≡ empty j)
    (nonzero : all_zero key ≡ false) (here : key_at g img' j ≡ key)
    (others : (k : ℕ) → k < g.N → (k ≡ j → ⊥) → slot g img' k ≡ slot g img k) where
  abbrev from : ℕ → ℕ
  from k = dist g.N (home g key) k

  taken-j : Taken g img' j
  unfolding vacant
  taken-j = ap all_zero here ∙ nonzero

  pub put-met : search g img' key ≡ met j
  put-met =
      let f = search-empty g img key pos j e in
      by-search g img' key pos
      (λ i m.
      let w = search-met g img' key pos i m in
      m ∙ ap met (by-eq i j (λ q. q) (λ n. absurd (
      by_le (from i) (from j)
      (λ le. by-eq (from i) (from j)
      (λ q. n (dist_same g.N (home g key) i j (home-lt g key pos) w.0 f.0 q))
      (λ q. (f.2 i w.0 (omega (arith, le, q))).1 (ap (key_of g) (sym (others i w.0 n)) ∙ w.1)))
      (λ lt. (w.2 j f.0 lt).1 here)))))
      (λ i m.
      let w = search-empty g img' key pos i m in
      absurd (by-eq i j
      (λ q. not-both (vacant g (slot g img' i)) w.1 (subst (λ (x : ℕ). Taken g img' x) (sym q) taken-j))
      (λ n. by_le (from i) (from j)
      (λ le. by-eq (from i) (from j)
      (λ q. n (dist_same g.N (home g key) i j (home-lt g key pos) w.0 f.0 q))
      (λ q. not-both (vacant g (slot g img' i)) w.1
      (ap (vacant g) (others i w.0 n) ∙ (f.2 i w.0 (omega (arith, le, q))).0)))
      (λ lt. (w.2 j f.0 lt).1 here))))
      (λ m. absurd ((search-exhausted g img' key pos m j f.0).1 here))

-- ---- what a point that enters leaves

-- the image's layout, and where the point stands
pub record Entered (h : Layout) (img img' key : Bytes) (j off : ℕ) : Type 0 where
  pub opened : Opened img'
  pub layout : layout_of img' ≡ h
  pub size : length img' ≡ length img
  pub meets : search h img' key ≡ met j
  pub offset : offset_of h (slot h img' j) ≡ off
  pub free : field img' free_field ≡ field img free_field
  pub points : field img' points_field ≡ field img points_field + 1
  pub area : (p m : ℕ) → h.D ≤ p → part img' p m ≡ part img p m

module _ (img : Bytes) (o : Opened img) (key : Bytes) (len : length key ≡ (layout_of img).K)
    (nonzero : all_zero key ≡ false) (j off : ℕ) (e : search (layout_of img) img key ≡ empty j) (small : off < word)
    (less : field img points_field < (layout_of img).N) where
  abbrev h : Layout
  h = layout_of img

  pos : 0 < h.N
  unfolding layout_of
  pos = omega (arith, o.slots-low)

  room : Room h (length img)
  room = opened-room img o

  above : table_start ≤ h.D
  above = omega (arith, room.table)

  jl : j < h.N
  jl = (search-empty h img key pos j e).0

  abbrev s : Bytes
  s = slot_bytes key off

  abbrev put : Bytes
  put = put_slot h img j s

  fits : length s ≡ slot_size h
  fits = length-entry h key off len

  long : length put ≡ length img
  long = length-put_slot h img room j s jl fits

  abbrev img' : Bytes
  img' = enter h img j key off

  behind : (p m : ℕ) → table_start ≤ p → part img' p m ≡ part put p m
  unfolding enter
  behind p m l =
      part-set_field-other put points_field _ p m (omega (arith, long, o.size_low)) (inr (omega arith))

  slots : (k : ℕ) → k < h.N → slot h img' k ≡ slot h put k
  unfolding slot
  slots k l = behind (slot_start h k) (slot_size h) (slot-above h k)

  entry-there : slot h img' j ≡ s
  entry-there = slots j jl ∙ slot-put_slot-same h img room j s jl fits

  kept : Kept img img'
  unfolding enter put_slot
  kept =
      kept_trans
      (kept_store img (slot_start h j) s (omega (arith, fits, slot-end h room j jl, room.area)) (slot-above h j))
      (kept-points put _ (omega (arith, long, o.size_low)))

  same-free : field img' free_field ≡ field img free_field
  unfolding enter
  same-free =
      field-set_field-other put points_field _ free_field (omega (arith, long, o.size_low)) (inr (omega arith))
      ∙ field-put_slot h img room j s free_field jl fits (omega arith)

  points-now : field img' points_field ≡ field img points_field + 1
  unfolding enter
  points-now =
      field-set_field-same put points_field _ (omega (arith, long, o.size_low)) (omega (arith, o.points, o.slots-high))

  slots-are : (layout_of img).N ≡ field img slots_field
  unfolding layout_of
  slots-are = refl

  pub entered : Entered h img img' key j off
  entered =
      record {
        opened =
            opened-kept kept o (omega (arith, points-now, less, slots-are)) (rw same-free o.free-low)
            (rw same-free o.free-high);
        layout = kept-layout kept.fixed o.last;
        size = kept.fixed.size;
        meets =
            put-met h img img' key pos j e nonzero (ap (key_of h) entry-there ∙ key_of-entry h key off len)
            (λ k l n. slots k l ∙ slot-put_slot-other h img room j s k jl fits n);
        offset = ap (offset_of h) entry-there ∙ offset_of-entry h key off len small;
        free = same-free;
        points = points-now;
        area =
            λ p m l.
            behind p m (omega (arith, above, l)) ∙ part-put_slot-outside h img room j s p m jl fits (inr l);
      }

-- ---- the version beside an empty message changes nothing of it

abbrev stamped : Bytes → Bytes
stamped img = store img version_field (major ∷ minor ∷ patch ∷ [])

module _ (h : Layout) (img img' key : Bytes) (j off : ℕ) (w : Entered h img img' key j off) (above : table_start ≤ h.D)
    (pos : 0 < h.N) where
  same-slot : (k : ℕ) → slot h (stamped img') k ≡ slot h img' k
  unfolding slot
  same-slot k = version-elsewhere img' w.opened _ _ (inr (omega (arith, slot-above h k)))

  same_number : (at : ℕ) → version_field + 3 ≤ at → field (stamped img') at ≡ field img' at
  unfolding field
  same_number at l = ap number (version-elsewhere img' w.opened at 4 (inr l))

  stamped-entered : wide (major_of img') ≡ false → Entered h img (stamped img') key j off
  stamped-entered n =
      let fixed = version-fixed img' w.opened n in
      record {
        opened =
            opened-known fixed w.opened (version-known img' w.opened)
            (rw (same_number points_field (omega arith)) w.opened.points)
            (rw (same_number free_field (omega arith)) w.opened.free-low)
            (rw (same_number free_field (omega arith)) w.opened.free-high);
        layout = kept-layout fixed w.opened.last ∙ w.layout;
        size = fixed.size ∙ w.size;
        meets = search-frame h img' _ key pos (λ k l. same-slot k) ∙ w.meets;
        offset = ap (offset_of h) (same-slot j) ∙ w.offset;
        free = same_number free_field (omega arith) ∙ w.free;
        points = same_number points_field (omega arith) ∙ w.points;
        area = λ p m l. version-elsewhere img' w.opened p m (inr (omega (arith, above, l))) ∙ w.area p m l;
      }

  noted-entered : (bytes : Bytes) (mode : ℕ) → Entered h img (noted bytes mode img') key j off
  unfolding noted
  noted-entered bytes mode =
      let narrow = not (wide (major_of img')) in
      let none₀ = eqb (length bytes) 0 && (eqb mode 1 || eqb mode 2) in
      by_bool (eqb (length bytes) 0 && (eqb mode 1 || eqb mode 2) && narrow)
      (λ y. rw y (stamped-entered (not-true (wide (major_of img')) (and_right none₀ narrow y))))
      (λ n. rw n w)

-- ---- a message that was written, read again

record Reads (g : Layout) (img : Bytes) (p : ℕ) (t : Bytes) : Type 0 where
  pub letter : letter_at img p ≡ active
  pub count : length_at g img p ≡ length t
  pub text : text_at g img p ≡ t

module _ (g : Layout) (img : Bytes) (p : ℕ) (t : Bytes) (small : length t < 256 ^ g.W)
    (there : part img p (head_size g + length t) ≡ message g.W t) where
  inside : (q m : ℕ) → q + m ≤ head_size g + length t → part img (p + q) m ≡ part (message g.W t) q m
  inside q m h = sym (part-part img p (head_size g + length t) q m h) ∙ ap (λ (l : Bytes). part l q m) there

  reads : Reads g img p t
  unfolding letter_at length_at text_at head_size part message number
  reads =
      let l : letter_at img p ≡ active =
      ap (λ (x : ℕ). number (part img x 1)) (sym (add-zero p)) ∙ ap number (inside 0 1 (omega arith)) in
      let d : List ℕ = digits g.W (length t) in
      let c : length_at g img p ≡ length t =
      ap number (inside 1 g.W (omega arith) ∙ take_at d t g.W (length_digits g.W (length t)))
      ∙ number-digits-fits g.W (length t) small in
      record {
        letter = l;
        count = c;
        text =
            ap (λ (x : ℕ). part img (p + (g.W + 1)) x) c
            ∙ inside (g.W + 1) (length t) (omega arith)
            ∙ ap (λ (x : ℕ). take (length t) (drop x ((active ∷ d) ++ t))) (add-one g.W)
            ∙ ap (take (length t)) (drop_at d t g.W (length_digits g.W (length t)))
            ∙ take-length t;
      }

-- ---- the point that was moved

-- the space that its message takes in the new image
unfoldable pub moved_space : Layout → Option Bytes → ℕ
moved_space h none = 0
moved_space h (some t) = head_size h + length t

-- what the new image has of it: an offset exactly when there is a text, which it shows and holds
pub record Arrived (h : Layout) (new new' key : Bytes) (j : ℕ) (t : Option Bytes) : Type 0 where
  pub opened : Opened new'
  pub layout : layout_of new' ≡ h
  pub size : length new' ≡ length new
  pub free : field new' free_field ≡ field new free_field + moved_space h t
  pub points : field new' points_field ≡ field new points_field + 1
  pub meets : search h new' key ≡ met j
  pub sound : message_sound h new' (offset_of h (slot h new' j)) ≡ true
  pub shows : shown h new' (offset_of h (slot h new' j)) ≡ t
  pub holds : held h new' (offset_of h (slot h new' j)) ≡ length (bytes_of t)
  pub has : not (eqb (offset_of h (slot h new' j)) 0) ≡ is_text t

module _ (new : Bytes) (o : Opened new) (key : Bytes) (len : length key ≡ (layout_of new).K)
    (nonzero : all_zero key ≡ false) (j : ℕ) (e : search (layout_of new) new key ≡ empty j)
    (less : field new points_field < (layout_of new).N) where
  abbrev H : Layout
  H = layout_of new

  pos' : 0 < H.N
  unfolding layout_of
  pos' = omega (arith, o.slots-low)

  above' : table_start ≤ H.D
  above' = omega (arith, (opened-room new o).table)

  after : (bytes : Bytes) (mode : ℕ)
      → added H new key bytes mode ≡ noted bytes mode (inserted H new j key (fresh_text bytes mode))
  unfolding added added_at
  after bytes mode = rw e refl

  -- without a text
  pub arrived-none : Arrived H new (added H new key [] 3) key j none
  unfolding bytes_of is_text moved_space
  arrived-none =
      let w = noted-entered H new _ key j 0 (entered new o key len nonzero j 0 e (omega arith) less) above' pos' [] 3 in
      let is : added H new key [] 3 ≡ noted [] 3 (enter H new j key 0) =
      after [] 3 ∙ (unfold inserted fresh_text in refl) in
      rw is
      (record {
        opened = w.opened;
        layout = w.layout;
        size = w.size;
        free = w.free ∙ sym (add-zero (field new free_field));
        points = w.points;
        meets = w.meets;
        sound = rw w.offset (none-sound H _);
        shows = rw w.offset (unfold shown is_active in refl);
        holds = rw w.offset (unfold held in refl);
        has = rw w.offset refl;
      })

  -- with a text
  module _ (x : Bytes) (short : length x ≤ H.most)
      (space : field new free_field + head_size H + length x ≤ length new) where
    abbrev roomy : Bytes
    roomy = take_space H new x

    abbrev at : ℕ
    at = field new free_field

    sp : Spaced H new x
    sp = spaced new o x space

    roomy-layout : layout_of roomy ≡ H
    roomy-layout = kept-layout sp.kept.fixed o.last

    ew : search (layout_of roomy) roomy key ≡ empty j
    ew = ap (λ (l : Layout). search l roomy key) roomy-layout ∙ search-frame H new roomy key pos' sp.slots ∙ e

    low : H.D ≤ at
    unfolding layout_of
    low = o.free-low

    some-place : at ≡ 0 → ⊥
    some-place q = omega (arith, low, above', q)

    w₁ : Entered H roomy (enter H roomy j key at) key j at
    w₁ =
        subst (λ (l : Layout). Entered l roomy (enter l roomy j key at) key j at) roomy-layout
        (entered roomy (space-opened new o x space) key (len ∙ ap (λ (l : Layout). l.K) (sym roomy-layout)) nonzero j
        at ew
        (omega (arith, o.free-high, o.size-high))
        (omega (arith, less, sp.points, ap (λ (l : Layout). l.N) roomy-layout)))

    abbrev out : Bytes
    out = noted x 1 (enter H roomy j key at)

    w₂ : Entered H roomy out key j at
    w₂ = noted-entered H roomy _ key j at w₁ above' pos' x 1

    r : Reads H out at x
    r = reads H out at x (omega (arith, short, layout-most new)) (w₂.area at _ low ∙ sp.there)

    lies : Lies H out at
    lies =
        record {
          low = low;
          letter = rw r.letter refl;
          end = rw (r.count, w₂.free, sp.free) (omega arith);
        }

    there : eqb at 0 ≡ false
    there = ne_eqb at 0 some-place

    shows-it : shown H out at ≡ some x
    unfolding shown is_active
    shows-it = rw (there, r.letter, r.text) refl

    holds-it : held H out at ≡ length x
    unfolding held
    holds-it = rw there r.count

    pub arrived-some : Arrived H new (added H new key x 1) key j (some x)
    unfolding bytes_of is_text moved_space
    arrived-some =
        let is : added H new key x 1 ≡ out = after x 1 ∙ (unfold inserted fresh_text in refl) in
        rw is
        (record {
          opened = w₂.opened;
          layout = w₂.layout;
          size = w₂.size ∙ sp.kept.fixed.size;
          free = w₂.free ∙ sp.free ∙ omega arith;
          points = w₂.points ∙ ap (λ (n : ℕ). n + 1) sp.points;
          meets = w₂.meets;
          sound = rw w₂.offset (lies-sound H _ _ lies);
          shows = rw w₂.offset shows-it;
          holds = rw w₂.offset holds-it;
          has = rw (w₂.offset, there) refl;
        })

-- ---- the call's own number, foreseen

abbrev pub foreseen : ℕ → Layout → ℕ → Option Bytes → Bytes → ℕ → ℕ
foreseen Q h L t bytes mode =
    cond (eqb mode 1) 9
    (cond (eqb mode 2)
    (cond (is_text t && leb (length bytes) (length (bytes_of t))) 0 (room_number Q h L (some bytes)))
    (cond (eqb mode 3) (cond (eqb (length bytes) 0) 0 (room_number Q h L (some (bytes_of t ++ bytes)))) 0))

module _ (P Q : ℕ) (h : Layout) (new new' key : Bytes) (j : ℕ) (t : Option Bytes) (w : Arrived h new new' key j t)
    (bytes : Bytes) where
  abbrev spot : ℕ
  spot = offset_of h (slot h new' j)

  abbrev own : ℕ → ℕ
  own mode = first_no (beside_asks P Q h new' (search h new' key) bytes mode)

  asked : (mode : ℕ) → own mode ≡ first_no (beside_asks P Q h new' (met j) bytes mode)
  asked mode = ap (λ (s : Probe). first_no (beside_asks P Q h new' s bytes mode)) w.meets

  renewed : (mode : ℕ) (y : Option Bytes) → eqb mode 1 ≡ false → renewed_text h new' spot bytes mode ≡ y
      → own mode ≡ room_number Q h (length new) y
  renewed mode y k q =
      asked mode
      ∙ beside-renewed P Q h new' bytes mode j k w.sound
      ∙ ap (room_number Q h (length new')) q
      ∙ ap (λ (n : ℕ). room_number Q h n y) w.size

  held? : (not (eqb spot 0) && leb (length bytes) (held h new' spot))
      ≡ (is_text t && leb (length bytes) (length (bytes_of t)))
  held? = ap₂ (λ (a : Bool) (n : ℕ). a && leb (length bytes) n) w.has w.holds

  two : own 2 ≡ foreseen Q h (length new) t bytes 2
  two =
      by_bool (is_text t && leb (length bytes) (length (bytes_of t)))
      (λ y. rw y
      (renewed 2 none refl (replaced-none h new' j spot key bytes (held? ∙ y)) ∙ room-none Q h (length new)))
      (λ n. rw n (renewed 2 (some bytes) refl (replaced-some h new' j spot key bytes (held? ∙ n))))

  three : own 3 ≡ foreseen Q h (length new) t bytes 3
  three =
      by-eq (length bytes) 0
      (λ z. rw (eq-eqb (length bytes) 0 z)
      (renewed 3 none refl (appended-none h new' j spot key bytes z) ∙ room-none Q h (length new)))
      (λ z. rw (ne_eqb (length bytes) 0 z)
      (renewed 3 _ refl (appended-some h new' j spot key bytes z)
      ∙ ap (λ (y : Option Bytes). room_number Q h (length new) (some (bytes_of y ++ bytes))) w.shows))

  pub own-foreseen : (mode : ℕ) → mode_known mode ≡ true → own mode ≡ foreseen Q h (length new) t bytes mode
  own-foreseen mode k =
      by_mode mode k
      (λ q. rw q (asked 1 ∙ beside-9 P Q h new' bytes 1 j refl))
      (λ q. rw q two)
      (λ q. rw q three)
      (λ q. rw q (renewed 4 none refl (withdrawn-none h new' j spot key bytes) ∙ room-none Q h (length new)))
