-- An accepted add or delete leaves an image that is opened again and has the layout that it had, on any image whose
-- header is accepted: so the next call may follow, and a loop goes on.
--     Again img img'       img' keeps what no call changes, and its header is accepted
--     again-layout         then the layout is the same
--     deleted-again, added-again      of delete's slot and of an accepted add
-- Assumes nothing.
use mathlib.Core.Path.{◌≡◌, refl, sym, ap, ap₂, ◌∙◌}
use Prim.Native.Nat.{ℕ, ◌+◌, ◌-◌, ◌≤◌, ◌<◌}
use native.Mathlib.Omega.{arith}
use mathlib.Core.Logic.{inl, inr}
use mathlib.Core.Bool.{Bool, true, false, not, ◌&&◌, ◌||◌}
use mathlib.Core.List.{[], ◌∷◌, ◌++◌}
use mathlib.Core.Option.{Option, none, some}
use lib.ListN.{length, length-append}
use lib.Dec.{eqb, leb, ltb}
use borrow.Author.Tests.{leb-true, ltb-true, ne_eqb, not-true}
use Rattle.spec_file.specs.Bytes.{Bytes, store, number, zeros}
use Rattle.spec_file.specs.Limits.{major, minor, patch, version_field, slots_field, points_field, free_field, data_field, table_start}
use Rattle.spec_file.specs.Image.{field, set_field, major_of, wide, Layout, layout_of, slot_size, slot_start, slot, put_slot, offset_of, slot_bytes}
use Rattle.spec_file.specs.Search.{met, empty, exhausted, search, is_met}
use Rattle.spec_file.specs.Messages.{head_size, held, message, take_space, retire, overwrite, fresh_text, renewed_text, enter, inserted, relocated, renewed, renewed_at, added_at, noted, added}
use Rattle.spec_file.specs.Delete.{closed, deleted_at}
use Rattle.spec_file.specs.Questions.{name_allowed, mode_known, message_sound, length_allowed, space_left, open_number, add_number, place_number}
use Rattle.law_file.proofs.Tests.{by_bool, by-eq, and_right}
use Rattle.law_file.proofs.Bytes.{length-zeros}
use Rattle.law_file.proofs.Slots.{Room, slot-end, slot-above, length-entry, field-store-other, field-put_slot}
use Rattle.law_file.proofs.Opened.{Opened, opened-facts, opened-room, first_no-head, first_no-tail}
use Rattle.law_file.proofs.Kept.{Fixed, Kept, kept_refl, kept_store, kept-layout, kept-slots, fixed-trans, opened-kept, opened-known, version-fixed, version-known, version-elsewhere}
use Rattle.law_file.proofs.Probe.{by-search, search-met, search-empty}
use Rattle.law_file.proofs.Frames.{kept-closed, field-closed}
use Rattle.law_file.proofs.Effects.{area-above, message-low, message-end, retire-kept, retire-opened, retire-field, points_kept, points-opened, length-message, spaced, space-opened}
use Rattle.law_file.proofs.Outcomes.{add-closed, add-7, add-8, add-9, add-10-exhausted, add-10-full, add-11, add-14, add-renewed, add-fresh}
use Rattle.law_file.proofs.Texts.{replaced-held}
use Rattle.law_file.proofs.Stretch.{span, held-some}
use Rattle.law_frames.proofs.Added.{name-length}

pub record Again (img img' : Bytes) : Type 0 where
  pub fixed : Fixed img img'
  pub opened : Opened img'

pub again-layout : (img img' : Bytes) → Opened img → Again img img' → layout_of img' ≡ layout_of img
again-layout img img' o a = kept-layout a.fixed o.last

pub again-refl : (img : Bytes) → Opened img → Again img img
again-refl img o = record { fixed = (kept_refl img).fixed; opened = o }

pub again-trans : {a b c : Bytes} → Again a b → Again b c → Again a c
again-trans p q = record { fixed = fixed-trans p.fixed q.fixed; opened = q.opened }

again_kept : (img img' : Bytes) → Kept img img' → Opened img' → Again img img'
again_kept img img' k o = record { fixed = k.fixed; opened = o }

-- ---- single writes

-- a write to the data area
area-again : (img : Bytes) → Opened img → (p : ℕ) (v : Bytes) → field img data_field ≤ p → p + length v ≤ length img
    → Again img (store img p v)
area-again img o p v lo hi =
    let above : table_start ≤ p = omega (arith, area-above img o) in
    let k : Kept img (store img p v) = kept_store img p v hi above in
    let same' : (f : ℕ) → f + 4 ≤ table_start → field (store img p v) f ≡ field img f
    = λ f l. field-store-other img p v f hi (inl (omega arith)) in
    again_kept img (store img p v) k
    (opened-kept k o
    (rw (same' points_field (omega arith)) o.points)
    (rw (same' free_field (omega arith)) o.free-low)
    (rw (same' free_field (omega arith)) o.free-high))

pub retire-again : (img : Bytes) (o : Opened img) (at : ℕ) → message_sound (layout_of img) img at ≡ true
    → Again img (retire img at)
retire-again img o at s = again_kept img (retire img at) (retire-kept img o at s) (retire-opened img o at s)

-- the version beside an empty message
noted-again : (img : Bytes) → Opened img → (bytes : Bytes) (mode : ℕ) → Again img (noted bytes mode img)
unfolding noted
noted-again img o bytes mode =
    by_bool (eqb (length bytes) 0 && (eqb mode 1 || eqb mode 2) && not (wide (major_of img)))
    (λ y. rw y (again (and_right (eqb (length bytes) 0 && (eqb mode 1 || eqb mode 2)) _ y)))
    (λ n. rw n (again-refl img o))
  where
    same' : (f : ℕ) → 8 ≤ f → field (store img version_field (major ∷ minor ∷ patch ∷ [])) f ≡ field img f
    same' f l = unfold field in ap number (version-elsewhere img o f 4 (inr (omega arith)))

    again : not (wide (major_of img)) ≡ true → Again img (store img version_field (major ∷ minor ∷ patch ∷ []))
    again w =
        let k = version-fixed img o (not-true (wide (major_of img)) w) in
        record {
          fixed = k;
          opened =
              opened-known k o (version-known img o)
              (rw (same' points_field (omega arith)) o.points)
              (rw (same' free_field (omega arith)) o.free-low)
              (rw (same' free_field (omega arith)) o.free-high);
        }

-- of an image that is the first one again, by the first one's layout
module _ (img : Bytes) (o : Opened img) (b : Bytes) (a : Again img b) where
  abbrev G : Layout
  G = layout_of img

  same_layout : layout_of b ≡ G
  same_layout = again-layout img b o a

  room : Room G (length b)
  room = rw a.fixed.size (opened-room img o)

  slots-are : G.N ≡ field b slots_field
  unfolding layout_of
  slots-are = sym (kept-slots a.fixed)

  slot-again : (i : ℕ) (s : Bytes) → i < G.N → length s ≡ slot_size G → Again img (put_slot G b i s)
  unfolding put_slot
  slot-again i s l e =
      let k : Kept b (store b (slot_start G i) s) =
      kept_store b (slot_start G i) s (omega (arith, slot-end G room i l, room.area, e)) (slot-above G i) in
      let same' : (f : ℕ) → f + 4 ≤ table_start → field (store b (slot_start G i) s) f ≡ field b f
      = λ f h. field-put_slot G b room i s f l e h in
      again-trans a
      (again_kept b (store b (slot_start G i) s) k
      (opened-kept k a.opened
      (rw (same' points_field (omega arith)) a.opened.points)
      (rw (same' free_field (omega arith)) a.opened.free-low)
      (rw (same' free_field (omega arith)) a.opened.free-high)))

  pub points-again : (n : ℕ) → n ≤ G.N → Again img (set_field b points_field n)
  points-again n l =
      let few : n ≤ field b slots_field = omega (arith, slots-are) in
      again-trans a
      (again_kept b (set_field b points_field n) (points_kept b a.opened n few) (points-opened b a.opened n few))

  space-again : (t : Bytes) → field b free_field + head_size G + length t ≤ length b → Again img (take_space G b t)
  space-again t fits =
      let fits' : field b free_field + head_size (layout_of b) + length t ≤ length b = rw same_layout fits in
      let w : Again b (take_space (layout_of b) b t) =
      again_kept b (take_space (layout_of b) b t) (spaced b a.opened t fits').kept
      (space-opened b a.opened t fits') in
      again-trans a (rw same_layout at w)

  space-points : (t : Bytes) → field b free_field + head_size G + length t ≤ length b
      → field (take_space G b t) points_field ≡ field b points_field
  space-points t fits =
      let fits' : field b free_field + head_size (layout_of b) + length t ≤ length b = rw same_layout fits in
      rw same_layout at (spaced b a.opened t fits').points

  closed-again : (i : ℕ) → i < G.N → Again img (closed G b i)
  closed-again i l =
      let k : Kept b (closed G b i) = kept-closed G b room i l in
      let same' : (f : ℕ) → f + 4 ≤ table_start → field (closed G b i) f ≡ field b f = field-closed G b room i l in
      again-trans a
      (again_kept b (closed G b i) k
      (opened-kept k a.opened
      (rw (same' points_field (omega arith)) a.opened.points)
      (rw (same' free_field (omega arith)) a.opened.free-low)
      (rw (same' free_field (omega arith)) a.opened.free-high)))

-- ---- delete
pub deleted-again : (img : Bytes) → Opened img → (i : ℕ) → i < (layout_of img).N
    → message_sound (layout_of img) img (offset_of (layout_of img) (slot (layout_of img) img i)) ≡ true
    → Again img (deleted_at (layout_of img) img i)
unfolding deleted_at
deleted-again img o i l s =
    let at : ℕ = offset_of (layout_of img) (slot (layout_of img) img i) in
    let n : ℕ = field img points_field - 1 in
    let few : n ≤ (layout_of img).N = unfold layout_of in omega (arith, o.points) in
    closed-again img o (set_field (retire img at) points_field n)
    (points-again img o (retire img at) (retire-again img o at s) n few) i l

-- ---- add
module _ (img : Bytes) (o : Opened img) (i : ℕ) (l : i < (layout_of img).N) (key : Bytes)
    (named : length key ≡ (layout_of img).K) where
  abbrev g : Layout
  g = layout_of img

  -- 13 is answered yes
  fits : (t : Bytes) → place_number g img (some t) ≡ 0 → field img free_field + head_size g + length t ≤ length img
  unfolding space_left
  fits t h =
      leb-true _ _
      (first_no-head 13 (leb (field img free_field + head_size g + length t) (length img)) [] (λ z. omega arith)
      (first_no-tail 12 (length_allowed g (some t)) _ (λ z. omega arith) h))

  enter-again : (b : Bytes) → Again img b → field b points_field < g.N → (x : ℕ) → Again img (enter g b i key x)
  unfolding enter
  enter-again b a less x =
      points-again img o (put_slot g b i (slot_bytes key x))
      (slot-again img o b a i (slot_bytes key x) l (length-entry g key x named)) (field b points_field + 1) (omega arith)

  insert-again : field img points_field < g.N → (t : Option Bytes) → place_number g img t ≡ 0
      → Again img (inserted g img i key t)
  unfolding inserted
  insert-again less none h = enter-again img (again-refl img o) less 0
  insert-again less (some t) h =
      let one = again-refl img o in
      enter-again (take_space g img t) (space-again img o img one t (fits t h))
      (rw (space-points img o img one t (fits t h)) less) (field img free_field)

  module _ (at : ℕ) (s : message_sound g img at ≡ true) where
    relocate-again : (t : Bytes) → place_number g img (some t) ≡ 0 → Again img (relocated g img i at key t)
    unfolding relocated
    relocate-again t h =
        let off : Bytes = retire img at in
        let a : Again img off = retire-again img o at s in
        let room' : field off free_field + head_size g + length t ≤ length off =
        rw (retire-field img o at s free_field (omega arith), a.fixed.size) (fits t h) in
        slot-again img o (take_space g off t) (space-again img o off a t room') i
        (slot_bytes key (field img free_field)) l (length-entry g key (field img free_field) named)

    overwrite-again : (at ≡ 0 → ⊥) → (t : Bytes) → length t ≤ held g img at → Again img (overwrite g img at t)
    unfolding overwrite
    overwrite-again z t le =
        let len : length (message g.W t ++ zeros (held g img at - length t)) ≡ span g img at =
        length-append (message g.W t) (zeros (held g img at - length t))
        ∙ ap₂ ◌+◌ (length-message g t) (length-zeros (held g img at - length t))
        ∙ omega (arith, held-some g img at z, le) in
        area-again img o at _ (message-low img o at s z)
        (rw len (omega (arith, message-end img o at s z, o.free-high)))

    renew-again : (bytes : Bytes) (mode : ℕ) (t : Option Bytes) → renewed_text g img at bytes mode ≡ t
        → place_number g img t ≡ 0 → Again img (renewed g img i at key bytes mode t)
    unfolding renewed
    renew-again bytes mode (some t) q h = relocate-again t h
    renew-again bytes mode none q h =
        by-eq mode 2
        (λ two.
        let there = replaced-held g img i at key bytes (rw two at q) in
        rw two (overwrite-again there.0 bytes there.1))
        (λ other. rw (ne_eqb mode 2 other)
        (by_bool (eqb mode 4) (λ y. rw y (retire-again img o at s)) (λ no'. rw no' (again-refl img o))))

module _ (img key bytes : Bytes) (mode : ℕ) (opens : open_number img ≡ 0) (z : add_number img key bytes mode ≡ 0) where
  abbrev H : Layout
  H = layout_of img

  o₁ : Opened img
  o₁ = opened-facts img opens

  some-slot : 0 < H.N
  unfolding layout_of
  some-slot = omega (arith, o₁.slots-low)

  other : (k : ℕ) → add_number img key bytes mode ≡ k → (k ≡ 0 → ⊥) → ⊥
  other k e w = w (sym e ∙ z)

  -- the key and the mode are allowed
  asked : (P : Type 0) → (name_allowed H.K key ≡ true → mode_known mode ≡ true → P) → P
  asked P c =
      by_bool (name_allowed H.K key)
      (λ a. by_bool (mode_known mode) (c a)
      (λ k. absurd (other 8 (add-8 img key opens bytes mode a k) (λ w. omega arith))))
      (λ a. absurd (other 7 (add-7 img key opens bytes mode a) (λ w. omega arith)))

  module _ (a : name_allowed H.K key ≡ true) (k : mode_known mode ≡ true) where
    not-four : is_met (search H img key) ≡ false → eqb mode 4 ≡ false
    not-four absent =
        by_bool (eqb mode 4)
        (λ y. absurd (other 14 (add-14 img key opens bytes mode a k absent y) (λ w. omega arith)))
        (λ no'. no')

    met-again : (i : ℕ) → search H img key ≡ met i → Again img (added_at H img (met i) key bytes mode)
    unfolding added_at renewed_at
    met-again i m =
        let at : ℕ = offset_of H (slot H img i) in
        by_bool (eqb mode 1)
        (λ one. absurd (other 9 (add-9 img key opens bytes mode a k i m one) (λ w. omega arith)))
        (λ one. by_bool (message_sound H img at)
        (λ s. renew-again img o₁ i (search-met H img key some-slot i m).0 key (name-length H.K key a) at s bytes
        mode _ refl (sym (add-renewed img key opens bytes mode a k i m one s) ∙ z))
        (λ s. absurd (other 11 (add-11 img key opens bytes mode a k i m one s) (λ w. omega arith))))

    empty-again : (i : ℕ) → search H img key ≡ empty i → Again img (added_at H img (empty i) key bytes mode)
    unfolding added_at
    empty-again i m =
        let f = not-four (unfold is_met in ap is_met m) in
        by_bool (ltb (field img points_field) H.N)
        (λ lt. insert-again img o₁ i (search-empty H img key some-slot i m).0 key (name-length H.K key a)
        (ltb-true _ _ lt) (fresh_text bytes mode) (sym (add-fresh img key opens bytes mode a k f i m lt) ∙ z))
        (λ lt. absurd (other 10 (add-10-full img key opens bytes mode a k f i m lt) (λ w. omega arith)))

    placed-again : Again img (added_at H img (search H img key) key bytes mode)
    placed-again =
        by-search H img key some-slot
        (λ i m. rw m (met-again i m))
        (λ i m. rw m (empty-again i m))
        (λ m. absurd (other 10
        (add-10-exhausted img key opens bytes mode a k (not-four (unfold is_met in ap is_met m)) m) (λ w. omega arith)))

  pub added-again : Again img (added H img key bytes mode)
  unfolding added
  added-again =
      asked (Again img (added H img key bytes mode)) (λ a k.
      let p = placed-again a k in
      again-trans p (noted-again _ p.opened bytes mode))
