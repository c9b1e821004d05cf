-- What an accepted add leaves as it was, on any image: the bytes behind the header that are neither the slot's where
-- the search ended, nor the old message's, nor the new one's.
--     Elsewhere img i at m p n     the n bytes from p on are none of those of slot i, of the message at the offset, and
--                                  of m bytes of new space, if there are so many
--     taken g t                    how many bytes of new space a text takes, if there is one
--     fresh-takes, add-takes       no more than a header, the text that is there, and the bytes
--     add-met, add-empty           such bytes are as they were, of a point that is present in slot i, and of a new one
--     add-sound, add-exhausted     a message is sound, and a slot was found, where the call is accepted
-- Assumes nothing.
use mathlib.Core.Path.{◌≡◌, refl, sym, ap, ap₂, ◌∙◌}
use Prim.Native.Nat.{ℕ, ◌+◌, ◌-◌, ◌≤◌, ◌<◌}
use native.Mathlib.Omega.{arith}
use mathlib.Core.Logic.{inl, inr}
use mathlib.Core.Bool.{true, false, not, ◌&&◌, ◌||◌}
use mathlib.Core.List.{[], ◌∷◌, ◌++◌}
use mathlib.Core.Option.{Option, none, some}
use lib.ListN.{length, length-append}
use lib.Dec.{eqb, leb, ltb}
use borrow.Author.Tests.{leb-true, eqb-true, ne_eqb}
use Rattle.spec_file.specs.Bytes.{Bytes, part, store, digits, zeros}
use Rattle.spec_file.specs.Limits.{inactive, major, minor, patch, version_field, points_field, free_field, page_field, header_size}
use Rattle.spec_file.specs.Image.{field, set_field, last_page, major_of, wide, Layout, layout_of, slot_size, slot_start, slot, put_slot, offset_of, slot_bytes}
use Rattle.spec_file.specs.Search.{met, empty, exhausted, search, is_met}
use Rattle.spec_file.specs.Messages.{head_size, length_at, text_at, is_active, shown, bytes_of, shown_length, held, message, set_free, take_space, retire, overwrite, fresh_text, renewed_text, enter, inserted, relocated, renewed, renewed_at, added_at, noted, added}
use Rattle.spec_file.specs.Questions.{name_allowed, mode_known, message_sound, length_allowed, space_left, open_number, add_number, place_number}
use Rattle.spec_file.specs.Calls.{add}
use Rattle.law_file.proofs.Tests.{by_bool, by-eq, by-either, and_left}
use Rattle.law_file.proofs.Bytes.{Apart, part_length, length-store, part-store-other, part-store-behind, length_digits, length-zeros}
use Rattle.law_file.proofs.Slots.{Room, slot-end, length-set_field, length-entry}
use Rattle.law_file.proofs.Opened.{Opened, opened-facts, opened-room, first_no-head, first_no-tail}
use Rattle.law_file.proofs.Outcomes.{settled-yes, add-closed, add-7, add-8, add-9, add-10-exhausted, add-10-full, add-11, add-14, add-renewed, add-fresh}
use Rattle.law_file.proofs.Probe.{search-met, search-empty}
use Rattle.law_file.proofs.Effects.{message-end, active-some, by-retire, retire-kept, retire-field, length-message}
use Rattle.law_file.proofs.Texts.{replaced-held}
use Rattle.law_file.proofs.Stretch.{span, held-some}

-- ---- single writes

module _ (p n : ℕ) where
  -- a number in the header
  pub field-keeps : (b : Bytes) (at x : ℕ) → at + 4 ≤ p → part (set_field b at x) p n ≡ part b p n
  unfolding set_field
  field-keeps b at x h = part-store-behind b at (digits 4 x) p n (omega (arith, length_digits 4 x))

  -- a slot
  pub slot-keeps : (g : Layout) (b : Bytes) → Room g (length b) → (i : ℕ) (s : Bytes) → i < g.N
      → length s ≡ slot_size g → Apart p n (slot_start g i) (slot_size g)
      → part (put_slot g b i s) p n ≡ part b p n
  unfolding put_slot
  slot-keeps g b r i s l len a =
      part-store-other b (slot_start g i) s p n (omega (arith, slot-end g r i l, r.area)) (rw len a)

  -- new space, and X and M
  space-keeps : (g : Layout) (b t : Bytes) → header_size ≤ p
      → field b free_field + head_size g + length t ≤ length b
      → Apart p n (field b free_field) (head_size g + length t)
      → part (take_space g b t) p n ≡ part b p n
  unfolding take_space set_free
  space-keeps g b t h fits a =
      let x = field b free_field in
      let end = x + head_size g + length t in
      let written = store b x (message g.W t) in
      field-keeps (set_field written free_field end) page_field (last_page g.D end) (omega arith)
      ∙ field-keeps written free_field end (omega arith)
      ∙ part-store-other b x (message g.W t) p n (rw (length-message g t) (omega arith))
      (rw (length-message g t) a)

length-space : (g : Layout) (b t : Bytes) → header_size ≤ length b
    → field b free_field + head_size g + length t ≤ length b
    → length (take_space g b t) ≡ length b
unfolding take_space set_free
length-space g b t h fits =
    let x = field b free_field in
    let end = x + head_size g + length t in
    let written = store b x (message g.W t) in
    let first : length written ≡ length b =
    length-store b x (message g.W t) (rw (length-message g t) (omega arith)) in
    let second : length (set_field written free_field end) ≡ length written =
    length-set_field written free_field end (omega arith) in
    length-set_field (set_field written free_field end) page_field (last_page g.D end) (omega arith) ∙ second ∙ first

-- ---- the old message

-- the n bytes from p on have none in common with the first m of the message at the offset, if there is one
abbrev pub Off : ℕ → ℕ → ℕ → ℕ → Type 0
Off at m p n = (at ≡ 0 → ⊥) → Apart p n at m

-- its letter is the first byte
pub off-letter : (g : Layout) (img : Bytes) (at p n : ℕ) → Off at (span g img at) p n → Off at 1 p n
unfolding head_size
off-letter g img at p n c z = by-either (c z) (λ h. inl h) (λ h. inr (omega arith))

module _ (img : Bytes) (o : Opened img) (p n at : ℕ) (s : message_sound (layout_of img) img at ≡ true) where
  abbrev g : Layout
  g = layout_of img

  pub retire-keeps : Off at 1 p n → part (retire img at) p n ≡ part img p n
  retire-keeps c =
      by-retire img o at s (λ (i : Bytes). part i p n ≡ part img p n)
      (λ h lo hi. part-store-other img at (inactive ∷ []) p n hi (c (active-some img at h)))
      (λ h. refl)

  overwrite-keeps : Off at (span g img at) p n → (at ≡ 0 → ⊥) → (t : Bytes) → length t ≤ held g img at
      → part (overwrite g img at t) p n ≡ part img p n
  unfolding overwrite
  overwrite-keeps c z t le =
      let len : length (message g.W t ++ zeros (held g img at - length t)) ≡ span g img at =
      length-append (message g.W t) (zeros (held g img at - length t))
      ∙ ap₂ ◌+◌ (length-message g t) (length-zeros (held g img at - length t))
      ∙ omega (arith, held-some g img at z, le) in
      part-store-other img at _ p n (rw len (omega (arith, message-end img o at s z, o.free-high))) (rw len (c z))

-- ---- what an accepted add leaves

pub record Elsewhere (img : Bytes) (i at m p n : ℕ) : Type 0 where
  pub header : header_size ≤ p
  pub entry : Apart p n (slot_start (layout_of img) i) (slot_size (layout_of img))
  pub message : Off at (span (layout_of img) img at) p n
  pub fresh : field img free_field + m ≤ length img → Apart p n (field img free_field) m

-- how much new space a text takes
pub taken : Layout → Option Bytes → ℕ
taken g none = 0
taken g (some t) = head_size g + length t

pub fresh-takes : (g : Layout) (img bytes : Bytes) (mode : ℕ)
    → taken g (fresh_text bytes mode) ≤ head_size g + shown_length g img 0 + length bytes
unfolding taken fresh_text
fresh-takes g img bytes mode =
    by_bool (eqb mode 3 && eqb (length bytes) 0) (λ y. rw y (omega arith)) (λ no'. rw no' (omega arith))

module _ (img : Bytes) (o : Opened img) (at : ℕ) (s : message_sound (layout_of img) img at ≡ true) where
  shown-bytes : length (bytes_of (shown (layout_of img) img at)) ≤ shown_length (layout_of img) img at
  unfolding shown bytes_of shown_length text_at
  shown-bytes =
      by_bool (is_active img at)
      (λ y. rw y
      (let e = message-end img o at s (active-some img at y) in
      let long = part_length img (at + head_size (layout_of img)) (length_at (layout_of img) img at)
      (omega (arith, e, o.free-high)) in
      omega (arith, long)))
      (λ no'. rw no' (omega arith))

  renewed-takes : (bytes : Bytes) (mode : ℕ)
      → taken (layout_of img) (renewed_text (layout_of img) img at bytes mode)
      ≤ head_size (layout_of img) + shown_length (layout_of img) img at + length bytes
  unfolding taken renewed_text
  renewed-takes bytes mode =
      by_bool (eqb mode 2)
      (λ two. rw two
      (by_bool (not (eqb at 0) && leb (length bytes) (held (layout_of img) img at))
      (λ y. rw y (omega arith)) (λ no'. rw no' (omega arith))))
      (λ two. rw two
      (by_bool (eqb mode 3)
      (λ three. rw three
      (by_bool (eqb (length bytes) 0)
      (λ y. rw y (omega arith))
      (λ no'. rw no'
      (omega (arith, length-append (bytes_of (shown (layout_of img) img at)) bytes, shown-bytes)))))
      (λ three. rw three (omega arith))))

module _ (img : Bytes) (o : Opened img) (i : ℕ) (l : i < (layout_of img).N) (key : Bytes)
    (named : length key ≡ (layout_of img).K) (at : ℕ) (p n : ℕ) where
  abbrev G : Layout
  G = layout_of img

  entry-size : (x : ℕ) → length (slot_bytes key x) ≡ slot_size G
  entry-size x = length-entry G key x named

  -- 13 is answered yes
  fits : (t : Bytes) → place_number G img (some t) ≡ 0 → field img free_field + head_size G + length t ≤ length img
  unfolding space_left
  fits t h =
      leb-true _ _
      (first_no-head 13 (leb (field img free_field + head_size G + length t) (length img)) [] (λ z. omega arith)
      (first_no-tail 12 (length_allowed G (some t)) _ (λ z. omega arith) h))

  enter-keeps : (b : Bytes) (x : ℕ) → length b ≡ length img → header_size ≤ p → Apart p n (slot_start G i) (slot_size G)
      → part (enter G b i key x) p n ≡ part b p n
  unfolding enter
  enter-keeps b x len h a =
      field-keeps p n (put_slot G b i (slot_bytes key x)) points_field (field b points_field + 1) (omega arith)
      ∙ slot-keeps p n G b (rw len (opened-room img o)) i (slot_bytes key x) l (entry-size x) a

  insert-keeps : (t : Option Bytes) → place_number G img t ≡ 0 → Elsewhere img i at (taken G t) p n
      → part (inserted G img i key t) p n ≡ part img p n
  unfolding inserted taken
  insert-keeps none h e = enter-keeps img 0 refl e.header e.entry
  insert-keeps (some t) h e =
      enter-keeps (take_space G img t) (field img free_field)
      (length-space G img t (omega (arith, o.size_low)) (fits t h)) e.header e.entry
      ∙ space-keeps p n G img t e.header (fits t h) (e.fresh (omega (arith, fits t h)))

  module _ (s : message_sound G img at ≡ true) where
    relocate-keeps : (t : Bytes) → place_number G img (some t) ≡ 0 → Elsewhere img i at (taken G (some t)) p n
        → part (relocated G img i at key t) p n ≡ part img p n
    unfolding relocated taken
    relocate-keeps t h e =
        let off = retire img at in
        let x : field off free_field ≡ field img free_field = retire-field img o at s free_field (omega arith) in
        let size : length off ≡ length img = (retire-kept img o at s).fixed.size in
        let room : field off free_field + head_size G + length t ≤ length off = omega (arith, fits t h) in
        slot-keeps p n G (take_space G off t)
        (rw (length-space G off t (omega (arith, o.size_low)) room, size) (opened-room img o))
        i (slot_bytes key (field img free_field)) l (entry-size (field img free_field)) e.entry
        ∙ space-keeps p n G off t e.header room (rw x (e.fresh (omega (arith, fits t h))))
        ∙ retire-keeps img o p n at s (off-letter G img at p n e.message)

    renew-keeps : (bytes : Bytes) (mode : ℕ) (t : Option Bytes) → renewed_text G img at bytes mode ≡ t
        → place_number G img t ≡ 0 → Elsewhere img i at (taken G t) p n
        → part (renewed G img i at key bytes mode t) p n ≡ part img p n
    unfolding renewed
    renew-keeps bytes mode (some t) q h e = relocate-keeps t h e
    renew-keeps bytes mode none q h e =
        by-eq mode 2
        (λ two.
        let there = replaced-held G img i at key bytes (rw two at q) in
        rw two (overwrite-keeps img o p n at s e.message there.0 bytes there.1))
        (λ other. rw (ne_eqb mode 2 other)
        (by_bool (eqb mode 4)
        (λ y. rw y (retire-keeps img o p n at s (off-letter G img at p n e.message))) (λ no'. rw no' refl)))

-- the version stands in the header
noted-keeps : (p n : ℕ) (bytes : Bytes) (mode : ℕ) (b : Bytes) → header_size ≤ p
    → part (noted bytes mode b) p n ≡ part b p n
unfolding noted
noted-keeps p n bytes mode b h =
    by_bool (eqb (length bytes) 0 && (eqb mode 1 || eqb mode 2) && not (wide (major_of b)))
    (λ y. rw y (part-store-behind b version_field (major ∷ minor ∷ patch ∷ []) p n (omega arith)))
    (λ no'. rw no' refl)

-- ---- the call

pub name-length : (K : ℕ) (key : Bytes) → name_allowed K key ≡ true → length key ≡ K
unfolding name_allowed
name-length K key a = eqb-true (length key) K (and_left (eqb (length key) K) _ a)

module _ (img key bytes : Bytes) (mode : ℕ) (z : add_number img key bytes mode ≡ 0) (p n i : ℕ) where
  abbrev H : Layout
  H = layout_of img

  opens : open_number img ≡ 0
  opens = by-eq (open_number img) 0 (λ e. e) (λ e. absurd (e (sym (add-closed img key e bytes mode) ∙ z)))

  o : Opened img
  o = opened-facts img opens

  some-slot : 0 < H.N
  unfolding layout_of
  some-slot = omega (arith, o.slots-low)

  other : (k : ℕ) → add_number img key bytes mode ≡ k → (k ≡ 0 → ⊥) → ⊥
  other k e w = w (sym e ∙ z)

  -- the key and the mode are allowed
  asked : (P : Type 0) → (name_allowed H.K key ≡ true → mode_known mode ≡ true → P) → P
  asked P c =
      by_bool (name_allowed H.K key)
      (λ a. by_bool (mode_known mode) (c a)
      (λ k. absurd (other 8 (add-8 img key opens bytes mode a k) (λ w. omega arith))))
      (λ a. absurd (other 7 (add-7 img key opens bytes mode a) (λ w. omega arith)))

  after : part (add img key bytes mode).after p n ≡ part (added H img key bytes mode) p n
  unfolding add
  after =
      ap (λ (x : Bytes). part x p n) (settled-yes (add_number img key bytes mode) img (added H img key bytes mode) z)

  abbrev at : ℕ
  at = offset_of H (slot H img i)

  -- the message of a point that is present has passed 11
  pub add-sound : search H img key ≡ met i → message_sound H img at ≡ true
  add-sound m =
      asked (message_sound H img at ≡ true) (λ a k.
      by_bool (eqb mode 1)
      (λ one. absurd (other 9 (add-9 img key opens bytes mode a k i m one) (λ w. omega arith)))
      (λ one. by_bool (message_sound H img at)
      (λ s. s)
      (λ s. absurd (other 11 (add-11 img key opens bytes mode a k i m one s) (λ w. omega arith)))))

  -- how much new space it takes
  pub add-takes : search H img key ≡ met i
      → taken H (renewed_text H img at bytes mode) ≤ head_size H + shown_length H img at + length bytes
  add-takes m = renewed-takes img o at (add-sound m) bytes mode

  pub add-met : search H img key ≡ met i → Elsewhere img i at (taken H (renewed_text H img at bytes mode)) p n
      → part (add img key bytes mode).after p n ≡ part img p n
  unfolding added added_at renewed_at
  add-met m e = after ∙ asked _ (λ a k. go a k)
    where
      go : name_allowed H.K key ≡ true → mode_known mode ≡ true → part (added H img key bytes mode) p n ≡ part img p n
      go a k =
          noted-keeps p n bytes mode _ e.header
          ∙ rw m
          (by_bool (eqb mode 1)
          (λ one. absurd (other 9 (add-9 img key opens bytes mode a k i m one) (λ w. omega arith)))
          (λ one.
          renew-keeps img o i (search-met H img key some-slot i m).0 key (name-length H.K key a) at p n
          (add-sound m) bytes mode _ refl (sym (add-renewed img key opens bytes mode a k i m one (add-sound m)) ∙ z) e))

  -- mode 4 finds a point
  not-four : is_met (search H img key) ≡ false → name_allowed H.K key ≡ true → mode_known mode ≡ true
      → eqb mode 4 ≡ false
  not-four absent a k =
      by_bool (eqb mode 4)
      (λ y. absurd (other 14 (add-14 img key opens bytes mode a k absent y) (λ w. omega arith)))
      (λ no'. no')

  pub add-empty : search H img key ≡ empty i → Elsewhere img i 0 (taken H (fresh_text bytes mode)) p n
      → part (add img key bytes mode).after p n ≡ part img p n
  unfolding added added_at
  add-empty m e = after ∙ asked _ (λ a k. go a k (not-four (unfold is_met in ap is_met m) a k))
    where
      go : name_allowed H.K key ≡ true → mode_known mode ≡ true → eqb mode 4 ≡ false
          → part (added H img key bytes mode) p n ≡ part img p n
      go a k f =
          noted-keeps p n bytes mode _ e.header
          ∙ rw m
          (by_bool (ltb (field img points_field) H.N)
          (λ lt.
          insert-keeps img o i (search-empty H img key some-slot i m).0 key (name-length H.K key a) 0 p n
          (fresh_text bytes mode) (sym (add-fresh img key opens bytes mode a k f i m lt) ∙ z) e)
          (λ lt. absurd (other 10 (add-10-full img key opens bytes mode a k f i m lt) (λ w. omega arith))))

  -- a table without a vacant slot takes no new point
  pub add-exhausted : search H img key ≡ exhausted → ⊥
  add-exhausted m =
      asked ⊥ (λ a k. other 10
      (add-10-exhausted img key opens bytes mode a k (not-four (unfold is_met in ap is_met m) a k) m) (λ w. omega arith))
