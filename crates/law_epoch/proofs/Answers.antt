-- What the call answers, case by case, on any image bytes; and the text that it shows.
--     number-closed, number-23, number-7, number-on      the call's number, question by question
--     Accepted, accepted      what an accepted call found; refused-is, accepted-is: its answer
--     at_part, at-shown, at-inside, at_length, at_small      the text is the part of the image from the start on, and
--                             none is told from an empty one by the start
-- Assumes nothing.
use mathlib.Core.Path.{◌≡◌, refl, sym, ap, ◌∙◌, subst}
use Prim.Native.Nat.{ℕ, ◌+◌, ◌-◌, ◌≤◌}
use native.Mathlib.Omega.{arith}
use mathlib.Core.Bool.{true, false, not}
use mathlib.Core.List.{◌∷◌}
use lib.ListN.{length}
use lib.Dec.{eqb}
use borrow.Author.Tests.{leb-true, eqb-true, ne_eqb}
use Rattle.spec_file.specs.Bytes.{Bytes, part}
use Rattle.spec_file.specs.Limits.{most_image}
use Rattle.spec_file.specs.Image.{Layout, layout_of, slot, offset_of}
use Rattle.spec_file.specs.Search.{Probe, met, empty, exhausted, is_met, slot_of}
use Rattle.spec_file.specs.Messages.{head_size, length_at, text_at, is_active, shown, shown_length, bytes_of, is_text}
use Rattle.spec_file.specs.Questions.{ask, first_no, shown_asks, message_sound, met_message_sound, open_number}
use Rattle.law_file.proofs.Tests.{by_bool, by-eq, zero-yes, zero-no}
use Rattle.law_file.proofs.Bytes.{part_length}
use Rattle.law_file.proofs.Opened.{opened-facts, first_no-yes, first_no-no, first_no-head, first_no-tail, first_no-opened, first_no-refused}
use Rattle.law_file.proofs.Effects.{message-end, active-some}
use Rattle.spec_epoch.specs.Epochs.{epoch_size, least_key, chosen, key_dated, prism_allowed, at_epoch_asks, at_epoch_number, Dated, shown_at, refused_dated, at_epoch}

-- a message's text, as the call shows it of slot i
module _ (g : Layout) (img : Bytes) (i : ℕ) where
  abbrev at : ℕ
  at = offset_of g (slot g img i)

  by-active : (P : ℕ → ℕ → Type 0) → (is_active img at ≡ true → P (at + head_size g) (length_at g img at))
      → (is_active img at ≡ false → P 0 0) → P (shown_at g img i).start (shown_at g img i).length
  unfolding shown_at shown_length
  by-active P yes' no' = by_bool (is_active img at) (λ a. rw a (yes' a)) (λ a. rw a (no' a))

  shown-part : part img (shown_at g img i).start (shown_at g img i).length ≡ bytes_of (shown_at g img i).text
  unfolding shown_at shown_length shown bytes_of text_at
  shown-part =
      by_bool (is_active img at) (λ a. rw a refl) (λ a. rw a (unfold part in refl))

  shown-told : not (eqb (shown_at g img i).start 0) ≡ is_text (shown_at g img i).text
  unfolding shown_at shown is_text head_size
  shown-told =
      by_bool (is_active img at)
      (λ a. rw (a, ne_eqb (at + (g.W + 1)) 0 (λ e. omega arith)) refl) (λ a. rw a refl)

module _ (img name : Bytes) (t : ℕ) where
  abbrev g : Layout
  g = layout_of img

  abbrev pub picked : Probe
  picked = chosen g img name t

  -- ---- the number
  pub number-closed : (open_number img ≡ 0 → ⊥) → at_epoch_number img name t ≡ open_number img
  unfolding at_epoch_number
  number-closed h = first_no-refused img (at_epoch_asks g img name t) h

  module _ (h : open_number img ≡ 0) where
    number-asks : at_epoch_number img name t ≡ first_no (at_epoch_asks g img name t)
    unfolding at_epoch_number
    number-asks = first_no-opened img (at_epoch_asks g img name t) h

    pub number-23 : key_dated g.K ≡ false → at_epoch_number img name t ≡ 23
    unfolding at_epoch_asks
    number-23 k = number-asks ∙ first_no-no 23 _ _ k

    module _ (k : key_dated g.K ≡ true) where
      pub number-7 : prism_allowed g.K name ≡ false → at_epoch_number img name t ≡ 7
      unfolding at_epoch_asks
      number-7 n = number-asks ∙ first_no-yes 23 _ _ k ∙ first_no-no 7 _ _ n

      pub number-on : prism_allowed g.K name ≡ true → at_epoch_number img name t ≡ first_no (shown_asks g img picked)
      unfolding at_epoch_asks
      number-on n = number-asks ∙ first_no-yes 23 _ _ k ∙ first_no-yes 7 _ _ n

  -- ---- the answer by its number
  pub refused-is : (n : ℕ) → at_epoch_number img name t ≡ n → (n ≡ 0 → ⊥) → at_epoch img name t ≡ refused_dated n
  unfolding at_epoch
  refused-is n e z =
      zero-no (at_epoch_number img name t) (shown_at g img (slot_of picked)) (refused_dated (at_epoch_number img name t))
      (λ q. z (sym e ∙ q))
      ∙ ap refused_dated e

  pub accepted-is : at_epoch_number img name t ≡ 0 → at_epoch img name t ≡ shown_at g img (slot_of picked)
  unfolding at_epoch
  accepted-is e =
      zero-yes (at_epoch_number img name t) (shown_at g img (slot_of picked)) (refused_dated (at_epoch_number img name t)) e

  -- the number is the answer's
  pub number_is : (at_epoch img name t).number ≡ at_epoch_number img name t
  unfolding shown_at refused_dated
  number_is =
      by-eq (at_epoch_number img name t) 0
      (λ e. ap (λ (d : Dated). d.number) (accepted-is e) ∙ sym e)
      (λ z. ap (λ (d : Dated). d.number) (refused-is _ refl z))

  -- ---- an accepted call
  pub record Accepted (i : ℕ) : Type 0 where
    pub opened : open_number img ≡ 0
    pub dated : least_key ≤ g.K
    pub named : length name ≡ g.K - epoch_size
    pub met_at : picked ≡ met i
    pub sound : message_sound g img (offset_of g (slot g img i)) ≡ true

  met-slot : (s : Probe) → is_met s ≡ true → s ≡ met (slot_of s)
  unfolding is_met slot_of
  met-slot (met i) h = refl
  met-slot (empty i) h = let z : ◌≡◌ {A = ℕ} 0 1 = cc in absurd (omega arith)
  met-slot exhausted h = let z : ◌≡◌ {A = ℕ} 0 1 = cc in absurd (omega arith)

  pub accepted : at_epoch_number img name t ≡ 0 → Accepted (slot_of picked)
  unfolding at_epoch_asks key_dated prism_allowed met_message_sound
  accepted e =
      by-eq (open_number img) 0
      (λ h.
      let asks : first_no (ask 23 (key_dated g.K) ∷ ask 7 (prism_allowed g.K name) ∷ shown_asks g img picked) ≡ 0
      = sym (number-asks h) ∙ e in
      let after-23 = first_no-tail 23 (key_dated g.K) _ (λ z. omega arith) asks in
      let after-7 = first_no-tail 7 (prism_allowed g.K name) _ (λ z. omega arith) after-23 in
      let after-14 = first_no-tail 14 (is_met picked) _ (λ z. omega arith) after-7 in
      let is = met-slot picked (first_no-head 14 (is_met picked) _ (λ z. omega arith) after-7) in
      record {
        opened = h;
        dated =
            leb-true least_key g.K (first_no-head 23 (key_dated g.K) _ (λ z. omega arith) asks);
        named =
            eqb-true (length name) (g.K - epoch_size)
            (first_no-head 7 (prism_allowed g.K name) _ (λ z. omega arith) after-23);
        met_at = is;
        sound =
            sym (ap (met_message_sound g img) is)
            ∙ first_no-head 11 (met_message_sound g img picked) _ (λ z. omega arith) after-14;
      })
      (λ z. absurd (z (sym (number-closed z) ∙ e)))

  -- ---- the text
  by-dated : (P : Dated → Type 0) → ((n : ℕ) → P (refused_dated n))
      → (at_epoch_number img name t ≡ 0 → P (shown_at g img (slot_of picked))) → P (at_epoch img name t)
  by-dated P no' yes' =
      by-eq (at_epoch_number img name t) 0 (λ e. subst P (sym (accepted-is e)) (yes' e))
      (λ z. subst P (sym (refused-is _ refl z)) (no' _))

  pub at_part : part img (at_epoch img name t).start (at_epoch img name t).length ≡ bytes_of (at_epoch img name t).text
  at_part =
      by-dated (λ d. part img d.start d.length ≡ bytes_of d.text)
      (λ n. unfold refused_dated bytes_of part in refl) (λ e. shown-part g img (slot_of picked))

  pub at-shown : not (eqb (at_epoch img name t).start 0) ≡ is_text (at_epoch img name t).text
  at-shown =
      by-dated (λ d. not (eqb d.start 0) ≡ is_text d.text)
      (λ n. unfold refused_dated is_text in refl) (λ e. shown-told g img (slot_of picked))

  pub at-inside : (at_epoch img name t).start + (at_epoch img name t).length ≤ length img
  at-inside =
      by-dated (λ d. d.start + d.length ≤ length img)
      (λ n. unfold refused_dated in omega arith)
      (λ e.
      let a = accepted e in
      let o = opened-facts img a.opened in
      by-active g img (slot_of picked) (λ start m. start + m ≤ length img)
      (λ b.
      omega (arith, message-end img o _ a.sound (active-some img _ b), o.free-high))
      (λ b. omega arith))

  pub at_length : length (bytes_of (at_epoch img name t).text) ≡ (at_epoch img name t).length
  at_length =
      ap length (sym at_part) ∙ part_length img (at_epoch img name t).start (at_epoch img name t).length at-inside

  -- both fit 32 bits
  pub at_small : (at_epoch img name t).start + (at_epoch img name t).length ≤ most_image
  unfolding refused_dated
  at_small =
      by-eq (at_epoch_number img name t) 0
      (λ e. omega (arith, at-inside, (opened-facts img (accepted e).opened).size-high))
      (λ z.
      omega (
        arith,
        ap (λ (d : Dated). d.start) (refused-is _ refl z),
        ap (λ (d : Dated). d.length) (refused-is _ refl z),
      ))
