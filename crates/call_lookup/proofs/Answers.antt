-- What count and lookup answer, case by case, as the code comes to it; and that lookup's part lies in the image.
--     count-refused, count-accepted      the number and C
--     shows-refused, shows-inactive, shows-active      what the search's end shows, by question 11 and the letter
--     located-refused, located-found     lookup's number, start and length, from `seek`'s answer
--     start_none, length_none            where no message is shown
--     inside                             the part that lookup shows ends in the image
-- Assumes nothing.
use mathlib.Core.Path.{◌≡◌, refl, sym, ap, ap₂, ◌∙◌}
use Prim.Native.Nat.{ℕ, ◌+◌, ◌≤◌}
use native.Mathlib.Omega.{arith}
use mathlib.Core.Bool.{Bool, true, false, cond, not, ◌&&◌}
use lib.ListN.{length}
use lib.Dec.{eqb}
use borrow.Author.Tests.{eq-eqb, ne_eqb}
use Rattle.spec_file.specs.Bytes.{Bytes, part}
use Rattle.spec_file.specs.Limits.{points_field}
use Rattle.spec_file.specs.Image.{field, Layout, layout_of, slot, offset_of}
use Rattle.spec_file.specs.Search.{Probe, met, empty, exhausted, search, is_met, slot_of}
use Rattle.spec_file.specs.Messages.{head_size, length_at, is_active, bytes_of, is_text, held}
use Rattle.spec_file.specs.Questions.{first_no, shown_asks, message_sound, open_number, seek_number, lookup_number}
use Rattle.spec_file.specs.Calls.{lookup, lookup_offset, lookup_start, lookup_length, lookup_text, count, count_of}
use Rattle.law_file.proofs.Tests.{by_bool, by-eq}
use Rattle.law_file.proofs.Bytes.{part_length}
use Rattle.law_file.proofs.Opened.{Opened, opened-facts}
use Rattle.law_file.proofs.Effects.{message-end, active-some}
use Rattle.law_file.proofs.Outcomes.{offset-refused, shown-14, shown-11, shown-0}
use Rattle.law_file.proofs.Sought.{seek-opened, lookup-stop, lookup-on}
use Rattle.law_file.proofs.Stretch.{held_none, held-some}
use Rattle.bytes_words.proofs.Numbers.{part-zero}
use Rattle.call_lookup.specs.Shown.{shown_offset, Shows}

-- ---- count
module _ (img : Bytes) (n : ℕ) where
  pub count-refused : n ≡ open_number img → (n ≡ 0 → ⊥)
      → (n ≡ (count img).answer.number) × (0 ≡ (count img).answer.amount)
  unfolding count count_of
  count-refused e z = (e, rw (ne_eqb (open_number img) 0 (λ q. z (e ∙ q))) refl)

  pub count-accepted : open_number img ≡ 0 → n ≡ field img points_field
      → (0 ≡ (count img).answer.number) × (n ≡ (count img).answer.amount)
  unfolding count count_of
  count-accepted h e = (sym h, rw (eq-eqb (open_number img) 0 h) e)

-- ---- what is shown, by how the search ended
module _ (g : Layout) (img : Bytes) (s : Probe) where
  pub offset-none : (first_no (shown_asks g img s) ≡ 0 → ⊥) → shown_offset g img s ≡ 0
  unfolding shown_offset
  offset-none z = rw (ne_eqb (first_no (shown_asks g img s)) 0 z) refl

  module _ (n start m : ℕ) where
    none-shown : n ≡ first_no (shown_asks g img s) → shown_offset g img s ≡ 0 → start ≡ 0 → m ≡ 0 → Shows g img s n start m
    none-shown e z es em =
        record {
          number = e;
          begins = es ∙ sym (rw (eq-eqb (shown_offset g img s) 0 z) refl);
          counts = em ∙ sym (held_none g img (shown_offset g img s) z);
        }

    pub shows-refused : n ≡ first_no (shown_asks g img s) → (n ≡ 0 → ⊥) → start ≡ 0 → m ≡ 0 → Shows g img s n start m
    shows-refused e z es em = none-shown e (offset-none (λ q. z (e ∙ q))) es em

module _ (g : Layout) (img : Bytes) (i : ℕ) (s : message_sound g img (offset_of g (slot g img i)) ≡ true) where
  abbrev at : ℕ
  at = offset_of g (slot g img i)

  pub offset-is : shown_offset g img (met i) ≡ cond (is_active img at) at 0
  unfolding shown_offset slot_of
  offset-is = rw (shown-0 g img i s) refl

  module _ (n start m : ℕ) (e : n ≡ 0) where
    pub shows-inactive : is_active img at ≡ false → start ≡ 0 → m ≡ 0 → Shows g img (met i) n start m
    shows-inactive a es em =
        none-shown g img (met i) n start m (e ∙ sym (shown-0 g img i s))
        (offset-is ∙ ap (λ (b : Bool). cond b at 0) a) es em

    pub shows-active : is_active img at ≡ true → start ≡ at + head_size g → m ≡ length_at g img at
        → Shows g img (met i) n start m
    shows-active a es em =
        let o : shown_offset g img (met i) ≡ at = offset-is ∙ ap (λ (b : Bool). cond b at 0) a in
        let z : at ≡ 0 → ⊥ = active-some img at a in
        record {
          number = e ∙ sym (shown-0 g img i s);
          begins =
              es ∙ sym (ap (λ (p : ℕ). cond (eqb p 0) 0 (p + head_size g)) o
              ∙ ap (λ (b : Bool). cond b 0 (at + head_size g)) (ne_eqb at 0 z));
          counts = em ∙ sym (ap (held g img) o ∙ held-some g img at z);
        }

-- ---- lookup's numbers from `seek`'s answer
module _ (img key : Bytes) where
  abbrev g : Layout
  g = layout_of img

  abbrev found : Probe
  found = search g img key

  -- the number, the start of the text and its length
  abbrev pub Located : ℕ → ℕ → ℕ → Type 0
  Located n start m = (n ≡ lookup_number img key) × (start ≡ lookup_start img key) × (m ≡ lookup_length img key)

  pub start_none : lookup_offset img key ≡ 0 → lookup_start img key ≡ 0
  unfolding lookup_start
  start_none z = rw (eq-eqb (lookup_offset img key) 0 z) refl

  pub length_none : lookup_offset img key ≡ 0 → lookup_length img key ≡ 0
  unfolding lookup_length
  length_none z = held_none g img (lookup_offset img key) z

  pub located-refused : (n start m : ℕ) → n ≡ seek_number img key true → (n ≡ 0 → ⊥) → start ≡ 0 → m ≡ 0
      → Located n start m
  located-refused n start m e z es em =
      let refused : lookup_number img key ≡ n = lookup-stop img key (λ q. z (e ∙ q)) ∙ sym e in
      let o = offset-refused img key (λ q. z (sym refused ∙ q)) in
      (sym refused, es ∙ sym (start_none o), em ∙ sym (length_none o))

  module _ (asked : seek_number img key true ≡ 0) where
    offset-shown : lookup_offset img key ≡ shown_offset g img found
    unfolding lookup_offset shown_offset
    offset-shown =
        let o = offset_of g (slot g img (slot_of found)) in
        ap (λ (n : ℕ). cond (eqb n 0 && is_active img o) o 0) (lookup-on img key asked)

    pub located-found : (n start m : ℕ) (p : Probe) → p ≡ found → Shows g img p n start m → Located n start m
    unfolding lookup_start lookup_length
    located-found n start m p e s = (
      s.number ∙ ap (λ (q : Probe). first_no (shown_asks g img q)) e ∙ sym (lookup-on img key asked),
      s.begins
          ∙ ap (λ (q : Probe). cond (eqb (shown_offset g img q) 0) 0 (shown_offset g img q + head_size g)) e
          ∙ ap (λ (o : ℕ). cond (eqb o 0) 0 (o + head_size g)) (sym offset-shown),
      s.counts ∙ ap (λ (q : Probe). held g img (shown_offset g img q)) e ∙ ap (held g img) (sym offset-shown),
    )

  -- ---- the part lies in the image
  abbrev Inside : Type 0
  Inside = lookup_start img key + lookup_length img key ≤ length img

  inside-none : lookup_offset img key ≡ 0 → Inside
  inside-none z = omega (arith, start_none z, length_none z)

  inside-active : (o : ℕ) → lookup_offset img key ≡ o → Opened img → message_sound g img o ≡ true → (o ≡ 0 → ⊥) → Inside
  unfolding lookup_start lookup_length
  inside-active o e f s z =
      rw (e, ne_eqb o 0 z) (omega (arith, held-some g img o z, message-end img f o s z, f.free-high))

  pub inside : Inside
  unfolding is_met
  inside =
      by-eq (seek_number img key true) 0
      (λ a. by-probe found refl a)
      (λ n. inside-none (offset-refused img key (λ q. n (sym (lookup-stop img key n) ∙ q))))
    where
      refused : (p : Probe) → found ≡ p → seek_number img key true ≡ 0 → (first_no (shown_asks g img p) ≡ 0 → ⊥) → Inside
      refused p e a z = inside-none (offset-shown a ∙ ap (shown_offset g img) e ∙ offset-none g img p z)

      absent : (p : Probe) → found ≡ p → seek_number img key true ≡ 0 → is_met p ≡ false → Inside
      absent p e a h = refused p e a (λ q. omega (arith, shown-14 g img p h))

      by-probe : (p : Probe) → found ≡ p → seek_number img key true ≡ 0 → Inside
      by-probe (met i) e a =
          let o = offset_of g (slot g img i) in
          by_bool (message_sound g img o)
          (λ s.
          let at' : lookup_offset img key ≡ cond (is_active img o) o 0 =
          offset-shown a ∙ ap (shown_offset g img) e ∙ offset-is g img i s in
          by_bool (is_active img o)
          (λ b. inside-active o (at' ∙ ap (λ (t : Bool). cond t o 0) b)
          (opened-facts img (seek-opened img key true a)) s (active-some img o b))
          (λ b. inside-none (at' ∙ ap (λ (t : Bool). cond t o 0) b)))
          (λ s. refused (met i) e a (λ q. omega (arith, shown-11 g img i s)))
      by-probe (empty i) e a = absent (empty i) e a refl
      by-probe exhausted e a = absent exhausted e a refl

  -- ---- lookup's answer by start and length
  -- no message is shown from offset 0, and none has the part of 0 bytes
  text-shown : not (eqb (lookup_start img key) 0) ≡ is_text (lookup_text img key)
  unfolding lookup_start lookup_text is_text head_size
  text-shown =
      by-eq (lookup_offset img key) 0
      (λ z. rw (eq-eqb (lookup_offset img key) 0 z) refl)
      (λ z.
      rw (ne_eqb (lookup_offset img key) 0 z, ne_eqb (lookup_offset img key + (g.W + 1)) 0 (λ e. omega arith)) refl)

  text-bytes : part img (lookup_start img key) (lookup_length img key) ≡ bytes_of (lookup_text img key)
  unfolding lookup_text bytes_of
  text-bytes =
      by-eq (lookup_offset img key) 0
      (λ z. rw (eq-eqb (lookup_offset img key) 0 z, length_none z) (part-zero img (lookup_start img key)))
      (λ z. rw (ne_eqb (lookup_offset img key) 0 z) refl)

  pub lookup-answer : (n start : ℕ) (t : Bytes) → n ≡ lookup_number img key → start ≡ lookup_start img key
      → t ≡ part img (lookup_start img key) (lookup_length img key)
      → (n ≡ (lookup img key).answer.number) × (not (eqb start 0) ≡ is_text (lookup img key).answer.text)
      × (t ≡ bytes_of (lookup img key).answer.text)
      × (length t ≡ (lookup img key).answer.amount)
  unfolding lookup
  lookup-answer n start t e s p = (
    e,
    ap (λ (x : ℕ). not (eqb x 0)) s ∙ text-shown,
    p ∙ text-bytes,
    ap length p ∙ part_length img (lookup_start img key) (lookup_length img key) inside,
  )
