-- The choice by epoch on a pair, case by case, as the code comes to it.
--     dated-stop, dated-23, dated-7, dated-0      the questions before the choice
--     later-is                 the code's comparison of both entries is the definition's
--     dates-refused            a refusal shows nothing
--     dates-old, dates-new     what is shown of the entry in the one image or the other
--     pair-at-inside, pair-at-shows      the part that is shown
-- Assumes nothing.
use mathlib.Core.Path.{◌≡◌, refl, sym, ap, ap₂, ◌∙◌, subst}
use Prim.Native.Nat.{ℕ, ◌+◌, ◌≤◌}
use native.Mathlib.Omega.{arith}
use mathlib.Core.Bool.{Bool, true, false, cond, not, ◌&&◌, ◌||◌}
use mathlib.Core.List.{[], ◌∷◌}
use lib.ListN.{length}
use lib.Dec.{eqb, ltb}
use Rattle.spec_file.specs.Bytes.{Bytes, part}
use Rattle.spec_file.specs.Image.{layout_of}
use Rattle.spec_file.specs.Messages.{bytes_of, is_text}
use Rattle.spec_file.specs.Search.{Probe, is_met, slot_of}
use Rattle.spec_file.specs.Questions.{ask, first_no}
use Rattle.spec_epoch.specs.Epochs.{chosen, epoch_at, key_dated, prism_allowed, Dated, refused_dated, at_epoch}
use Rattle.spec_moves.specs.Moves.{Pair}
use Rattle.spec_growth.specs.Growth.{pair_number, old_key, dated_in_new, dated_holder, grow_dated_number, grow_at_epoch}
use Rattle.law_file.proofs.Tests.{by_bool, by-eq, zero-yes, zero-no}
use Rattle.law_file.proofs.Opened.{first_no-none, first_no-yes, first_no-no}
use Rattle.law_epoch.proofs.Answers.{at_part, at-shown, at-inside, at_length}
use Rattle.growth_open.proofs.Pairs.{PairOpen, pair-open, pair-on, pair-stop}
use Rattle.bytes_words.proofs.Numbers.{part-zero}
use Rattle.table_search.specs.Probes.{probe_of}
use Rattle.epoch_choose.specs.Choices.{Kept, Chooses}
use Rattle.epoch_choose.specs.declared.Chosen.{Chosen}
use Rattle.call_at_epoch.specs.Answers.{Answers, shown_of}
use Rattle.call_at_epoch.proofs.Showing.{answer-on}
use Rattle.call_grow_at_epoch.specs.declared.PairDated.{PairDated}
use Rattle.call_grow_at_epoch.specs.Dates.{later_of, Dates}

-- ---- the questions before the choice
module _ (p : Pair) (name : Bytes) where
  pub dated-stop : (pair_number p [] ≡ 0 → ⊥) → grow_dated_number p name ≡ pair_number p []
  unfolding grow_dated_number
  dated-stop z = pair-stop p z (ask 23 (key_dated (old_key p)) ∷ ask 7 (prism_allowed (old_key p) name) ∷ [])

  module _ (z : pair_number p [] ≡ 0) where
    asked : grow_dated_number p name
        ≡ first_no (ask 23 (key_dated (old_key p)) ∷ ask 7 (prism_allowed (old_key p) name) ∷ [])
    unfolding grow_dated_number
    asked = pair-on p z (ask 23 (key_dated (old_key p)) ∷ ask 7 (prism_allowed (old_key p) name) ∷ [])

    pub dated-23 : key_dated (old_key p) ≡ false → grow_dated_number p name ≡ 23
    dated-23 k = asked ∙ first_no-no 23 _ _ k

    module _ (k : key_dated (old_key p) ≡ true) where
      pub dated-7 : prism_allowed (old_key p) name ≡ false → grow_dated_number p name ≡ 7
      dated-7 n = asked ∙ first_no-yes 23 _ _ k ∙ first_no-no 7 _ [] n

      pub dated-0 : prism_allowed (old_key p) name ≡ true → grow_dated_number p name ≡ 0
      dated-0 n = asked ∙ first_no-yes 23 _ _ k ∙ first_no-yes 7 _ [] n ∙ first_no-none

module _ (p : Pair) (name : Bytes) (t : ℕ) where
  abbrev k : ℕ
  k = grow_dated_number p name

  -- ---- both entries compared
  -- of two probes: the epochs matter only where both are met
  compared : (a b : Bool) (x y x' y' : ℕ) → (a ≡ true → x ≡ x') → (b ≡ true → y ≡ y')
      → (b && (not a || ltb x y)) ≡ (b && (not a || ltb x' y'))
  compared a false x y x' y' f g = refl
  compared false true x y x' y' f g = refl
  compared true true x y x' y' f g = ap₂ ltb (f refl) (g refl)

  pub later-is : (s s' : Chosen) → Chooses p.old name t s → Chooses p.new name t s'
      → later_of s s' ≡ dated_in_new p name t
  unfolding later_of dated_in_new Kept
  later-is s s' c c' =
      let q = probe_of s.found in
      let q' = probe_of s'.found in
      let old = p.old in
      let new = p.new in
      compared (is_met q) (is_met q') s.epoch s'.epoch (epoch_at (layout_of old) old (slot_of q))
      (epoch_at (layout_of new) new (slot_of q')) c.kept c'.kept
      ∙ ap₂ (λ (u v : Probe). is_met v && (not (is_met u)
      || ltb (epoch_at (layout_of old) old (slot_of u)) (epoch_at (layout_of new) new (slot_of v))))
      c.found c'.found

  -- ---- the answer as numbers
  pub dated-refused : (k ≡ 0 → ⊥) → grow_at_epoch p name t ≡ refused_dated k
  unfolding grow_at_epoch
  dated-refused z = zero-no k (at_epoch (dated_holder p name t) name t) (refused_dated k) z

  pub dated-held : k ≡ 0 → grow_at_epoch p name t ≡ at_epoch (dated_holder p name t) name t
  unfolding grow_at_epoch
  dated-held z = zero-yes k (at_epoch (dated_holder p name t) name t) (refused_dated k) z

  pub holder-old : dated_in_new p name t ≡ false → dated_holder p name t ≡ p.old
  unfolding dated_holder
  holder-old h = ap (λ (b : Bool). cond b p.new p.old) h

  pub holder-new : dated_in_new p name t ≡ true → dated_holder p name t ≡ p.new
  unfolding dated_holder
  holder-new h = ap (λ (b : Bool). cond b p.new p.old) h

  module _ (r : PairDated) where
    pub dates-refused : (n : ℕ) → k ≡ n → (n ≡ 0 → ⊥) → Answers (refused_dated n) r.dated → Dates p name t r
    dates-refused n e z a =
        let z' : k ≡ 0 → ⊥ = λ q. z (sym e ∙ q) in
        record {
          answers =
              subst (λ (d : Dated). Answers d r.dated) (sym (dated-refused z' ∙ ap refused_dated e)) a;
          held = λ q. absurd (z' q);
        }

    -- of the image that has the entry
    dates-in : k ≡ 0 → (img : Bytes) → dated_holder p name t ≡ img → Answers (at_epoch img name t) r.dated
        → r.in_new ≡ dated_in_new p name t → Dates p name t r
    dates-in z img is a h =
        record {
          answers =
              subst (λ (d : Dated). Answers d r.dated)
              (sym (dated-held z ∙ ap (λ (i : Bytes). at_epoch i name t) is)) a;
          held = λ q. h;
        }

    module _ (z : pair_number p [] ≡ 0) (y : key_dated (old_key p) ≡ true) (n : prism_allowed (old_key p) name ≡ true)
        (s : Probe) where
      pub dates-old : dated_in_new p name t ≡ false → s ≡ chosen (layout_of p.old) p.old name t
          → Answers (shown_of p.old s) r.dated → r.in_new ≡ false → Dates p name t r
      dates-old h e a q =
          dates-in (dated-0 p name z y n) p.old (holder-old h)
          (answer-on p.old name t r.dated (pair-open p z).first y n s e a)
          (q ∙ sym h)

      pub dates-new : dated_in_new p name t ≡ true → s ≡ chosen (layout_of p.new) p.new name t
          → Answers (shown_of p.new s) r.dated → r.in_new ≡ true → Dates p name t r
      dates-new h e a q =
          let o = pair-open p z in
          dates-in (dated-0 p name z y n) p.new (holder-new h)
          (answer-on p.new name t r.dated o.second (ap key_dated o.key-is ∙ y)
          (ap (λ (m : ℕ). prism_allowed m name) o.key-is ∙ n) s e a)
          (q ∙ sym h)

  -- ---- the part that is shown, of the image that has the entry
  module _ (img : Bytes) (h : k ≡ 0 → dated_holder p name t ≡ img) where
    by-held : (P : Dated → Type 0) → (k ≡ 0 → P (at_epoch img name t)) → ((n : ℕ) → P (refused_dated n))
        → P (grow_at_epoch p name t)
    by-held P yes' no' =
        by-eq k 0
        (λ z. subst P (sym (dated-held z ∙ ap (λ (i : Bytes). at_epoch i name t) (h z))) (yes' z))
        (λ z. subst P (sym (dated-refused z)) (no' k))

    pub pair-at-inside : (grow_at_epoch p name t).start + (grow_at_epoch p name t).length ≤ length img
    pair-at-inside =
        by-held (λ d. d.start + d.length ≤ length img) (λ z. at-inside img name t)
        (λ n. unfold refused_dated in omega arith)

    pub pair-at-part : part img (grow_at_epoch p name t).start (grow_at_epoch p name t).length
        ≡ bytes_of (grow_at_epoch p name t).text
    pair-at-part =
        by-held (λ d. part img d.start d.length ≡ bytes_of d.text) (λ z. at_part img name t)
        (λ n. unfold refused_dated bytes_of part in refl)

    pub pair-at-shown : not (eqb (grow_at_epoch p name t).start 0) ≡ is_text (grow_at_epoch p name t).text
    pair-at-shown =
        by-held (λ d. not (eqb d.start 0) ≡ is_text d.text) (λ z. at-shown img name t)
        (λ n. unfold refused_dated is_text in refl)

    pub pair-at-length : length (bytes_of (grow_at_epoch p name t).text) ≡ (grow_at_epoch p name t).length
    pair-at-length =
        by-held (λ d. length (bytes_of d.text) ≡ d.length) (λ z. at_length img name t)
        (λ n. unfold refused_dated bytes_of in refl)
