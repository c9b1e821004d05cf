-- What lookup and count on a pair answer, case by case, as the code comes to it.
--     name-stop, name-7, name-0     the questions before the search
--     counts-refused, counts        the points of both images
--     locates-refused               a refusal shows nothing
--     locates-old, locates-new      the point met in the old image, or not: what lookup shows in the one or the other
--     shows-pair                    the answer of lookup, from the part that is shown
-- Assumes nothing.
use mathlib.Core.Path.{◌≡◌, refl, sym, ap, ◌∙◌, subst}
use Prim.Native.Nat.{ℕ, ◌+◌, ◌≤◌}
use native.Mathlib.Omega.{arith}
use mathlib.Core.Bool.{Bool, true, false, cond, not}
use mathlib.Core.List.{[], ◌∷◌}
use lib.ListN.{length}
use lib.Dec.{eqb}
use borrow.Author.Tests.{eq-eqb, ne_eqb}
use Rattle.spec_file.specs.Bytes.{Bytes, part}
use Rattle.spec_file.specs.Image.{layout_of}
use Rattle.spec_file.specs.Search.{Probe, search, is_met}
use Rattle.spec_file.specs.Messages.{bytes_of, is_text}
use Rattle.spec_file.specs.Questions.{ask, first_no, name_allowed, open_number, seek_number, lookup_number}
use Rattle.spec_file.specs.Calls.{Answer, plain, lookup, lookup_start, lookup_length}
use Rattle.spec_moves.specs.Moves.{Pair}
use Rattle.spec_growth.specs.Growth.{pair_number, old_key, old_probe, both_points, held_in_new, holder, grow_name_number, grow_lookup, grow_lookup_start, grow_lookup_length, grow_count}
use Rattle.law_file.proofs.Tests.{by-eq, by_bool, zero-yes, zero-no}
use Rattle.law_file.proofs.Opened.{first_no-none, first_no-yes, first_no-no}
use Rattle.law_file.proofs.Sought.{seek-0}
use Rattle.growth_open.proofs.Pairs.{PairOpen, pair-open, pair-on, pair-stop}
use Rattle.bytes_words.proofs.Numbers.{part-zero}
use Rattle.call_lookup.specs.Shown.{Shows}
use Rattle.call_lookup.proofs.Answers.{Located, located-found, inside, lookup-answer}
use Rattle.call_grow_lookup.specs.declared.PairLocated.{PairLocated}
use Rattle.call_grow_lookup.specs.Locates.{Locates}

-- ---- count
module _ (p : Pair) where
  pub counts-refused : (n : ℕ) → n ≡ pair_number p [] → (n ≡ 0 → ⊥)
      → (n ≡ (grow_count p).answer.number) × (0 ≡ (grow_count p).answer.amount)
  unfolding grow_count
  counts-refused n e z = (e, sym (zero-no (pair_number p []) (both_points p) 0 (λ q. z (e ∙ q))))

  pub counts : (n m : ℕ) → n ≡ 0 → pair_number p [] ≡ 0 → m ≡ both_points p
      → (n ≡ (grow_count p).answer.number) × (m ≡ (grow_count p).answer.amount)
  unfolding grow_count
  counts n m e z q = (e ∙ sym z, q ∙ sym (zero-yes (pair_number p []) (both_points p) 0 z))

-- ---- the questions before the search
module _ (p : Pair) (key : Bytes) where
  pub name-stop : (pair_number p [] ≡ 0 → ⊥) → grow_name_number p key ≡ pair_number p []
  unfolding grow_name_number
  name-stop z = pair-stop p z (ask 7 (name_allowed (old_key p) key) ∷ [])

  module _ (z : pair_number p [] ≡ 0) where
    pub name-7 : name_allowed (old_key p) key ≡ false → grow_name_number p key ≡ 7
    unfolding grow_name_number
    name-7 h = pair-on p z (ask 7 (name_allowed (old_key p) key) ∷ []) ∙ first_no-no 7 _ [] h

    pub name-0 : name_allowed (old_key p) key ≡ true → grow_name_number p key ≡ 0
    unfolding grow_name_number
    name-0 h = pair-on p z (ask 7 (name_allowed (old_key p) key) ∷ []) ∙ first_no-yes 7 _ [] h ∙ first_no-none

  -- ---- the answer as numbers
  module _ (r : PairLocated) where
    pub locates-refused : (grow_name_number p key ≡ 0 → ⊥) → r.located.number ≡ grow_name_number p key
        → r.located.start.0 ≡ 0 → r.located.length ≡ 0 → Locates p key r
    unfolding grow_lookup grow_lookup_start grow_lookup_length plain
    locates-refused z e es em =
        let n = grow_name_number p key in
        record {
          number = e ∙ sym (ap (λ (a : Answer). a.number) (zero-no n (lookup (holder p key) key).answer (plain n) z));
          start = es ∙ sym (zero-no n (lookup_start (holder p key) key) 0 z);
          length = em ∙ sym (zero-no n (lookup_length (holder p key) key) 0 z);
          held = λ q. absurd (z q);
        }

    -- by the image that holds the point
    module _ (asked : grow_name_number p key ≡ 0) (img : Bytes) (is : holder p key ≡ img)
        (l : Located img key r.located.number r.located.start.0 r.located.length) where
      pub locates-in : r.in_new ≡ held_in_new p key → Locates p key r
      unfolding grow_lookup grow_lookup_start grow_lookup_length lookup
      locates-in h =
          let n = grow_name_number p key in
          record {
            number =
                l.0 ∙ ap (λ (i : Bytes). lookup_number i key) (sym is)
                ∙ sym (ap (λ (a : Answer). a.number)
                (zero-yes n (lookup (holder p key) key).answer (plain n) asked));
            start =
                l.1 ∙ ap (λ (i : Bytes). lookup_start i key) (sym is)
                ∙ sym (zero-yes n (lookup_start (holder p key) key) 0 asked);
            length =
                l.2 ∙ ap (λ (i : Bytes). lookup_length i key) (sym is)
                ∙ sym (zero-yes n (lookup_length (holder p key) key) 0 asked);
            held = λ q. h;
          }

  -- ---- which image holds the point
  pub held-old : is_met (old_probe p key) ≡ true → held_in_new p key ≡ false
  unfolding held_in_new
  held-old m = ap not m

  pub held_new : is_met (old_probe p key) ≡ false → held_in_new p key ≡ true
  unfolding held_in_new
  held_new m = ap not m

  pub holder-old : held_in_new p key ≡ false → holder p key ≡ p.old
  unfolding holder
  holder-old h = ap (λ (b : Bool). cond b p.new p.old) h

  pub holder-new : held_in_new p key ≡ true → holder p key ≡ p.new
  unfolding holder
  holder-new h = ap (λ (b : Bool). cond b p.new p.old) h

  -- ---- by how the search ended
  module _ (z : pair_number p [] ≡ 0) (a : name_allowed (old_key p) key ≡ true) (r : PairLocated) (s : Probe) where
    pub locates-old : s ≡ search (layout_of p.old) p.old key → is_met s ≡ true
        → Shows (layout_of p.old) p.old s r.located.number r.located.start.0 r.located.length
        → r.in_new ≡ false → Locates p key r
    unfolding old_probe
    locates-old e m f q =
        let h : held_in_new p key ≡ false = held-old (ap is_met (sym e) ∙ m) in
        locates-in r (name-0 z a) p.old (holder-old h)
        (located-found p.old key (seek-0 p.old key true (pair-open p z).first a refl) _ _ _ s e f)
        (q ∙ sym h)

    pub locates-new : is_met (search (layout_of p.old) p.old key) ≡ false
        → s ≡ search (layout_of p.new) p.new key
        → Shows (layout_of p.new) p.new s r.located.number r.located.start.0 r.located.length
        → r.in_new ≡ true → Locates p key r
    unfolding old_probe
    locates-new m e f q =
        let o = pair-open p z in
        let h : held_in_new p key ≡ true = held_new m in
        locates-in r (name-0 z a) p.new (holder-new h)
        (located-found p.new key
        (seek-0 p.new key true o.second (ap (λ (k : ℕ). name_allowed k key) o.key-is ∙ a) refl)
        _ _ _ s e f)
        (q ∙ sym h)

  -- ---- the part that is shown

  module _ (img : Bytes) (h : grow_name_number p key ≡ 0 → holder p key ≡ img) where
    pub none-start : (grow_name_number p key ≡ 0 → ⊥) → grow_lookup_start p key ≡ 0
    unfolding grow_lookup_start
    none-start z = zero-no (grow_name_number p key) (lookup_start (holder p key) key) 0 z

    none-length : (grow_name_number p key ≡ 0 → ⊥) → grow_lookup_length p key ≡ 0
    unfolding grow_lookup_length
    none-length z = zero-no (grow_name_number p key) (lookup_length (holder p key) key) 0 z

    pub some-start : grow_name_number p key ≡ 0 → grow_lookup_start p key ≡ lookup_start img key
    unfolding grow_lookup_start
    some-start z =
        zero-yes (grow_name_number p key) (lookup_start (holder p key) key) 0 z
        ∙ ap (λ (i : Bytes). lookup_start i key) (h z)

    pub some-length : grow_name_number p key ≡ 0 → grow_lookup_length p key ≡ lookup_length img key
    unfolding grow_lookup_length
    some-length z =
        zero-yes (grow_name_number p key) (lookup_length (holder p key) key) 0 z
        ∙ ap (λ (i : Bytes). lookup_length i key) (h z)

    pub pair_inside : grow_lookup_start p key + grow_lookup_length p key ≤ length img
    pair_inside =
        by-eq (grow_name_number p key) 0
        (λ z. omega (arith, some-start z, some-length z, inside img key))
        (λ z. omega (arith, none-start z, none-length z))

    abbrev Answered : ℕ → ℕ → Bytes → Answer → Type 0
    Answered n start t a =
        (n ≡ a.number)
        × ((not (eqb start 0) ≡ is_text a.text) × ((t ≡ bytes_of a.text) × (length t ≡ a.amount)))

    pub shows-pair : (n start : ℕ) (t : Bytes) → n ≡ (grow_lookup p key).answer.number → start ≡ grow_lookup_start p key
        → t ≡ part img (grow_lookup_start p key) (grow_lookup_length p key)
        → Answered n start t (grow_lookup p key).answer
    unfolding grow_lookup lookup plain is_text bytes_of
    shows-pair n start t e s q =
        let k = grow_name_number p key in
        by-eq k 0
        (λ z.
        let is : (grow_lookup p key).answer ≡ (lookup img key).answer =
        zero-yes k (lookup (holder p key) key).answer (plain k) z
        ∙ ap (λ (i : Bytes). (lookup i key).answer) (h z) in
        let w =
        lookup-answer img key n start t (e ∙ ap (λ (a : Answer). a.number) is) (s ∙ some-start z)
        (q ∙ rw (some-start z, some-length z) refl) in
        subst (Answered n start t) (sym is) (w.0, (w.1, (w.2, w.3))))
        (λ z.
        let is : (grow_lookup p key).answer ≡ plain k =
        zero-no k (lookup (holder p key) key).answer (plain k) z in
        let empty : t ≡ [] = q ∙ rw (none-length z) (part-zero img (grow_lookup_start p key)) in
        subst (Answered n start t) (sym is) (
          e ∙ ap (λ (a : Answer). a.number) is,
          (ap (λ (x : ℕ). not (eqb x 0)) (s ∙ none-start z), (empty, ap length empty)),
        ))
