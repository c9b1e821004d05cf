-- What the calls on a pair answer fits 32 bits; and which image shows the text.
--     grow-lookup-small, grow-at-small      as the plain calls' of the image that is shown
--     lookup-side, dated-side      the new image shows the text, as the code tells it
-- Assumes nothing.
use mathlib.Core.Path.{◌≡◌, refl, sym, ap, ap₂, ◌∙◌}
use Prim.Native.Nat.{ℕ, ◌+◌, ◌≤◌}
use native.Mathlib.Omega.{arith}
use mathlib.Core.Bool.{Bool, true, false, cond, not, ◌&&◌}
use lib.Dec.{eqb}
use Rattle.spec_file.specs.Bytes.{Bytes}
use Rattle.spec_file.specs.Limits.{most_image}
use Rattle.spec_file.specs.Calls.{lookup_start, lookup_length}
use Rattle.spec_epoch.specs.Epochs.{Dated, refused_dated, at_epoch}
use Rattle.spec_moves.specs.Moves.{Pair}
use Rattle.spec_growth.specs.Growth.{held_in_new, holder, grow_name_number, grow_lookup_start, grow_lookup_length, grow_lookup_in_new, dated_in_new, dated_holder, grow_dated_number, grow_at_epoch, grow_dated_in}
use Rattle.law_file.proofs.Tests.{by-eq, zero-yes, zero-no}
use Rattle.law_epoch.proofs.Answers.{at_small}
use Rattle.call_grow_lookup.specs.Locates.{Locates}
use Rattle.call_grow_lookup.specs.declared.PairLocated.{PairLocated}
use Rattle.call_grow_at_epoch.specs.Dates.{Dates}
use Rattle.call_grow_at_epoch.specs.declared.PairDated.{PairDated}
use Rattle.call_grow_at_epoch.proofs.Choosing.{dated-refused, dated-held}
use Rattle.export_lookup.proofs.Small.{lookup-small}

module _ (p : Pair) (key : Bytes) where
  abbrev k : ℕ
  k = grow_name_number p key

  pub grow-lookup-small : grow_lookup_start p key + grow_lookup_length p key ≤ most_image
  unfolding grow_lookup_start grow_lookup_length
  grow-lookup-small =
      by-eq k 0
      (λ z.
      omega (
        arith,
        zero-yes k (lookup_start (holder p key) key) 0 z,
        zero-yes k (lookup_length (holder p key) key) 0 z,
        lookup-small (holder p key) key,
      ))
      (λ z.
      omega (
        arith,
        zero-no k (lookup_start (holder p key) key) 0 z,
        zero-no k (lookup_length (holder p key) key) 0 z,
      ))

  pub lookup-side : (r : PairLocated) → Locates p key r → (start n : ℕ) → start ≡ grow_lookup_start p key
      → n ≡ cond (not (eqb start 0) && r.in_new) 1 0 → n ≡ grow_lookup_in_new p key
  unfolding grow_lookup_in_new grow_lookup_start
  lookup-side r l start n e q =
      by-eq k 0
      (λ z. q ∙ ap₂ (λ (x : ℕ) (b : Bool). cond (not (eqb x 0) && b) 1 0) e (l.held z))
      (λ z.
      let none' : grow_lookup_start p key ≡ 0 = zero-no k (lookup_start (holder p key) key) 0 z in
      q ∙ ap (λ (x : ℕ). cond (not (eqb x 0) && r.in_new) 1 0) (e ∙ none')
      ∙ sym (ap (λ (x : ℕ). cond (not (eqb x 0) && held_in_new p key) 1 0) none'))

module _ (p : Pair) (name : Bytes) (t : ℕ) where
  abbrev d : ℕ
  d = grow_dated_number p name

  pub grow-at-small : (grow_at_epoch p name t).start + (grow_at_epoch p name t).length ≤ most_image
  unfolding refused_dated
  grow-at-small =
      by-eq d 0
      (λ z.
      omega (
        arith,
        ap (λ (x : Dated). x.start) (dated-held p name t z),
        ap (λ (x : Dated). x.length) (dated-held p name t z),
        at_small (dated_holder p name t) name t,
      ))
      (λ z.
      omega (
        arith,
        ap (λ (x : Dated). x.start) (dated-refused p name t z),
        ap (λ (x : Dated). x.length) (dated-refused p name t z),
      ))

  pub dated-side : (r : PairDated) → Dates p name t r → (start n : ℕ) → start ≡ (grow_at_epoch p name t).start
      → n ≡ cond (not (eqb start 0) && r.in_new) 1 0 → n ≡ grow_dated_in p name t
  unfolding grow_dated_in refused_dated
  dated-side r l start n e q =
      by-eq d 0
      (λ z. q ∙ ap₂ (λ (x : ℕ) (b : Bool). cond (not (eqb x 0) && b) 1 0) e (l.held z))
      (λ z.
      let none' : (grow_at_epoch p name t).start ≡ 0 = ap (λ (x : Dated). x.start) (dated-refused p name t z) in
      q ∙ ap (λ (x : ℕ). cond (not (eqb x 0) && r.in_new) 1 0) (e ∙ none')
      ∙ sym (ap (λ (x : ℕ). cond (not (eqb x 0) && dated_in_new p name t) 1 0) none'))
