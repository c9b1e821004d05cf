-- Recovery as the code does it, case by case.
--     is-marked, is-other          the last byte, and whether it is the mark
--     recover-empty, recover-unsound, recover-none, recover-other, recover-marked      what recovery answers and leaves
-- Assumes nothing.
use mathlib.Core.Path.{◌≡◌, refl, sym, ap, ap₂, ◌∙◌, subst}
use Prim.Native.Nat.{ℕ, ◌-◌, ◌≤◌, ◌<◌}
use native.Mathlib.Omega.{arith}
use mathlib.Core.Bool.{Bool, true, false, cond, not, ◌&&◌, ◌||◌}
use lib.ListN.{length, take, set, get_or}
use lib.Seq.{set-get_or}
use borrow.Author.Tests.{le-leb, lt-leb, eq-eqb, ne_eqb}
use Rattle.spec_file.specs.Bytes.{Bytes}
use Rattle.spec_changes.specs.Journal.{mark_place, mark, marked, all_written, pair_count, is_marked, journal_sound, recover_number, recovered, recoveries}
use Rattle.spec_changes.proofs.Recovery.{recovered-other, recovered-marked, recovered-refused}
use Rattle.journal_recover.specs.Updates.{Updates}
use Rattle.journal_recover.proofs.Settling.{settled-all, updates-as, updates-same, mark-stored}

pub is-marked : (j : Bytes) → get_or j (length j - 1) 0 ≡ 165 → is_marked j ≡ true
unfolding is_marked mark mark_place
is-marked j h = eq-eqb (get_or j (length j - 1) 0) marked h

pub is-other : (j : Bytes) → (get_or j (length j - 1) 0 ≡ 165 → ⊥) → is_marked j ≡ false
unfolding is_marked mark mark_place
is-other j h = ne_eqb (get_or j (length j - 1) 0) marked h

-- what recovery answers of an image and a journal, and leaves
abbrev pub Recovers : Bytes → Bytes → ℕ → Bytes → Bytes → Type 0
Recovers img j n img' j' =
    (n ≡ recover_number (length img) j) × Updates (recovered (record { image = img; journal = j })) img' j'

refused : (img j : Bytes) → recover_number (length img) j ≡ 18 → Recovers img j 18 img j
refused img j h =
    let still : recovered (record { image = img; journal = j }) ≡ record { image = img; journal = j } =
    recovered-refused (record { image = img; journal = j }) (λ z. not-18 (sym h ∙ z)) in
    (sym h, updates-as still refl refl)
  where
    not-18 : ◌≡◌ {A = ℕ} 18 0 → ⊥
    not-18 z = omega arith

pub recover-empty : (img j : Bytes) → length j ≡ 0 → Recovers img j 18 img j
recover-empty img j h =
    refused img j
    (unfold recover_number in
    ap (λ (b : Bool). cond (b && (not (is_marked j) || journal_sound (length img) j)) 0 18)
    (lt-leb 1 (length j) (omega arith)))

pub recover-unsound : (img j : Bytes) → 1 ≤ length j → is_marked j ≡ true → journal_sound (length img) j ≡ false
    → Recovers img j 18 img j
recover-unsound img j some m s =
    refused img j
    (unfold recover_number in
    (ap₂ (λ (a b : Bool). cond (a && (not b || journal_sound (length img) j)) 0 18) (le-leb 1 (length j) some) m
    ∙ ap (λ (a : Bool). cond a 0 18) s))

pub recover-other : (img j : Bytes) → 1 ≤ length j → is_marked j ≡ false
    → Recovers img j 0 img (set j (length j - 1) 0)
recover-other img j some m = (
  sym (unfold recover_number in
      ap₂ (λ (a b : Bool). cond (a && (not b || journal_sound (length img) j)) 0 18) (le-leb 1 (length j) some) m),
  updates-as (recovered-other img j some m) refl (mark-stored j j 0 refl some),
)

-- a mark that is 0 already
pub recover-none : (img j : Bytes) → 1 ≤ length j → get_or j (length j - 1) 0 ≡ 0 → Recovers img j 0 img j
recover-none img j some z =
    let same : set j (length j - 1) 0 ≡ j =
    ap (set j (length j - 1)) (sym z) ∙ set-get_or j (length j - 1) 0 in
    subst (Recovers img j 0 img) same
    (recover-other img j some (is-other j (λ m. not-marked (sym z ∙ m))))
  where
    not-marked : ◌≡◌ {A = ℕ} 0 165 → ⊥
    not-marked e = omega arith

pub recover-marked : (img j : Bytes) → 1 ≤ length j → is_marked j ≡ true → journal_sound (length img) j ≡ true
    → (n : ℕ) → pair_count j < n → (img' j' : Bytes)
    → Updates (all_written (take n (recoveries j)) (record { image = img; journal = j })) img' j'
    → Recovers img j 0 img' j'
recover-marked img j some m s n h img' j' u = (
  sym (unfold recover_number in
      (ap₂ (λ (a b : Bool). cond (a && (not b || journal_sound (length img) j)) 0 18) (le-leb 1 (length j) some) m
      ∙ ap (λ (a : Bool). cond a 0 18) s)),
  updates-same (settled-all img j n h ∙ sym (recovered-marked img j some m s)) u,
)
