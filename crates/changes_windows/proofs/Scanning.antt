-- A scan of two images, place by place, and what it writes, piece by piece.
--     rest-to, rest_end, run-to      equal bytes passed over; nothing left at the end; a run and what is left
--     Counting      runs counted up to a place, with its turns
--     Writing       what f makes of the runs, written up to a place, with its turns; of pairs and of new bytes
-- Assumes nothing.
use mathlib.Core.Path.{◌≡◌, refl, sym, ap, ap₂, ◌∙◌, subst}
use Prim.Native.Nat.{ℕ, zero, suc, ◌+◌, ◌-◌, ◌*◌, ◌≤◌, ◌<◌}
use native.Mathlib.Numerals.{add-one}
use native.Mathlib.Omega.{arith}
use mathlib.Core.Bool.{Bool, cond}
use mathlib.Core.List.{List, [], ◌∷◌, ◌++◌, append_assoc, append-nil}
use mathlib.Core.Logic.{◌⊎◌, inl, inr}
use lib.ListN.{length, drop, get_or, length-append}
use lib.Seq.{drop-cons, drop-length}
use borrow.Author.Tests.{le-leb, lt-leb}
use Rattle.spec_file.specs.Bytes.{Bytes, part, store, digits}
use Rattle.spec_file.specs.Image.{set_field}
use Rattle.spec_changes.specs.Changes.{Pair, joined, runs, pair_bytes, whole, changes_in, Spread}
use Rattle.spec_changes.specs.Journal.{new_bytes, total}
use Rattle.law_file.proofs.Tests.{by_le}
use Rattle.law_file.proofs.Bytes.{length_digits, length-store}
use Rattle.law_file.proofs.Stores.{store-none, store-append}
use Rattle.spec_changes.proofs.Changes.{joined-next, joined-apart, runs_same, runs-differ, spread-runs}
use Rattle.changes_windows.specs.Scans.{rest, Differ, ToChange, RunTo, Measured}

module _ (old new : Bytes) (l : length old ≡ length new) where
  opened : (i : ℕ) → i < length old
      → rest old new i ≡ runs i (get_or old i 0 ∷ drop (suc i) old) (get_or new i 0 ∷ drop (suc i) new)
  opened i h = ap₂ (runs i) (drop-cons old i 0 h) (drop-cons new i 0 (omega arith))

  next-is : (i : ℕ) → runs (suc i) (drop (suc i) old) (drop (suc i) new) ≡ rest old new (i + 1)
  next-is i = ap (rest old new) (sym (add-one i))

  rest-same : (i : ℕ) → i < length old → get_or old i 0 ≡ get_or new i 0 → rest old new i ≡ rest old new (i + 1)
  rest-same i h e =
      opened i h ∙ runs_same i (get_or old i 0) (get_or new i 0) (drop (suc i) old) (drop (suc i) new) e ∙ next-is i

  rest-differ : (i : ℕ) → i < length old → Differ old new i → rest old new i ≡ joined i (rest old new (i + 1))
  rest-differ i h e =
      opened i h ∙ runs-differ i (get_or old i 0) (get_or new i 0) (drop (suc i) old) (drop (suc i) new) e
      ∙ ap (joined i) (next-is i)

  pub rest_end : (i : ℕ) → i ≡ length old → rest old new i ≡ []
  unfolding runs
  rest_end i e = ap (λ (t : Bytes). runs i t (drop i new)) (ap (λ (n : ℕ). drop n old) e ∙ drop-length old)

  -- what is left begins at or behind its place
  rest-spread : (i : ℕ) → Spread i (i + length (drop i old)) (rest old new i)
  rest-spread i = spread-runs i (drop i old) (drop i new)

  -- where a run stops
  abbrev pub Stops : ℕ → Type 0
  Stops i = (i ≡ length old) ⊎ ((i < length old) × (get_or old i 0 ≡ get_or new i 0))

  joined-alone : (k : ℕ) (rs : List Pair) (top : ℕ) → Spread (suc (suc k)) top rs
      → joined k rs ≡ record { at = k; size = 1 } ∷ rs
  joined-alone k [] top s = unfold joined in refl
  joined-alone k (r ∷ rs) top s = joined-apart k r rs (λ e. omega (arith, s.0))

  rest-run : (n from : ℕ) → from + n < length old → ((j : ℕ) → from ≤ j → j < from + suc n → Differ old new j)
      → Stops (from + suc n)
      → rest old new from ≡ record { at = from; size = suc n } ∷ rest old new (from + suc n)
  rest-run zero from h d (inl e) =
      let place : from + 1 ≡ length old = e in
      rest-differ from (omega arith) (d from (omega arith) (omega arith))
      ∙ ap (joined from) (rest_end (from + 1) place)
      ∙ joined-alone from [] 0 tt
      ∙ ap (λ (t : List Pair). record { at = from; size = 1 } ∷ t) (sym (rest_end (from + 1) place))
  rest-run zero from h d (inr e) =
      rest-differ from (omega arith) (d from (omega arith) (omega arith))
      ∙ ap (joined from) (rest-same (from + 1) e.0 e.1)
      ∙ joined-alone from (rest old new (from + 1 + 1)) (from + 1 + 1 + length (drop (from + 1 + 1) old))
      (subst (λ (k : ℕ). Spread k (from + 1 + 1 + length (drop (from + 1 + 1) old)) (rest old new (from + 1 + 1))) two
      (rest-spread (from + 1 + 1)))
      ∙ ap (λ (t : List Pair). record { at = from; size = 1 } ∷ t) (sym (rest-same (from + 1) e.0 e.1))
    where
      two : from + 1 + 1 ≡ suc (suc from)
      two = omega arith
  rest-run (suc n) from h d e =
      let shift : from + 1 + suc n ≡ from + suc (suc n) = omega arith in
      let ih : rest old new (from + 1) ≡ record { at = from + 1; size = suc n } ∷ rest old new (from + 1 + suc n) =
      rest-run n (from + 1) (omega arith) (λ j a b. d j (omega arith) (omega arith)) (subst Stops (sym shift) e) in
      rest-differ from (omega arith) (d from (omega arith) (omega arith))
      ∙ ap (joined from) ih
      ∙ joined-next from (record { at = from + 1; size = suc n }) (rest old new (from + 1 + suc n)) (add-one from)
      ∙ ap (λ (k : ℕ). record { at = from; size = suc (suc n) } ∷ rest old new k) shift

  -- the same, by the place where it stops
  pub run-to : (from i : ℕ) → from < i → i ≤ length old → ((j : ℕ) → from ≤ j → j < i → Differ old new j) → Stops i
      → RunTo old new from i
  run-to from i h k d e =
      let n : ℕ = i - from - 1 in
      let place : from + suc n ≡ i = omega arith in
      let size : suc n ≡ i - from = omega arith in
      record {
        low = h;
        high = k;
        run =
            rest-run n from (omega arith) (λ j a b. d j a (omega arith)) (subst Stops (sym place) e)
            ∙ ap₂ (λ (s t : ℕ). record { at = from; size = s } ∷ rest old new t) size place;
      }

  -- equal bytes passed over
  pub rest-passed : (n i : ℕ) → i + n ≤ length old
      → ((j : ℕ) → i ≤ j → j < i + n → get_or old j 0 ≡ get_or new j 0)
      → rest old new i ≡ rest old new (i + n)
  rest-passed zero i h e = ap (rest old new) (omega arith)
  rest-passed (suc n) i h e =
      rest-same i (omega arith) (e i (omega arith) (omega arith))
      ∙ rest-passed n (i + 1) (omega arith) (λ j a b. e j (omega arith) (omega arith))
      ∙ ap (rest old new) (omega arith)

  -- the same, by the place where it ends
  pub rest-to : (i r : ℕ) → i ≤ r → r ≤ length old → ((j : ℕ) → i ≤ j → j < r → get_or old j 0 ≡ get_or new j 0)
      → rest old new i ≡ rest old new r
  rest-to i r l h e =
      let place : i + (r - i) ≡ r = omega arith in
      rest-passed (r - i) i (omega arith) (λ j a b. e j a (omega arith)) ∙ ap (rest old new) place

  -- a run does not stop where it begins
  pub stops-later : (from i : ℕ) → from < length old → Differ old new from → from ≤ i → Stops i → from < i
  stops-later from i h d l (inl e) = omega arith
  stops-later from i h d l (inr e) =
      by_le i from
      (λ k.
      let same : i ≡ from = omega arith in
      absurd (d (subst (λ (n : ℕ). get_or old n 0 ≡ get_or new n 0) same e.1)))
      (λ k. k)

-- ---- counted

pub record Counting (old new : Bytes) (pairs bytes at : ℕ) : Type 0 where
  pub high : at ≤ length old
  pub change : at < length old → Differ old new at
  pub counted : pairs + length (rest old new at) ≡ length (runs 0 old new)
  pub summed : bytes + total (rest old new at) ≡ total (runs 0 old new)
  pub few : pairs ≤ at
  pub small : bytes ≤ at

pub counting-start : (old new : Bytes) (at : ℕ) → ToChange old new 0 at → Counting old new 0 0 at
counting-start old new at t =
    record {
      high = t.high;
      change = t.change;
      counted = let e = ap (λ (l : List Pair). length l) t.same in omega (arith, e);
      summed = let e = ap total t.same in omega (arith, e);
      few = omega arith;
      small = omega arith;
    }

pub counting_more : (old new : Bytes) (pairs bytes at end at' : ℕ) → Counting old new pairs bytes at
    → RunTo old new at end → ToChange old new end at'
    → Counting old new (pairs + 1) (bytes + (end - at)) at'
unfolding total
counting_more old new pairs bytes at end at' k r t =
    let count : length (rest old new at) ≡ suc (length (rest old new at')) =
    ap (λ (l : List Pair). length l) r.run ∙ ap (λ (l : List Pair). suc (length l)) t.same in
    let sum : total (rest old new at) ≡ end - at + total (rest old new at') =
    ap total r.run ∙ ap (λ (l : List Pair). end - at + total l) t.same in
    record {
      high = t.high;
      change = t.change;
      counted = omega (arith, k.counted, count);
      summed = omega (arith, k.summed, sum);
      few = omega (arith, k.few, r.low, t.low);
      small = omega (arith, k.small, r.low, t.low);
    }

pub counting-end : (old new : Bytes) (pairs bytes at : ℕ) → length old ≡ length new → Counting old new pairs bytes at
    → length old ≤ at → Measured (runs 0 old new) (length old) pairs bytes
counting-end old new pairs bytes at l k h =
    let none' : rest old new at ≡ [] = rest_end old new l at (omega (arith, k.high)) in
    let count : length (rest old new at) ≡ 0 = ap (λ (r : List Pair). length r) none' in
    let sum : total (rest old new at) ≡ 0 = ap total none' ∙ total-nil in
    record {
      counted = omega (arith, k.counted, count);
      summed = omega (arith, k.summed, sum);
      few = omega (arith, k.few, k.high);
      small = omega (arith, k.small, k.high);
    }
  where
    total-nil : total [] ≡ 0
    total-nil = unfold total in refl

-- ---- written, piece by piece: f of the runs, from `place` on, into b₀; what is left is to be written at `to`

pub record Writing (f : List Pair → Bytes) (b₀ : Bytes) (place : ℕ) (old new b : Bytes) (to at : ℕ) : Type 0 where
  pub high : at ≤ length old
  pub change : at < length old → Differ old new at
  pub size : length b ≡ length b₀
  pub ends : to + length (f (rest old new at)) ≡ place + length (f (runs 0 old new))
  pub stored : store b to (f (rest old new at)) ≡ store b₀ place (f (runs 0 old new))

pub writing_start : (f : List Pair → Bytes) (b : Bytes) (place : ℕ) (old new : Bytes) (at : ℕ) → ToChange old new 0 at
    → Writing f b place old new b place at
writing_start f b place old new at t =
    record {
      high = t.high;
      change = t.change;
      size = refl;
      ends = ap (λ (l : List Pair). place + length (f l)) (sym t.same);
      stored = ap (λ (l : List Pair). store b place (f l)) (sym t.same);
    }

module _ (f : List Pair → Bytes) (piece : Pair → Bytes)
    (step : (r : Pair) (rs : List Pair) → f (r ∷ rs) ≡ piece r ++ f rs)
    (b₀ : Bytes) (place : ℕ) (old new : Bytes) (fits : place + length (f (runs 0 old new)) ≤ length b₀) where
  -- room for the piece of the run at hand
  pub writing-room : (b : Bytes) (to at end : ℕ) → Writing f b₀ place old new b to at → RunTo old new at end
      → to + length (piece (record { at = at; size = end - at })) + length (f (rest old new end)) ≤ length b
  writing-room b to at end w r =
      let p : Bytes = piece (record { at = at; size = end - at }) in
      let split : length (f (rest old new at)) ≡ length p + length (f (rest old new end)) =
      ap (λ (l : List Pair). length (f l)) r.run
      ∙ ap (λ (t : Bytes). length t) (step (record { at = at; size = end - at }) (rest old new end))
      ∙ length-append p (f (rest old new end)) in
      omega (arith, w.ends, w.size, fits)

  pub writing_more : (b : Bytes) (to at end : ℕ) (b' : Bytes) (to' at' : ℕ) → Writing f b₀ place old new b to at
      → RunTo old new at end → ToChange old new end at'
      → b' ≡ store b to (piece (record { at = at; size = end - at }))
      → to' ≡ to + length (piece (record { at = at; size = end - at }))
      → Writing f b₀ place old new b' to' at'
  writing_more b to at end b' to' at' w r t e q =
      let p : Bytes = piece (record { at = at; size = end - at }) in
      let room : to + length p + length (f (rest old new end)) ≤ length b = writing-room b to at end w r in
      let whole : f (rest old new at) ≡ p ++ f (rest old new end) =
      ap f r.run ∙ step (record { at = at; size = end - at }) (rest old new end) in
      let split : length (f (rest old new at)) ≡ length p + length (f (rest old new end)) =
      ap (λ (t : Bytes). length t) whole ∙ length-append p (f (rest old new end)) in
      let later : length (f (rest old new end)) ≡ length (f (rest old new at')) =
      ap (λ (l : List Pair). length (f l)) t.same in
      record {
        high = t.high;
        change = t.change;
        size = ap (λ (x : Bytes). length x) e ∙ length-store b to p (omega arith) ∙ w.size;
        ends = omega (arith, w.ends, split, later, q);
        stored =
            ap (λ (l : List Pair). store b' to' (f l)) (sym t.same)
            ∙ ap₂ (λ (x : Bytes) (n : ℕ). store x n (f (rest old new end))) e q
            ∙ store-append b to p (f (rest old new end)) room
            ∙ ap (store b to) (sym whole)
            ∙ w.stored;
      }

  pub writing-end : f [] ≡ [] → (b : Bytes) (to at : ℕ) → length old ≡ length new → Writing f b₀ place old new b to at
      → length old ≤ at → b ≡ store b₀ place (f (runs 0 old new))
  writing-end nil b to at l w h =
      let none' : f (rest old new at) ≡ [] = ap f (rest_end old new l at (omega (arith, w.high))) ∙ nil in
      sym (store-none b to) ∙ ap (store b to) (sym none') ∙ w.stored

-- ---- the two kinds of pieces

pub pair-piece : Pair → Bytes
pair-piece r = digits 4 r.at ++ digits 4 r.size

pub pair_step : (r : Pair) (rs : List Pair) → pair_bytes (r ∷ rs) ≡ pair-piece r ++ pair_bytes rs
unfolding pair_bytes pair-piece
pair_step r rs = sym (append_assoc (digits 4 r.at) (digits 4 r.size) (pair_bytes rs))

pub length-piece : (r : Pair) → length (pair-piece r) ≡ 8
unfolding pair-piece
length-piece r =
    length-append (digits 4 r.at) (digits 4 r.size)
    ∙ ap₂ ◌+◌ (length_digits 4 r.at) (length_digits 4 r.size)

pub piece_is : (at size : ℕ) → digits 4 at ++ digits 4 size ≡ pair-piece (record { at = at; size = size })
unfolding pair-piece
piece_is at size = refl

pub pairs-nil : pair_bytes [] ≡ []
unfolding pair_bytes
pairs-nil = refl

pub part-piece : Bytes → Pair → Bytes
part-piece new r = part new r.at r.size

pub part_step : (new : Bytes) (r : Pair) (rs : List Pair) → new_bytes (r ∷ rs) new ≡ part-piece new r ++ new_bytes rs new
unfolding new_bytes part-piece
part_step new r rs = refl

pub part-is : (new : Bytes) (at size : ℕ) → part new at size ≡ part-piece new (record { at = at; size = size })
unfolding part-piece
part-is new at size = refl

pub bytes-nil : (new : Bytes) → new_bytes [] new ≡ []
unfolding new_bytes
bytes-nil new = refl

-- two numbers one behind the other
pub two_fields : (b : Bytes) (to at size : ℕ) → to + 8 ≤ length b
    → set_field (set_field b to at) (to + 4) size ≡ store b to (digits 4 at ++ digits 4 size)
unfolding set_field
two_fields b to at size h =
    let la : length (digits 4 at) ≡ 4 = length_digits 4 at in
    let ls : length (digits 4 size) ≡ 4 = length_digits 4 size in
    ap (λ (n : ℕ). store (store b to (digits 4 at)) (to + n) (digits 4 size)) (sym la)
    ∙ store-append b to (digits 4 at) (digits 4 size) (omega arith)

-- ---- the list, by whether the pairs fit

pub changes-fit : (room : ℕ) (old new : Bytes) → 8 * length (runs 0 old new) ≤ room
    → changes_in room old new ≡ runs 0 old new
unfolding changes_in
changes-fit room old new h =
    ap (λ (b : Bool). cond b (runs 0 old new) (whole (length new))) (le-leb (8 * length (runs 0 old new)) room h)

pub changes-whole : (room : ℕ) (old new : Bytes) → room < 8 * length (runs 0 old new)
    → changes_in room old new ≡ whole (length new)
unfolding changes_in
changes-whole room old new h =
    ap (λ (b : Bool). cond b (runs 0 old new) (whole (length new))) (lt-leb (8 * length (runs 0 old new)) room h)

-- the bytes of the single pair 0, L
pub whole-bytes : (L : ℕ) → digits 4 0 ++ digits 4 L ≡ pair_bytes (whole L)
whole-bytes L =
    piece_is 0 L
    ∙ sym (pair_step (record { at = 0; size = L }) []
    ∙ ap (λ (t : Bytes). pair-piece (record { at = 0; size = L }) ++ t) pairs-nil
    ∙ append-nil (pair-piece (record { at = 0; size = L })))
