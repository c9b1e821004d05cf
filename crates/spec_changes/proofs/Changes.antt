-- The list of changes: where its stretches lie, what they cover, and that copying them makes the old image the new one.
--     spread-runs          the runs lie apart from one another
--     covered-runs         a byte is listed exactly when its value changed: nothing shorter would do
--     near-copy, near-any, near_none      one stretch copied leaves the others; any bytes may stand in a stretch; no
--                          stretch left is equality
--     copied-changes       copying the listed stretches of the new image into the old one gives the new one
-- Assumes nothing.
use mathlib.Core.Path.{◌≡◌, refl, sym, ap, ap₂, ◌∙◌, subst}
use Prim.Native.Nat.{ℕ, zero, suc, ◌+◌, ◌-◌, ◌*◌, ◌≤◌, ◌<◌}
use native.Mathlib.Omega.{arith}
use mathlib.Core.Bool.{Bool, true, false, cond, not, ◌&&◌, ◌||◌, true≢false}
use mathlib.Core.List.{List, [], ◌∷◌}
use lib.ListN.{length, get_or}
use lib.Seq.{ext_get_or}
use lib.Dec.{leb, ltb, eqb}
use borrow.Author.Tests.{le-leb, lt-leb, lt-ltb, le-ltb, eq-eqb, ne_eqb, eqb-true, not-false}
use Rattle.spec_file.specs.Bytes.{Bytes, part, store}
use Rattle.spec_changes.specs.Changes.{Pair, joined, runs, covered, Spread, Near, whole, changes_in, copied}
use Rattle.law_file.proofs.Tests.{by_bool, by_le, by-eq, or_no}
use Rattle.law_file.proofs.Bytes.{part_length, length-store}
use Rattle.law_file.proofs.Byte.{byte-part, byte-store-below, byte-store-above, byte-store-inside}

-- ---- runs, byte by byte

pub joined-next : (k : ℕ) (r : Pair) (rs : List Pair) → r.at ≡ suc k
    → joined k (r ∷ rs) ≡ record { at = k; size = suc r.size } ∷ rs
unfolding joined
joined-next k r rs e =
    ap (λ (b : Bool). cond b (record { at = k; size = suc r.size } ∷ rs) (record { at = k; size = 1 } ∷ r ∷ rs))
    (eq-eqb r.at (suc k) e)

pub joined-apart : (k : ℕ) (r : Pair) (rs : List Pair) → (r.at ≡ suc k → ⊥)
    → joined k (r ∷ rs) ≡ record { at = k; size = 1 } ∷ r ∷ rs
unfolding joined
joined-apart k r rs e =
    ap (λ (b : Bool). cond b (record { at = k; size = suc r.size } ∷ rs) (record { at = k; size = 1 } ∷ r ∷ rs))
    (ne_eqb r.at (suc k) e)

pub runs_same : (k a b : ℕ) (old new : Bytes) → a ≡ b → runs k (a ∷ old) (b ∷ new) ≡ runs (suc k) old new
unfolding runs
runs_same k a b old new e =
    ap (λ (t : Bool). cond t (runs (suc k) old new) (joined k (runs (suc k) old new))) (eq-eqb a b e)

pub runs-differ : (k a b : ℕ) (old new : Bytes) → (a ≡ b → ⊥)
    → runs k (a ∷ old) (b ∷ new) ≡ joined k (runs (suc k) old new)
unfolding runs
runs-differ k a b old new e =
    ap (λ (t : Bool). cond t (runs (suc k) old new) (joined k (runs (suc k) old new))) (ne_eqb a b e)

-- ---- where the stretches lie

pub spread-from : (j k top : ℕ) (rs : List Pair) → j ≤ k → Spread k top rs → Spread j top rs
spread-from j k top [] h s = tt
spread-from j k top (r ∷ rs) h s = (omega (arith, s.0), s.1, s.2, s.3)

spread-joined : (k top : ℕ) (rs : List Pair) → k < top → Spread (suc k) top rs → Spread k top (joined k rs)
spread-joined k top [] h s = unfold joined in (omega arith, omega arith, omega arith, tt)
spread-joined k top (r ∷ rs) h s =
    by-eq r.at (suc k)
    (λ e.
    let place : r.at + r.size ≡ k + suc r.size = omega arith in
    subst (Spread k top) (sym (joined-next k r rs e))
    (omega arith, omega arith, omega (arith, s.2), subst (λ (n : ℕ). Spread (suc n) top rs) place s.3))
    (λ e.
    let first : suc k ≤ r.at = s.0 in
    subst (Spread k top) (sym (joined-apart k r rs e))
    (omega arith, omega arith, omega arith, (omega arith, s.1, s.2, s.3)))

pub spread-runs : (k : ℕ) (old new : Bytes) → Spread k (k + length old) (runs k old new)
spread-runs k [] new = unfold runs in tt
spread-runs k (a ∷ old) [] = unfold runs in tt
spread-runs k (a ∷ old) (b ∷ new) =
    let top : suc k + length old ≡ k + length (a ∷ old) = omega arith in
    let ih : Spread (suc k) (k + length (a ∷ old)) (runs (suc k) old new) =
    subst (λ (n : ℕ). Spread (suc k) n (runs (suc k) old new)) top (spread-runs (suc k) old new) in
    by-eq a b
    (λ e. subst (Spread k (k + length (a ∷ old))) (sym (runs_same k a b old new e))
    (spread-from k (suc k) (k + length (a ∷ old)) (runs (suc k) old new) (omega arith) ih))
    (λ e. subst (Spread k (k + length (a ∷ old))) (sym (runs-differ k a b old new e))
    (spread-joined k (k + length (a ∷ old)) (runs (suc k) old new) (omega arith) ih))

-- ---- what they cover

pub inside : Pair → ℕ → Bool
inside r i = leb r.at i && ltb i (r.at + r.size)

pub inside-yes : (r : Pair) (i : ℕ) → r.at ≤ i → i < r.at + r.size → inside r i ≡ true
inside-yes r i h f = unfold inside in ap₂ ◌&&◌ (le-leb r.at i h) (lt-ltb i (r.at + r.size) f)

pub inside-below : (r : Pair) (i : ℕ) → i < r.at → inside r i ≡ false
inside-below r i h = unfold inside in ap (λ (b : Bool). b && ltb i (r.at + r.size)) (lt-leb r.at i h)

pub inside-above : (r : Pair) (i : ℕ) → r.at + r.size ≤ i → inside r i ≡ false
inside-above r i h = unfold inside in ap₂ ◌&&◌ (le-leb r.at i (omega arith)) (le-ltb i (r.at + r.size) h)

pub covered-cons : (r : Pair) (rs : List Pair) (i : ℕ) → covered (r ∷ rs) i ≡ (inside r i || covered rs i)
unfolding covered inside
covered-cons r rs i = refl

pub covered-below : (k top : ℕ) (rs : List Pair) (i : ℕ) → Spread k top rs → i < k → covered rs i ≡ false
covered-below k top [] i s h = unfold covered in refl
covered-below k top (r ∷ rs) i s h =
    let l : k ≤ r.at = s.0 in
    covered-cons r rs i
    ∙ ap₂ ◌||◌ (inside-below r i (omega arith))
    (covered-below (suc (r.at + r.size)) top rs i s.3 (omega arith))

covered-joined : (k top : ℕ) (rs : List Pair) (i : ℕ) → Spread (suc k) top rs
    → covered (joined k rs) i ≡ (eqb i k || covered rs i)
covered-joined k top rs i s =
    by-eq i k
    (λ e. here rs s e ∙ sym (ap (λ (b : Bool). b || covered rs i) (eq-eqb i k e)))
    (λ e. elsewhere rs s e ∙ sym (ap (λ (b : Bool). b || covered rs i) (ne_eqb i k e)))
  where
    -- at k itself
    here : (rs : List Pair) → Spread (suc k) top rs → i ≡ k → covered (joined k rs) i ≡ true
    here [] s e =
        unfold joined in
        (covered-cons (record { at = k; size = 1 }) [] i
        ∙ ap (λ (b : Bool). b || covered [] i) (inside-yes (record { at = k; size = 1 }) i (omega arith) (omega arith)))
    here (r ∷ rs) s e =
        by-eq r.at (suc k)
        (λ f. ap (λ (l : List Pair). covered l i) (joined-next k r rs f)
        ∙ covered-cons (record { at = k; size = suc r.size }) rs i
        ∙ ap (λ (b : Bool). b || covered rs i)
        (inside-yes (record { at = k; size = suc r.size }) i (omega arith) (omega arith)))
        (λ f. ap (λ (l : List Pair). covered l i) (joined-apart k r rs f)
        ∙ covered-cons (record { at = k; size = 1 }) (r ∷ rs) i
        ∙ ap (λ (b : Bool). b || covered (r ∷ rs) i)
        (inside-yes (record { at = k; size = 1 }) i (omega arith) (omega arith)))

    -- a stretch of one byte is not there
    lone : (i ≡ k → ⊥) → inside (record { at = k; size = 1 }) i ≡ false
    lone e =
        by_le k i
        (λ h. inside-above (record { at = k; size = 1 }) i (ne-above h e))
        (λ h. inside-below (record { at = k; size = 1 }) i h)
      where
        ne-above : k ≤ i → (i ≡ k → ⊥) → k + 1 ≤ i
        ne-above h e = by_le (k + 1) i (λ l. l) (λ l. absurd (e (omega arith)))

    elsewhere : (rs : List Pair) → Spread (suc k) top rs → (i ≡ k → ⊥) → covered (joined k rs) i ≡ covered rs i
    elsewhere [] s e =
        unfold joined in
        (covered-cons (record { at = k; size = 1 }) [] i ∙ ap (λ (b : Bool). b || covered [] i) (lone e))
    elsewhere (r ∷ rs) s e =
        by-eq r.at (suc k)
        (λ f. ap (λ (l : List Pair). covered l i) (joined-next k r rs f)
        ∙ covered-cons (record { at = k; size = suc r.size }) rs i
        ∙ ap (λ (b : Bool). b || covered rs i) (longer f)
        ∙ sym (covered-cons r rs i))
        (λ f. ap (λ (l : List Pair). covered l i) (joined-apart k r rs f)
        ∙ covered-cons (record { at = k; size = 1 }) (r ∷ rs) i
        ∙ ap (λ (b : Bool). b || covered (r ∷ rs) i) (lone e))
      where
        longer : r.at ≡ suc k → inside (record { at = k; size = suc r.size }) i ≡ inside r i
        longer f =
            by_le (suc k) i
            (λ l. by_le (r.at + r.size) i
            (λ h. inside-above (record { at = k; size = suc r.size }) i (omega arith) ∙ sym (inside-above r i h))
            (λ h. inside-yes (record { at = k; size = suc r.size }) i (omega arith) (omega arith)
            ∙ sym (inside-yes r i (omega arith) h)))
            (λ l. inside-below (record { at = k; size = suc r.size }) i (lower l)
            ∙ sym (inside-below r i (omega arith)))
          where
            lower : i < suc k → i < k
            lower l = by_le (suc i) k (λ h. h) (λ h. absurd (e (omega arith)))

-- "one pair for each unbroken run of bytes whose value changed": exactly the bytes that changed
pub covered-runs : (k : ℕ) (old new : Bytes) (i : ℕ) → length old ≡ length new
    → covered (runs k old new) (k + i) ≡ not (eqb (get_or old i 0) (get_or new i 0))
covered-runs k [] [] i l = unfold runs covered in refl
covered-runs k [] (b ∷ new) i l = absurd (omega arith)
covered-runs k (a ∷ old) [] i l = absurd (omega arith)
covered-runs k (a ∷ old) (b ∷ new) i l =
    let ih : (i : ℕ) → covered (runs (suc k) old new) (suc k + i) ≡ not (eqb (get_or old i 0) (get_or new i 0)) =
    λ i. covered-runs (suc k) old new i (omega arith) in
    by-eq a b
    (λ e. ap (λ (t : List Pair). covered t (k + i)) (runs_same k a b old new e) ∙ same' ih e i)
    (λ e. ap (λ (t : List Pair). covered t (k + i)) (runs-differ k a b old new e)
    ∙ covered-joined k (suc k + length old) (runs (suc k) old new) (k + i) (spread-runs (suc k) old new)
    ∙ differ ih e i)
  where
    same' : ((i : ℕ) → covered (runs (suc k) old new) (suc k + i) ≡ not (eqb (get_or old i 0) (get_or new i 0)))
        → a ≡ b → (i : ℕ)
        → covered (runs (suc k) old new) (k + i) ≡ not (eqb (get_or (a ∷ old) i 0) (get_or (b ∷ new) i 0))
    same' ih e zero =
        covered-below (suc k) (suc k + length old) (runs (suc k) old new) (k + 0) (spread-runs (suc k) old new)
        (omega arith)
        ∙ sym (ap not (eq-eqb a b e))
    same' ih e (suc i) = let m : k + suc i ≡ suc k + i = omega arith in ap (covered (runs (suc k) old new)) m ∙ ih i

    differ : ((i : ℕ) → covered (runs (suc k) old new) (suc k + i) ≡ not (eqb (get_or old i 0) (get_or new i 0)))
        → (a ≡ b → ⊥) → (i : ℕ)
        → (eqb (k + i) k || covered (runs (suc k) old new) (k + i))
        ≡ not (eqb (get_or (a ∷ old) i 0) (get_or (b ∷ new) i 0))
    differ ih e zero =
        ap (λ (t : Bool). t || covered (runs (suc k) old new) (k + 0)) (eq-eqb (k + 0) k (omega arith))
        ∙ sym (ap not (ne_eqb a b e))
    differ ih e (suc i) =
        let m : k + suc i ≡ suc k + i = omega arith in
        ap (λ (t : Bool). t || covered (runs (suc k) old new) (k + suc i)) (ne_eqb (k + suc i) k (λ h. omega arith))
        ∙ ap (covered (runs (suc k) old new)) m ∙ ih i

-- ---- near

pub near_none : (img new : Bytes) → Near [] img new → img ≡ new
near_none img new h = ext_get_or 0 img new h.size (λ i l. h.outside i (unfold covered in refl))

-- more stretches ask less
pub near-more : (r : Pair) (rs : List Pair) (img new : Bytes) → Near rs img new → Near (r ∷ rs) img new
near-more r rs img new h =
    record {
      size = h.size;
      outside = λ i f. h.outside i (or_no (inside r i) (covered rs i) (sym (covered-cons r rs i) ∙ f)).1;
    }

module _ (r : Pair) (rs : List Pair) (img new : Bytes) (fits : r.at + r.size ≤ length new)
    (h : Near (r ∷ rs) img new) where
  -- outside the others and outside r
  apart : (i : ℕ) → covered rs i ≡ false → inside r i ≡ false → get_or img i 0 ≡ get_or new i 0
  apart i f g = h.outside i (covered-cons r rs i ∙ ap₂ ◌||◌ g f)

  -- bytes put into the stretch r, as many as it has
  module _ (v : Bytes) (long : length v ≡ r.size) where
    room : r.at + length v ≤ length img
    room = omega (arith, h.size)

    put-size : length (store img r.at v) ≡ length new
    put-size = length-store img r.at v room ∙ h.size

    put-outside : (i : ℕ) → inside r i ≡ false → covered rs i ≡ false → get_or (store img r.at v) i 0 ≡ get_or new i 0
    put-outside i g f =
        by_le r.at i
        (λ l. by_le (r.at + r.size) i
        (λ m. byte-store-above img r.at v i room (omega arith) ∙ apart i f g)
        (λ m. absurd (true≢false (sym (inside-yes r i l m) ∙ g))))
        (λ l. byte-store-below img r.at v i room l ∙ apart i f g)

    pub near-any : Near (r ∷ rs) (store img r.at v) new
    near-any =
        record {
          size = put-size;
          outside = λ i f.
              let no = or_no (inside r i) (covered rs i) (sym (covered-cons r rs i) ∙ f) in
              put-outside i no.0 no.1;
        }

  pub near-copy : Near rs (store img r.at (part new r.at r.size)) new
  near-copy =
      let v = part new r.at r.size in
      let long : length v ≡ r.size = part_length new r.at r.size fits in
      record {
        size = put-size v long;
        outside = λ i f.
            by_bool (inside r i)
            (λ g. copied-in i long (and-leb i g) (and-ltb i g))
            (λ g. put-outside v long i g f);
      }
    where
      and-leb : (i : ℕ) → inside r i ≡ true → r.at ≤ i
      and-leb i g = by_le r.at i (λ l. l) (λ l. absurd (true≢false (sym g ∙ inside-below r i l)))

      and-ltb : (i : ℕ) → inside r i ≡ true → i < r.at + r.size
      and-ltb i g =
          by_le (suc i) (r.at + r.size) (λ l. l) (λ l. absurd (true≢false (sym g ∙ inside-above r i (omega arith))))

      copied-in : (i : ℕ) → length (part new r.at r.size) ≡ r.size → r.at ≤ i → i < r.at + r.size
          → get_or (store img r.at (part new r.at r.size)) i 0 ≡ get_or new i 0
      copied-in i long l m =
          let v = part new r.at r.size in
          let k : i ≡ r.at + (i - r.at) = omega arith in
          ap (λ (n : ℕ). get_or (store img r.at v) n 0) k
          ∙ byte-store-inside img r.at v (i - r.at) (room v long) (omega arith)
          ∙ byte-part new r.at r.size (i - r.at) (omega arith)
          ∙ ap (λ (n : ℕ). get_or new n 0) (sym k)

-- ---- the two kinds of list

pub near-runs : (old new : Bytes) → length old ≡ length new → Near (runs 0 old new) old new
near-runs old new l =
    record {
      size = l;
      outside = λ i f.
          let z : 0 + i ≡ i = omega arith in
          eqb-true (get_or old i 0) (get_or new i 0)
          (not-false (eqb (get_or old i 0) (get_or new i 0))
          (sym (covered-runs 0 old new i l) ∙ ap (covered (runs 0 old new)) z ∙ f));
    }

-- past the end nothing differs
get_d_past : (b : Bytes) (i : ℕ) → length b ≤ i → get_or b i 0 ≡ 0
get_d_past [] i h = refl
get_d_past (x ∷ b) zero h = absurd (omega arith)
get_d_past (x ∷ b) (suc i) h = get_d_past b i (omega arith)

pub near-whole : (old new : Bytes) → length old ≡ length new → Near (whole (length new)) old new
near-whole old new l =
    record {
      size = l;
      outside = λ i f.
          by_le (length new) i
          (λ h. get_d_past old i (omega arith) ∙ sym (get_d_past new i h))
          (λ h. absurd (true≢false
          (sym (covered-cons (record { at = 0; size = length new }) [] i
          ∙ ap (λ (b : Bool). b || covered [] i)
          (inside-yes (record { at = 0; size = length new }) i (omega arith) (omega arith)))
          ∙ f)));
    }

-- stretches of new copied into an image near it
pub copied-near : (k : ℕ) (rs : List Pair) (new img : Bytes) → Spread k (length new) rs → Near rs img new
    → copied rs new img ≡ new
unfolding copied
copied-near k [] new img s h = near_none img new h
copied-near k (r ∷ rs) new img s h =
    copied-near (suc (r.at + r.size)) rs new (store img r.at (part new r.at r.size)) s.3
    (near-copy r rs img new s.2 h)

pub runs-spread : (old new : Bytes) → length old ≡ length new → Spread 0 (length new) (runs 0 old new)
runs-spread old new l =
    let e : 0 + length old ≡ length new = omega arith in
    subst (λ (n : ℕ). Spread 0 n (runs 0 old new)) e (spread-runs 0 old new)

-- "Copying the listed stretches into a copy of the old image gives the new one", whether or not the pairs fitted
pub copied-changes : (room : ℕ) (old new : Bytes) → length old ≡ length new
    → copied (changes_in room old new) new old ≡ new
unfolding changes_in
copied-changes room old new l = go (leb (8 * length (runs 0 old new)) room)
  where
    all : copied (whole (length new)) new old ≡ new
    all =
        unfold copied in
        near_none (store old 0 (part new 0 (length new))) new
        (near-copy (record { at = 0; size = length new }) [] old new (omega arith) (near-whole old new l))

    go : (b : Bool) → copied (cond b (runs 0 old new) (whole (length new))) new old ≡ new
    go true = copied-near 0 (runs 0 old new) new old (runs-spread old new l) (near-runs old new l)
    go false = all

-- no more pairs than bytes
pub runs-few : (k : ℕ) (old new : Bytes) → length (runs k old new) ≤ length old
runs-few k [] new = unfold runs in omega arith
runs-few k (a ∷ old) [] = unfold runs in omega arith
runs-few k (a ∷ old) (b ∷ new) =
    let ih : length (runs (suc k) old new) ≤ length old = runs-few (suc k) old new in
    by-eq a b
    (λ e. subst (λ (l : List Pair). length l ≤ suc (length old)) (sym (runs_same k a b old new e)) (omega arith))
    (λ e. subst (λ (l : List Pair). length l ≤ suc (length old)) (sym (runs-differ k a b old new e))
    (omega (arith, ih, joined-few (runs (suc k) old new))))
  where
    joined-few : (rs : List Pair) → length (joined k rs) ≤ suc (length rs)
    joined-few [] = unfold joined in omega arith
    joined-few (r ∷ rs) =
        by-eq r.at (suc k)
        (λ e. subst (λ (l : List Pair). length l ≤ suc (suc (length rs))) (sym (joined-next k r rs e)) (omega arith))
        (λ e. subst (λ (l : List Pair). length l ≤ suc (suc (length rs))) (sym (joined-apart k r rs e)) (omega arith))
