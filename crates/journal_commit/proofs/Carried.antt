-- The writes of an update, as the code does them.
--     content-stored           count, pairs and new bytes, one behind the other, are the content
--     carried_none, carried-content, carried-marked      the first n writes, for every n
--     marked-sound, marked-count      what the journal holds once its mark is set
-- Assumes nothing.
use mathlib.Core.Path.{◌≡◌, refl, sym, ap, ap₂, ◌∙◌}
use Prim.Native.Nat.{ℕ, suc, ◌+◌, ◌-◌, ◌*◌, ◌^◌, ◌≤◌, ◌<◌}
use native.Mathlib.Omega.{arith}
use mathlib.Core.Bool.{Bool, true, false, cond, ◌&&◌, and-false}
use mathlib.Core.List.{List, [], ◌∷◌, ◌++◌, append_assoc}
use lib.ListN.{length, take, get_or, length-append}
use lib.Dec.{leb, eqb}
use borrow.Author.Tests.{le-leb, lt-leb, leb-true, eq-eqb, ne_eqb}
use Rattle.spec_file.specs.Bytes.{Bytes, store, digits}
use Rattle.spec_file.specs.Image.{set_field}
use Rattle.spec_changes.specs.Changes.{Pair, runs, pair_bytes, Spread}
use Rattle.spec_changes.specs.Journal.{new_bytes, content, mark_place, mark, marked, journal_allowed, Disk, Block, Write, to_journal, put, written, all_written, stretches, to_images, set_mark, updates, pair_count, bytes_start, blocks_of, total, journal_sound, recoveries}
use Rattle.law_file.proofs.Tests.{and_left}
use Rattle.law_file.proofs.Bytes.{length_digits, length-store}
use Rattle.law_file.proofs.Stores.{store-append}
use Rattle.spec_changes.proofs.Changes.{runs-spread, runs-few}
use Rattle.spec_changes.proofs.Journal.{length-pair_bytes, length-content, Holds, holds-content, holds-mark, content-count, content-blocks, content-sound}
use Rattle.spec_file.specs.Calls.{settled}
use Rattle.law_file.proofs.Outcomes.{settled-no}
use Rattle.journal_recover.proofs.Settling.{take_beyond}

-- ---- the content

pub content-stored : (j : Bytes) (rs : List Pair) (new : Bytes) (n : ℕ) → n ≡ length rs
    → length (content rs new) ≤ length j
    → store (store (set_field j 0 n) 4 (pair_bytes rs)) (4 + 8 * n) (new_bytes rs new) ≡ store j 0 (content rs new)
unfolding set_field content
content-stored j rs new n e h =
    let d : Bytes = digits 4 n in
    let p : Bytes = pair_bytes rs in
    let v : Bytes = new_bytes rs new in
    let ld : length d ≡ 4 = length_digits 4 n in
    let lp : length p ≡ 8 * length rs = length-pair_bytes rs in
    let lpv : length (p ++ v) ≡ length p + length v = length-append p v in
    let whole : length (digits 4 (length rs) ++ (p ++ v)) ≡ 4 + (length p + length v) =
    length-append (digits 4 (length rs)) (p ++ v) ∙ ap₂ ◌+◌ (length_digits 4 (length rs)) lpv in
    let ldp : length (d ++ p) ≡ 4 + 8 * n = length-append d p ∙ ap₂ ◌+◌ ld (lp ∙ ap (λ (k : ℕ). 8 * k) (sym e)) in
    let two : store (store j 0 d) 4 p ≡ store j 0 (d ++ p) =
    let place : 4 ≡ 0 + length d = omega arith in
    ap (λ (k : ℕ). store (store j 0 d) k p) place ∙ store-append j 0 d p (omega arith) in
    ap (λ (t : Bytes). store t (4 + 8 * n) v) two
    ∙ (let place : 4 + 8 * n ≡ 0 + length (d ++ p) = omega arith in
    ap (λ (k : ℕ). store (store j 0 (d ++ p)) k v) place)
    ∙ store-append j 0 (d ++ p) v (omega arith)
    ∙ ap (store j 0) (append_assoc d p v ∙ ap (λ (k : ℕ). digits 4 k ++ (p ++ v)) e)

-- room for the pieces
pub content-room : (j : Bytes) (rs : List Pair) (new : Bytes) → length (content rs new) ≤ length j
    → (4 + length (pair_bytes rs) ≤ length j) × (4 + 8 * length rs + length (new_bytes rs new) ≤ length j)
unfolding content
content-room j rs new h =
    let whole : length (digits 4 (length rs) ++ (pair_bytes rs ++ new_bytes rs new))
    ≡ 4 + (length (pair_bytes rs) + length (new_bytes rs new)) =
    length-append (digits 4 (length rs)) (pair_bytes rs ++ new_bytes rs new)
    ∙ ap₂ ◌+◌ (length_digits 4 (length rs)) (length-append (pair_bytes rs) (new_bytes rs new)) in
    let lp = length-pair_bytes rs in
    (omega (arith, whole), omega (arith, whole, lp))

-- ---- question 17

module _ (old new j : Bytes) (l : length old ≡ length new) where
  -- how long the content is, by what was counted
  pub counted-content : (pairs bytes : ℕ) → pairs ≡ length (runs 0 old new) → bytes ≡ total (runs 0 old new)
      → length (content (runs 0 old new) new) ≡ 4 + 8 * pairs + bytes
  unfolding bytes_start
  counted-content pairs bytes p b =
      length-content 0 (runs 0 old new) new (runs-spread old new l)
      ∙ ap₂ (λ (x y : ℕ). 4 + 8 * x + y) (sym p) (sym b)

  pub refused-short : length j ≤ length (content (runs 0 old new) new) → journal_allowed old new j ≡ false
  unfolding journal_allowed
  refused-short h =
      ap (λ (b : Bool). b && eqb (mark j) 0)
      (lt-leb (length (content (runs 0 old new) new) + 1) (length j) (omega arith))

  pub refused-mark : (get_or j (length j - 1) 0 ≡ 0 → ⊥) → journal_allowed old new j ≡ false
  unfolding journal_allowed mark mark_place
  refused-mark h =
      ap (λ (b : Bool). leb (length (content (runs 0 old new) new) + 1) (length j) && b)
      (ne_eqb (get_or j (length j - 1) 0) 0 h)
      ∙ and-false (leb (length (content (runs 0 old new) new) + 1) (length j))

  pub allowed-both : length (content (runs 0 old new) new) < length j → get_or j (length j - 1) 0 ≡ 0
      → journal_allowed old new j ≡ true
  unfolding journal_allowed mark mark_place
  allowed-both h z =
      ap₂ ◌&&◌ (le-leb (length (content (runs 0 old new) new) + 1) (length j) (omega arith))
      (eq-eqb (get_or j (length j - 1) 0) 0 z)

-- ---- the first n writes

length-stretches : (rs : List Pair) (new : Bytes) → length (stretches rs new) ≡ length rs
unfolding stretches
length-stretches [] new = refl
length-stretches (r ∷ rs) new = ap suc (length-stretches rs new)

module _ (old new j : Bytes) where
  abbrev rs : List Pair
  rs = runs 0 old new

  abbrev full : Bytes
  full = store j 0 (content rs new)

  abbrev before : Disk
  before = record { image = old; journal = j }

  pub carried_none : all_written (take 0 (updates old new j)) before ≡ before
  unfolding all_written
  carried_none = refl

  pub carried-content : all_written (take 1 (updates old new j)) before ≡ record { image = old; journal = full }
  unfolding all_written updates written put
  carried-content = refl

  -- all of them, and no more
  pub taken-all : (n : ℕ) → length rs + 3 ≤ n → take n (updates old new j) ≡ updates old new j
  unfolding updates
  taken-all n h =
      let more : n ≡ suc (suc (n - 2)) = omega arith in
      ap (λ (k : ℕ). take k (updates old new j)) more
      ∙ ap (λ (ws : List Write). to_journal (record { place = 0; bytes = content rs new }) ∷ set_mark marked j ∷ ws)
      (take_beyond (n - 2) (stretches rs new) (set_mark 0 j) (omega (arith, length-stretches rs new)))

-- ---- a marked journal

module _ (old new j : Bytes) (l : length old ≡ length new) (small : length old < 2 ^ 32)
    (allowed : journal_allowed old new j ≡ true) where
  abbrev c : Bytes
  c = content (runs 0 old new) new

  pub allowed-room : length (content (runs 0 old new) new) < length j
  unfolding journal_allowed
  allowed-room =
      omega (
        arith,
        leb-true (length c + 1) (length j) (and_left (leb (length c + 1) (length j)) (eqb (mark j) 0) allowed),
      )

  abbrev filled : Bytes
  filled = store (store j 0 c) (mark_place j) (marked ∷ [])

  length-full : length (store j 0 c) ≡ length j
  length-full = length-store j 0 c (omega (arith, allowed-room))

  place-last : mark_place j + 1 ≡ length (store j 0 c)
  unfolding mark_place
  place-last = omega (arith, allowed-room, length-full)

  holds : Holds c filled
  holds = holds-mark c (store j 0 c) (mark_place j) marked (holds-content c j allowed-room) place-last

  spread : Spread 0 (length new) (runs 0 old new)
  spread = runs-spread old new l

  few : length (runs 0 old new) < 256 ^ 4
  few = omega (arith, runs-few 0 old new)

  short : length new < 256 ^ 4
  short = omega arith

  pub marked-sound :
      journal_sound (length old) (store (store j 0 (content (runs 0 old new) new)) (mark_place j) (marked ∷ [])) ≡ true
  marked-sound =
      ap (λ (n : ℕ). journal_sound n filled) l
      ∙ content-sound (runs 0 old new) new filled holds spread few short

  pub marked-count : pair_count (store (store j 0 (content (runs 0 old new) new)) (mark_place j) (marked ∷ []))
      ≡ length (runs 0 old new)
  marked-count = content-count (runs 0 old new) new filled holds spread few short

  marked-blocks : blocks_of (store (store j 0 (content (runs 0 old new) new)) (mark_place j) (marked ∷ []))
      ≡ stretches (runs 0 old new) new
  marked-blocks = content-blocks (runs 0 old new) new filled holds spread few short

  -- from the mark on the writes are those that the marked journal asks for
  pub carried-marked : (n : ℕ) → 2 ≤ n
      → all_written (take n (updates old new j)) (record { image = old; journal = j })
      ≡ all_written (take (n - 2)
      (recoveries (store (store j 0 (content (runs 0 old new) new)) (mark_place j) (marked ∷ []))))
      (record { image = old; journal = store (store j 0 (content (runs 0 old new) new)) (mark_place j) (marked ∷ []) })
  unfolding updates recoveries all_written written put set_mark mark_place
  carried-marked n h =
      let more : n ≡ suc (suc (n - 2)) = omega arith in
      let same : length j ≡ length filled =
      sym (length-store (store j 0 c) (length j - 1) (marked ∷ []) (omega (arith, allowed-room, length-full))
      ∙ length-full) in
      ap (λ (k : ℕ). all_written (take k (updates old new j)) (record { image = old; journal = j })) more
      ∙ ap₂ (λ (bs : List Block) (p : ℕ).
      all_written (take (n - 2) (to_images bs ++ (to_journal (record { place = p - 1; bytes = 0 ∷ [] }) ∷ [])))
      (record { image = old; journal = filled }))
      (sym marked-blocks) same

-- an update that is refused
pub update-refused : (img new j x : Bytes) → journal_allowed img new j ≡ false
    → ◌≡◌ {A = ℕ} 17 (cond (journal_allowed img new j) 0 17) × (img ≡ settled 17 img new) × (j ≡ settled 17 j x)
update-refused img new j x h = (
  sym (ap (λ (b : Bool). cond b 0 17) h),
  sym (settled-no 17 img new (λ z. omega arith)),
  sym (settled-no 17 j x (λ z. omega arith)),
)
