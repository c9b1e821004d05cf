-- Document 02, Job 8: what a call changed, as a list of stretches, and the form of a call that fills a lent list with
-- it. All of it speaks of two strings of bytes, the image before and after, whatever the call was.
--     runs k old new        the runs of changed bytes; the first byte of both is byte k of an image
--     changes_in room ..     the pairs that a list of so many bytes takes
--     Spread, Near          stretches apart from one another; two images that are equal outside of stretches
--     copied rs new img     img with the stretches rs of new copied into it
--     listed call ..        the form with a working slice and a list, of any call on an image
-- Assumes nothing.
use Rattle.std.specs.Prelude.{◌≡◌, ℕ, suc, ◌+◌, ◌*◌, ◌≤◌, ◌<◌, Bool, false, cond, ◌&&◌, ◌||◌, List, [], ◌∷◌, ◌++◌, length, get_or, leb, ltb, eqb}
use Rattle.spec_file.specs.Bytes.{Bytes, part, store, digits}
use Rattle.spec_file.specs.Calls.{Outcome, settled}

-- "pairs of offset and length": a stretch of an image
pub record Pair : Type 0 where
  pub at : ℕ
  pub size : ℕ

-- ---- what changed

-- the byte at k changed too: a run that begins right behind it begins here; else it is a run of its own
unfoldable pub joined : ℕ → List Pair → List Pair
joined k [] = record { at = k; size = 1 } ∷ []
joined k (r ∷ rs) =
    cond (eqb r.at (suc k))
    (record { at = k; size = suc r.size } ∷ rs)
    (record { at = k; size = 1 } ∷ r ∷ rs)

-- "sorted by offset, one pair for each unbroken run of bytes whose value changed"
unfoldable pub runs : ℕ → Bytes → Bytes → List Pair
runs k [] new = []
runs k (a ∷ old) [] = []
runs k (a ∷ old) (b ∷ new) =
    let rest : List Pair = runs (suc k) old new in
    cond (eqb a b) rest (joined k rest)

-- whether byte i lies in one of the stretches
unfoldable pub covered : List Pair → ℕ → Bool
covered [] i = false
covered (r ∷ rs) i = (leb r.at i && ltb i (r.at + r.size)) || covered rs i

-- stretches from k on, below top, in order, none empty, with a byte between any two
abbrev pub Spread : ℕ → ℕ → List Pair → Type 0
Spread k top [] = Unit {0}
Spread k top (r ∷ rs) = (k ≤ r.at) × (0 < r.size) × (r.at + r.size ≤ top) × Spread (suc (r.at + r.size)) top rs

-- img is as long as new, and equal to it outside of the stretches
pub record Near (rs : List Pair) (img new : Bytes) : Type 0 where
  pub size : length img ≡ length new
  pub outside : (i : ℕ) → covered rs i ≡ false → get_or img i 0 ≡ get_or new i 0

-- ---- the list

-- "4 bytes each"
unfoldable pub pair_bytes : List Pair → Bytes
pair_bytes [] = []
pair_bytes (r ∷ rs) = digits 4 r.at ++ (digits 4 r.size ++ pair_bytes rs)

-- "the single pair 0, L"
abbrev pub whole : ℕ → List Pair
whole L = record { at = 0; size = L } ∷ []

-- "If the pairs don't fit, the list is the single pair 0, L."
unfoldable pub changes_in : ℕ → Bytes → Bytes → List Pair
changes_in room old new =
    let rs : List Pair = runs 0 old new in
    cond (leb (8 * length rs) room) rs (whole (length new))

-- "Copying the listed stretches into a copy of the old image": that it gives the new one is `copied-changes`
unfoldable pub copied : List Pair → Bytes → Bytes → Bytes
copied [] new img = img
copied (r ∷ rs) new img = copied rs new (store img r.at (part new r.at r.size))

-- ---- the form of a call

-- "A list slice below 8 bytes, or a working slice below L, is answered 16, before question 1." Of their lengths and L.
unfoldable pub list_allowed : ℕ → Bool
list_allowed list = leb 8 list

unfoldable pub work_allowed : ℕ → ℕ → Bool
work_allowed L work = leb L work

-- the number of a form that puts 16 before a call's own number
unfoldable pub worked_number : Bool → ℕ → ℕ
worked_number allowed n = cond allowed n 16

-- What the form leaves and answers. "The call answers how many pairs it wrote." "A refused call answers no pairs."
pub record Listed : Type 0 where
  pub after : Bytes
  pub list : Bytes
  pub number : ℕ
  pub pairs : ℕ

unfoldable pub listed : (Bytes → Outcome Bytes) → Bytes → ℕ → Bytes → Listed
listed call img work list =
    let new : Bytes = (call img).after in
    let n : ℕ = worked_number (list_allowed (length list) && work_allowed (length img) work) (call img).answer.number in
    let rs : List Pair = changes_in (length list) img new in
    record {
      after = settled n img new;
      list = settled n list (store list 0 (pair_bytes rs));
      number = n;
      pairs = cond (eqb n 0) (length rs) 0;
    }
