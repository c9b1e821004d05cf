-- What Job 13 promises of an accepted call, as statements. Their proofs stand in crates/law_range and, for lists of
-- calls, in crates/law_agreement; this file can be read without them.
--     Wanted img lowest highest i        slot i is taken, and every byte of its key lies in its range
--     Lists                              "all taken slots whose .., each exactly once, by rising slot", "how many"
--     OneFound, NoneFound                "equal bounds everywhere give what lookup finds on a sound image"
--     NamesListed                        the names of the slots listed are those of a book that lie in the ranges
-- Assumes nothing.
use Rattle.std.specs.Prelude.{◌≡◌, ◌⊎◌, ℕ, ◌*◌, ◌≤◌, ◌<◌, true, cond, List, [], ◌∷◌, length, get_or}
use Rattle.spec_file.specs.Bytes.{Bytes, part, number, all_zero}
use Rattle.spec_file.specs.Image.{layout_of, slot, key_of}
use Rattle.spec_file.specs.Search.{met, search}
use Rattle.spec_file.specs.Questions.{lookup_number}
use Rattle.spec_file.specs.Inspect.{taken}
use Rattle.spec_range.specs.Ranges.{key_in_ranges, select}

-- number j of a list of numbers of 4 bytes
abbrev pub number_at : Bytes → ℕ → ℕ
number_at list j = number (part list (4 * j) 4)

-- the key of slot i
abbrev pub slot_key : Bytes → ℕ → Bytes
slot_key img i = key_of (layout_of img) (slot (layout_of img) img i)

-- ---- which slots

abbrev pub LiesIn : Bytes → Bytes → Bytes → Type 0
LiesIn lowest highest key =
    (p : ℕ) → p < length key → (get_or lowest p 0 ≤ get_or key p 0) × (get_or key p 0 ≤ get_or highest p 0)

pub record Wanted (img lowest highest : Bytes) (i : ℕ) : Type 0 where
  pub below : i < (layout_of img).N
  pub is-taken : taken (layout_of img) img i ≡ true
  pub lies : LiesIn lowest highest (slot_key img i)

-- `after` is the list afterwards: its first numbers, as many as were found, are those slots', and the bytes after them
-- stay
pub record Lists (img lowest highest list after : Bytes) (found : ℕ) : Type 0 where
  pub only : (j : ℕ) → j < found → Wanted img lowest highest (number_at after j)
  pub all : (i : ℕ) → Wanted img lowest highest i → (j : ℕ) × (j < found) × (number_at after j ≡ i)
  pub once : (j k : ℕ) → j < found → k < found → number_at after j ≡ number_at after k → j ≡ k
  pub rising : (j k : ℕ) → j < k → k < found → number_at after j < number_at after k
  pub stays : (p : ℕ) → 4 * found ≤ p → get_or after p 0 ≡ get_or list p 0
  pub size : length after ≡ length list

-- ---- equal bounds everywhere: the name for both

-- one slot is listed, that where the name's search ends, and lookup is accepted
pub record OneFound (img name list : Bytes) (i : ℕ) : Type 0 where
  pub found-is : (select img name name list).found ≡ 1
  pub slot_is : number_at (select img name name list).list 0 ≡ i
  pub search-ends : search (layout_of img) img name ≡ met i
  pub looked-up : lookup_number img name ≡ 0

-- none is listed, and lookup answers 14, or 7 for the name of zeros
pub record NoneFound (img name list : Bytes) : Type 0 where
  pub found-is : (select img name name list).found ≡ 0
  pub list-is : (select img name name list).list ≡ list
  pub looked-up : (lookup_number img name ≡ 14) ⊎ ((lookup_number img name ≡ 7) × (all_zero name ≡ true))

-- ---- beside a book, of its names

-- those that lie in the ranges, in their order
unfoldable pub names_in : Bytes → Bytes → List Bytes → List Bytes
names_in lowest highest [] = []
names_in lowest highest (x ∷ names) =
    cond (key_in_ranges lowest highest x) (x ∷ names_in lowest highest names) (names_in lowest highest names)

abbrev pub Among : Bytes → List Bytes → Type 0
Among name [] = ⊥
Among name (x ∷ names) = (x ≡ name) ⊎ Among name names

-- the numbers of the list are slots whose keys are those names, each once, and they are as many
pub record NamesListed (img : Bytes) (names : List Bytes) (lowest highest after : Bytes) (found : ℕ) : Type 0 where
  pub number_is : found ≡ length (names_in lowest highest names)
  pub only : (j : ℕ) → j < found → Among (slot_key img (number_at after j)) (names_in lowest highest names)
  pub all : (name : Bytes) → Among name (names_in lowest highest names)
      → (j : ℕ) × (j < found) × (slot_key img (number_at after j) ≡ name)
  pub once : (j k : ℕ) → j < found → k < found
      → slot_key img (number_at after j) ≡ slot_key img (number_at after k) → j ≡ k
