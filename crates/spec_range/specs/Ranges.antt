-- Document 02, Job 13: "For each of K positions they give a lowest and highest byte, and the call lists all taken slots
-- whose every key byte lies in its range, each exactly once, by rising slot, and answers how many".
--     key_in_ranges lowest highest key     every byte of the key lies in its range
--     selected g img lowest highest      the slots that are listed, in their order
--     select img lowest highest list     the call
-- Assumes nothing.
use Rattle.std.specs.Prelude.{ℕ, zero, suc, ◌*◌, Bool, true, false, cond, ◌&&◌, List, [], ◌∷◌, ◌++◌, length, get_or, leb, eqb}
use Rattle.spec_file.specs.Bytes.{Bytes, store, digits}
use Rattle.spec_file.specs.Image.{Layout, layout_of, slot, key_of}
use Rattle.spec_file.specs.Questions.{Question, ask, first_no, opened}
use Rattle.spec_file.specs.Calls.{settled}
use Rattle.spec_file.specs.Inspect.{taken}

-- ---- ranges

-- whether the test holds for every number below n
unfoldable pub all_below : (ℕ → Bool) → ℕ → Bool
all_below p zero = true
all_below p (suc n) = p n && all_below p n

-- a byte "lies in its range": the lowest and the highest byte belong to it
unfoldable pub in_range : ℕ → ℕ → ℕ → Bool
in_range lowest highest byte = leb lowest byte && leb byte highest

-- so does the byte at a position of the key
unfoldable pub byte_in_range : Bytes → Bytes → Bytes → ℕ → Bool
byte_in_range lowest highest key p = in_range (get_or lowest p 0) (get_or highest p 0) (get_or key p 0)

-- "whose every key byte lies in its range"
unfoldable pub key_in_ranges : Bytes → Bytes → Bytes → Bool
key_in_ranges lowest highest key = all_below (byte_in_range lowest highest key) (length key)

-- ---- slots

-- "all taken slots whose ..": an empty slot is never listed, also where every range begins with 0
unfoldable pub selects : Layout → Bytes → Bytes → Bytes → ℕ → Bool
selects g img lowest highest i = taken g img i && key_in_ranges lowest highest (key_of g (slot g img i))

-- the numbers from i on, of those that are left, for which the test holds: "each exactly once, by rising slot"
unfoldable pub chosen_from : (ℕ → Bool) → ℕ → ℕ → List ℕ
chosen_from p zero i = []
chosen_from p (suc left) i = elim (p i) [ true ↦ i ∷ chosen_from p left (suc i) | false ↦ chosen_from p left (suc i) ]

unfoldable pub selected : Layout → Bytes → Bytes → Bytes → List ℕ
selected g img lowest highest = chosen_from (selects g img lowest highest) g.N 0

-- "slot numbers of 4 bytes"; 01: "All stored numbers are 4 bytes, most significant first."
unfoldable pub slot_numbers : List ℕ → Bytes
slot_numbers [] = []
slot_numbers (i ∷ is) = digits 4 i ++ slot_numbers is

-- ---- the call

-- "A wrong number of ranges or a lowest above its highest is answered 22"
unfoldable pub ranges_allowed : ℕ → Bytes → Bytes → Bool
ranges_allowed K lowest highest =
    eqb (length lowest) K && eqb (length highest) K && all_below (λ p. leb (get_or lowest p 0) (get_or highest p 0)) K

-- "a list that can't hold N slot numbers of 4 bytes .. is answered 16", of the list's length
unfoldable pub list_holds : ℕ → ℕ → Bool
list_holds N list = leb (4 * N) list

-- 1, 5 and 6; 22 "after 6", and 16 "here after 22"
unfoldable pub select_asks : Layout → Bytes → Bytes → ℕ → List Question
select_asks g lowest highest list =
    ask 22 (ranges_allowed g.K lowest highest) ∷ ask 16 (list_holds g.N list) ∷ []

unfoldable pub select_number : Bytes → Bytes → Bytes → ℕ → ℕ
select_number img lowest highest list = first_no (opened img (select_asks (layout_of img) lowest highest list))

-- What the call answers, and the list afterwards. 01: "A refused call, also of a later job, changes no byte of any lent
-- slice ..; a call that fills a slice leaves the bytes behind its answer." 02: "a later job's refused call, answers 0
-- beside the number". The image stays.
pub record Selection : Type 0 where
  pub number : ℕ
  pub found : ℕ
  pub list : Bytes

unfoldable pub select : Bytes → Bytes → Bytes → Bytes → Selection
select img lowest highest list =
    let n : ℕ = select_number img lowest highest (length list) in
    let slots : List ℕ = selected (layout_of img) img lowest highest in
    record {
      number = n;
      found = cond (eqb n 0) (length slots) 0;
      list = settled n list (store list 0 (slot_numbers slots));
    }
