-- Bytes, parts of an image, and numbers in them. Every write to an image is one `store`.
--     part b p m      the m bytes of b from p on
--     store b p v     b with the bytes v from p on
--     number v        the number that v stores, most significant byte first
--     digits w n      n in w bytes, most significant first
-- Assumes nothing.
use Rattle.std.specs.Prelude.{ℕ, zero, suc, ◌+◌, ◌*◌, ◌/◌, ◌%◌, ◌^◌, Bool, true, false, ◌&&◌, List, [], ◌∷◌, ◌++◌, length, take, drop, replicate, eqb}

abbrev pub Bytes : Type 0
Bytes = List ℕ

unfoldable pub part : Bytes → ℕ → ℕ → Bytes
part b p m = take m (drop p b)

unfoldable pub store : Bytes → ℕ → Bytes → Bytes
store b p v = take p b ++ (v ++ drop (length v) (drop p b))

-- "All stored numbers are 4 bytes, most significant first." (A message's length has another width.)
unfoldable pub number : Bytes → ℕ
number [] = 0
number (b ∷ bs) = b * 256 ^ length bs + number bs

unfoldable pub digits : ℕ → ℕ → Bytes
digits zero n = []
digits (suc w) n = n / 256 ^ w % 256 ∷ digits w n

-- a run of zero bytes, and the test for one
unfoldable pub zeros : ℕ → Bytes
zeros n = replicate n 0

unfoldable pub all_zero : Bytes → Bool
all_zero [] = true
all_zero (b ∷ bs) = eqb b 0 && all_zero bs

-- "All K bytes are compared."
unfoldable pub same : Bytes → Bytes → Bool
same [] [] = true
same [] (c ∷ cs) = false
same (b ∷ bs) [] = false
same (b ∷ bs) (c ∷ cs) = eqb b c && same bs cs
