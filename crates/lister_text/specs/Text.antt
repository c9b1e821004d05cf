-- Numbers in decimal and bytes in hexadecimal, as ASCII text.
-- Assumes nothing.
use Rattle.std.specs.Prelude.{ℕ, zero, suc, ◌+◌, ◌/◌, ◌%◌, cond, [], ◌∷◌, ◌++◌, ltb}
use Rattle.spec_file.specs.Bytes.{Bytes}

unfoldable pub digit : ℕ → ℕ
digit d = 48 + d

-- the tens, if there are any, then the last digit; the first number bounds the digits, and n is never too small for
-- n's own
unfoldable pub decimal_from : ℕ → ℕ → Bytes
decimal_from zero n = digit n ∷ []
decimal_from (suc more) n = cond (ltb n 10) (digit n ∷ []) (decimal_from more (n / 10) ++ (digit (n % 10) ∷ []))

unfoldable pub decimal : ℕ → Bytes
decimal n = decimal_from n n

-- "two lower-case hexadecimal digits a byte"
unfoldable pub hex_digit : ℕ → ℕ
hex_digit d = cond (ltb d 10) (48 + d) (87 + d)

unfoldable pub hex_byte : ℕ → Bytes
hex_byte b = hex_digit (b / 16) ∷ hex_digit (b % 16) ∷ []

unfoldable pub hexes : Bytes → Bytes
hexes [] = []
hexes (b ∷ bs) = hex_byte b ++ hexes bs

abbrev pub space : Bytes
space = 32 ∷ []

abbrev pub feed : Bytes
feed = 10 ∷ []
