-- Document 01, "The proved table": lines on images, where no edit names them. The others stand in
-- crates/spec_file/proofs/Cases.antt.
-- Assumes nothing.
use mathlib.Core.Path.{◌≡◌, refl}
use Prim.Native.Nat.{◌+◌}
use mathlib.Core.List.{List, [], ◌∷◌}
use Rattle.spec_file.specs.Limits.{free_field}
use Rattle.spec_file.specs.Bytes.{zeros}
use Rattle.spec_file.specs.Image.{field}
use Rattle.spec_file.specs.Lists.{Call, adding, deleting, looking}
use Rattle.spec_file.proofs.CasesBase.{fresh, after, keys, point, told}
use Rattle.spec_file.proofs.Cases.{five, by_three, by-four}

-- "Seed 0, K = 1, N = 4: adding bytes 1, 2, 3, 32 fills slots 3, 0, 1, 2; byte 33 then gives 10."
abbrev pub four : List Call
four = point 1 ∷ point 2 ∷ point 3 ∷ point 32 ∷ []

pub four-slots : keys 4 0 (after four (fresh 4096 4)) ≡ (2 ∷ []) ∷ (3 ∷ []) ∷ (32 ∷ []) ∷ (1 ∷ []) ∷ []
unfolding keys after fresh
four-slots = refl

pub four-told : told (point 1 ∷ point 2 ∷ point 3 ∷ point 32 ∷ point 33 ∷ []) (fresh 4096 4) ≡ 0 ∷ 0 ∷ 0 ∷ 0 ∷ 10 ∷ []
unfolding told fresh
four-told = refl

-- "R = 4,096: 4,092 bytes fit, 4,093 give 13." K = 1, N = 4 and L = 8,192 give D = 4,096.
pub room-4092 : told (adding (1 ∷ []) (zeros 4092) 1 ∷ []) (fresh 8192 4) ≡ 0 ∷ []
unfolding told fresh
room-4092 = refl

pub room-4093 : told (adding (1 ∷ []) (zeros 4093) 1 ∷ []) (fresh 8192 4) ≡ 13 ∷ []
unfolding told fresh
room-4093 = refl

-- "Replacing 5 bytes by 3, then 4: U is 9, 9, 17." X − D of the file.
pub free-4 : field (after (five ∷ by_three ∷ by-four ∷ []) (fresh 8192 4)) free_field ≡ 4096 + 17
unfolding after fresh
free-4 = refl

-- "The key of zeros gives 7."
pub zeros-7 : told (point 0 ∷ deleting (0 ∷ []) ∷ looking (0 ∷ []) ∷ []) (fresh 4096 4) ≡ 7 ∷ 7 ∷ 7 ∷ []
unfolding told fresh
zeros-7 = refl
