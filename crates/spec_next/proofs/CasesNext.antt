-- Cases of the next run, on a few bytes; each holds by computation. Assumes nothing.
use mathlib.Core.Path.{◌≡◌, refl}
use Prim.Native.Nat.{ℕ}
use mathlib.Core.List.{[], ◌∷◌}
use Rattle.spec_file.specs.Bytes.{Bytes}
use Rattle.spec_changes.specs.Changes.{Pair, joined, runs}
use Rattle.spec_next.specs.Next.{lesser, first_run, next_run, stepped}

unfoldable nexts : ℕ
unfolding joined runs lesser first_run next_run stepped
nexts = 0

abbrev pair : ℕ → ℕ → Pair
pair at size = record { at = at; size = size }

-- bytes 1, 3 and 4 differ
old : Bytes
old = 1 ∷ 2 ∷ 3 ∷ 4 ∷ 5 ∷ 6 ∷ []

new : Bytes
new = 1 ∷ 9 ∷ 3 ∷ 8 ∷ 7 ∷ 6 ∷ []

first : next_run 0 old new ≡ pair 1 1
unfolding nexts old new
first = refl

-- from the end of the first on
second : next_run 2 old new ≡ pair 3 2
unfolding nexts old new
second = refl

-- a run that begins before `from` is seen from there on
within : next_run 4 old new ≡ pair 4 1
unfolding nexts old new
within = refl

-- none is left: no byte at the end, also from the end on and from beyond it
none_left : next_run 5 old new ≡ pair 6 0
unfolding nexts old new
none_left = refl

at-the-end : next_run 6 old new ≡ pair 6 0
unfolding nexts old new
at-the-end = refl

beyond : next_run 9 old new ≡ pair 6 0
unfolding nexts old new
beyond = refl

-- the last byte of the shorter ends a run, whichever of the two it is
shorter-old : next_run 0 (1 ∷ 2 ∷ []) (1 ∷ 3 ∷ 4 ∷ []) ≡ pair 1 1
unfolding nexts
shorter-old = refl

shorter-new : next_run 0 (1 ∷ 2 ∷ 4 ∷ []) (1 ∷ 3 ∷ []) ≡ pair 1 1
unfolding nexts
shorter-new = refl

-- bytes that only one of them has are no change
longer : next_run 0 (1 ∷ 2 ∷ 4 ∷ []) (1 ∷ 2 ∷ []) ≡ pair 2 0
unfolding nexts
longer = refl

empty : next_run 0 [] (1 ∷ []) ≡ pair 0 0
unfolding nexts
empty = refl

all_runs : stepped 6 0 old new ≡ pair 1 1 ∷ pair 3 2 ∷ []
unfolding nexts old new
all_runs = refl
