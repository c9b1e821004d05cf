-- What the promises of a disk say, and what may happen on it, written out once more: an edit that makes one say less,
-- or less happen, falls here.
-- Assumes nothing.
use Prim.Native.Nat.{ℕ, ◌-◌, ◌≤◌}
use mathlib.Core.Path.{◌≡◌, refl}
use mathlib.Core.Logic.{◌⊎◌}
use mathlib.Core.Bool.{true, false}
use lib.ListN.{length, take}
use Rattle.spec_file.specs.Bytes.{Bytes}
use Rattle.spec_changes.specs.Journal.{Disk, Block, is_marked, recover_number, recovered}
use Rattle.spec_disk.specs.Disk.{Slices, all_done, left, MayLeave, found, Update, commit, acknowledged, withdrawal, recovery, Beside, content_size, Fits, seen_disk, End, first, Life, updating, told, refused, lost, redoing, decided, opened, LifeSafe, ReaderSafe}

life-says : LifeSafe → (p : ℕ) (x y : Bytes) (s : Slices) (d : Disk) → Life p x y s → MayLeave s d
    → (recover_number (length d.image) d.journal ≡ 0) × (((recovered d).image ≡ x) ⊎ ((recovered d).image ≡ y))
unfolding LifeSafe
life-says h p x y s d l m = h p x y s d l m

reader-says : ReaderSafe → (p : ℕ) (x y : Bytes) (s : Slices) → Life p x y s
    → ((recovered (seen_disk s)).image ≡ x) ⊎ ((recovered (seen_disk s)).image ≡ y)
unfolding ReaderSafe
reader-says h p x y s l = h p x y s l

-- a cut leaves any bytes in the late places
any-bytes : (junk junk' : ℕ → ℕ) (s : Slices) → MayLeave s (left junk junk' s)
any-bytes junk junk' s = record { junk = junk; junk' = junk'; is = refl }

-- it may come at any time
cut-any-time : (p : ℕ) (x y : Bytes) (s : Slices) (d : Disk) → Life p x y s → MayLeave s d → Life p x y (found d)
cut-any-time p x y s d l m = lost p x y s d l m

-- an update of what is there may be begun, and ends anywhere
killed-anywhere : (p : ℕ) (x : Bytes) (u : Update) (s : Slices) (e : End) (n : ℕ) → Life p x x s
    → is_marked s.journal.seen ≡ false → Fits p x u → Life p x u.new (all_done (first e n (commit p u)) s)
killed-anywhere p x u s e n l z f = updating p x u s e n l z f

-- once acknowledged, it is the only one
never-lost : (p : ℕ) (x : Bytes) (u : Update) (s : Slices) (e : End) (n : ℕ) → Life p x x s
    → is_marked s.journal.seen ≡ false → Fits p x u → acknowledged ≤ n
    → Life p u.new u.new (all_done (first e n (commit p u)) s)
never-lost p x u s e n l z f h = told p x u s e n l z f h

-- one whose mark could not be flushed is none
none-refused : (p : ℕ) (x : Bytes) (u : Update) (s : Slices) → Life p x x s → is_marked s.journal.seen ≡ false
    → Fits p x u → Life p x x (all_done (withdrawal p) (all_done (take (acknowledged - 1) (commit p u)) s))
none-refused p x u s l z f = refused p x u s l z f

-- recovery too ends anywhere, and what it decided stays
recovery-anywhere : (p : ℕ) (x y : Bytes) (s : Slices) (e : End) (n : ℕ) (b : Block) → Life p x y s
    → Beside p (content_size s.journal.seen) b
    → Life p x y (all_done (first e n (recovery p b s.journal.seen)) s)
recovery-anywhere p x y s e n b l k = redoing p x y s e n b l k

recovery-decides : (p : ℕ) (x y : Bytes) (s : Slices) (e : End) (n : ℕ) (b : Block) → Life p x y s
    → Beside p (content_size s.journal.seen) b → is_marked s.journal.seen ≡ true → 1 ≤ n
    → Life p (recovered (seen_disk s)).image (recovered (seen_disk s)).image
    (all_done (first e n (recovery p b s.journal.seen)) s)
recovery-decides p x y s e n b l k m h = decided p x y s e n b l k m h

-- a writer that sees no mark goes on from what it reads
goes_on : (p : ℕ) (x y : Bytes) (s : Slices) → Life p x y s → is_marked s.journal.seen ≡ false
    → Life p s.image.seen s.image.seen s
goes_on p x y s l z = opened p x y s l z
