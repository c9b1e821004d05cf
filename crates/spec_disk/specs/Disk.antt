-- Job 9 on a disk that loses or reorders what was not flushed.
--     Held                  what one slice has come to: as it was flushed, as programs see it, where written since
--     done, all_done         an action, and a list of them: writes and flushes
--     left, MayLeave        what a power cut may leave: each byte written since its flush may be anything
--     commit p u            the file layer's actions for one update; the mark stands at p
--     recovery p b j        and for recovery, of the journal j that it finds; b is the base that it writes
--     Life p x y s          what may happen, in any order and number; x was acknowledged last, y was perhaps begun
--     LifeSafe, ReaderSafe  what is promised
-- Assumes nothing.
use Rattle.std.specs.Prelude.{ℕ, zero, suc, ◌+◌, ◌-◌, ◌≤◌, ◌<◌, ◌^◌, ◌≡◌, ◌⊎◌, true, false, cond, List, [], ◌∷◌, ◌++◌, length, take, leb}
use Rattle.spec_file.specs.Bytes.{Bytes}
use Rattle.spec_changes.specs.Changes.{Pair, covered, Spread, Near}
use Rattle.spec_changes.specs.Journal.{content, marked, Disk, Block, Write, to_journal, to_image, put, stretches, spoilt_block, pair_count, pairs_of, bytes_start, total, blocks_of, is_marked, recover_number, recovered}

-- ---- a disk

-- a slice: its bytes at its last flush, its bytes as programs read them, and where it was written since
pub record Held : Type 0 where
  pub sure : Bytes
  pub seen : Bytes
  pub late : List Pair

pub record Slices : Type 0 where
  pub image : Held
  pub journal : Held

pub data Action : Type 0 where
  write : Write → Action
  flush_image : Action
  flush_journal : Action

-- a write is seen at once, and is late until the next flush
unfoldable pub wrote : Block → Held → Held
wrote w h =
    record {
      sure = h.sure;
      seen = put h.seen w;
      late = record { at = w.place; size = length w.bytes } ∷ h.late;
    }

unfoldable pub flushed : Held → Held
flushed h = record { sure = h.seen; seen = h.seen; late = [] }

unfoldable pub done : Action → Slices → Slices
done (write (to_image w)) s = record { image = wrote w s.image; journal = s.journal }
done (write (to_journal w)) s = record { image = s.image; journal = wrote w s.journal }
done flush_image s = record { image = flushed s.image; journal = s.journal }
done flush_journal s = record { image = s.image; journal = flushed s.journal }

unfoldable pub all_done : List Action → Slices → Slices
all_done [] s = s
all_done (a ∷ rest) s = all_done rest (done a s)

-- the bytes from byte k on as a cut leaves them: a late one is anything, every other one is as it was flushed
unfoldable pub left_from : ℕ → (ℕ → ℕ) → List Pair → Bytes → Bytes
left_from k junk late [] = []
left_from k junk late (b ∷ bs) = cond (covered late k) (junk k) b ∷ left_from (suc k) junk late bs

unfoldable pub left : (ℕ → ℕ) → (ℕ → ℕ) → Slices → Disk
left junk junk' s =
    record {
      image = left_from 0 junk s.image.late s.image.sure;
      journal = left_from 0 junk' s.journal.late s.journal.sure;
    }

-- a power cut at s may leave d
pub record MayLeave (s : Slices) (d : Disk) : Type 0 where
  pub junk : ℕ → ℕ
  pub junk' : ℕ → ℕ
  pub is : d ≡ left junk junk' s

-- what lies on a disk is sure
unfoldable pub still : Bytes → Held
still b = record { sure = b; seen = b; late = [] }

unfoldable pub found : Disk → Slices
found d = record { image = still d.image; journal = still d.journal }

-- ---- the file layer

-- an update: the stretches that it writes, whichever they are, and the image that it leads to; and what the layer keeps
-- in the journal between content and mark, its base, which tells the file as it stands then
pub record Update : Type 0 where
  pub spans : List Pair
  pub new : Bytes
  pub base : Block

unfoldable pub set_mark_at : ℕ → ℕ → Action
set_mark_at p m = write (to_journal (record { place = p; bytes = m ∷ [] }))

unfoldable pub write_image : List Block → List Action
write_image [] = []
write_image (w ∷ ws) = write (to_image w) ∷ write_image ws

-- behind the mark: the blocks, flushed; then base and mark 0, which the next update or recovery flushes
unfoldable pub completion : ℕ → Block → List Block → List Action
completion p b ws = write_image ws ++ (flush_image ∷ write (to_journal b) ∷ set_mark_at p 0 ∷ [])

abbrev pub write_content : Update → Action
write_content u = write (to_journal (record { place = 0; bytes = content u.spans u.new }))

-- the old mark 0, content and mark, each flushed before the next is written; then the image
unfoldable pub commit : ℕ → Update → List Action
commit p u =
    flush_journal ∷ write_content u ∷ flush_journal
    ∷ set_mark_at p marked ∷ flush_journal
    ∷ completion p u.base (stretches u.spans u.new)

-- so many actions done, the mark is flushed, and the update may be acknowledged
abbrev pub acknowledged : ℕ
acknowledged = 5

-- where the mark's flush fails it is taken back, and that is flushed
unfoldable pub withdrawal : ℕ → List Action
withdrawal p = set_mark_at p 0 ∷ flush_journal ∷ []

-- a journal that is not marked is let alone
unfoldable pub recovery : ℕ → Block → Bytes → List Action
recovery p b j = cond (is_marked j) (flush_journal ∷ completion p b (blocks_of j)) []

-- ---- what may happen

-- a process ends between two actions, or amid one: then a write has left any bytes in its place; the mark is one byte,
-- which is written or not
pub data End : Type 0 where
  between : End
  amid : (ℕ → ℕ) → End

unfoldable pub partly : End → Action → List Action
partly between a = []
partly (amid junk) (write (to_image w)) = write (to_image (spoilt_block junk w)) ∷ []
partly (amid junk) (write (to_journal w)) =
    cond (leb (length w.bytes) 1) [] (write (to_journal (spoilt_block junk w)) ∷ [])
partly (amid junk) flush_image = []
partly (amid junk) flush_journal = []

-- the first n actions, and what is done of the next
unfoldable pub first : End → ℕ → List Action → List Action
first e n [] = []
first e zero (a ∷ rest) = partly e a
first e (suc n) (a ∷ rest) = a ∷ first e n rest

-- a base lies behind the content, which has so many bytes, and in front of the mark
pub record Beside (p : ℕ) (size : ℕ) (b : Block) : Type 0 where
  pub behind : size ≤ b.place
  pub before : b.place + length b.bytes ≤ p

-- how many bytes the content of a journal has
unfoldable pub content_size : Bytes → ℕ
content_size j = bytes_start (pair_count j) + total (pairs_of j)

-- an update of an image: its stretches lie in it, in order, and outside of them nothing changes; the journal, whose
-- mark is at p, has room for its content and its base
pub record Fits (p : ℕ) (old : Bytes) (u : Update) : Type 0 where
  pub near : Near u.spans old u.new
  pub spread : Spread 0 (length u.new) u.spans
  pub small : length u.new < 256 ^ 4
  pub few : length u.spans < 256 ^ 4
  pub room : Beside p (length (content u.spans u.new)) u.base

-- what programs read
unfoldable pub seen_disk : Slices → Disk
seen_disk s = record { image = s.image.seen; journal = s.journal.seen }

-- ---- everything that may happen to image and journal. x is the image that the last acknowledged update led to; y is
-- x, or the image of an update that was begun and not acknowledged
pub data Life : ℕ → Bytes → Bytes → Slices → Type 0 where
  -- a file, and a journal without mark
  begun : (p : ℕ) (d : Disk) → p + 1 ≡ length d.journal → is_marked d.journal ≡ false
      → Life p d.image d.image (found d)
  -- a writer gets through n actions of an update, and is perhaps at the next, when its process ends or power is cut
  updating : (p : ℕ) (x : Bytes) (u : Update) (s : Slices) (e : End) (n : ℕ) → Life p x x s
      → is_marked s.journal.seen ≡ false → Fits p x u → Life p x u.new (all_done (first e n (commit p u)) s)
  -- with the mark flushed, or more
  told : (p : ℕ) (x : Bytes) (u : Update) (s : Slices) (e : End) (n : ℕ) → Life p x x s
      → is_marked s.journal.seen ≡ false → Fits p x u → acknowledged ≤ n
      → Life p u.new u.new (all_done (first e n (commit p u)) s)
  -- the mark is written and its flush fails: the mark is taken back, and the update refused
  refused : (p : ℕ) (x : Bytes) (u : Update) (s : Slices) → Life p x x s → is_marked s.journal.seen ≡ false
      → Fits p x u → Life p x x (all_done (withdrawal p) (all_done (take (acknowledged - 1) (commit p u)) s))
  -- power is cut
  lost : (p : ℕ) (x y : Bytes) (s : Slices) (d : Disk) → Life p x y s → MayLeave s d → Life p x y (found d)
  -- a writer gets through n actions of recovery
  redoing : (p : ℕ) (x y : Bytes) (s : Slices) (e : End) (n : ℕ) (b : Block) → Life p x y s
      → Beside p (content_size s.journal.seen) b
      → Life p x y (all_done (first e n (recovery p b s.journal.seen)) s)
  -- of a marked journal, past its first flush: from now on the image is the one that recovery leads to
  decided : (p : ℕ) (x y : Bytes) (s : Slices) (e : End) (n : ℕ) (b : Block) → Life p x y s
      → Beside p (content_size s.journal.seen) b → is_marked s.journal.seen ≡ true → 1 ≤ n
      → Life p (recovered (seen_disk s)).image (recovered (seen_disk s)).image
      (all_done (first e n (recovery p b s.journal.seen)) s)
  -- a writer sees no mark: the image that it reads is the one, from now on
  opened : (p : ℕ) (x y : Bytes) (s : Slices) → Life p x y s → is_marked s.journal.seen ≡ false
      → Life p s.image.seen s.image.seen s
  -- a writer that sees no mark takes another journal, longer or shorter, without mark
  renewed : (p q : ℕ) (x : Bytes) (s : Slices) (j : Bytes) → Life p x x s → is_marked s.journal.seen ≡ false
      → q + 1 ≡ length j → is_marked j ≡ false → Life q x x (record { image = s.image; journal = still j })

-- ---- what is promised

-- after a power cut recovery is not refused, and gives the image that was acknowledged last or the one that was begun
unfoldable pub LifeSafe : Type 0
LifeSafe = (p : ℕ) (x y : Bytes) (s : Slices) (d : Disk) → Life p x y s → MayLeave s d
    → (recover_number (length d.image) d.journal ≡ 0) × (((recovered d).image ≡ x) ⊎ ((recovered d).image ≡ y))

-- a reader, who applies a marked journal to its own copy, has one of the two
unfoldable pub ReaderSafe : Type 0
ReaderSafe = (p : ℕ) (x y : Bytes) (s : Slices) → Life p x y s
    → ((recovered (seen_disk s)).image ≡ x) ⊎ ((recovered (seen_disk s)).image ≡ y)
