-- Document 02, Job 9: the form of a call that writes a journal first, its writes in their order, a cut, and recovery.
--     content rs new        what the journal takes from its start
--     updates old new ..    the writes, in order
--     cut_after n junk ..    n writes done, the next one spoilt, the rest not done
--     recovered d           recovery of image and journal
--     CutSafe old new j     wherever the cut falls, recovery gives the old image or the new one
--     journaled call ..     the form, of any call on an image
-- Assumes nothing.
use Rattle.std.specs.Prelude.{ℕ, zero, suc, ◌+◌, ◌-◌, ◌*◌, ◌≤◌, ◌≡◌, ◌⊎◌, Bool, true, cond, not, ◌&&◌, ◌||◌, List, [], ◌∷◌, ◌++◌, length, take, drop, get_or, leb, eqb}
use Rattle.spec_file.specs.Bytes.{Bytes, part, store, number, digits}
use Rattle.spec_file.specs.Calls.{Outcome, settled}
use Rattle.spec_changes.specs.Changes.{Pair, runs, pair_bytes, work_allowed, worked_number}

-- ---- the journal's bytes

-- the bytes of new in the stretches, one behind the other
unfoldable pub new_bytes : List Pair → Bytes → Bytes
new_bytes [] new = []
new_bytes (r ∷ rs) new = part new r.at r.size ++ new_bytes rs new

-- "a lent journal takes from its start the pair count (4 bytes), all the pairs and the new bytes"
unfoldable pub content : List Pair → Bytes → Bytes
content rs new = digits 4 (length rs) ++ (pair_bytes rs ++ new_bytes rs new)

-- "its last byte, the mark"
unfoldable pub mark_place : Bytes → ℕ
mark_place j = length j - 1

unfoldable pub mark : Bytes → ℕ
mark j = get_or j (mark_place j) 0

abbrev pub marked : ℕ
marked = 0xA5

-- "A journal too short for content and mark, or with a mark other than 0, is answered 17"
unfoldable pub journal_allowed : Bytes → Bytes → Bytes → Bool
journal_allowed old new j = leb (length (content (runs 0 old new) new) + 1) (length j) && eqb (mark j) 0

-- ---- writes

-- the two slices that a cut may leave half-way
pub record Disk : Type 0 where
  pub image : Bytes
  pub journal : Bytes

-- bytes put at a place
pub record Block : Type 0 where
  pub place : ℕ
  pub bytes : Bytes

pub data Write : Type 0 where
  to_journal : Block → Write
  to_image : Block → Write

unfoldable pub put : Bytes → Block → Bytes
put b w = store b w.place w.bytes

unfoldable pub written : Write → Disk → Disk
written (to_journal w) d = record { image = d.image; journal = put d.journal w }
written (to_image w) d = record { image = put d.image w; journal = d.journal }

unfoldable pub all_written : List Write → Disk → Disk
all_written [] d = d
all_written (w ∷ ws) d = all_written ws (written w d)

-- blocks put into an image, one after the other
unfoldable pub put_all : Bytes → List Block → Bytes
put_all img [] = img
put_all img (w ∷ ws) = put_all (put img w) ws

-- "each stretch is written to the image"
unfoldable pub stretches : List Pair → Bytes → List Block
stretches [] new = []
stretches (r ∷ rs) new = record { place = r.at; bytes = part new r.at r.size } ∷ stretches rs new

unfoldable pub to_images : List Block → List Write
to_images [] = []
to_images (w ∷ ws) = to_image w ∷ to_images ws

unfoldable pub set_mark : ℕ → Bytes → Write
set_mark m j = to_journal (record { place = mark_place j; bytes = m ∷ [] })

-- "takes from its start the pair count, all the pairs and the new bytes; then its last byte, the mark, is set to 0xA5;
-- then each stretch is written to the image; then the mark becomes 0"
unfoldable pub updates : Bytes → Bytes → Bytes → List Write
updates old new j =
    let rs : List Pair = runs 0 old new in
    to_journal (record { place = 0; bytes = content rs new })
    ∷ set_mark marked j
    ∷ (to_images (stretches rs new) ++ (set_mark 0 j ∷ []))

-- ---- a cut

-- "each byte of the write it falls in may be anything": as many bytes, of any value
unfoldable pub spoilt_bytes : (ℕ → ℕ) → Bytes → Bytes
spoilt_bytes junk [] = []
spoilt_bytes junk (b ∷ bs) = junk 0 ∷ spoilt_bytes (λ i. junk (suc i)) bs

unfoldable pub spoilt_block : (ℕ → ℕ) → Block → Block
spoilt_block junk w = record { place = w.place; bytes = spoilt_bytes junk w.bytes }

unfoldable pub spoilt : (ℕ → ℕ) → Write → Write
spoilt junk (to_journal w) = to_journal (spoilt_block junk w)
spoilt junk (to_image w) = to_image (spoilt_block junk w)

-- "at a cut those before it are done, those after it are not, and each byte of the write it falls in may be anything"
unfoldable pub cut_after : ℕ → (ℕ → ℕ) → List Write → Disk → Disk
cut_after n junk [] d = d
cut_after zero junk (w ∷ ws) d = written (spoilt junk w) d
cut_after (suc n) junk (w ∷ ws) d = cut_after n junk ws (written w d)

-- ---- recovery

-- how many pairs a journal says that it holds, and the pairs
unfoldable pub pair_count : Bytes → ℕ
pair_count j = number (part j 0 4)

unfoldable pub pairs_from : ℕ → Bytes → List Pair
pairs_from zero b = []
pairs_from (suc n) b = record { at = number (part b 0 4); size = number (part b 4 4) } ∷ pairs_from n (drop 8 b)

unfoldable pub pairs_of : Bytes → List Pair
pairs_of j = pairs_from (pair_count j) (drop 4 j)

-- where the new bytes begin, and the blocks that they make with the pairs
unfoldable pub bytes_start : ℕ → ℕ
bytes_start n = 4 + 8 * n

unfoldable pub blocks : List Pair → Bytes → List Block
blocks [] bytes = []
blocks (r ∷ rs) bytes = record { place = r.at; bytes = take r.size bytes } ∷ blocks rs (drop r.size bytes)

unfoldable pub blocks_of : Bytes → List Block
blocks_of j = blocks (pairs_of j) (drop (bytes_start (pair_count j)) j)

-- how many bytes the stretches have together
unfoldable pub total : List Pair → ℕ
total [] = 0
total (r ∷ rs) = r.size + total rs

-- "content that reaches the mark"
unfoldable pub content_inside : Bytes → Bool
content_inside j = leb (bytes_start (pair_count j) + total (pairs_of j) + 1) (length j)

-- "a pair that leaves the image or starts before the last one's end", which is `from`
unfoldable pub in_order : ℕ → ℕ → List Pair → Bool
in_order L from [] = true
in_order L from (r ∷ rs) = leb from r.at && (leb (r.at + r.size) L && in_order L (r.at + r.size) rs)

unfoldable pub is_marked : Bytes → Bool
is_marked j = eqb (mark j) marked

-- "answers 0, or 18 when the journal is empty or, being marked, has content that reaches the mark or a pair that leaves
-- the image or starts before the last one's end"
unfoldable pub journal_sound : ℕ → Bytes → Bool
journal_sound L j = content_inside j && in_order L 0 (pairs_of j)

unfoldable pub recover_number : ℕ → Bytes → ℕ
recover_number L j = cond (leb 1 (length j) && (not (is_marked j) || journal_sound L j)) 0 18

-- "Recovery rewrites the image from a journal whose mark is 0xA5; with any other mark it leaves the image. Either way
-- it sets the mark to 0 and changes no other journal byte." 01: "A refused call, also of a later job, changes no byte".
unfoldable pub recovered : Disk → Disk
recovered d =
    let n : ℕ = recover_number (length d.image) d.journal in
    record {
      image =
          settled n d.image
          (cond (is_marked d.journal) (put_all d.image (blocks_of d.journal)) d.image);
      journal = settled n d.journal (store d.journal (mark_place d.journal) (0 ∷ []));
    }

-- its writes, of a marked journal, in order: each stretch, then the mark
unfoldable pub recoveries : Bytes → List Write
recoveries j = to_images (blocks_of j) ++ (set_mark 0 j ∷ [])

-- ---- what a cut may leave

-- "Wherever the cut falls, the recovered image is the one before the call or the one after it; once the mark was fully
-- written it is the one after, and a second recovery changes nothing." Of an accepted call of this form, for every
-- image and journal; two writes done are the content's and the mark's. Recovery answers 0: a cut leaves no journal that
-- it refuses.
pub record Safe (old new : Bytes) (n : ℕ) (d : Disk) : Type 0 where
  pub accepted : recover_number (length d.image) d.journal ≡ 0
  pub either : ((recovered d).image ≡ old) ⊎ ((recovered d).image ≡ new)
  pub after-mark : 2 ≤ n → (recovered d).image ≡ new
  pub twice : recovered (recovered d) ≡ recovered d

unfoldable pub CutSafe : Bytes → Bytes → Bytes → Type 0
CutSafe old new j =
    (n : ℕ) (junk : ℕ → ℕ)
    → Safe old new n (cut_after n junk (updates old new j) (record { image = old; journal = j }))

-- ---- the form of a call

-- What the form leaves and answers. The image is the plain call's, which the writes arrive at: `updates-arrive`.
pub record Journaled : Type 0 where
  pub after : Bytes
  pub journal : Bytes
  pub number : ℕ

-- "A journal too short .. is answered 17 after all other questions and before any write"
unfoldable pub journaled_number : (Bytes → Outcome Bytes) → Bytes → ℕ → Bytes → ℕ
journaled_number call img work j =
    let n : ℕ = worked_number (work_allowed (length img) work) (call img).answer.number in
    cond (eqb n 0) (cond (journal_allowed img (call img).after j) 0 17) n

unfoldable pub journaled : (Bytes → Outcome Bytes) → Bytes → ℕ → Bytes → Journaled
journaled call img work j =
    let n : ℕ = journaled_number call img work j in
    let d : Disk = all_written (updates img (call img).after j) (record { image = img; journal = j }) in
    record { after = settled n img (call img).after; journal = settled n j d.journal; number = n }
