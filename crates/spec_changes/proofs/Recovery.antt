-- A cut, and recovery: wherever an update is cut, recovery gives the image before it or the one after it.
--     recovered-marked, recovered-other, recovered-refused      what recovery leaves, by the mark
--     recovered-twice       a second recovery changes nothing, whatever the first one found
--     updates-arrive        all writes done: the new image, and a journal without its mark
--     cut-safe              the theorem: `CutSafe`
--     recoveries-arrive, recovery-cut      recovery by its writes; a recovery that is cut is made good by the next one
-- Four states carry it: content not whole, so that the mark is still 0; content whole and any mark; marked, and the
-- image near the new one; the new image and any mark.
-- Assumes nothing.
use mathlib.Core.Path.{◌≡◌, refl, sym, ap, ap₂, ◌∙◌}
use Prim.Native.Nat.{ℕ, zero, suc, ◌+◌, ◌-◌, ◌^◌, ◌≤◌, ◌<◌}
use native.Mathlib.Omega.{arith}
use mathlib.Core.Bool.{Bool, true, false, cond, not, ◌&&◌, ◌||◌, true≢false}
use mathlib.Core.List.{List, [], ◌∷◌, ◌++◌}
use mathlib.Core.Logic.{◌⊎◌, inl, inr}
use lib.ListN.{length, get_or}
use lib.Dec.{leb, eqb}
use borrow.Author.Tests.{le-leb, leb-true, eqb-true}
use Rattle.spec_file.specs.Bytes.{Bytes, part, store}
use Rattle.spec_changes.specs.Changes.{Pair, runs, copied, Spread, Near}
use Rattle.spec_changes.specs.Journal.{content, mark_place, mark, marked, journal_allowed, Disk, Block, Write, to_journal, put, written, all_written, put_all, stretches, to_images, set_mark, updates, spoilt_bytes, spoilt_block, spoilt, cut_after, blocks_of, is_marked, journal_sound, recover_number, recovered, recoveries, CutSafe}
use Rattle.law_file.proofs.Tests.{by_bool, by-eq, and_left, and_right}
use Rattle.law_file.proofs.Bytes.{part_length, length-store}
use Rattle.law_file.proofs.Stores.{store-inner}
use Rattle.law_file.proofs.Outcomes.{settled-yes, settled-no}
use Rattle.spec_changes.proofs.Changes.{near_none, near-more, near-any, near-copy, near-runs, copied-near, runs-spread, runs-few}
use Rattle.law_file.proofs.Byte.{byte-store-above, byte-store-inside}
use Rattle.spec_changes.proofs.Journal.{Holds, holds-content, holds-mark, content-blocks, content-sound}

-- ---- the mark

pub mark_set : (j : Bytes) (m : ℕ) → 1 ≤ length j → mark (store j (mark_place j) (m ∷ [])) ≡ m
unfolding mark mark_place
mark_set j m h =
    let p : ℕ = length j - 1 in
    let size : length (store j p (m ∷ [])) ≡ length j = length-store j p (m ∷ []) (omega arith) in
    let place : length (store j p (m ∷ [])) - 1 ≡ p + 0 = omega arith in
    ap (λ (n : ℕ). get_or (store j p (m ∷ [])) n 0) place
    ∙ byte-store-inside j p (m ∷ []) 0 (omega arith) (omega arith)

-- bytes put in front of it leave it
pub mark-kept : (j v : Bytes) → length v < length j → mark (store j 0 v) ≡ mark j
unfolding mark mark_place
mark-kept j v h =
    let size : length (store j 0 v) ≡ length j = length-store j 0 v (omega arith) in
    ap (λ (n : ℕ). get_or (store j 0 v) (n - 1) 0) size
    ∙ byte-store-above j 0 v (length j - 1) (omega arith) (omega arith)

-- ---- what recovery leaves

abbrev pub unmarked : Bytes → Bytes
unmarked j = store j (mark_place j) (0 ∷ [])

module _ (img j : Bytes) (some : 1 ≤ length j) where
  pub number-other : is_marked j ≡ false → recover_number (length img) j ≡ 0
  unfolding recover_number
  number-other no' =
      ap₂ (λ (a b : Bool). cond (a && (not b || journal_sound (length img) j)) 0 18) (le-leb 1 (length j) some) no'

  pub number-marked : is_marked j ≡ true → journal_sound (length img) j ≡ true → recover_number (length img) j ≡ 0
  unfolding recover_number
  number-marked yes' s =
      ap₂ (λ (a b : Bool). cond (a && (not b || journal_sound (length img) j)) 0 18) (le-leb 1 (length j) some) yes'
      ∙ ap (λ (a : Bool). cond a 0 18) s

  pub recovered-other : is_marked j ≡ false
      → recovered (record { image = img; journal = j }) ≡ record { image = img; journal = unmarked j }
  unfolding recovered
  recovered-other no' =
      let n : ℕ = recover_number (length img) j in
      let z : n ≡ 0 = number-other no' in
      ap₂ (λ (x y : Bytes). record { image = x; journal = y })
      (settled-yes n img (cond (is_marked j) (put_all img (blocks_of j)) img) z
      ∙ ap (λ (b : Bool). cond b (put_all img (blocks_of j)) img) no')
      (settled-yes n j (store j (mark_place j) (0 ∷ [])) z)

  pub recovered-marked : is_marked j ≡ true → journal_sound (length img) j ≡ true
      → recovered (record { image = img; journal = j })
      ≡ record { image = put_all img (blocks_of j); journal = unmarked j }
  unfolding recovered
  recovered-marked yes' s =
      let n : ℕ = recover_number (length img) j in
      let z : n ≡ 0 = number-marked yes' s in
      ap₂ (λ (x y : Bytes). record { image = x; journal = y })
      (settled-yes n img (cond (is_marked j) (put_all img (blocks_of j)) img) z
      ∙ ap (λ (b : Bool). cond b (put_all img (blocks_of j)) img) yes')
      (settled-yes n j (store j (mark_place j) (0 ∷ [])) z)

pub recovered-refused : (d : Disk) → (recover_number (length d.image) d.journal ≡ 0 → ⊥) → recovered d ≡ d
unfolding recovered
recovered-refused d z =
    ap₂ (λ (x y : Bytes). record { image = x; journal = y })
    (settled-no (recover_number (length d.image) d.journal) d.image _ z)
    (settled-no (recover_number (length d.image) d.journal) d.journal _ z)

-- an accepted recovery had a journal of some bytes
recovered-some : (L : ℕ) (j : Bytes) → recover_number L j ≡ 0 → 1 ≤ length j
unfolding recover_number
recovered-some L j z =
    by_bool (leb 1 (length j)) (λ h. leb-true 1 (length j) h)
    (λ h. absurd (not-18 (sym (ap (λ (b : Bool). cond (b && (not (is_marked j) || journal_sound L j)) 0 18) h) ∙ z)))
  where
    not-18 : ◌≡◌ {A = ℕ} 18 0 → ⊥
    not-18 e = omega arith

-- "a second recovery changes nothing"
pub recovered-twice : (d : Disk) → recovered (recovered d) ≡ recovered d
recovered-twice d =
    by-eq (recover_number (length d.image) d.journal) 0
    (λ z.
    let j = d.journal in
    let some = recovered-some (length d.image) j z in
    by_bool (is_marked j)
    (λ m. by_bool (journal_sound (length d.image) j)
    (λ s. again (put_all d.image (blocks_of j)) j some (recovered-marked d.image j some m s))
    (λ s. absurd (marked-bad j m s z)))
    (λ m. again d.image j some (recovered-other d.image j some m)))
    (λ z. ap recovered (recovered-refused d z))
  where
    marked-bad : (j : Bytes) → is_marked j ≡ true → journal_sound (length d.image) j ≡ false
        → recover_number (length d.image) j ≡ 0 → ⊥
    marked-bad j m s z =
        unfold recover_number in
        bad (leb 1 (length j)) (is_marked j) (journal_sound (length d.image) j) m s z
      where
        bad : (a b c : Bool) → b ≡ true → c ≡ false → ◌≡◌ {A = ℕ} (cond (a && (not b || c)) 0 18) 0 → ⊥
        bad true true true m s z = true≢false s
        bad true true false m s z = omega arith
        bad true false c m s z = true≢false (sym m)
        bad false b c m s z = omega arith

    -- with the mark 0 recovery leaves all
    again : (x j : Bytes) → 1 ≤ length j → recovered d ≡ record { image = x; journal = unmarked j }
        → recovered (recovered d) ≡ recovered d
    again x j some e =
        unfold is_marked in
        (ap recovered e
        ∙ recovered-other x (store j (mark_place j) (0 ∷ [])) (omega (arith, size))
        (ap (λ (m : ℕ). eqb m marked) (mark_set j 0 some))
        ∙ ap (λ (y : Bytes). record { image = x; journal = y }) same
        ∙ sym e)
      where
        size : length (store j (mark_place j) (0 ∷ [])) ≡ length j
        size = unfold mark_place in length-store j (length j - 1) (0 ∷ []) (omega arith)

        same : store (store j (mark_place j) (0 ∷ [])) (mark_place (store j (mark_place j) (0 ∷ []))) (0 ∷ [])
            ≡ store j (mark_place j) (0 ∷ [])
        same =
            unfold mark_place in
            (ap (λ (n : ℕ). store (store j (length j - 1) (0 ∷ [])) (n - 1) (0 ∷ [])) (unfold mark_place in size)
            ∙ store-inner j (length j - 1) (0 ∷ []) (length j - 1) (0 ∷ []) (omega arith) (omega arith) (omega arith))

-- ---- the writes

length-spoilt : (junk : ℕ → ℕ) (v : Bytes) → length (spoilt_bytes junk v) ≡ length v
unfolding spoilt_bytes
length-spoilt junk [] = refl
length-spoilt junk (b ∷ v) = ap suc (length-spoilt (λ i. junk (suc i)) v)

pub put_all-stretches : (rs : List Pair) (new img : Bytes) → put_all img (stretches rs new) ≡ copied rs new img
unfolding put_all stretches copied put
put_all-stretches [] new img = refl
put_all-stretches (r ∷ rs) new img = put_all-stretches rs new (store img r.at (part new r.at r.size))

-- blocks put into the image, then the rest
pub images-then : (bs : List Block) (ws : List Write) (img j : Bytes)
    → all_written (to_images bs ++ ws) (record { image = img; journal = j })
    ≡ all_written ws (record { image = put_all img bs; journal = j })
unfolding all_written to_images written put_all
images-then [] ws img j = refl
images-then (b ∷ bs) ws img j = images-then bs ws (put img b) j

-- ---- an update

module _ (old new j : Bytes) (l : length old ≡ length new) (small : length new < 256 ^ 4)
    (allowed : journal_allowed old new j ≡ true) where
  abbrev rs : List Pair
  rs = runs 0 old new

  abbrev c : Bytes
  c = content rs new

  room : length c < length j
  unfolding journal_allowed
  room =
      omega (
        arith,
        leb-true (length c + 1) (length j) (and_left (leb (length c + 1) (length j)) (eqb (mark j) 0) allowed),
      )

  clear : mark j ≡ 0
  unfolding journal_allowed
  clear = eqb-true (mark j) 0 (and_right (leb (length c + 1) (length j)) (eqb (mark j) 0) allowed)

  spread : Spread 0 (length new) rs
  spread = runs-spread old new l

  few : length rs < 256 ^ 4
  few = omega (arith, runs-few 0 old new)

  abbrev place : ℕ
  place = mark_place j

  place-last : place + 1 ≡ length j
  unfolding mark_place
  place-last = omega (arith, room)

  -- the journal with its content, and with a mark of any value behind it
  abbrev filled : ℕ → Bytes
  filled m = store (store j 0 c) place (m ∷ [])

  length-full : length (store j 0 c) ≡ length j
  length-full = length-store j 0 c (omega (arith, room))

  holds : (m : ℕ) → Holds c (filled m)
  holds m = holds-mark c (store j 0 c) place m (holds-content c j room) (place-last ∙ sym length-full)

  -- content whole: marked gives new of an image near it
  marked-new : (x j' : Bytes) → Holds c j' → is_marked j' ≡ true → Near rs x new
      → (recovered (record { image = x; journal = j' })).image ≡ new
  marked-new x j' h m near =
      ap (λ (d : Disk). d.image)
      (recovered-marked x j' (omega (arith, h.room)) m
      (ap (λ (n : ℕ). journal_sound n j') near.size ∙ content-sound rs new j' h spread few small))
      ∙ ap (put_all x) (content-blocks rs new j' h spread few small)
      ∙ put_all-stretches rs new x
      ∙ copied-near 0 rs new x spread near

  -- any other mark leaves the image
  other-same : (x j' : Bytes) → 1 ≤ length j' → is_marked j' ≡ false
      → (recovered (record { image = x; journal = j' })).image ≡ x
  other-same x j' some m = ap (λ (d : Disk). d.image) (recovered-other x j' some m)

  -- the new image stays, whatever the mark
  new-any : (j' : Bytes) → Holds c j' → (recovered (record { image = new; journal = j' })).image ≡ new
  new-any j' h =
      by_bool (is_marked j')
      (λ m. marked-new new j' h m (record { size = refl; outside = λ i f. refl }))
      (λ m. other-same new j' (omega (arith, h.room)) m)

  -- marked, and the stretches rs' still to be written
  finish : (k : ℕ) (rs' : List Pair) → ((x : Bytes) → Near rs' x new → Near rs x new) → (x : Bytes) → Near rs' x new
      → Spread k (length new) rs' → (J : Bytes) → Holds c J → is_marked J ≡ true → place + 1 ≡ length J
      → (n : ℕ) (junk : ℕ → ℕ)
      → (recovered (cut_after n junk (to_images (stretches rs' new) ++ (set_mark 0 j ∷ []))
      (record { image = x; journal = J }))).image
      ≡ new
  unfolding cut_after written spoilt spoilt_block put to_images stretches set_mark spoilt_bytes
  finish k [] up x near s J h m e zero junk =
      ap (λ (i : Bytes). (recovered (record { image = i; journal = store J place (junk 0 ∷ []) })).image)
      (near_none x new near)
      ∙ new-any (store J place (junk 0 ∷ [])) (holds-mark c J place (junk 0) h e)
  finish k [] up x near s J h m e (suc n) junk =
      ap (λ (i : Bytes). (recovered (record { image = i; journal = store J place (0 ∷ []) })).image)
      (near_none x new near)
      ∙ new-any (store J place (0 ∷ [])) (holds-mark c J place 0 h e)
  finish k (r ∷ rs') up x near s J h m e zero junk =
      let v : Bytes = part new r.at r.size in
      marked-new (store x r.at (spoilt_bytes junk v)) J h m
      (up (store x r.at (spoilt_bytes junk v))
      (near-any r rs' x new s.2 near (spoilt_bytes junk v)
      (length-spoilt junk v ∙ part_length new r.at r.size s.2)))
  finish k (r ∷ rs') up x near s J h m e (suc n) junk =
      finish (suc (r.at + r.size)) rs' (λ y t. up y (near-more r rs' y new t))
      (store x r.at (part new r.at r.size)) (near-copy r rs' x new s.2 near) s.3 J h m e n junk

  abbrev before : Disk
  before = record { image = old; journal = j }

  mark-filled : (m : ℕ) → mark (filled m) ≡ m
  unfolding mark_place
  mark-filled m =
      ap (λ (n : ℕ). mark (store (store j 0 c) (n - 1) (m ∷ []))) (sym length-full)
      ∙ mark_set (store j 0 c) m (omega (arith, room, length-full))

  -- content not whole: the mark is still 0
  unmarked-yet : (junk : ℕ → ℕ) → is_marked (cut_after 0 junk (updates old new j) before).journal ≡ false
  unfolding cut_after updates written spoilt spoilt_block put is_marked
  unmarked-yet junk =
      ap (λ (m : ℕ). eqb m marked)
      (mark-kept j (spoilt_bytes junk c) (omega (arith, room, length-spoilt junk c)) ∙ clear)

  content-long : (junk : ℕ → ℕ) → 1 ≤ length (cut_after 0 junk (updates old new j) before).journal
  unfolding cut_after updates written spoilt spoilt_block put
  content-long junk =
      omega (arith, room, length-store j 0 (spoilt_bytes junk c) (omega (arith, room, length-spoilt junk c)))

  cut-content : (junk : ℕ → ℕ) → (recovered (cut_after 0 junk (updates old new j) before)).image ≡ old
  unfolding cut_after updates written spoilt spoilt_block put
  cut-content junk =
      let v : Bytes = spoilt_bytes junk c in
      let long : length v ≡ length c = length-spoilt junk c in
      let size : length (store j 0 v) ≡ length j = length-store j 0 v (omega (arith, room)) in
      other-same old (store j 0 v) (omega (arith, room)) (unmarked-yet junk)

  -- content whole, the mark anything
  cut-mark : (junk : ℕ → ℕ)
      → ((recovered (cut_after 1 junk (updates old new j) before)).image ≡ old)
      ⊎ ((recovered (cut_after 1 junk (updates old new j) before)).image ≡ new)
  unfolding cut_after updates written spoilt spoilt_block put set_mark spoilt_bytes
  cut-mark junk =
      by_bool (is_marked (filled (junk 0)))
      (λ m. inr (marked-new old (filled (junk 0)) (holds (junk 0)) m (near-runs old new l)))
      (λ m. inl (other-same old (filled (junk 0)) (omega (arith, (holds (junk 0)).room)) m))

  -- "once the mark was fully written it is the one after"
  cut_later : (n : ℕ) (junk : ℕ → ℕ) → (recovered (cut_after (suc (suc n)) junk (updates old new j) before)).image ≡ new
  unfolding cut_after updates written put set_mark is_marked
  cut_later n junk =
      finish 0 rs (λ x t. t) old (near-runs old new l) spread (filled marked) (holds marked)
      (ap (λ (m : ℕ). eqb m marked) (mark-filled marked))
      (place-last
      ∙ sym (length-store (store j 0 c) place (marked ∷ []) (omega (arith, place-last, length-full)) ∙ length-full))
      n junk

  -- no cut: the new image, the journal's content, and its mark 0
  pub updates-arrive : all_written (updates old new j) before ≡ record { image = new; journal = filled 0 }
  unfolding all_written updates written put set_mark
  updates-arrive =
      images-then (stretches rs new) (set_mark 0 j ∷ []) old (filled marked)
      ∙ ap₂ (λ (x y : Bytes). record { image = x; journal = y })
      (put_all-stretches rs new old ∙ copied-near 0 rs new old spread (near-runs old new l))
      (store-inner (store j 0 c) place (0 ∷ []) place (marked ∷ []) (omega arith) (omega arith)
      (omega (arith, place-last, length-full)))

  -- ---- recovery cut

  -- what a cut leaves behind the content: an image near the new one, and the content still there
  record Left (d : Disk) : Type 0 where
    near : Near rs d.image new
    holds' : Holds c d.journal
    long : place + 1 ≡ length d.journal

  marked-again : (x J : Bytes) (m : ℕ) → Near rs x new → Holds c J → place + 1 ≡ length J
      → Left (record { image = x; journal = store J place (m ∷ []) })
  marked-again x J m near h e =
      record {
        near = near;
        holds' = holds-mark c J place m h e;
        long = e ∙ sym (length-store J place (m ∷ []) (omega arith));
      }

  left : (k : ℕ) (rs' : List Pair) → ((x : Bytes) → Near rs' x new → Near rs x new) → (x : Bytes) → Near rs' x new
      → Spread k (length new) rs' → (J : Bytes) → Holds c J → place + 1 ≡ length J
      → (n : ℕ) (junk : ℕ → ℕ)
      → Left (cut_after n junk (to_images (stretches rs' new) ++ (set_mark 0 j ∷ [])) (record { image = x; journal = J }))
  unfolding cut_after written spoilt spoilt_block put to_images stretches set_mark spoilt_bytes
  left k [] up x near s J h e zero junk = marked-again x J (junk 0) (up x near) h e
  left k [] up x near s J h e (suc n) junk = marked-again x J 0 (up x near) h e
  left k (r ∷ rs') up x near s J h e zero junk =
      let v : Bytes = part new r.at r.size in
      record {
        near =
            up (store x r.at (spoilt_bytes junk v))
            (near-any r rs' x new s.2 near (spoilt_bytes junk v)
            (length-spoilt junk v ∙ part_length new r.at r.size s.2));
        holds' = h;
        long = e;
      }
  left k (r ∷ rs') up x near s J h e (suc n) junk =
      left (suc (r.at + r.size)) rs' (λ y t. up y (near-more r rs' y new t))
      (store x r.at (part new r.at r.size)) (near-copy r rs' x new s.2 near) s.3 J h e n junk

  full : place + 1 ≡ length (store j 0 c)
  full = place-last ∙ sym length-full

  cut_left : (n : ℕ) (junk : ℕ → ℕ) → Left (cut_after (suc n) junk (updates old new j) before)
  unfolding cut_after updates written spoilt spoilt_block put set_mark spoilt_bytes
  cut_left zero junk =
      marked-again old (store j 0 c) (junk 0) (near-runs old new l) (holds-content c j room) full
  cut_left (suc n) junk =
      left 0 rs (λ x t. t) old (near-runs old new l) spread (filled marked) (holds marked)
      (full ∙ sym (length-store (store j 0 c) place (marked ∷ []) (omega (arith, full)))) n junk

  -- a cut leaves no journal that recovery refuses
  cut-accepted : (n : ℕ) (junk : ℕ → ℕ)
      → recover_number (length (cut_after n junk (updates old new j) before).image)
      (cut_after n junk (updates old new j) before).journal
      ≡ 0
  cut-accepted zero junk =
      let d : Disk = cut_after 0 junk (updates old new j) before in
      number-other d.image d.journal (content-long junk) (unmarked-yet junk)
  cut-accepted (suc n) junk =
      let d : Disk = cut_after (suc n) junk (updates old new j) before in
      let w : Left d = cut_left n junk in
      let some : 1 ≤ length d.journal = omega (arith, w.long) in
      by_bool (is_marked d.journal)
      (λ m. number-marked d.image d.journal some m
      (ap (λ (k : ℕ). journal_sound k d.journal) w.near.size
      ∙ content-sound rs new d.journal w.holds' spread few small))
      (λ m. number-other d.image d.journal some m)

  -- the cut theorem
  pub cut-safe : CutSafe old new j
  unfolding CutSafe
  cut-safe zero junk =
      record {
        accepted = cut-accepted 0 junk;
        either = inl (cut-content junk);
        after-mark = λ h. absurd (omega arith);
        twice = recovered-twice (cut_after 0 junk (updates old new j) before);
      }
  cut-safe (suc zero) junk =
      record {
        accepted = cut-accepted 1 junk;
        either = cut-mark junk;
        after-mark = λ h. absurd (omega arith);
        twice = recovered-twice (cut_after 1 junk (updates old new j) before);
      }
  cut-safe (suc (suc n)) junk =
      record {
        accepted = cut-accepted (suc (suc n)) junk;
        either = inr (cut_later n junk);
        after-mark = λ h. cut_later n junk;
        twice = recovered-twice (cut_after (suc (suc n)) junk (updates old new j) before);
      }

  -- recovery's own writes, cut: of what a cut left, if it is marked
  again : (d : Disk) → Left d → is_marked d.journal ≡ true → (n : ℕ) (junk : ℕ → ℕ)
      → (recovered (cut_after n junk (recoveries d.journal) d)).image ≡ new
  unfolding recoveries set_mark mark_place
  again d w m n junk =
      let J : Bytes = d.journal in
      let same : length J ≡ length j = omega (arith, w.long, place-last) in
      ap₂ (λ (bs : List Block) (p : ℕ).
      (recovered (cut_after n junk
      (to_images bs ++ (to_journal (record { place = p - 1; bytes = 0 ∷ [] }) ∷ [])) d)).image)
      (content-blocks rs new J w.holds' spread few small) same
      ∙ finish 0 rs (λ x t. t) d.image w.near spread J w.holds' m w.long n junk

  -- wherever the update was cut, and wherever the recovery from it is cut again, the next recovery gives the new image,
  -- if the journal was marked; if not, recovery writes the mark alone
  pub recovery-cut : (n : ℕ) (junk : ℕ → ℕ) (n' : ℕ) (junk' : ℕ → ℕ)
      → is_marked (cut_after n junk (updates old new j) before).journal ≡ true
      → (recovered (cut_after n' junk' (recoveries (cut_after n junk (updates old new j) before).journal)
      (cut_after n junk (updates old new j) before))).image
      ≡ new
  recovery-cut zero junk n' junk' m = absurd (true≢false (sym m ∙ unmarked-yet junk))
  recovery-cut (suc n) junk n' junk' m =
      again (cut_after (suc n) junk (updates old new j) before) (cut_left n junk) m n' junk'

-- recovery of a marked journal is its writes, all done
pub recoveries-arrive : (img j : Bytes) → 1 ≤ length j → is_marked j ≡ true → journal_sound (length img) j ≡ true
    → all_written (recoveries j) (record { image = img; journal = j })
    ≡ recovered (record { image = img; journal = j })
unfolding recoveries all_written written put set_mark
recoveries-arrive img j some m s =
    images-then (blocks_of j) (set_mark 0 j ∷ []) img j
    ∙ sym (recovered-marked img j some m s)
