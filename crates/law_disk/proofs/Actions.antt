-- The lists of actions lead from state to state, wherever they end.
--     all-goes                  behind the mark: stretches, base and mark 0
--     stage-goes                a recovery
--     commit-stage, commit-later, commit-refused      an update; once acknowledged; one whose mark is taken back
-- Assumes nothing.
use mathlib.Core.Path.{◌≡◌, refl, sym, ap, ap₂, ◌∙◌, subst}
use Prim.Native.Nat.{ℕ, zero, suc, ◌+◌, ◌-◌, ◌≤◌}
use native.Mathlib.Omega.{arith}
use mathlib.Core.Bool.{Bool, true, false, cond, ◌||◌, true≢false}
use mathlib.Core.List.{List, [], ◌∷◌}
use lib.ListN.{length, take}
use lib.Dec.{leb, eqb}
use Rattle.spec_file.specs.Bytes.{Bytes, part, store}
use Rattle.spec_changes.specs.Changes.{Pair, covered, Spread, Near}
use Rattle.spec_changes.specs.Journal.{content, marked, Block, to_journal, to_image, put, stretches, spoilt_bytes, spoilt_block, pair_count, pairs_of, bytes_start, total, blocks_of, is_marked}
use Rattle.spec_disk.specs.Disk.{Slices, Action, write, flush_image, flush_journal, wrote, flushed, done, all_done, Update, set_mark_at, write_image, completion, commit, acknowledged, withdrawal, recovery, Beside, content_size, Fits, End, between, amid, partly, first}
use Rattle.law_file.proofs.Tests.{by_bool, or_no}
use Rattle.law_file.proofs.Bytes.{part_length, length-store}
use Rattle.spec_changes.proofs.Changes.{inside, inside-above, covered-cons, near_none, near-any, near-copy}
use Rattle.spec_changes.proofs.Journal.{Holds, holds-content, length-content, content-count, content-pairs, content-blocks}
use Rattle.spec_changes.proofs.Recovery.{mark-kept}
use Rattle.law_disk.proofs.States.{Front, Quiet, Clear, Whole, Either, After, Sound, Later, Stage, length-mark, is_marked-set, whole-mark, whole-beside, whole-flushed, no-flush-image, no-flush-journal, no-mark, choose-done, near_same, length-spoilt, Within, clear, over, after, old-yet, mark-yet, new-now}

module _ (p : ℕ) where
  -- ---- behind the mark

  module _ (rs : List Pair) (new : Bytes) (so : Sound p rs new) (b : Block)
      (beside : Beside p (length (content rs new)) b) where
    after-flushed : (s : Slices) → After p rs new s → After p rs new (done flush_journal s)
    unfolding done flushed
    after-flushed s a =
        record {
          near = a.near;
          within = a.within;
          seen-near = a.seen-near;
          whole = whole-flushed p (content rs new) s.journal a.whole;
          yes = a.seen-yes;
          kept = refl;
          seen-yes = a.seen-yes;
        }

    -- one stretch
    module _ (r : Pair) (rs' : List Pair) (fits : r.at + r.size ≤ length new) (sub : Within rs (r ∷ rs')) where
      sub-rest : Within rs rs'
      unfolding Within
      sub-rest i f = (or_no (inside r i) (covered rs' i) (sym (covered-cons r rs' i) ∙ sub i f)).1

      late-more : (late : List Pair) → Within rs late
          → Within rs (record { at = r.at; size = length (part new r.at r.size) } ∷ late)
      unfolding Within
      late-more late w i f =
          ap (λ (n : ℕ). covered (record { at = r.at; size = n } ∷ late) i) (part_length new r.at r.size fits)
          ∙ covered-cons r late i
          ∙ ap₂ ◌||◌ (or_no (inside r i) (covered rs' i) (sym (covered-cons r rs' i) ∙ sub i f)).0 (w i f)

      abbrev next : Slices → Slices
      next s = done (write (to_image (record { place = r.at; bytes = part new r.at r.size }))) s

      next-near : (s : Slices) → Near (r ∷ rs') s.image.seen new → Near rs' (next s).image.seen new
      unfolding done wrote put
      next-near s n = near-copy r rs' s.image.seen new fits n

      after_next : (s : Slices) → Near (r ∷ rs') s.image.seen new → After p rs new s → After p rs new (next s)
      unfolding done wrote put Within
      after_next s n a =
          let m : Near rs' (next s).image.seen new = next-near s n in
          record {
            near = a.near;
            within = late-more s.image.late a.within;
            seen-near = record { size = m.size; outside = λ i f. m.outside i (sub-rest i f) };
            whole = a.whole;
            yes = a.yes;
            kept = a.kept;
            seen-yes = a.seen-yes;
          }

      -- any bytes in the stretch
      after-amid : (junk : ℕ → ℕ) (s : Slices) → Near (r ∷ rs') s.image.seen new → After p rs new s
          → After p rs new (done (write (to_image
          (spoilt_block junk (record { place = r.at; bytes = part new r.at r.size })))) s)
      unfolding done wrote put Within spoilt_block
      after-amid junk s n a =
          let v : Bytes = spoilt_bytes junk (part new r.at r.size) in
          let long : length v ≡ r.size = length-spoilt junk (part new r.at r.size)
          ∙ part_length new r.at r.size fits in
          let m : Near (r ∷ rs') (store s.image.seen r.at v) new =
          near-any r rs' s.image.seen new fits n v long in
          record {
            near = a.near;
            within = λ i f.
                ap (λ (k : ℕ). covered (record { at = r.at; size = k } ∷ s.image.late) i) long
                ∙ covered-cons r s.image.late i
                ∙ ap₂ ◌||◌ (or_no (inside r i) (covered rs' i) (sym (covered-cons r rs' i) ∙ sub i f)).0
                (a.within i f);
            seen-near = record { size = m.size; outside = λ i f. m.outside i (sub i f) };
            whole = a.whole;
            yes = a.yes;
            kept = a.kept;
            seen-yes = a.seen-yes;
          }

      after-end : (e : End) (s : Slices) → Near (r ∷ rs') s.image.seen new → After p rs new s
          → After p rs new
          (all_done (partly e (write (to_image (record { place = r.at; bytes = part new r.at r.size })))) s)
      unfolding partly all_done
      after-end between s n a = a
      after-end (amid junk) s n a = after-amid junk s n a

    -- all stretches written, and flushed
    after-image : (s : Slices) → Near [] s.image.seen new → After p rs new s → After p rs new (done flush_image s)
    unfolding done flushed Within
    after-image s n a =
        record {
          near = a.seen-near;
          within = λ i f. unfold covered in refl;
          seen-near = a.seen-near;
          whole = a.whole;
          yes = a.yes;
          kept = a.kept;
          seen-yes = a.seen-yes;
        }

    over-spoilt : (junk : ℕ → ℕ) (s : Slices) → Near [] s.image.seen new → After p rs new s
        → Either p rs new new (done (write (to_journal (spoilt_block junk b))) (done flush_image s))
    unfolding done flushed spoilt_block
    over-spoilt junk s n a =
        let e : s.image.seen ≡ new = near_none s.image.seen new n in
        let beside' : Beside p (length (content rs new))
        (record { place = b.place; bytes = spoilt_bytes junk b.bytes }) =
        record {
          behind = beside.behind;
          before = omega (arith, beside.before, length-spoilt junk b.bytes);
        } in
        record {
          image = record { sure = e; seen = e; late = refl };
          near = near_same new rs;
          whole =
              whole-beside p (content rs new) s.journal
              (record { place = b.place; bytes = spoilt_bytes junk b.bytes }) beside' a.whole;
        }

    over-base : (s : Slices) → Near [] s.image.seen new → After p rs new s
        → Either p rs new new (done (write (to_journal b)) (done flush_image s))
    unfolding done flushed
    over-base s n a =
        let e : s.image.seen ≡ new = near_none s.image.seen new n in
        record {
          image = record { sure = e; seen = e; late = refl };
          near = near_same new rs;
          whole = whole-beside p (content rs new) s.journal b beside a.whole;
        }

    -- any bytes in the base
    base-end : (e : End) (s : Slices) → Near [] s.image.seen new → After p rs new s
        → Later p new (all_done (partly e (write (to_journal b))) (done flush_image s))
    unfolding partly all_done
    base-end between s n a = after rs so (after-image s n a)
    base-end (amid junk) s n a =
        choose-done p (Later p new) (leb (length b.bytes) 1) (write (to_journal (spoilt_block junk b)))
        (done flush_image s)
        (after rs so (after-image s n a))
        (over rs so (over-spoilt junk s n a))

    over-mark : (s : Slices) → Near [] s.image.seen new → After p rs new s
        → Either p rs new new (done (set_mark_at p 0) (done (write (to_journal b)) (done flush_image s)))
    unfolding done flushed set_mark_at
    over-mark s n a =
        let e : s.image.seen ≡ new = near_none s.image.seen new n in
        record {
          image = record { sure = e; seen = e; late = refl };
          near = near_same new rs;
          whole =
              whole-mark p (content rs new) (wrote b s.journal) 0
              (whole-beside p (content rs new) s.journal b beside a.whole);
        }

    completion-goes : (k : ℕ) (rs' : List Pair) → Spread k (length new) rs' → Within rs rs' → (s : Slices)
        → Near rs' s.image.seen new → After p rs new s → (e : End) (n : ℕ)
        → Later p new (all_done (first e n (completion p b (stretches rs' new))) s)
    unfolding completion write_image stretches all_done first
    completion-goes k [] sp sub s m a e zero =
        subst (λ (l : List Action). Later p new (all_done l s)) (sym (no-flush-image p e))
        (unfold all_done in after rs so a)
    completion-goes k [] sp sub s m a e (suc zero) = base-end e s m a
    completion-goes k [] sp sub s m a e (suc (suc zero)) =
        subst (λ (l : List Action). Later p new (all_done l (done (write (to_journal b)) (done flush_image s))))
        (sym (no-mark p e 0)) (unfold all_done in over rs so (over-base s m a))
    completion-goes k [] sp sub s m a e (suc (suc (suc n))) = over rs so (over-mark s m a)
    completion-goes k (r ∷ rs') sp sub s m a e zero = after rs so (after-end r rs' sp.2 sub e s m a)
    completion-goes k (r ∷ rs') sp sub s m a e (suc n) =
        completion-goes (suc (r.at + r.size)) rs' sp.3 (sub-rest r rs' sp.2 sub) (next r rs' sp.2 sub s)
        (next-near r rs' sp.2 sub s m) (after_next r rs' sp.2 sub s m a) e n

    pub all-goes : (s : Slices) → After p rs new s → (e : End) (n : ℕ)
        → Later p new (all_done (first e n (completion p b (stretches rs new))) s)
    unfolding Within
    all-goes s a e n = completion-goes 0 rs so.spread (λ i f. f) s a.seen-near a e n

  -- ---- recovery

  recovery-yes : (rs : List Pair) (new : Bytes) (J : Bytes) (b : Block) → Sound p rs new → Holds (content rs new) J
      → is_marked J ≡ true → recovery p b J ≡ flush_journal ∷ completion p b (stretches rs new)
  unfolding recovery
  recovery-yes rs new J b so h y =
      ap (λ (t : Bool). cond t (flush_journal ∷ completion p b (blocks_of J)) []) y
      ∙ ap (λ (l : List Block). flush_journal ∷ completion p b l)
      (content-blocks rs new J h so.spread so.few so.small)

  recovery-no : (J : Bytes) (b : Block) → is_marked J ≡ false → recovery p b J ≡ []
  unfolding recovery
  recovery-no J b u = ap (λ (t : Bool). cond t (flush_journal ∷ completion p b (blocks_of J)) []) u

  -- beside the content that it holds
  beside-held : (rs : List Pair) (new : Bytes) (J : Bytes) (b : Block) → Sound p rs new → Holds (content rs new) J
      → Beside p (content_size J) b → Beside p (length (content rs new)) b
  unfolding content_size
  beside-held rs new J b so h e =
      let size : bytes_start (pair_count J) + total (pairs_of J) ≡ length (content rs new) =
      ap₂ (λ (m : ℕ) (l : List Pair). bytes_start m + total l)
      (content-count rs new J h so.spread so.few so.small)
      (content-pairs rs new J h so.spread so.few so.small)
      ∙ sym (length-content 0 rs new so.spread) in
      subst (λ (m : ℕ). Beside p m b) size e

  -- flushed, an image near the new one and a marked journal
  either-flushed : (rs : List Pair) (old new : Bytes) (s : Slices) → Either p rs old new s
      → is_marked s.journal.seen ≡ true → After p rs new (done flush_journal s)
  unfolding done flushed Within
  either-flushed rs old new s e y =
      let q : Quiet p old s.image = e.image in
      record {
        near = subst (λ (b : Bytes). Near rs b new) (sym q.sure) e.near;
        within = λ i f. ap (λ (l : List Pair). covered l i) q.late ∙ (unfold covered in refl);
        seen-near = subst (λ (b : Bytes). Near rs b new) (sym q.seen) e.near;
        whole = whole-flushed p (content rs new) s.journal e.whole;
        yes = y;
        kept = refl;
        seen-yes = y;
      }

  abbrev pub recovering-from : Block → Slices → End → ℕ → Slices
  recovering-from b s e n = all_done (first e n (recovery p b s.journal.seen)) s

  module _ (s : Slices) (b : Block) (beside : Beside p (content_size s.journal.seen) b) (w : End) where
    stays : (x : Bytes) → Later p x s → is_marked s.journal.seen ≡ false → (n : ℕ)
        → Later p x (recovering-from b s w n)
    stays x l u n =
        unfold all_done first in
        subst (λ (a : List Action). Later p x (all_done (first w n a) s)) (sym (recovery-no s.journal.seen b u)) l

    -- its first action is a flush
    begins : (P : Slices → Type 0) (rs : List Pair) (new : Bytes) → Sound p rs new
        → Holds (content rs new) s.journal.seen → is_marked s.journal.seen ≡ true → P s
        → P (recovering-from b s w 0)
    begins P rs new so h y x =
        unfold first in
        subst (λ (a : List Action). P (all_done (first w 0 a) s)) (sym (recovery-yes rs new s.journal.seen b so h y))
        (subst (λ (a : List Action). P (all_done a s)) (sym (no-flush-journal p w)) (unfold all_done in x))

    pub either-goes : (rs : List Pair) (old new : Bytes) → Sound p rs new → Either p rs old new s
        → is_marked s.journal.seen ≡ true → (n : ℕ) → Later p new (recovering-from b s w (suc n))
    either-goes rs old new so e y n =
        let here' = beside-held rs new s.journal.seen b so e.whole.seen-holds beside in
        unfold all_done first in
        subst (λ (a : List Action). Later p new (all_done (first w (suc n) a) s))
        (sym (recovery-yes rs new s.journal.seen b so e.whole.seen-holds y))
        (all-goes rs new so b here' (done flush_journal s) (either-flushed rs old new s e y) w n)

    over-goes : (x : Bytes) (rs : List Pair) → Sound p rs x → Either p rs x x s → is_marked s.journal.seen ≡ true
        → (n : ℕ) → Later p x (recovering-from b s w n)
    over-goes x rs so e y zero = begins (Later p x) rs x so e.whole.seen-holds y (over rs so e)
    over-goes x rs so e y (suc n) = either-goes rs x x so e y n

    pub later-goes : (x : Bytes) → Later p x s → (n : ℕ) → Later p x (recovering-from b s w n)
    later-goes x (clear c) n = stays x (clear c) c.seen_no n
    later-goes x (over rs so e) n =
        by_bool (is_marked s.journal.seen) (λ y. over-goes x rs so e y n) (λ u. stays x (over rs so e) u n)
    later-goes x (after rs so a) zero =
        begins (Later p x) rs x so a.whole.seen-holds a.seen-yes (after rs so a)
    later-goes x (after rs so a) (suc n) =
        let here' = beside-held rs x s.journal.seen b so a.whole.seen-holds beside in
        unfold all_done first in
        subst (λ (l : List Action). Later p x (all_done (first w (suc n) l) s))
        (sym (recovery-yes rs x s.journal.seen b so a.whole.seen-holds a.seen-yes))
        (all-goes rs x so b here' (done flush_journal s) (after-flushed rs x so b here' s a) w n)

    pub stage-goes : (old new : Bytes) → Stage p old new s → (n : ℕ) → Stage p old new (recovering-from b s w n)
    stage-goes old new (old-yet l) n = old-yet (later-goes old l n)
    stage-goes old new (new-now l) n = new-now (later-goes new l n)
    stage-goes old new (mark-yet rs so e y) zero =
        begins (Stage p old new) rs new so e.whole.seen-holds y (mark-yet rs so e y)
    stage-goes old new (mark-yet rs so e y) (suc n) = new-now (either-goes rs old new so e y n)

  -- ---- an update

  -- where an update may begin: the image is x, and no mark is seen
  pub record Idle (x : Bytes) (s : Slices) : Type 0 where
    pub later : Later p x s
    pub seen_no : is_marked s.journal.seen ≡ false

  -- "mark 0 is flushed before content is written again"
  idle-flushed : (x : Bytes) (s : Slices) → Idle x s → Clear p x (done flush_journal s)
  unfolding done flushed
  idle-flushed x s i = go i.later
    where
      made : Quiet p x s.image → p + 1 ≡ length s.journal.seen → Clear p x (done flush_journal s)
      made q e =
          unfold done flushed in
          record {
            image = q;
            long = e;
            no = i.seen_no;
            kept = unfold covered in refl;
            seen-long = e;
            seen_no = i.seen_no;
          }

      go : Later p x s → Clear p x (done flush_journal s)
      go (clear c) = made c.image c.seen-long
      go (over rs so e) = made e.image e.whole.seen-long
      go (after rs so a) = absurd (true≢false (sym a.seen-yes ∙ i.seen_no))

  module _ (old : Bytes) (u : Update) (fits : Fits p old u) (s : Slices) (i : Idle old s) where
    abbrev c : Bytes
    c = content u.spans u.new

    room : length (content u.spans u.new) ≤ p
    room = omega (arith, fits.room.behind, fits.room.before)

    sound : Sound p u.spans u.new
    sound = record { spread = fits.spread; small = fits.small; few = fits.few }

    abbrev s1 : Slices
    s1 = done flush_journal s

    abbrev s2 : Slices
    s2 = done (write (to_journal (record { place = 0; bytes = c }))) s1

    abbrev s3 : Slices
    s3 = done flush_journal s2

    abbrev s4 : Slices
    s4 = done (set_mark_at p marked) s3

    abbrev s5 : Slices
    s5 = done flush_journal s4

    clear1 : Clear p old s1
    clear1 = idle-flushed old s i

    long2 : p + 1 ≡ length s2.journal.seen
    unfolding done wrote put flushed
    long2 =
        let e : p + 1 ≡ length s.journal.seen = clear1.long in
        e ∙ sym (length-store s.journal.seen 0 c (omega (arith, room)))

    seen2 : is_marked s2.journal.seen ≡ false
    unfolding done wrote put flushed is_marked
    seen2 =
        let e : p + 1 ≡ length s.journal.seen = clear1.long in
        ap (λ (m : ℕ). eqb m marked) (mark-kept s.journal.seen c (omega (arith, room)))
        ∙ clear1.no

    -- content late, or a part of it: the mark is not
    clear2 : Clear p old s2
    unfolding done wrote put flushed
    clear2 =
        record {
          image = clear1.image;
          long = clear1.long;
          no = clear1.no;
          kept =
              covered-cons (record { at = 0; size = length c }) [] p
              ∙ ap₂ ◌||◌ (inside-above (record { at = 0; size = length c }) p (omega (arith, room)))
              (unfold covered in refl);
          seen-long = long2;
          seen_no = seen2;
        }

    clear-amid : (junk : ℕ → ℕ)
        → Clear p old (done (write (to_journal (spoilt_block junk (record { place = 0; bytes = c })))) s1)
    unfolding done wrote put flushed spoilt_block is_marked
    clear-amid junk =
        let v : Bytes = spoilt_bytes junk c in
        let lv : length v ≡ length c = length-spoilt junk c in
        let e : p + 1 ≡ length s.journal.seen = clear1.long in
        record {
          image = clear1.image;
          long = clear1.long;
          no = clear1.no;
          kept =
              covered-cons (record { at = 0; size = length v }) [] p
              ∙ ap₂ ◌||◌ (inside-above (record { at = 0; size = length v }) p (omega (arith, room, lv)))
              (unfold covered in refl);
          seen-long = e ∙ sym (length-store s.journal.seen 0 v (omega (arith, room, lv)));
          seen_no =
              ap (λ (m : ℕ). eqb m marked) (mark-kept s.journal.seen v (omega (arith, room, lv)))
              ∙ clear1.no;
        }

    content-end : (e : End) → Clear p old (all_done (partly e (write (to_journal (record { place = 0; bytes = c })))) s1)
    unfolding partly all_done
    content-end between = clear1
    content-end (amid junk) =
        choose-done p (Clear p old) (leb (length c) 1)
        (write (to_journal (spoilt_block junk (record { place = 0; bytes = c })))) s1 clear1 (clear-amid junk)

    clear3 : Clear p old s3
    unfolding done flushed
    clear3 =
        record {
          image = clear1.image;
          long = long2;
          no = seen2;
          kept = unfold covered in refl;
          seen-long = long2;
          seen_no = seen2;
        }

    whole3 : Whole p c s3.journal
    unfolding done flushed wrote put Front
    whole3 =
        let e : p + 1 ≡ length s.journal.seen = clear1.long in
        let h : Holds c (store s.journal.seen 0 c) =
        holds-content c s.journal.seen (omega (arith, room)) in
        record {
          long = long2;
          holds = h;
          seen-long = long2;
          seen-holds = h;
          only = λ k f. unfold covered in refl;
        }

    either4 : Either p u.spans old u.new s4
    unfolding done set_mark_at
    either4 =
        record {
          image = clear1.image;
          near = fits.near;
          whole = whole-mark p c s3.journal marked whole3;
        }

    seen4 : is_marked s4.journal.seen ≡ true
    unfolding done set_mark_at wrote put flushed
    seen4 = is_marked-set p s3.journal.seen marked long2

    after5 : After p u.spans u.new s5
    after5 = either-flushed u.spans old u.new s4 either4 seen4

    -- the mark taken back, and flushed
    withdrawn : Clear p old (all_done (withdrawal p) s4)
    unfolding withdrawal all_done done set_mark_at wrote put flushed
    withdrawn =
        let seen : p + 1 ≡ length s4.journal.seen = either4.whole.seen-long in
        let long : p + 1 ≡ length (store s4.journal.seen p (0 ∷ [])) = length-mark p s4.journal.seen 0 seen in
        let none : is_marked (store s4.journal.seen p (0 ∷ [])) ≡ false =
        is_marked-set p s4.journal.seen 0 seen in
        record {
          image = clear1.image;
          long = long;
          no = none;
          kept = unfold covered in refl;
          seen-long = long;
          seen_no = none;
        }

    pub commit-refused : Later p old (all_done (withdrawal p) (all_done (take (acknowledged - 1) (commit p u)) s))
    unfolding commit all_done
    commit-refused = clear withdrawn

    -- what is left where the next action is not a write, or is the mark
    nothing-more : (P : Slices → Type 0) (l : List Action) (t : Slices) → l ≡ [] → P t → P (all_done l t)
    unfolding all_done
    nothing-more P l t e x = subst (λ (k : List Action). P (all_done k t)) (sym e) x

    pub commit-stage : (e : End) (n : ℕ) → Stage p old u.new (all_done (first e n (commit p u)) s)
    unfolding commit all_done first
    commit-stage e zero =
        nothing-more (Stage p old u.new) (partly e flush_journal) s (no-flush-journal p e) (old-yet i.later)
    commit-stage e (suc zero) = old-yet (clear (content-end e))
    commit-stage e (suc (suc zero)) =
        nothing-more (Stage p old u.new) (partly e flush_journal) s2 (no-flush-journal p e) (old-yet (clear clear2))
    commit-stage e (suc (suc (suc zero))) =
        nothing-more (Stage p old u.new) (partly e (set_mark_at p marked)) s3 (no-mark p e marked)
        (old-yet (clear clear3))
    commit-stage e (suc (suc (suc (suc zero)))) =
        nothing-more (Stage p old u.new) (partly e flush_journal) s4 (no-flush-journal p e)
        (mark-yet u.spans sound either4 seen4)
    commit-stage e (suc (suc (suc (suc (suc n))))) =
        new-now (all-goes u.spans u.new sound u.base fits.room s5 after5 e n)

    pub commit-later : (e : End) (n : ℕ) → acknowledged ≤ n → Later p u.new (all_done (first e n (commit p u)) s)
    unfolding commit all_done first
    commit-later e zero h = absurd (omega arith)
    commit-later e (suc zero) h = absurd (omega arith)
    commit-later e (suc (suc zero)) h = absurd (omega arith)
    commit-later e (suc (suc (suc zero))) h = absurd (omega arith)
    commit-later e (suc (suc (suc (suc zero)))) h = absurd (omega arith)
    commit-later e (suc (suc (suc (suc (suc n))))) h =
        all-goes u.spans u.new sound u.base fits.room s5 after5 e n
