-- What an update, a recovery and a power cut go through.
--     Clear, Either, After      an image and no mark; content whole, its mark late; the mark surely there
--     Later x, Stage x y        x, whatever comes; x or y
--     .. -cut                   a power cut leads from one to another
--     .. -gives                 what recovery makes of what a cut left
-- Assumes nothing.
use mathlib.Core.Path.{◌≡◌, refl, sym, ap, ap₂, ◌∙◌, subst}
use Prim.Native.Nat.{ℕ, suc, ◌+◌, ◌-◌, ◌^◌, ◌≤◌, ◌<◌}
use native.Mathlib.Omega.{arith}
use mathlib.Core.Bool.{Bool, true, false, cond, ◌||◌}
use mathlib.Core.List.{List, [], ◌∷◌}
use mathlib.Core.Logic.{◌⊎◌, inl, inr}
use lib.ListN.{length, take, get_or}
use lib.Seq.{ext_get_or, get_or-take, length-take-le}
use lib.Dec.{eqb}
use Rattle.spec_file.specs.Bytes.{Bytes, store}
use Rattle.spec_changes.specs.Changes.{Pair, covered, Spread, Near}
use Rattle.spec_changes.specs.Journal.{content, mark_place, mark, marked, Disk, Block, put, put_all, spoilt_bytes, is_marked, journal_sound, recover_number, recovered}
use Rattle.spec_disk.specs.Disk.{Held, Slices, Action, flush_image, flush_journal, wrote, flushed, done, all_done, still, found, set_mark_at, Beside, End, between, amid, partly}
use Rattle.law_file.proofs.Tests.{by_bool}
use Rattle.law_file.proofs.Bytes.{length-store}
use Rattle.law_file.proofs.Stores.{take-store}
use Rattle.spec_changes.proofs.Changes.{inside-below, covered-cons, near_none, copied-near}
use Rattle.spec_changes.proofs.Journal.{Holds, holds-mark, content-blocks, content-sound}
use Rattle.spec_changes.proofs.Recovery.{mark_set, number-other, number-marked, recovered-other, recovered-marked, put_all-stretches}
use Rattle.law_disk.proofs.Left.{Cut}

-- ---- bytes that are not late

pub near_same : (b : Bytes) (rs : List Pair) → Near rs b b
near_same b rs = record { size = refl; outside = λ i f. refl }

-- as many bytes, of any value
pub length-spoilt : (junk : ℕ → ℕ) (v : Bytes) → length (spoilt_bytes junk v) ≡ length v
unfolding spoilt_bytes
length-spoilt junk [] = refl
length-spoilt junk (b ∷ v) = ap suc (length-spoilt (λ i. junk (suc i)) v)

-- late bytes that lie in the stretches
unfoldable pub Within : List Pair → List Pair → Type 0
Within rs late = (i : ℕ) → covered rs i ≡ false → covered late i ≡ false

pub near_within : (rs late : List Pair) (b sure new : Bytes) → Within rs late → Near late b sure → Near rs sure new
    → Near rs b new
unfolding Within
near_within rs late b sure new w h n =
    record { size = h.size ∙ n.size; outside = λ i f. h.outside i (w i f) ∙ n.outside i f }

module _ (p : ℕ) where
  -- the mark's byte
  pub marked-at : (a b : Bytes) → p + 1 ≡ length a → length b ≡ length a → get_or b p 0 ≡ get_or a p 0
      → is_marked b ≡ is_marked a
  unfolding is_marked mark mark_place
  marked-at a b e l h =
      let ea : length a - 1 ≡ p = omega arith in
      let eb : length b - 1 ≡ p = omega arith in
      ap (λ (x : ℕ). eqb (get_or b x 0) marked) eb
      ∙ ap (λ (x : ℕ). eqb x marked) h
      ∙ ap (λ (x : ℕ). eqb (get_or a x 0) marked) (sym ea)

  -- nothing late in the content
  unfoldable pub Front : Bytes → List Pair → Type 0
  Front c late = (i : ℕ) → i < length c → covered late i ≡ false

  -- content is still there
  pub holds-near : (c : Bytes) (late : List Pair) (b J : Bytes) → Front c late → p + 1 ≡ length J → Near late b J
      → Holds c J → Holds c b
  unfolding Front
  holds-near c late b J only e n h =
      let lb : length b ≡ length J = n.size in
      let room : length c < length J = h.room in
      let tb : length (take (length c) b) ≡ length c = length-take-le (length c) b (omega arith) in
      record {
        front =
            ext_get_or 0 (take (length c) b) c tb
            (λ i l.
            let k : i < length c = omega arith in
            get_or-take (length c) b i 0 k
            ∙ n.outside i (only i k)
            ∙ sym (get_or-take (length c) J i 0 k)
            ∙ ap (λ (t : Bytes). get_or t i 0) h.front);
        room = omega arith;
      }

  -- ---- the states

  -- a slice in which nothing is late
  pub record Quiet (b : Bytes) (h : Held) : Type 0 where
    pub sure : h.sure ≡ b
    pub seen : h.seen ≡ b
    pub late : h.late ≡ []

  -- the image x, and a journal that is surely not marked
  pub record Clear (x : Bytes) (s : Slices) : Type 0 where
    pub image : Quiet x s.image
    pub long : p + 1 ≡ length s.journal.sure
    pub no : is_marked s.journal.sure ≡ false
    pub kept : covered s.journal.late p ≡ false
    pub seen-long : p + 1 ≡ length s.journal.seen
    pub seen_no : is_marked s.journal.seen ≡ false

  -- a journal that surely has its content; its mark may be late
  pub record Whole (c : Bytes) (h : Held) : Type 0 where
    pub long : p + 1 ≡ length h.sure
    pub holds : Holds c h.sure
    pub seen-long : p + 1 ≡ length h.seen
    pub seen-holds : Holds c h.seen
    pub only : Front c h.late

  -- the old image, and the content that leads to the new one
  pub record Either (rs : List Pair) (old new : Bytes) (s : Slices) : Type 0 where
    pub image : Quiet old s.image
    pub near : Near rs old new
    pub whole : Whole (content rs new) s.journal

  -- surely marked; the stretches may have any bytes
  pub record After (rs : List Pair) (new : Bytes) (s : Slices) : Type 0 where
    pub near : Near rs s.image.sure new
    pub within : Within rs s.image.late
    pub seen-near : Near rs s.image.seen new
    pub whole : Whole (content rs new) s.journal
    pub yes : is_marked s.journal.sure ≡ true
    pub kept : s.journal.late ≡ []
    pub seen-yes : is_marked s.journal.seen ≡ true

  pub record Sound (rs : List Pair) (new : Bytes) : Type 0 where
    pub spread : Spread 0 (length new) rs
    pub small : length new < 256 ^ 4
    pub few : length rs < 256 ^ 4

  -- x, whatever comes
  pub data Later (x : Bytes) (s : Slices) : Type 0 where
    clear : Clear x s → Later x s
    over : (rs : List Pair) → Sound rs x → Either rs x x s → Later x s
    after : (rs : List Pair) → Sound rs x → After rs x s → Later x s

  -- old or new
  pub data Stage (old new : Bytes) (s : Slices) : Type 0 where
    old-yet : Later old s → Stage old new s
    mark-yet : (rs : List Pair) → Sound rs new → Either rs old new s → is_marked s.journal.seen ≡ true
        → Stage old new s
    new-now : Later new s → Stage old new s

  -- ---- a power cut

  pub quiet-left : (x : Bytes) (h : Held) (b : Bytes) → Quiet x h → Near h.late b h.sure → b ≡ x
  quiet-left x h b q n =
      near_none b h.sure (subst (λ (l : List Pair). Near l b h.sure) q.late n) ∙ q.sure

  pub clear-cut : (x : Bytes) (s : Slices) (d : Disk) → Clear x s → Cut s d → Clear x (found d)
  unfolding found still
  clear-cut x s d c m =
      let i : d.image ≡ x = quiet-left x s.image d.image c.image m.image in
      let l : p + 1 ≡ length d.journal = c.long ∙ sym m.journal.size in
      let u : is_marked d.journal ≡ false =
      marked-at s.journal.sure d.journal c.long m.journal.size (m.journal.outside p c.kept)
      ∙ c.no in
      record {
        image = record { sure = i; seen = i; late = refl };
        long = l;
        no = u;
        kept = unfold covered in refl;
        seen-long = l;
        seen_no = u;
      }

  pub whole-left : (c : Bytes) (h : Held) (b : Bytes) → Whole c h → Near h.late b h.sure → Whole c (still b)
  unfolding still Front
  whole-left c h b w n =
      let l : p + 1 ≡ length b = w.long ∙ sym n.size in
      let k : Holds c b = holds-near c h.late b h.sure w.only w.long n w.holds in
      record { long = l; holds = k; seen-long = l; seen-holds = k; only = λ i f. unfold covered in refl }

  pub either-cut : (rs : List Pair) (old new : Bytes) (s : Slices) (d : Disk) → Either rs old new s → Cut s d
      → Clear old (found d) ⊎ After rs new (found d)
  unfolding found still Within
  either-cut rs old new s d e m =
      let i : d.image ≡ old = quiet-left old s.image d.image e.image m.image in
      let w : Whole (content rs new) (still d.journal) =
      whole-left (content rs new) s.journal d.journal e.whole m.journal in
      let n : Near rs d.image new = subst (λ (b : Bytes). Near rs b new) (sym i) e.near in
      by_bool (is_marked d.journal)
      (λ y. inr (record {
        near = n;
        within = λ i f. unfold covered in refl;
        seen-near = n;
        whole = w;
        yes = y;
        kept = refl;
        seen-yes = y;
      }))
      (λ u. inl (record {
        image = record { sure = i; seen = i; late = refl };
        long = w.long;
        no = u;
        kept = unfold covered in refl;
        seen-long = w.long;
        seen_no = u;
      }))

  pub after-cut : (rs : List Pair) (new : Bytes) (s : Slices) (d : Disk) → After rs new s → Cut s d
      → After rs new (found d)
  unfolding found still Within
  after-cut rs new s d a m =
      let n : Near rs d.image new =
      near_within rs s.image.late d.image s.image.sure new a.within m.image a.near in
      let y : is_marked d.journal ≡ true =
      marked-at s.journal.sure d.journal a.whole.long m.journal.size
      (m.journal.outside p (ap (λ (l : List Pair). covered l p) a.kept ∙ (unfold covered in refl)))
      ∙ a.yes in
      record {
        near = n;
        within = λ i f. unfold covered in refl;
        seen-near = n;
        whole = whole-left (content rs new) s.journal d.journal a.whole m.journal;
        yes = y;
        kept = refl;
        seen-yes = y;
      }

  pub later-cut : (x : Bytes) (s : Slices) (d : Disk) → Later x s → Cut s d → Later x (found d)
  later-cut x s d (clear c) m = clear (clear-cut x s d c m)
  later-cut x s d (over rs so e) m = go (either-cut rs x x s d e m)
    where
      go : Clear x (found d) ⊎ After rs x (found d) → Later x (found d)
      go (inl c) = clear c
      go (inr a) = after rs so a
  later-cut x s d (after rs so a) m = after rs so (after-cut rs x s d a m)

  pub stage-cut : (old new : Bytes) (s : Slices) (d : Disk) → Stage old new s → Cut s d → Stage old new (found d)
  stage-cut old new s d (old-yet l) m = old-yet (later-cut old s d l m)
  stage-cut old new s d (new-now l) m = new-now (later-cut new s d l m)
  stage-cut old new s d (mark-yet rs so e y) m = go (either-cut rs old new s d e m)
    where
      go : Clear old (found d) ⊎ After rs new (found d) → Stage old new (found d)
      go (inl c) = old-yet (clear c)
      go (inr a) = new-now (after rs so a)

  -- ---- what recovery gives

  pub record Gives (x : Bytes) (d : Disk) : Type 0 where
    pub accepted : recover_number (length d.image) d.journal ≡ 0
    pub image : (recovered d).image ≡ x

  pub clear-gives : (x : Bytes) (d : Disk) → Clear x (found d) → Gives x d
  unfolding found still
  clear-gives x d c =
      let some : 1 ≤ length d.journal = omega (arith, c.long) in
      record {
        accepted = number-other d.image d.journal some c.no;
        image = ap (λ (e : Disk). e.image) (recovered-other d.image d.journal some c.no) ∙ c.image.sure;
      }

  pub after-gives : (rs : List Pair) (new : Bytes) (d : Disk) → Sound rs new → After rs new (found d) → Gives new d
  unfolding found still
  after-gives rs new d so a =
      let some : 1 ≤ length d.journal = omega (arith, a.whole.long) in
      let h : Holds (content rs new) d.journal = a.whole.holds in
      let ok : journal_sound (length d.image) d.journal ≡ true =
      ap (λ (n : ℕ). journal_sound n d.journal) a.near.size
      ∙ content-sound rs new d.journal h so.spread so.few so.small in
      record {
        accepted = number-marked d.image d.journal some a.yes ok;
        image =
            ap (λ (e : Disk). e.image) (recovered-marked d.image d.journal some a.yes ok)
            ∙ ap (put_all d.image) (content-blocks rs new d.journal h so.spread so.few so.small)
            ∙ put_all-stretches rs new d.image
            ∙ copied-near 0 rs new d.image so.spread a.near;
      }

  pub later-gives : (x : Bytes) (s : Slices) (d : Disk) → Later x s → Cut s d → Gives x d
  later-gives x s d (clear c) m = clear-gives x d (clear-cut x s d c m)
  later-gives x s d (over rs so e) m = go (either-cut rs x x s d e m)
    where
      go : Clear x (found d) ⊎ After rs x (found d) → Gives x d
      go (inl c) = clear-gives x d c
      go (inr a) = after-gives rs x d so a
  later-gives x s d (after rs so a) m = after-gives rs x d so (after-cut rs x s d a m)

  pub stage-gives : (old new : Bytes) (s : Slices) (d : Disk) → Stage old new s → Cut s d → Gives old d ⊎ Gives new d
  stage-gives old new s d (old-yet l) m = inl (later-gives old s d l m)
  stage-gives old new s d (new-now l) m = inr (later-gives new s d l m)
  stage-gives old new s d (mark-yet rs so e y) m = go (either-cut rs old new s d e m)
    where
      go : Clear old (found d) ⊎ After rs new (found d) → Gives old d ⊎ Gives new d
      go (inl c) = inl (clear-gives old d c)
      go (inr a) = inr (after-gives rs new d so a)

  -- ---- actions on the journal

  pub length-mark : (J : Bytes) (m : ℕ) → p + 1 ≡ length J → p + 1 ≡ length (store J p (m ∷ []))
  length-mark J m e = e ∙ sym (length-store J p (m ∷ []) (omega arith))

  pub is_marked-set : (J : Bytes) (m : ℕ) → p + 1 ≡ length J → is_marked (store J p (m ∷ [])) ≡ eqb m marked
  unfolding is_marked
  is_marked-set J m e =
      let place : p ≡ mark_place J = unfold mark_place in omega arith in
      ap (λ (n : ℕ). eqb (mark (store J n (m ∷ []))) marked) place
      ∙ ap (λ (n : ℕ). eqb n marked) (mark_set J m (omega arith))

  pub front_kept : (c : Bytes) (r : Pair) (late : List Pair) → length c ≤ r.at → Front c late → Front c (r ∷ late)
  unfolding Front
  front_kept c r late l only i f =
      covered-cons r late i ∙ ap₂ ◌||◌ (inside-below r i (omega arith)) (only i f)

  pub whole-mark : (c : Bytes) (h : Held) (m : ℕ) → Whole c h → Whole c (wrote (record { place = p; bytes = m ∷ [] }) h)
  unfolding wrote put
  whole-mark c h m w =
      record {
        long = w.long;
        holds = w.holds;
        seen-long = length-mark h.seen m w.seen-long;
        seen-holds = holds-mark c h.seen p m w.seen-holds w.seen-long;
        only =
            front_kept c (record { at = p; size = 1 }) h.late (omega (arith, w.long, w.holds.room)) w.only;
      }

  -- the base
  pub whole-beside : (c : Bytes) (h : Held) (b : Block) → Beside p (length c) b → Whole c h → Whole c (wrote b h)
  unfolding wrote put
  whole-beside c h b e w =
      let fits : b.place + length b.bytes ≤ length h.seen = omega (arith, e.before, w.seen-long) in
      let same : length (store h.seen b.place b.bytes) ≡ length h.seen =
      length-store h.seen b.place b.bytes fits in
      record {
        long = w.long;
        holds = w.holds;
        seen-long = w.seen-long ∙ sym same;
        seen-holds =
            record {
              front =
                  take-store h.seen b.place b.bytes (length c) (omega (arith, fits)) e.behind
                  ∙ w.seen-holds.front;
              room = omega (arith, w.seen-holds.room, same);
            };
        only =
            front_kept c (record { at = b.place; size = length b.bytes }) h.late e.behind w.only;
      }

  pub whole-flushed : (c : Bytes) (h : Held) → Whole c h → Whole c (flushed h)
  unfolding flushed Front
  whole-flushed c h w =
      record {
        long = w.seen-long;
        holds = w.seen-holds;
        seen-long = w.seen-long;
        seen-holds = w.seen-holds;
        only = λ i f. unfold covered in refl;
      }

  -- ---- what a process that ends has done of an action

  pub no-flush-image : (e : End) → partly e flush_image ≡ []
  unfolding partly
  no-flush-image between = refl
  no-flush-image (amid junk) = refl

  pub no-flush-journal : (e : End) → partly e flush_journal ≡ []
  unfolding partly
  no-flush-journal between = refl
  no-flush-journal (amid junk) = refl

  -- the mark is one byte
  pub no-mark : (e : End) (m : ℕ) → partly e (set_mark_at p m) ≡ []
  unfolding partly set_mark_at
  no-mark between m = refl
  no-mark (amid junk) m = refl

  pub choose-done : (P : Slices → Type 0) (t : Bool) (a : Action) (s : Slices) → P s → P (done a s)
      → P (all_done (cond t [] (a ∷ [])) s)
  unfolding all_done
  choose-done P true a s x y = x
  choose-done P false a s x y = y
