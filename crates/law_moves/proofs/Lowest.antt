-- Below the lowest taken slot a delete of it leaves no taken slot, on any table: the next search may begin there.
--     Bare g i img         no slot below i is taken
--     next-from            then the lowest taken slot is the lowest from i on
--     next-bare            and below the one that is found no slot is taken
--     bare-deleted         nor after a delete of it
-- Assumes nothing.
use mathlib.Core.Path.{◌≡◌, refl, sym, ap, ◌∙◌}
use Prim.Native.Nat.{ℕ, zero, suc, ◌+◌, ◌-◌, ◌*◌, ◌≤◌, ◌<◌}
use native.Mathlib.Omega.{arith}
use mathlib.Core.Bool.{Bool, true, false, not}
use mathlib.Core.Option.{some}
use lib.ListN.{length}
use borrow.Author.Tests.{not-false}
use Rattle.spec_file.specs.Bytes.{Bytes}
use Rattle.spec_file.specs.Image.{field, set_field, Layout, layout_of, slot, put_slot, offset_of, blank, vacant}
use Rattle.spec_file.specs.Search.{next}
use Rattle.spec_file.specs.Limits.{points_field}
use Rattle.spec_file.specs.Messages.{retire}
use Rattle.spec_file.specs.Delete.{Closing, closed, moved, deleted_at}
use Rattle.spec_file.specs.Inspect.{lowest, taken, next_taken}
use Rattle.spec_file.specs.Questions.{message_sound}
use Rattle.law_file.proofs.Tests.{by_le, not-both}
use Rattle.law_file.proofs.Slots.{Room, slot-put_slot-other, slot-set_field, length-blank, length-set_field}
use Rattle.law_file.proofs.Spread.{slot-moved-other}
use Rattle.law_file.proofs.Table.{Taken}
use Rattle.law_file.proofs.Opened.{Opened, opened-room}
use Rattle.law_file.proofs.Verdict.{lowest-some, lowest-no}
use Rattle.law_file.proofs.Effects.{retire-slot}
use Rattle.law_moves.proofs.Again.{Again, retire-again, points-again}
use Rattle.law_file.proofs.Closing.{Going, closed-induct}

abbrev pub Bare : Layout → ℕ → Bytes → Type 0
Bare g i img = (k : ℕ) → k < i → vacant g (slot g img k) ≡ true

-- ---- the search

lowest-from : (p : ℕ → Bool) (n i : ℕ) → i ≤ n → ((k : ℕ) → k < i → p k ≡ false) → lowest p n 0 ≡ lowest p (n - i) i
lowest-from p n zero l w = let e : n ≡ n - 0 = omega arith in ap (λ (m : ℕ). lowest p m 0) e
lowest-from p n (suc i) l w =
    let e : i + 1 ≡ suc i = omega arith in
    lowest-from p n i (omega arith) (λ k lk. w k (omega arith))
    ∙ lowest-no p n i (omega arith) (w i (omega arith))
    ∙ ap (λ (j : ℕ). lowest p (n - j) j) e

module _ (g : Layout) (img : Bytes) (i : ℕ) (b : Bare g i img) where
  none-taken : (k : ℕ) → k < i → taken g img k ≡ false
  unfolding taken
  none-taken k l = ap not (b k l)

  pub next-from : i ≤ g.N → next_taken g img 0 ≡ next_taken g img i
  unfolding next_taken
  next-from l =
      let e : g.N - 0 ≡ g.N = omega arith in
      ap (λ (m : ℕ). lowest (taken g img) m 0) e ∙ lowest-from (taken g img) g.N i l none-taken

  pub next-bare : (j : ℕ) → next_taken g img i ≡ some j → (j < g.N) × (taken g img j ≡ true) × Bare g j img
  unfolding next_taken
  next-bare j e =
      let f = lowest-some (taken g img) (g.N - i) i j e in (
        omega (arith, f.0, f.1),
        f.2,
        λ k lk. by_le i k (λ le. vacant-there k (f.3 k le lk)) (λ lt. b k lt),
      )
    where
      vacant-there : (k : ℕ) → taken g img k ≡ false → vacant g (slot g img k) ≡ true
      vacant-there k t = unfold taken in not-false (vacant g (slot g img k)) t

-- ---- the delete

-- a taken slot stands at or above i
at-or-above : (g : Layout) (i j : ℕ) (img : Bytes) → Bare g i img → Taken g img j → i ≤ j
at-or-above g i j img b t = by_le i j (λ l. l) (λ l. absurd (not-both (vacant g (slot g img j)) (b j l) t))

pub bare-closed : (g : Layout) (img : Bytes) → Room g (length img) → (i : ℕ) → i < g.N → Bare g i img
    → Bare g i (closed g img i)
unfolding closed
bare-closed g img r i l b =
    closed-induct g img r i l (λ img' h j w. i ≤ h → Bare g i img' → Bare g i w.image)
    (record {
      stop = λ img' h j s v lh b'. b';
      skip = λ img' h j w s t a ih lh b'. ih lh b';
      move = λ img' h j w s t a ih lh b'.
          let lj = at-or-above g i j img' b' t in
          ih lj (λ k lk.
          ap (vacant g)
          (slot-moved-other g img' s.room h j s.hole-lt s.slot_lt k (λ q. absurd (omega (arith, q)))
          (λ q. absurd (omega (arith, q, lj))))
          ∙ b' k lk);
    })
    (omega arith)
    (λ k lk.
    ap (vacant g) (slot-put_slot-other g img r i (blank g) k l (length-blank g) (λ q. absurd (omega (arith, q))))
    ∙ b k lk)

pub bare-deleted : (img : Bytes) → Opened img → (i : ℕ) → i < (layout_of img).N
    → message_sound (layout_of img) img (offset_of (layout_of img) (slot (layout_of img) img i)) ≡ true
    → Bare (layout_of img) i img → Bare (layout_of img) i (deleted_at (layout_of img) img i)
unfolding deleted_at
bare-deleted img o i l s b =
    let g : Layout = layout_of img in
    let at : ℕ = offset_of g (slot g img i) in
    let n : ℕ = field img points_field - 1 in
    let off : Again img (retire img at) = retire-again img o at s in
    let few : n ≤ g.N = unfold layout_of in omega (arith, o.points) in
    let fewer : Again img (set_field (retire img at) points_field n) = points-again img o (retire img at) off n few in
    bare-closed g (set_field (retire img at) points_field n) (rw fewer.fixed.size (opened-room img o)) i l
    (λ k lk.
    let in' : k < g.N = omega arith in
    ap (vacant g)
    (slot-set_field g (retire img at) (rw off.fixed.size (opened-room img o)) points_field n k (omega arith) in'
    ∙ retire-slot img o at s k in')
    ∙ b k lk)
