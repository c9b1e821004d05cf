-- Delete's walk in code: one look, and what holds at every turn of the loop.
--     copied-slot, moved-code, stays-code       the code's places and numbers are the layout's
--     looked-stays, looked-moves                one look, by the test
--     Walking start s h₀ j₀ img h j             the loop's invariant: the walk goes on from here as from the start
--     walking_start, walking-turn               it holds at the start, and after each look, with less left
--     walking-end, walking-closed               at an empty slot the walk has ended, and its image is `closed`'s
-- Assumes nothing.
use mathlib.Core.Path.{◌≡◌, refl, sym, ap, ap₂, ◌∙◌, subst}
use Prim.Native.Nat.{ℕ, ◌+◌, ◌*◌, ◌<◌}
use native.Mathlib.Omega.{arith}
use mathlib.Core.Bool.{Bool, true, false, cond}
use mathlib.Core.Logic.{inl, inr}
use Rattle.spec_file.specs.Bytes.{Bytes, part, store}
use Rattle.spec_file.specs.Image.{Layout, layout_of, slot_start, slot, put_slot, blank, vacant}
use Rattle.spec_file.specs.Delete.{Closing, among, stays, moved, close_from, closed}
use Rattle.spec_file.specs.Questions.{open_number}
use Rattle.spec_file.specs.Search.{next}
use Rattle.law_file.proofs.Tests.{by_bool}
use Rattle.law_file.proofs.Bytes.{Apart}
use Rattle.law_file.proofs.Slots.{slots_apart, length-blank}
use Rattle.law_file.proofs.Table.{Taken}
use Rattle.law_file.proofs.Closing.{Going, left, looks, going-closed, going-skip, going-move, left-skip, left-move}
use Rattle.law_file.proofs.Closing.{turn-image, turn-skip, turn-move, closed-looks, hole-other}
use Rattle.header_layout.specs.Shapes.{shape_of, Open}
use Rattle.header_layout.specs.declared.shape.Shape.{Shape}
use Rattle.table_search.specs.Slots.{Placed, home_in}
use Rattle.table_close.specs.Walks.{Beside, looked_image, looked_hole}
use Rattle.table_search.proofs.Headers.{layout-slots, slot-place, slot-room, room, placed-opened}
use Rattle.table_search.proofs.Heads.{SameHead, same-open, head-trans, head-put_slot, head-half, head-moved}

-- ---- a move
apart-at : (q m p q' m' p' : ℕ) → q' ≡ q → m' ≡ m → p' ≡ p → Apart q m p m → Apart q' m' p' m'
apart-at q m p q' m' p' e f g (inl h) = inl (omega arith)
apart-at q m p q' m' p' e f g (inr h) = inr (omega arith)

module _ (img : Bytes) (s : Shape) (is : s ≡ shape_of img) (hole j : ℕ) (from to : ℕ)
    (from_at : from ≡ 2048 + j * (s.keylen + 4)) (to_at : to ≡ 2048 + hole * (s.keylen + 4)) where
  pub code_apart : (hole ≡ j → ⊥) → Apart from (s.keylen + 4) to (s.keylen + 4)
  code_apart n =
      apart-at _ _ _ from (s.keylen + 4) to (from_at ∙ sym (slot-place img s is j)) (sym (slot-room img s is))
      (to_at ∙ sym (slot-place img s is hole)) (slots_apart (layout_of img) j hole (λ e. n (sym e)))

  pub copied-slot : store img to (part img from (s.keylen + 4))
      ≡ put_slot (layout_of img) img hole (slot (layout_of img) img j)
  unfolding put_slot slot
  copied-slot =
      ap₂ (λ (p q : ℕ). store img p (part img q (s.keylen + 4)))
      (to_at ∙ sym (slot-place img s is hole)) (from_at ∙ sym (slot-place img s is j))
      ∙ ap (λ (m : ℕ). store img (slot_start (layout_of img) hole) (part img (slot_start (layout_of img) j) m))
      (sym (slot-room img s is))

-- the image half way, b, and after slot j was zeroed by b's own layout
pub moved-code : (img b : Bytes) (s : Shape) (hole j : ℕ) → Open img s → Beside s hole j
    → b ≡ put_slot (layout_of img) img hole (slot (layout_of img) img j)
    → put_slot (layout_of b) b j (blank (layout_of b)) ≡ moved (layout_of img) img hole j
unfolding moved
moved-code img b s hole j o d e =
    let n = layout-slots img s o.shape in
    let half =
    head-half (layout_of img) img o.accepted (room img o.accepted) hole j (omega (arith, d.hole-lt))
    (omega (arith, d.slot_lt)) in
    ap (λ (x : Bytes). put_slot (layout_of x) x j (blank (layout_of x))) e
    ∙ ap (λ (g : Layout). put_slot g (put_slot (layout_of img) img hole (slot (layout_of img) img j)) j (blank g))
    half.layout

pub placed-code : (img b : Bytes) (s : Shape) (hole j : ℕ) → Open img s → Beside s hole j
    → b ≡ put_slot (layout_of img) img hole (slot (layout_of img) img j) → Placed b s
placed-code img b s hole j o d e =
    let n = layout-slots img s o.shape in
    let half =
    head-half (layout_of img) img o.accepted (room img o.accepted) hole j (omega (arith, d.hole-lt))
    (omega (arith, d.slot_lt)) in
    subst (λ (x : Bytes). Placed x s) (sym e) (placed-opened _ s (same-open half o))

-- ---- a look
pub stays-code : (img : Bytes) (s : Shape) → s ≡ shape_of img → (hole j home' : ℕ) → home' ≡ home_in img j
    → among s.slots (next s.slots hole) j home' ≡ stays (layout_of img) img hole j
stays-code img s is hole j home' e = ap₂ (λ (n k : ℕ). among n (next n hole) j k) (sym (layout-slots img s is)) e

module _ (g : Layout) (img : Bytes) (hole j : ℕ) where
  pub looked-stays : stays g img hole j ≡ true → (looked_hole g img hole j ≡ hole) × (looked_image g img hole j ≡ img)
  unfolding looked_hole looked_image
  looked-stays e =
      (ap (λ (b : Bool). cond b hole j) e, ap (λ (b : Bool). cond b img (moved g img hole j)) e)

  pub looked-moves : stays g img hole j ≡ false
      → (looked_hole g img hole j ≡ j) × (looked_image g img hole j ≡ moved g img hole j)
  unfolding looked_hole looked_image
  looked-moves e =
      (ap (λ (b : Bool). cond b hole j) e, ap (λ (b : Bool). cond b img (moved g img hole j)) e)

-- ---- the loop
pub record Walking (start : Bytes) (s : Shape) (h₀ j₀ : ℕ) (img : Bytes) (h j : ℕ) : Type 0 where
  pub head : SameHead start img
  pub opened : Open img s
  pub going : Going (layout_of start) img h j
  pub same : (close_from (looks (layout_of start) start h₀ j₀) (layout_of start) start h₀ j₀).image
      ≡ (close_from (looks (layout_of start) img h j) (layout_of start) img h j).image

module _ {start : Bytes} {s : Shape} {h₀ j₀ : ℕ} {img : Bytes} {h j : ℕ} (w : Walking start s h₀ j₀ img h j) where
  pub walking-slots : (layout_of start).N ≡ s.slots
  walking-slots = sym (ap (λ (g : Layout). g.N) w.head.layout) ∙ layout-slots img s w.opened.shape

  -- the test, and one look, by the layout of the start
  look-image : looked_image (layout_of img) img h j ≡ looked_image (layout_of start) img h j
  look-image = ap (λ (g : Layout). looked_image g img h j) w.head.layout

  look-hole : looked_hole (layout_of img) img h j ≡ looked_hole (layout_of start) img h j
  look-hole = ap (λ (g : Layout). looked_hole g img h j) w.head.layout

  look-next : next s.slots j ≡ next (layout_of start).N j
  look-next = ap (λ (n : ℕ). next n j) (sym walking-slots)

  taken : vacant (layout_of img) (slot (layout_of img) img j) ≡ false → Taken (layout_of start) img j
  taken t = sym (ap (λ (g : Layout). vacant g (slot g img j)) w.head.layout) ∙ t

  -- the hole is not the slot that is looked at
  pub walking-other : vacant (layout_of img) (slot (layout_of img) img j) ≡ false → h ≡ j → ⊥
  walking-other t = hole-other (layout_of start) img h j w.going (taken t)

  -- the state after a look, and the measure
  abbrev pub After : Bytes → ℕ → ℕ → Type 0
  After img' h' j' =
      Walking start s h₀ j₀ img' h' j' × (left (layout_of start) img' h' j' < left (layout_of start) img h j)

  after-stays : Taken (layout_of start) img j → stays (layout_of start) img h j ≡ true
      → After img h (next (layout_of start).N j)
  after-stays t a = (
    record {
      head = w.head;
      opened = w.opened;
      going = going-skip (layout_of start) img h j w.going t;
      same = w.same ∙ ap (λ (x : Closing). x.image) (turn-skip (layout_of start) img h j w.going t a);
    },
    omega (arith, left-skip (layout_of start) img h j w.going t),
  )

  after-moves : Taken (layout_of start) img j → stays (layout_of start) img h j ≡ false
      → After (moved (layout_of start) img h j) j (next (layout_of start).N j)
  after-moves t a =
      let g = layout_of start in
      let head' = head-moved g img w.head.opened w.going.room h j w.going.hole-lt w.going.slot_lt in (
        record {
          head = head-trans w.head head';
          opened = same-open head' w.opened;
          going = going-move g img h j w.going t;
          same = w.same ∙ ap (λ (x : Closing). x.image) (turn-move g img h j w.going t a);
        },
        omega (arith, left-move g img h j w.going t a),
      )

  pub walking-turn : (img' : Bytes) (h' j' : ℕ) → vacant (layout_of img) (slot (layout_of img) img j) ≡ false
      → img' ≡ looked_image (layout_of img) img h j → h' ≡ looked_hole (layout_of img) img h j → j' ≡ next s.slots j
      → After img' h' j'
  walking-turn img' h' j' t ei eh ej =
      by_bool (stays (layout_of start) img h j)
      (λ a.
      let e = looked-stays (layout_of start) img h j a in
      put (ei ∙ look-image ∙ e.1) (eh ∙ look-hole ∙ e.0) (after-stays (taken t) a))
      (λ a.
      let e = looked-moves (layout_of start) img h j a in
      put (ei ∙ look-image ∙ e.1) (eh ∙ look-hole ∙ e.0) (after-moves (taken t) a))
    where
      put : {x : Bytes} {k : ℕ} → img' ≡ x → h' ≡ k → After x k (next (layout_of start).N j) → After img' h' j'
      put {x} {k} p q a =
          subst (λ (y : Bytes). After y h' j') (sym p)
          (subst (λ (y : ℕ). After x y j') (sym q) (subst (λ (y : ℕ). After x k y) (sym (ej ∙ look-next)) a))

  -- at a vacant slot the walk has ended
  pub walking-end : vacant (layout_of img) (slot (layout_of img) img j) ≡ true
      → img ≡ (close_from (looks (layout_of start) start h₀ j₀) (layout_of start) start h₀ j₀).image
  walking-end v =
      sym (w.same ∙ turn-image (layout_of start) img h j
      (sym (ap (λ (g : Layout). vacant g (slot g img j)) w.head.layout) ∙ v))

-- ---- the start: slot i was zeroed
module _ (img : Bytes) (s : Shape) (o : Open img s) (i : ℕ) (l : i < s.slots) where
  slot_lt : i < (layout_of img).N
  slot_lt = omega (arith, layout-slots img s o.shape)

  cleared : Bytes
  cleared = put_slot (layout_of img) img i (blank (layout_of img))

  cleared-head : SameHead img cleared
  unfolding cleared
  cleared-head =
      head-put_slot (layout_of img) img o.accepted (room img o.accepted) i (blank (layout_of img)) slot_lt
      (length-blank (layout_of img))

  pub walking_start : (b : Bytes) (j : ℕ) → b ≡ put_slot (layout_of img) img i (blank (layout_of img))
      → j ≡ next s.slots i
      → Walking b s i j b i j
  unfolding cleared
  walking_start b j e ej =
      subst (λ (x : Bytes). Walking x s i j x i j) (sym e)
      (subst (λ (k : ℕ). Walking cleared s i k cleared i k)
      (sym (ej ∙ ap (λ (n : ℕ). next n i) (sym (layout-slots img s o.shape))))
      (record {
        head = record { opened = cleared-head.opened; layout = refl; shape = refl; size = refl };
        opened = same-open cleared-head o;
        going =
            subst (λ (g : Layout). Going g cleared i (next (layout_of img).N i)) (sym cleared-head.layout)
            (going-closed (layout_of img) img (room img o.accepted) i slot_lt);
        same = refl;
      }))

  pub walking-closed : (b : Bytes) (j : ℕ) → b ≡ put_slot (layout_of img) img i (blank (layout_of img))
      → j ≡ next s.slots i
      → (close_from (looks (layout_of b) b i j) (layout_of b) b i j).image ≡ closed (layout_of img) img i
  unfolding cleared
  walking-closed b j e ej =
      ap₂ (λ (x : Bytes) (k : ℕ). (close_from (looks (layout_of x) x i k) (layout_of x) x i k).image) e
      (ej ∙ ap (λ (n : ℕ). next n i) (sym (layout-slots img s o.shape)))
      ∙ ap (λ (g : Layout). (close_from (looks g cleared i (next (layout_of img).N i)) g cleared i
      (next (layout_of img).N i)).image)
      cleared-head.layout
      ∙ sym (closed-looks (layout_of img) img (room img o.accepted) i slot_lt)
