-- The steps of an accepted add: each keeps the header, and together they are the specification's effect.
--     place-fits                   questions 12 and 13 as facts
--     head-retire, head-space      the image after each step is opened, with the same layout, shape and length
--     inserted-steps, relocated-steps      the steps together
-- Assumes nothing.
use mathlib.Core.Path.{◌≡◌, refl, sym, ap, ap₂, ◌∙◌, subst}
use Prim.Native.Nat.{ℕ, ◌+◌, ◌≤◌, ◌<◌}
use native.Mathlib.Omega.{arith}
use mathlib.Core.Bool.{true}
use mathlib.Core.List.{[], ◌++◌}
use mathlib.Core.Option.{some}
use lib.ListN.{length}
use lib.Dec.{leb}
use borrow.Author.Tests.{leb-true}
use Rattle.spec_file.specs.Bytes.{Bytes, part}
use Rattle.spec_file.specs.Limits.{free_field}
use Rattle.spec_file.specs.Image.{field, Layout, layout_of, slot, key_of, put_slot, slot_bytes}
use Rattle.spec_file.specs.Messages.{head_size, take_space, retire, enter, inserted, relocated}
use Rattle.spec_file.specs.Questions.{message_sound, length_allowed, space_left, place_number}
use Rattle.law_file.proofs.Bytes.{length-part-append}
use Rattle.law_file.proofs.Opened.{first_no-head, first_no-tail, opened-facts}
use Rattle.law_file.proofs.Effects.{retire-kept, retire-opened, retire-field, retire-slot, retire-behind, spaced, space-kept, space-opened}
use Rattle.header_layout.specs.Shapes.{Open}
use Rattle.header_layout.specs.declared.shape.Shape.{Shape}
use Rattle.header_layout.proofs.Shaped.{shape-head, shape-most, head-range}
use Rattle.table_search.specs.Slots.{key_in, with_offset}
use Rattle.table_search.proofs.Headers.{layout-slots}
use Rattle.table_search.proofs.Heads.{SameHead, same-open, head-trans, head_opened}
use Rattle.message_write.specs.Fits.{Fits}

-- ---- 12 and 13 as facts
pub place-fits : {img : Bytes} {s : Shape} → Open img s → (t : Bytes) → place_number (layout_of img) img (some t) ≡ 0
    → Fits img s (length t)
unfolding length_allowed space_left
place-fits {img} {s} o t z =
    let g = layout_of img in
    let long = leb (length t) g.most in
    let room = leb (field img free_field + head_size g + length t) (length img) in
    let z₁₃ = first_no-tail 12 long _ (λ e. omega arith) z in
    record {
      small = omega (arith, leb-true (length t) g.most (first_no-head 12 long _ (λ e. omega arith) z), shape-most o);
      room =
          omega (
            arith,
            leb-true (field img free_field + head_size g + length t) (length img)
                (first_no-head 13 room [] (λ e. omega arith) z₁₃),
            shape-head o,
          );
    }

-- ---- the image after a step, as code holds it
module _ {img : Bytes} {s : Shape} (open₀ : Open img s) (img₁ : Bytes) where
  pub head-retire : (o : ℕ) → message_sound (layout_of img) img o ≡ true → img₁ ≡ retire img o → SameHead img img₁
  head-retire o m e =
      let f = opened-facts img open₀.accepted in
      subst (SameHead img) (sym e) (head_opened img (retire img o) f (retire-kept img f o m) (retire-opened img f o m))

  pub head-space : (t : Bytes) → field img free_field + s.head + length t ≤ length img
      → img₁ ≡ take_space (layout_of img) img t
      → SameHead img img₁
  head-space t l e =
      let f = opened-facts img open₀.accepted in
      let fits : field img free_field + head_size (layout_of img) + length t ≤ length img =
      omega (arith, shape-head open₀) in
      subst (SameHead img) (sym e)
      (head_opened img (take_space (layout_of img) img t) f (space-kept img f t fits) (space-opened img f t fits))

-- ---- a point that is absent
pub inserted-steps : (img img₁ after key bytes : Bytes) (i x : ℕ) → img₁ ≡ take_space (layout_of img) img bytes
    → layout_of img₁ ≡ layout_of img → x ≡ field img free_field → after ≡ enter (layout_of img₁) img₁ i key x
    → after ≡ inserted (layout_of img) img i key (some bytes)
unfolding inserted
inserted-steps img img₁ after key bytes i x e g ex h = h ∙ rw (g, e, ex) refl

-- ---- a point that is present: retired, placed, and its entry put
module _ {img : Bytes} {s : Shape} (open₀ : Open img s) (img₁ : Bytes) (o : ℕ)
    (m : message_sound (layout_of img) img o ≡ true)
    (e₁ : img₁ ≡ retire img o) where
  pub retired-free : field img₁ free_field ≡ field img free_field
  retired-free =
      ap (λ (b : Bytes). field b free_field) e₁
      ∙ retire-field img (opened-facts img open₀.accepted) o m free_field (omega arith)

  retired-text : (from n : ℕ) → from ≡ o + s.head → part img₁ from n ≡ part img (o + s.head) n
  retired-text from n e =
      ap₂ (λ (b : Bytes) (p : ℕ). part b p n) e₁ e
      ∙ retire-behind img (opened-facts img open₀.accepted) o m (o + s.head) n (omega (arith, head-range open₀))

  module _ (img₂ bytes : Bytes) (from n : ℕ) (ef : from ≡ o + s.head) (below : o + s.head + n ≤ field img free_field)
      (fits : Fits img s (n + length bytes))
      (e₂ : img₂ ≡ take_space (layout_of img₁) img₁ (part img₁ from n ++ bytes)) where
    abbrev text : Bytes
    text = part img (o + s.head) n ++ bytes

    length-text : length text ≡ n + length bytes
    length-text =
        length-part-append img (o + s.head) n bytes
        (omega (arith, below, (opened-facts img open₀.accepted).free-high))

    placed : img₂ ≡ take_space (layout_of img₁) img₁ text
    placed = e₂ ∙ ap (λ (t : Bytes). take_space (layout_of img₁) img₁ (t ++ bytes)) (retired-text from n ef)

    first : SameHead img img₁
    first = head-retire open₀ img₁ o m e₁

    pub head-relocated : SameHead img img₂
    head-relocated =
        head-trans first
        (head-space (same-open first open₀) img₂ text
        (omega (arith, retired-free, first.size, length-text, fits.room)) placed)

    steps : (after key : Bytes) (i x : ℕ) → x ≡ field img free_field
        → after ≡ put_slot (layout_of img₂) img₂ i (slot_bytes key x)
        → after ≡ relocated (layout_of img) img i o key text
    unfolding relocated
    steps after key i x ex e = e ∙ rw (head-relocated.layout, placed, first.layout, e₁, ex) refl

    -- neither step reaches the table
    key-same : (i : ℕ) → i < s.slots → key_in img₂ i ≡ key_in img i
    key-same i l =
        let g = layout_of img in
        let f = opened-facts img open₀.accepted in
        let open₁ = same-open first open₀ in
        let f₁ = opened-facts img₁ open₁.accepted in
        let n = layout-slots img s open₀.shape in
        let room : field img₁ free_field + head_size (layout_of img₁) + length text ≤ length img₁ =
        omega (arith, retired-free, first.size, length-text, fits.room, shape-head open₁) in
        ap (λ (h : Layout). key_of h (slot h img₂ i)) (head-relocated.layout ∙ sym first.layout)
        ∙ ap (λ (b : Bytes). key_of (layout_of img₁) (slot (layout_of img₁) b i)) placed
        ∙ ap (key_of (layout_of img₁))
        ((spaced img₁ f₁ text room).slots i (omega (arith, l, n, ap (λ (h : Layout). h.N) first.layout)))
        ∙ ap₂ (λ (h : Layout) (b : Bytes). key_of h (slot h b i)) first.layout e₁
        ∙ ap (key_of g) (retire-slot img f o m i (omega (arith, l, n)))

    pub relocated-steps : (after : Bytes) (i x : ℕ) → i < s.slots → x ≡ field img free_field
        → after ≡ with_offset img₂ i x
        → after ≡ relocated (layout_of img) img i o (key_in img i) text
    unfolding with_offset
    relocated-steps after i x l ex e =
        steps after (key_in img₂ i) i x ex e
        ∙ ap (λ (key : Bytes). relocated (layout_of img) img i o key text) (key-same i l)
