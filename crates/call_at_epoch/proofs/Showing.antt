-- What is shown of the entry that was chosen, from what lookup answers of it.
--     showing-refused, showing      questions 14 and 11 refuse, or not
--     answer-refused, answer-on     the call's answer where a question before them refuses, or none does
--     chosen-within                 the chosen slot is one of the table's
--     key-short, key-long, name-other, name-is      questions 23 and 7, on the shape's numbers
-- Assumes nothing.
use mathlib.Core.Path.{◌≡◌, refl, sym, ap, ◌∙◌, subst}
use Prim.Native.Nat.{ℕ, ◌+◌, ◌-◌, ◌≤◌, ◌<◌}
use native.Mathlib.Omega.{arith}
use mathlib.Core.Bool.{Bool, true, false, cond, ◌&&◌}
use lib.ListN.{length}
use lib.Dec.{eqb}
use borrow.Author.Tests.{le-leb, lt-leb, eq-eqb, ne_eqb}
use Rattle.spec_file.specs.Bytes.{Bytes}
use Rattle.spec_file.specs.Image.{Layout, layout_of, slot, offset_of}
use Rattle.spec_file.specs.Search.{Probe, met, empty, exhausted, is_met, slot_of}
use Rattle.spec_file.specs.Messages.{head_size, is_active, held, shown_length}
use Rattle.spec_file.specs.Questions.{first_no, shown_asks, open_number}
use Rattle.law_file.proofs.Tests.{by_bool, zero-yes, zero-no}
use Rattle.law_file.proofs.Opened.{first_no-head}
use Rattle.law_file.proofs.Effects.{active-some}
use Rattle.law_file.proofs.Stretch.{held_none, held-some}
use Rattle.spec_epoch.specs.Epochs.{epoch_size, least_key, epoch_at, chosen, key_dated, prism_allowed, at_epoch_number, Dated, shown_at, refused_dated, at_epoch}
use Rattle.law_epoch.proofs.Choice.{Leads, chosen-leads}
use Rattle.law_epoch.proofs.Answers.{number-on, refused-is}
use Rattle.header_layout.specs.Shapes.{shape_of}
use Rattle.header_layout.specs.declared.shape.Shape.{Shape}
use Rattle.table_search.specs.Probes.{probe_of, Within}
use Rattle.table_search.proofs.Headers.{layout-key}
use Rattle.call_lookup.specs.Shown.{shown_offset, Shows}
use Rattle.call_lookup.proofs.Answers.{offset-none}
use Rattle.epoch_choose.specs.declared.Chosen.{Chosen}
use Rattle.epoch_choose.specs.Choices.{Kept}
use Rattle.call_at_epoch.specs.declared.Dated as code
use Rattle.call_at_epoch.specs.Answers.{Answers, shown_of}

-- ---- 14 and 11
module _ (img : Bytes) (s : Probe) (r : code.Dated)
    (f : Shows (layout_of img) img s r.located.number r.located.start.0 r.located.length) where
  abbrev g : Layout
  g = layout_of img

  pub showing-refused : (r.located.number ≡ 0 → ⊥) → r.epoch ≡ 0 → Answers (shown_of img s) r
  unfolding shown_of refused_dated
  showing-refused z e =
      let n = first_no (shown_asks g img s) in
      let z' : n ≡ 0 → ⊥ = λ q. z (f.number ∙ q) in
      let o = offset-none g img s z' in
      subst (λ (d : Dated). Answers d r)
      (sym (zero-no n (shown_at g img (slot_of s)) (refused_dated n) z'))
      (record {
        number = f.number;
        epoch = e;
        start = f.begins ∙ ap (λ (p : ℕ). cond (eqb p 0) 0 (p + head_size g)) o;
        length = f.counts ∙ held_none g img (shown_offset g img s) o;
      })

  module _ (z : r.located.number ≡ 0) where
    abbrev at : ℕ
    at = offset_of g (slot g img (slot_of s))

    none-refused : first_no (shown_asks g img s) ≡ 0
    none-refused = sym f.number ∙ z

    offset-is : shown_offset g img s ≡ cond (is_active img at) at 0
    unfolding shown_offset
    offset-is =
        ap (λ (b : Bool). cond (b && is_active img at) at 0)
        (eq-eqb (first_no (shown_asks g img s)) 0 none-refused)

    start_is : r.located.start.0 ≡ (shown_at g img (slot_of s)).start
    unfolding shown_at
    start_is =
        f.begins ∙ ap (λ (p : ℕ). cond (eqb p 0) 0 (p + head_size g)) offset-is
        ∙ by_bool (is_active img at) (λ a. rw (a, ne_eqb at 0 (active-some img at a)) refl) (λ a. rw a refl)

    length-is : r.located.length ≡ (shown_at g img (slot_of s)).length
    unfolding shown_at shown_length
    length-is =
        f.counts ∙ ap (held g img) offset-is
        ∙ by_bool (is_active img at) (λ a. rw a (held-some g img at (active-some img at a)))
        (λ a. rw a (held_none g img 0 refl))

    pub showing : (c : Chosen) → probe_of c.found ≡ s → Kept img c → r.epoch ≡ c.epoch → Answers (shown_of img s) r
    unfolding shown_of shown_at Kept
    showing c q k e =
        let n = first_no (shown_asks g img s) in
        let is-met : is_met (probe_of c.found) ≡ true =
        ap is_met q ∙ first_no-head 14 (is_met s) _ (λ w. omega arith) none-refused in
        subst (λ (d : Dated). Answers d r)
        (sym (zero-yes n (shown_at g img (slot_of s)) (refused_dated n) none-refused))
        (record {
          number = z;
          epoch = e ∙ k is-met ∙ ap (λ (p : Probe). epoch_at g img (slot_of p)) q;
          start = start_is;
          length = length-is;
        })

-- ---- 23 and 7
module _ (img name : Bytes) (s : Shape) (is : s ≡ shape_of img) where
  pub key-short : s.keylen < least_key → key_dated (layout_of img).K ≡ false
  unfolding key_dated
  key-short l = lt-leb least_key (layout_of img).K (omega (arith, layout-key img s is))

  pub key-long : least_key ≤ s.keylen → key_dated (layout_of img).K ≡ true
  unfolding key_dated
  key-long l = le-leb least_key (layout_of img).K (omega (arith, layout-key img s is))

  pub name-other : least_key ≤ s.keylen → (length name + epoch_size ≡ s.keylen → ⊥)
      → prism_allowed (layout_of img).K name ≡ false
  unfolding prism_allowed
  name-other l z =
      ne_eqb (length name) ((layout_of img).K - epoch_size) (λ q. z (omega (arith, q, layout-key img s is)))

  pub name-is : length name + epoch_size ≡ s.keylen → prism_allowed (layout_of img).K name ≡ true
  unfolding prism_allowed
  name-is q = eq-eqb (length name) ((layout_of img).K - epoch_size) (omega (arith, q, layout-key img s is))

-- ---- the call's answer
module _ (img name : Bytes) (t : ℕ) (r : code.Dated) where
  pub answer-refused : (n : ℕ) → at_epoch_number img name t ≡ n → (n ≡ 0 → ⊥) → Answers (refused_dated n) r
      → Answers (at_epoch img name t) r
  answer-refused n e z a = subst (λ (d : Dated). Answers d r) (sym (refused-is img name t n e z)) a

  pub answer-on : open_number img ≡ 0 → key_dated (layout_of img).K ≡ true → prism_allowed (layout_of img).K name ≡ true
      → (s : Probe) → s ≡ chosen (layout_of img) img name t → Answers (shown_of img s) r → Answers (at_epoch img name t) r
  unfolding shown_of at_epoch
  answer-on h k n s q a =
      let g' = layout_of img in
      subst (λ (d : Dated). Answers d r)
      (ap (shown_of img) q
      ∙ ap (λ (m : ℕ). cond (eqb m 0) (shown_at g' img (slot_of (chosen g' img name t))) (refused_dated m))
      (sym (number-on img name t h k n)))
      a

-- the chosen slot is one of the table's
module _ (img name : Bytes) (t slots : ℕ) (q : (layout_of img).N ≡ slots) where
  leads : (s : Probe) → s ≡ chosen (layout_of img) img name t → Leads (layout_of img) img name t (layout_of img).N s
  leads s e =
      subst (Leads (layout_of img) img name t (layout_of img).N) (sym e) (chosen-leads (layout_of img) img name t)

  pub chosen-within : (s : Probe) → s ≡ chosen (layout_of img) img name t → Within slots s
  unfolding Within Leads
  chosen-within (met i) e = omega (arith, (leads (met i) e).below)
  chosen-within (empty i) e = absurd (leads (empty i) e)
  chosen-within exhausted e = tt
