-- Document 02's sentence, on any image of bytes: an accepted call "shows epoch and message of the entry of that name
-- with the largest epoch at most t (the lowest slot if two), or 14 when none has one".
--     Entry g img name j    slot j holds an entry of that name
--     Shows img name t      the entry that is shown, and what is shown of it
--     at-epoch-shows        so of every accepted call
--     at-epoch-14, at-epoch-not-14      14 exactly when no entry of the name has an epoch at most t
--     at-epoch-lookup       on a sound image lookup of the name with the epoch shown shows the same message
-- Assumes nothing.
use mathlib.Core.Path.{◌≡◌, refl, sym, ap, ap₂, ◌∙◌, subst}
use Prim.Native.Nat.{ℕ, ◌-◌, ◌≤◌, ◌<◌}
use native.Mathlib.Omega.{arith}
use mathlib.Core.Bool.{true, not}
use lib.ListN.{length, take}
use lib.Dec.{eqb}
use borrow.Author.Tests.{le-leb, eq-eqb}
use Rattle.spec_file.specs.Bytes.{Bytes, same, all_zero}
use Rattle.spec_file.specs.Image.{Layout, layout_of, slot, offset_of, vacant}
use Rattle.spec_file.specs.Search.{Probe, met, empty, exhausted, is_met, slot_of}
use Rattle.spec_file.specs.Messages.{shown, bytes_of}
use Rattle.spec_file.specs.Questions.{first_no, shown_asks, message_sound, name_allowed, open_number}
use Rattle.spec_file.specs.Calls.{lookup}
use Rattle.spec_file.specs.Inspect.{check, sound}
use Rattle.law_file.proofs.Tests.{by_bool, by_le, and-true, not-both}
use Rattle.law_file.proofs.Bytes.{AreBytes, same_true, same_refl}
use Rattle.law_file.proofs.Slots.{length-slot, length-key_of}
use Rattle.law_file.proofs.Table.{Taken, key_at}
use Rattle.law_file.proofs.Opened.{opened-facts, opened-room}
use Rattle.law_file.proofs.Outcomes.{shown-14, shown-11, shown-0, lookup-shows}
use Rattle.law_file.proofs.Verdict.{check-searches}
use Rattle.spec_epoch.specs.Epochs.{epoch_size, least_key, epoch_of, dated_key, epoch_at, eligible, chosen, key_dated, prism_allowed, Dated, shown_at, at_epoch}
use Rattle.law_epoch.proofs.Choice.{named-key, key-bytes, eligible-taken, eligible-key, eligible-at-most, eligible-yes, Latest, Leads, chosen-leads}
use Rattle.law_epoch.proofs.Answers.{number-on, number_is, Accepted, accepted, accepted-is, at_length}

-- the first K − 4 bytes of a key
abbrev pub prism_of : ℕ → Bytes → Bytes
prism_of K key = take (K - epoch_size) key

abbrev pub Entry : Layout → Bytes → Bytes → ℕ → Type 0
Entry g img name j = (j < g.N) × Taken g img j × (prism_of g.K (key_at g img j) ≡ name)

module _ (img name : Bytes) (t : ℕ) where
  abbrev g : Layout
  g = layout_of img

  pub record Shows : Type 0 where
    pub at : ℕ
    pub entry : Entry g img name at
    pub at_most : epoch_at g img at ≤ t
    pub largest : (j : ℕ) → Entry g img name j → epoch_at g img j ≤ t → epoch_at g img j ≤ epoch_at g img at
    pub lowest : (j : ℕ) → Entry g img name j → epoch_at g img j ≡ epoch_at g img at → at ≤ j
    pub message : message_sound g img (offset_of g (slot g img at)) ≡ true
    pub epoch-is : (at_epoch img name t).epoch ≡ epoch_at g img at
    pub text-is : (at_epoch img name t).text ≡ shown g img (offset_of g (slot g img at))

  -- ---- of an image of bytes whose keys have an epoch after a name as long as this one
  module _ (bytes : AreBytes img) (h : open_number img ≡ 0) (k : least_key ≤ g.K)
      (n : length name ≡ g.K - epoch_size) where
    key-length : (j : ℕ) → j < g.N → length (key_at g img j) ≡ g.K
    key-length j l =
        length-key_of g (slot g img j) (length-slot g img (opened-room img (opened-facts img h)) j l)

    -- an entry of the name is the name with its own epoch, and back
    entry_key : (j : ℕ) → j < g.N
        → same (key_at g img j) (dated_key name (epoch_at g img j)) ≡ same (prism_of g.K (key_at g img j)) name
    unfolding epoch_at
    entry_key j l =
        let q = key-length j l in
        let m : length name ≡ g.K - epoch_size = n in
        ap (λ (x : ℕ). same (key_at g img j) (dated_key name (epoch_of x (key_at g img j)))) (sym q)
        ∙ named-key (key_at g img j) name (key-bytes g img bytes j) (omega (arith, q, n, k))
        ∙ ap (λ (x : ℕ). same (take x (key_at g img j)) name) m

    entry-eligible : (j : ℕ) → Entry g img name j → epoch_at g img j ≤ t → eligible g img name t j ≡ true
    entry-eligible j e l =
        eligible-yes g img name t j e.1
        (same_true (key_at g img j) (dated_key name (epoch_at g img j))
        (entry_key j e.0 ∙ ap (same (prism_of g.K (key_at g img j))) (sym e.2)
        ∙ same_refl (prism_of g.K (key_at g img j))))
        l

    eligible-entry : (j : ℕ) → j < g.N → eligible g img name t j ≡ true → Entry g img name j
    eligible-entry j l e = (
      l,
      eligible-taken g img name t j e,
      same_true (prism_of g.K (key_at g img j)) name
          (sym (entry_key j l)
          ∙ ap (same (key_at g img j)) (sym (eligible-key g img name t j e)) ∙ same_refl (key_at g img j)),
    )

    latest-shows : (i : ℕ) → Accepted img name t i → Latest g img name t g.N i
        → at_epoch img name t ≡ shown_at g img i → Shows
    unfolding shown_at
    latest-shows i a f is =
        record {
          at = i;
          entry = eligible-entry i f.below f.dated;
          at_most = eligible-at-most g img name t i f.dated;
          largest = λ j e l. f.largest j e.0 (entry-eligible j e l);
          lowest = λ j e q.
              by_le i j (λ l. l)
              (λ l.
              let most = eligible-at-most g img name t i f.dated in
              let less = f.lowest j l (entry-eligible j e (omega arith)) in
              absurd (omega arith));
          message = a.sound;
          epoch-is = ap (λ (d : Dated). d.epoch) is;
          text-is = ap (λ (d : Dated). d.text) is;
        }

    -- ---- 14
    on : (at_epoch img name t).number ≡ first_no (shown_asks g img (chosen g img name t))
    unfolding key_dated prism_allowed
    on =
        number_is img name t
        ∙ number-on img name t h (le-leb least_key g.K k) (eq-eqb (length name) (g.K - epoch_size) n)

    pub at-epoch-14 : ((j : ℕ) → Entry g img name j → t < epoch_at g img j) → (at_epoch img name t).number ≡ 14
    unfolding is_met Leads
    at-epoch-14 f = go (chosen g img name t) refl
      where
        go : (s : Probe) → chosen g img name t ≡ s → (at_epoch img name t).number ≡ 14
        go (met i) q =
            let l : Latest g img name t g.N i = subst (Leads g img name t g.N) q (chosen-leads g img name t) in
            let above = f i (eligible-entry i l.below l.dated) in
            absurd (omega (arith, eligible-at-most g img name t i l.dated))
        go (empty i) q = on ∙ shown-14 g img (chosen g img name t) (ap is_met q)
        go exhausted q = on ∙ shown-14 g img (chosen g img name t) (ap is_met q)

    -- where an entry has one, the call is accepted or its message fails 11
    pub at-epoch-not-14 : (j : ℕ) → Entry g img name j → epoch_at g img j ≤ t → (at_epoch img name t).number ≡ 14 → ⊥
    unfolding Leads
    at-epoch-not-14 j e l q = go (chosen g img name t) refl
      where
        go : (s : Probe) → chosen g img name t ≡ s → ⊥
        go (met i) m =
            let is = sym q ∙ on ∙ ap (λ (s : Probe). first_no (shown_asks g img s)) m in
            by_bool (message_sound g img (offset_of g (slot g img i)))
            (λ s. omega (arith, is, shown-0 g img i s)) (λ s. omega (arith, is, shown-11 g img i s))
        go (empty i) m = subst (Leads g img name t g.N) m (chosen-leads g img name t)
        go exhausted m =
            not-both (eligible g img name t j) (entry-eligible j e l)
            (subst (Leads g img name t g.N) m (chosen-leads g img name t) j e.0)

  pub at-epoch-shows : AreBytes img → (at_epoch img name t).number ≡ 0 → Shows
  unfolding Leads
  at-epoch-shows bytes e =
      let z = sym (number_is img name t) ∙ e in
      let a = accepted img name t z in
      latest-shows bytes a.opened a.dated a.named (slot_of (chosen g img name t)) a
      (subst (Leads g img name t g.N) a.met_at (chosen-leads g img name t))
      (accepted-is img name t z)

  -- ---- on an image that the check calls sound

  -- lookup of the name with the epoch that is shown
  pub at-epoch-lookup : check img ≡ sound → (at_epoch img name t).number ≡ 0
      → (lookup img (dated_key name (at_epoch img name t).epoch)).answer
      ≡ record {
        number = 0;
        amount = (at_epoch img name t).length;
        text = (at_epoch img name t).text;
        epoch = 0;
      }
  unfolding name_allowed vacant Leads shown_at
  at-epoch-lookup ok e =
      let z = sym (number_is img name t) ∙ e in
      let a = accepted img name t z in
      let i = slot_of (chosen g img name t) in
      let is = accepted-is img name t z in
      let f : Latest g img name t g.N i =
      subst (Leads g img name t g.N) a.met_at (chosen-leads g img name t) in
      let v = eligible-taken g img name t i f.dated in
      let key : dated_key name (at_epoch img name t).epoch ≡ key_at g img i =
      ap (λ (d : Dated). dated_key name d.epoch) is ∙ sym (eligible-key g img name t i f.dated) in
      let text : (at_epoch img name t).text ≡ shown g img (offset_of g (slot g img i)) = ap (λ (d : Dated). d.text) is in
      ap (λ (x : Bytes). (lookup img x).answer) key
      ∙ lookup-shows img (key_at g img i) a.opened (allowed a i f.below v) i
      (check-searches img ok i f.below v) a.sound
      ∙ ap₂ (λ m o. record { number = 0; amount = m; text = o; epoch = 0 })
      (ap (λ o. length (bytes_of o)) (sym text) ∙ at_length img name t) (sym text)
    where
      allowed : Accepted img name t (slot_of (chosen g img name t)) → (i : ℕ) → i < g.N → Taken g img i
          → name_allowed g.K (key_at g img i) ≡ true
      allowed a i l v =
          and-true (eqb (length (key_at g img i)) g.K) (not (all_zero (key_at g img i)))
          (eq-eqb (length (key_at g img i)) g.K
          (length-key_of g (slot g img i)
          (length-slot g img (opened-room img (opened-facts img a.opened)) i l)))
          (ap not v)
