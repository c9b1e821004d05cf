-- The journaled form of any call, by its number.
--     journals-16, journals-refused, journals-asked      16; refused by the call itself; what the update answered
--     lent-again      the working slice behind the call, which was lent its beginning
-- Assumes nothing.
use mathlib.Core.Path.{◌≡◌, sym, ap, ap₂, ◌∙◌, subst}
use Prim.Native.Nat.{ℕ, ◌-◌, ◌^◌, ◌≤◌, ◌<◌}
use native.Mathlib.Omega.{arith}
use mathlib.Core.Bool.{Bool, true, cond}
use lib.ListN.{length, take, drop}
use borrow.Author.Tests.{le-leb, lt-leb}
use borrow.Rule.Slice.PartMut.{put_mid}
use Rattle.spec_file.specs.Bytes.{Bytes, part, store}
use Rattle.spec_file.specs.Calls.{Outcome, settled}
use Rattle.spec_changes.specs.Changes.{work_allowed, worked_number}
use Rattle.spec_changes.specs.Journal.{journal_allowed, CutSafe, all_written, updates, journaled_number, journaled}
use Rattle.law_file.proofs.Tests.{by_bool, zero-yes, zero-no}
use Rattle.law_file.proofs.Bytes.{part-store-same}
use Rattle.law_file.proofs.Stores.{store-lent}
use Rattle.law_file.proofs.Outcomes.{settled-no}
use Rattle.spec_changes.proofs.Recovery.{cut-safe}
use Rattle.spec_changes.specs.Journals.{Journals}

module _ (call : Bytes → Outcome Bytes) (img : Bytes) (work : ℕ) (j : Bytes) where
  abbrev new : Bytes
  new = (call img).after

  abbrev asked : ℕ
  asked = worked_number (work_allowed (length img) work) (call img).answer.number

  abbrev n : ℕ
  n = journaled_number call img work j

  -- a form that is refused before the update leaves image and journal
  refused : (k : ℕ) → k ≡ asked → (k ≡ 0 → ⊥) → Journals call img work j img j k
  unfolding journaled
  refused k e z =
      let number' : n ≡ asked =
      unfold journaled_number in zero-no asked (cond (journal_allowed img new j) 0 17) asked (λ h. z (e ∙ h)) in
      let no' : n ≡ 0 → ⊥ = λ h. z (e ∙ sym number' ∙ h) in
      record {
        number_is = e ∙ sym number';
        image-is = sym (settled-no n img new no');
        journal-is = sym (settled-no n j _ no');
        cut-safe = λ h. absurd (z h);
      }

  pub journals-16 : work < length img → Journals call img work j img j 16
  journals-16 h =
      refused 16
      (sym (unfold worked_number work_allowed in
      ap (λ (b : Bool). cond b (call img).answer.number 16) (lt-leb (length img) work h)))
      (λ z. omega arith)

  module _ (fits : length img ≤ work) where
    worked : asked ≡ (call img).answer.number
    unfolding worked_number work_allowed
    worked = ap (λ (b : Bool). cond b (call img).answer.number 16) (le-leb (length img) work fits)

    pub journals-refused : (k : ℕ) → k ≡ (call img).answer.number → (k ≡ 0 → ⊥) → Journals call img work j img j k
    journals-refused k e z = refused k (e ∙ sym worked) z

    pub journals-asked : (k : ℕ) (new' img' j' : Bytes) → (call img).answer.number ≡ 0 → new' ≡ (call img).after
        → length img ≡ length new' → length img < 2 ^ 32
        → k ≡ cond (journal_allowed img new' j) 0 17
        → img' ≡ settled k img new'
        → j' ≡ settled k j (all_written (updates img new' j) (record { image = img; journal = j })).journal
        → Journals call img work j img' j' k
    unfolding journaled
    journals-asked k new' img' j' z e same small q p r =
        let number' : k ≡ n =
        q ∙ ap (λ (x : Bytes). cond (journal_allowed img x j) 0 17) e
        ∙ sym (unfold journaled_number in zero-yes asked (cond (journal_allowed img new j) 0 17) asked (worked ∙ z)) in
        record {
          number_is = number';
          image-is = p ∙ ap₂ (λ (m : ℕ) (x : Bytes). settled m img x) number' e;
          journal-is =
              r ∙ ap₂ (λ (m : ℕ) (x : Bytes).
              settled m j (all_written (updates img x j) (record { image = img; journal = j })).journal)
              number' e;
          cut-safe = λ h. safe h;
        }
      where
        accepted : k ≡ 0 → journal_allowed img new' j ≡ true
        accepted h =
            by_bool (journal_allowed img new' j) (λ y. y)
            (λ no'. absurd (not-17 (sym (q ∙ ap (λ (b : Bool). cond b 0 17) no') ∙ h)))
          where
            not-17 : ◌≡◌ {A = ℕ} 17 0 → ⊥
            not-17 t = omega arith

        arrived : k ≡ 0 → img' ≡ new'
        arrived h = p ∙ unfold settled in zero-yes k new' img h

        safe : k ≡ 0 → CutSafe img img' j
        safe h =
            subst (λ (x : Bytes). CutSafe img x j) (sym (arrived h))
            (cut-safe img new' j same (omega arith) (accepted h))

-- a working slice that begins with the image, and whose beginning was lent to the call, which left `after` there: it
-- begins with `after`, and that is as long as the image
pub lent-again : (img out after : Bytes) → take (length img - 0) (drop 0 out) ≡ img
    → length after ≡ length (take (length img - 0) (drop 0 out)) → length img ≤ length out
    → let begin : Bytes = take (length img - 0) (drop 0 (put_mid 0 (length img - 0) out after)) in
    (begin ≡ after) × (length img ≡ length begin)
unfolding part
lent-again img out after held size fits =
    let long : length after ≡ length img = size ∙ ap (λ (t : Bytes). length t) held in
    let k : length after ≡ length img - 0 = long ∙ omega arith in
    let again : take (length img - 0) (drop 0 (put_mid 0 (length img - 0) out after)) ≡ after =
    ap (λ (t : Bytes). take (length img - 0) (drop 0 t)) (store-lent out 0 (length img) after k)
    ∙ ap (λ (k : ℕ). take k (drop 0 (store out 0 after))) (sym k)
    ∙ part-store-same out 0 after (omega arith) in
    (again, sym (ap (λ (t : Bytes). length t) again ∙ long))
