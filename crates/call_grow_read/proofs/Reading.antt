-- A reading on a pair, by what lookup answers there.
--     pair-refused, pair-filled     refused as lookup is; or with the text that it shows
-- Assumes nothing.
use mathlib.Core.Path.{◌≡◌, refl, sym, ap, ◌∙◌, subst}
use Prim.Native.Nat.{ℕ}
use mathlib.Core.List.{[], ◌∷◌}
use lib.ListN.{length}
use Rattle.spec_file.specs.Bytes.{Bytes, part}
use Rattle.spec_file.specs.Messages.{bytes_of}
use Rattle.spec_file.specs.Questions.{lookup_number}
use Rattle.spec_file.specs.Calls.{Answer, plain, settled, lookup}
use Rattle.spec_records.specs.Records.{stored_bytes, read_records, filled_records, Reads}
use Rattle.spec_moves.specs.Moves.{Pair}
use Rattle.spec_growth.specs.Growth.{holder, grow_name_number, grow_lookup, grow_lookup_start, grow_lookup_length, grow_read, grow_filled}
use Rattle.law_file.proofs.Tests.{by-eq, zero-yes, zero-no}
use Rattle.law_file.proofs.Outcomes.{settled-yes, settled-no}
use Rattle.columns_fetch.specs.Fills.{Fills}
use Rattle.columns_fetch.proofs.Filled.{reads-refused, reads-filled}
use Rattle.call_lookup.proofs.Answers.{lookup-answer}
use Rattle.call_grow_lookup.proofs.Holding.{some-start, some-length}
use Rattle.call_grow_read.specs.PairReads.{PairReads}

module _ (p : Pair) (key out : Bytes) where
  abbrev k : ℕ
  k = grow_name_number p key

  -- a question before the search is answered no
  name-refused : (n m : ℕ) → n ≡ k → (k ≡ 0 → ⊥) → m ≡ 0 → PairReads p key out out n m
  unfolding grow_read grow_filled plain
  name-refused n m e z em =
      let is = zero-no k (read_records (holder p key) key (length out)).answer (plain k) z in
      record {
        number = e ∙ sym (ap (λ (a : Answer). a.number) is);
        count = em ∙ sym (ap (λ (a : Answer). a.amount) is);
        slice = sym (settled-no k out (filled_records (holder p key) key out) z);
      }

  -- none is: as a reading of the image that holds the point
  held_reads : (z : k ≡ 0) (img filled : Bytes) (n m : ℕ) → holder p key ≡ img → Reads img key out filled n m
      → PairReads p key out filled n m
  unfolding grow_read grow_filled
  held_reads z img filled n m h r =
      let is : (grow_read p key (length out)).answer ≡ (read_records img key (length out)).answer =
      zero-yes k (read_records (holder p key) key (length out)).answer (plain k) z
      ∙ ap (λ (i : Bytes). (read_records i key (length out)).answer) h in
      record {
        number = r.number ∙ sym (ap (λ (a : Answer). a.number) is);
        count = r.count ∙ sym (ap (λ (a : Answer). a.amount) is);
        slice =
            r.slice ∙ ap (λ (i : Bytes). filled_records i key out) (sym h)
            ∙ sym (settled-yes k out (filled_records (holder p key) key out) z);
      }

  number-held : k ≡ 0 → (grow_lookup p key).answer.number ≡ lookup_number (holder p key) key
  unfolding grow_lookup lookup
  number-held z = ap (λ (a : Answer). a.number) (zero-yes k (lookup (holder p key) key).answer (plain k) z)

  number-none : (k ≡ 0 → ⊥) → (grow_lookup p key).answer.number ≡ k
  unfolding grow_lookup plain
  number-none z = ap (λ (a : Answer). a.number) (zero-no k (lookup (holder p key) key).answer (plain k) z)

  pub pair-refused : (n m : ℕ) → n ≡ (grow_lookup p key).answer.number → (n ≡ 0 → ⊥) → m ≡ 0
      → PairReads p key out out n m
  pair-refused n m e z em =
      by-eq k 0
      (λ y.
      held_reads y (holder p key) out n m refl
      (reads-refused (holder p key) key out n m (e ∙ number-held y) z em))
      (λ y. name-refused n m (e ∙ number-none y) y em)

  -- lookup is accepted
  module _ (z : (grow_lookup p key).answer.number ≡ 0) where
    asked : k ≡ 0
    asked = by-eq k 0 (λ y. y) (λ y. absurd (y (sym (number-none y) ∙ z)))

    pub pair-filled : (img filled : Bytes) (n m : ℕ) (stored : Bytes) → (k ≡ 0 → holder p key ≡ img)
        → stored ≡ part img (grow_lookup_start p key) (grow_lookup_length p key)
        → Fills stored out filled n m → PairReads p key out filled n m
    unfolding lookup stored_bytes
    pair-filled img filled n m stored h e f =
        let is = h asked in
        let no-question : lookup_number img key ≡ 0 =
        ap (λ (i : Bytes). lookup_number i key) (sym is) ∙ sym (number-held asked) ∙ z in
        let shown =
        lookup-answer img key _ _ stored refl refl
        (e ∙ rw (some-start p key img h asked, some-length p key img h asked) refl) in
        held_reads asked img filled n m is (reads-filled img key out no-question filled n m stored shown.2 f)
