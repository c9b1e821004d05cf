-- An accepted storing of records during growth, step by step.
--     both-opened, names, no-refusal     what its number 0 says before the first write
--     asked           what the moves behind the storing ask
--     left            what the call leaves
-- Assumes nothing.
use mathlib.Core.Path.{◌≡◌, ap, ◌∙◌}
use Prim.Native.Nat.{ℕ}
use native.Mathlib.Omega.{arith}
use mathlib.Core.Bool.{true}
use mathlib.Core.List.{List, [], ◌∷◌}
use lib.ListN.{length}
use Rattle.spec_file.specs.Bytes.{Bytes}
use Rattle.spec_file.specs.Image.{layout_of}
use Rattle.spec_file.specs.Messages.{added}
use Rattle.spec_file.specs.Questions.{Question, ask, name_allowed}
use Rattle.spec_file.specs.Calls.{Outcome, add}
use Rattle.spec_columns.specs.Columns.{whole_records, columns}
use Rattle.spec_records.specs.Records.{store_records}
use Rattle.law_records.proofs.Numbers.{store-add}
use Rattle.law_file.proofs.Opened.{first_no-head, first_no-tail}
use Rattle.spec_moves.specs.Moves.{Pair}
use Rattle.spec_growth.specs.Growth.{old_probe, named_number, ready, own_asks, grow_store_number, grow_store}
use Rattle.header_layout.specs.Shapes.{shape_of}
use Rattle.header_layout.specs.declared.shape.Shape.{Shape}
use Rattle.table_search.proofs.Headers.{layout-key}
use Rattle.growth_open.proofs.Pairs.{PairOpen, pair-open}
use Rattle.growth_named.specs.Names.{pair_of, Paired}
use Rattle.growth_number.proofs.Turns.{Passed, passed, paired, mode-two}
use Rattle.growth_moves.specs.Several as some
use Rattle.growth_ready.specs.Ready.{IsReady, Grown}
use Rattle.growth_ready.proofs.Acting.{add_left, add-again, moves-paired, grown-store}

module _ (old new key recs : Bytes) (W : ℕ) (z : grow_store_number (pair_of old new) key recs W ≡ 0) where
  abbrev p : Pair
  p = pair_of old new

  abbrev q : Pair
  q = ready p key

  abbrev first : List Question
  first = ask 7 (name_allowed (layout_of old).K key) ∷ ask 19 (whole_records W (length recs)) ∷ []

  yes-all : Passed old new key first (own_asks q key (columns W recs) 2)
  unfolding grow_store_number
  yes-all = passed old new key first (own_asks q key (columns W recs) 2) z

  pub both-opened : PairOpen p
  both-opened = pair-open p yes-all.pair-yes

  pub no-refusal : named_number p (old_probe p key) ≡ 0
  no-refusal = yes-all.named-yes

  name-yes : name_allowed (layout_of old).K key ≡ true
  name-yes = first_no-head 7 (name_allowed (layout_of old).K key) _ (λ y. omega arith) yes-all.first-yes

  whole-yes : whole_records W (length recs) ≡ true
  whole-yes =
      first_no-head 19 (whole_records W (length recs)) [] (λ y. omega arith)
      (first_no-tail 7 (name_allowed (layout_of old).K key) _ (λ y. omega arith) yes-all.first-yes)

  module _ (s l : Shape) (e : s ≡ shape_of old) (f : l ≡ shape_of new) where
    pub names : Paired old new key s l
    names = paired old new key yes-all.pair-yes s l e f (rw (layout-key old s e) at name-yes)

    module _ (old₁ mid new₁ : Bytes) (r : IsReady old new key old₁ mid)
        (a : new₁ ≡ (store_records mid key recs W).after) where
      new_is : new₁ ≡ added (layout_of q.new) q.new key (columns W recs) 2
      new_is =
          a
          ∙ ap (λ (x : Outcome Bytes). x.after) (store-add mid key recs W whole-yes)
          ∙ ap (λ (x : Bytes). (add x key (columns W recs) 2).after) r.second
          ∙ add_left names no-refusal (columns W recs) 2 mode-two yes-all.own-yes

      pub asked : some.Paired old₁ new₁ s l
      asked =
          rw (r.first, new_is)
          (moves-paired names no-refusal _ (add-again names no-refusal (columns W recs) 2 mode-two yes-all.own-yes))

      pub left : (old' new' : Bytes) → some.MovedSome old₁ new₁ 8 old' new' → Grown (grow_store p key recs W) 0 old' new'
      left old' new' w = grown-store old new key old₁ new₁ old' new' r.first w recs W z new_is
