-- An accepted add during growth, step by step.
--     both-opened, names, no-refusal     what its number 0 says before the first write
--     asked           what the moves behind the add ask
--     left            what the call leaves
-- Assumes nothing.
use mathlib.Core.Path.{◌≡◌, ap, ◌∙◌}
use Prim.Native.Nat.{ℕ}
use native.Mathlib.Omega.{arith}
use mathlib.Core.Bool.{true}
use mathlib.Core.List.{[], ◌∷◌}
use Rattle.spec_file.specs.Bytes.{Bytes}
use Rattle.spec_file.specs.Image.{layout_of}
use Rattle.spec_file.specs.Messages.{added}
use Rattle.spec_file.specs.Questions.{first_no, name_allowed, mode_known, named, open_number}
use Rattle.spec_file.specs.Calls.{add}
use Rattle.law_file.proofs.Opened.{first_no-head, first_no-tail}
use Rattle.spec_moves.specs.Moves.{Pair}
use Rattle.spec_growth.specs.Growth.{old_probe, named_number, ready, own_asks, grow_add_number, grow_add}
use Rattle.header_layout.specs.Shapes.{shape_of}
use Rattle.header_layout.specs.declared.shape.Shape.{Shape}
use Rattle.table_search.proofs.Headers.{layout-key}
use Rattle.growth_open.proofs.Pairs.{PairOpen, pair-open}
use Rattle.growth_named.specs.Names.{pair_of, Paired}
use Rattle.growth_number.proofs.Turns.{Passed, passed, paired}
use Rattle.growth_moves.specs.Several as some
use Rattle.growth_ready.specs.Ready.{IsReady, Grown}
use Rattle.growth_ready.proofs.Acting.{add_left, add-again, moves-paired, grown-add}

module _ (old new key bytes : Bytes) (mode : ℕ) (z : grow_add_number (pair_of old new) key bytes mode ≡ 0) where
  abbrev p : Pair
  p = pair_of old new

  abbrev q : Pair
  q = ready p key

  yes-all : Passed old new key (named (layout_of old).K key mode []) (own_asks q key bytes mode)
  unfolding grow_add_number
  yes-all = passed old new key (named (layout_of old).K key mode []) (own_asks q key bytes mode) z

  pub both-opened : PairOpen p
  both-opened = pair-open p yes-all.pair-yes

  pub no-refusal : named_number p (old_probe p key) ≡ 0
  no-refusal = yes-all.named-yes

  name-yes : name_allowed (layout_of old).K key ≡ true
  unfolding named
  name-yes = first_no-head 7 (name_allowed (layout_of old).K key) _ (λ y. omega arith) yes-all.first-yes

  mode-yes : mode_known mode ≡ true
  unfolding named
  mode-yes =
      first_no-head 8 (mode_known mode) [] (λ y. omega arith)
      (first_no-tail 7 (name_allowed (layout_of old).K key) _ (λ y. omega arith) yes-all.first-yes)

  module _ (s l : Shape) (e : s ≡ shape_of old) (f : l ≡ shape_of new) where
    pub names : Paired old new key s l
    names =
        paired old new key yes-all.pair-yes s l e f (rw (layout-key old s e) at name-yes)

    module _ (old₁ mid new₁ : Bytes) (r : IsReady old new key old₁ mid) (a : new₁ ≡ (add mid key bytes mode).after) where
      new_is : new₁ ≡ added (layout_of q.new) q.new key bytes mode
      new_is =
          a
          ∙ ap (λ (x : Bytes). (add x key bytes mode).after) r.second
          ∙ add_left names no-refusal bytes mode mode-yes yes-all.own-yes

      pub asked : some.Paired old₁ new₁ s l
      asked =
          rw (r.first, new_is)
          (moves-paired names no-refusal _ (add-again names no-refusal bytes mode mode-yes yes-all.own-yes))

      pub left : (old' new' : Bytes) → some.MovedSome old₁ new₁ 8 old' new'
          → Grown (grow_add p key bytes mode) 0 old' new'
      left old' new' w = grown-add old new key old₁ new₁ old' new' r.first w bytes mode z new_is
