-- An accepted delete during growth, step by step.
--     both-opened, names, no-refusal     what its number 0 says before the first write
--     asked           what the moves behind the delete ask
--     left            what the call leaves
-- Assumes nothing.
use mathlib.Core.Path.{◌≡◌, ap, ◌∙◌}
use native.Mathlib.Omega.{arith}
use mathlib.Core.Bool.{true}
use mathlib.Core.List.{List, [], ◌∷◌}
use Rattle.spec_file.specs.Bytes.{Bytes}
use Rattle.spec_file.specs.Image.{layout_of}
use Rattle.spec_file.specs.Search.{search}
use Rattle.spec_file.specs.Delete.{deleted}
use Rattle.spec_file.specs.Questions.{Question, ask, name_allowed, removed_asks}
use Rattle.spec_file.specs.Calls.{delete}
use Rattle.law_file.proofs.Opened.{first_no-head}
use Rattle.spec_moves.specs.Moves.{Pair}
use Rattle.spec_growth.specs.Growth.{old_probe, named_number, ready, grow_delete_number, grow_delete}
use Rattle.header_layout.specs.Shapes.{shape_of}
use Rattle.header_layout.specs.declared.shape.Shape.{Shape}
use Rattle.table_search.proofs.Headers.{layout-key}
use Rattle.growth_open.proofs.Pairs.{PairOpen, pair-open}
use Rattle.growth_named.specs.Names.{pair_of, Paired}
use Rattle.growth_number.proofs.Turns.{Passed, passed, paired}
use Rattle.growth_moves.specs.Several as some
use Rattle.growth_ready.specs.Ready.{IsReady, Grown}
use Rattle.growth_ready.proofs.Acting.{delete-left, delete-again, moves-paired, grown-delete}

module _ (old new key : Bytes) (z : grow_delete_number (pair_of old new) key ≡ 0) where
  abbrev p : Pair
  p = pair_of old new

  abbrev q : Pair
  q = ready p key

  abbrev first : List Question
  first = ask 7 (name_allowed (layout_of old).K key) ∷ []

  abbrev own : List Question
  own = removed_asks (layout_of q.new) q.new (search (layout_of q.new) q.new key)

  yes-all : Passed old new key first own
  unfolding grow_delete_number
  yes-all = passed old new key first own z

  pub both-opened : PairOpen p
  both-opened = pair-open p yes-all.pair-yes

  pub no-refusal : named_number p (old_probe p key) ≡ 0
  no-refusal = yes-all.named-yes

  name-yes : name_allowed (layout_of old).K key ≡ true
  name-yes = first_no-head 7 (name_allowed (layout_of old).K key) [] (λ y. omega arith) yes-all.first-yes

  module _ (s l : Shape) (e : s ≡ shape_of old) (f : l ≡ shape_of new) where
    pub names : Paired old new key s l
    names = paired old new key yes-all.pair-yes s l e f (rw (layout-key old s e) at name-yes)

    module _ (old₁ mid new₁ : Bytes) (r : IsReady old new key old₁ mid) (a : new₁ ≡ (delete mid key).after) where
      new_is : new₁ ≡ deleted (layout_of q.new) q.new (search (layout_of q.new) q.new key)
      new_is =
          a
          ∙ ap (λ (x : Bytes). (delete x key).after) r.second
          ∙ delete-left names no-refusal yes-all.own-yes

      pub asked : some.Paired old₁ new₁ s l
      asked = rw (r.first, new_is) (moves-paired names no-refusal _ (delete-again names no-refusal yes-all.own-yes))

      pub left : (old' new' : Bytes) → some.MovedSome old₁ new₁ 8 old' new' → Grown (grow_delete p key) 0 old' new'
      left old' new' w = grown-delete old new key old₁ new₁ old' new' r.first w z new_is
