-- 9, or what the moved message becomes. Assumes nothing.
use native.Mathlib.Omega.{arith}
use Prim.Native.Nat.{ℕ, ◌+◌}
use mathlib.Core.Path.{ap, ◌∙◌}
use mathlib.Core.Bool.{cond}
use Rattle.law_file.proofs.Opened.{opened-facts}
use Rattle.law_file.proofs.Effects.{message-head}
use Rattle.header_layout.proofs.Shaped.{shape-head, head-range}
use Rattle.call_add_present.proofs.Shown.{head-fits, shown-end}
use Rattle.growth_named.proofs.Naming.{sound-at, moved-bound, foretold-9, foretold-renewed}
use borrow.Author.Rules.{rules}
use Rattle.growth_named.proofs.foreseen_number.Statement.{statement}
use Rattle.growth_named.proofs.foreseen_number.Tie as tie

returns : tie.Need-returns-then-mode-eq-NEW
returns c =
    let S = c in
    let A = S.args in
    foretold-9 S.requires.0 S.requires.1 A.m A.mode S.requires.2 c.if-mode-eq-NEW.true

offset-of-requires : tie.Need-offset_of-o-requires
offset-of-requires c κs = search rules

is-active-requires : tie.Need-is_active-active-requires
is-active-requires c κs =
    let S = c in
    let f = opened-facts _ S.requires.0.pair.first.accepted in
    omega (arith, message-head _ f _ (sound-at S.requires.0 S.requires.1 _ c.offset_of-o.ensures))

shown-length-requires : tie.Need-shown_length-length-requires
shown-length-requires c κs =
    let S = c in
    let P = S.requires.0.pair.first in
    (P, head-fits P _ (sound-at S.requires.0 S.requires.1 _ c.offset_of-o.ensures))

moved-space-requires : tie.Need-moved_space-moved-requires
moved-space-requires c κs =
    let S = c in
    let P = S.requires.0.pair in
    let f = opened-facts _ P.first.accepted in
    let end = shown-end P.first _ (sound-at S.requires.0 S.requires.1 _ c.offset_of-o.ensures) in
    ((head-range P.second).1, omega (arith, c.shown_length-length.ensures, end, f.free-high, f.size-high))

abbrev start-at-shared-slice-known : tie.After-shared_slice_known-1 → tie.Start
start-at-shared-slice-known c = c.before

abbrev start-at-moved-space : tie.After-moved_space-moved → tie.Start
start-at-moved-space c = c.before.before.before.before.before.before.before.before

renewed-number-requires : tie.Need-renewed_number-requires
renewed-number-requires c κs =
    let S = (start-at-moved-space c) in
    let P = S.requires.0.pair in
    let f = opened-facts _ P.first.accepted in
    let s = sound-at S.requires.0 S.requires.1 _ c.offset_of-o.ensures in
    let end = shown-end P.first _ s in
    let few = moved-bound c.is_active-active.result S.args.larger.head
    c.shown_length-length.result in (
      P.first,
      P.second,
      s,
      omega (
        arith,
        c.moved_space-moved.ensures,
        few,
        head-range P.second,
        c.shown_length-length.ensures,
        end,
        f.free-high,
        f.size-high,
      ),
      S.requires.2,
      omega (arith, c.shown_length-length.ensures, end, f.free-high, f.size-high),
      S.requires.3,
      c.if-mode-eq-NEW.false,
    )

abbrev start-at-shared-slice-known2 : tie.After-shared_slice_known-2-1 → tie.Start
start-at-shared-slice-known2 c = c.before.before

abbrev start-at-renewed-number : tie.After-renewed_number → tie.Start
start-at-renewed-number c = c.before.before.before.before.before.before.before.before.before

returns-2 : tie.Need-returns
returns-2 c =
    let S = (start-at-renewed-number c) in
    let A = S.args in
    foretold-renewed S.requires.0 S.requires.1 A.m A.mode S.requires.2
    c.if-mode-eq-NEW.false _ c.offset_of-o.ensures
    c.is_active-active.result c.is_active-active.ensures
    c.shown_length-length.result c.shown_length-length.ensures
    c.moved_space-moved.result
    (c.moved_space-moved.ensures ∙ ap
    (λ (n : ℕ). cond c.is_active-active.result (n + c.shown_length-length.result) 0)
    (shape-head S.requires.0.pair.second)) c.renewed_number.result c.renewed_number.ensures

pub foreseen_number_spec : {M : Type 1} → statement M
foreseen_number_spec =
    tie.close
    (tie.spec
    returns
    offset-of-requires
    is-active-requires
    shown-length-requires
    moved-space-requires
    renewed-number-requires
    returns-2)
