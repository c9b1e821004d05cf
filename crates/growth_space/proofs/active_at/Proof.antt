-- The offset counts nothing, or the slot is empty, or it counts what its offset does. Assumes nothing.
use borrow.Author.Rules.{rules}
use native.Mathlib.Omega.{arith}
use mathlib.Core.Path.{◌≡◌, sym, ap, ◌∙◌}
use Prim.Native.Nat.{ℕ, ◌<◌}
use mathlib.Core.Bool.{true, false}
use Rattle.spec_file.specs.Bytes.{Bytes}
use Rattle.spec_file.specs.Image.{layout_of, slot, offset_of, vacant}
use Rattle.spec_file.specs.Messages.{retire}
use Rattle.law_file.proofs.Opened.{Opened, opened-facts}
use Rattle.table_search.proofs.Headers.{layout-slots}
use Rattle.growth_space.specs.Counting.{active_here}
use Rattle.growth_space.proofs.Retired.{at_none, at-vacant, at-counts}
use Rattle.growth_space.proofs.active_at.Statement.{statement}
use Rattle.growth_space.proofs.active_at.Tie as tie

abbrev start : tie.After-active_here-bytes → tie.Start
start c = c.before.before.before

abbrev img : tie.Start → Bytes
img c = c.args.image.now

facts : (c : tie.Start) → Opened (img c)
facts c = opened-facts (img c) c.requires.0.opened.accepted

inside : (c : tie.Start) → c.args.i.0 < (layout_of (img c)).N
inside c = omega (arith, c.requires.2, layout-slots (img c) c.args.shape c.requires.0.opened.shape)

-- what the slot's offset counts
here : (c : tie.After-active_here-bytes)
    → let S : tie.Start = start c in
    c.active_here-bytes.result
    ≡ active_here (layout_of (img S)) (retire (img S) S.args.named.0)
    (offset_of (layout_of (img S)) (slot (layout_of (img S)) (img S) S.args.i.0))
here c =
    let S = start c in
    c.active_here-bytes.ensures
    ∙ ap (active_here (layout_of (img S)) (retire (img S) S.args.named.0)) c.offset_of.ensures

offset-of-requires : tie.Need-offset_of-requires
offset-of-requires c κs = search rules

active-here-requires : tie.Need-active_here-bytes-requires
active-here-requires c κs = search rules

returns : tie.Need-returns-then-bytes-eq0
returns c =
    let S = start c.before in
    sym (at_none (img S) (facts S) S.args.named.0 S.requires.0.sound S.args.i.0 (inside S)
    (sym (here c.before) ∙ c.if-bytes-eq0.true))

is-vacant-requires : tie.Need-is_vacant-requires
is-vacant-requires c κs = search rules

returns-2 : tie.Need-returns-then-is_vacant
returns-2 c =
    let S = start c.before.before.before in
    sym (at-vacant (img S) (facts S) S.args.named.0 S.requires.0.sound S.args.i.0 (inside S)
    (sym c.is_vacant.ensures ∙ c.if-is_vacant.true))

returns-3 : tie.Need-returns
returns-3 c =
    let H = c.before.before.before in
    let S = start H in
    here H
    ∙ sym (at-counts (img S) (facts S) S.args.named.0 S.requires.0.sound S.args.i.0 (inside S)
    (sym c.is_vacant.ensures ∙ c.if-is_vacant.false))

pub active_at_spec : {M : Type 1} → statement M
active_at_spec =
    tie.close
    (tie.spec
    offset-of-requires
    active-here-requires
    returns
    is-vacant-requires
    returns-2
    returns-3)
