-- The bare target is the first stage; at X, all is carried. Assumes nothing.
use native.Mathlib.Omega.{arith}
use Prim.Native.Nat.{ℕ, ◌+◌, ◌≤◌}
use mathlib.Core.Path.{◌≡◌, refl, sym, ap, ◌∙◌, subst}
use borrow.Author.Rules.{rules}
use lib.ListN.{length}
use Rattle.spec_file.specs.Bytes.{Bytes}
use Rattle.spec_file.specs.Image.{Layout, layout_of}
use Rattle.spec_file.specs.Questions.{open_number}
use Rattle.spec_conversion.specs.Convert.{recast, other_layout, bare_image, carried_from, converted, convert_number}
use Rattle.law_file.proofs.Opened.{facts-opened}
use Rattle.law_conversion.proofs.Ready.{Ready, ready}
use Rattle.convert_stages.specs.Stages.{carried_below}
use Rattle.convert_stages.proofs.Below.{below-start}
use Rattle.call_convert.proofs.write_target.Statement.{statement}
use Rattle.call_convert.proofs.write_target.Tie as tie

-- the bare target, of an accepted conversion
first : (S : tie.Start)
    → Ready S.args.source.now (length S.args.target.now) (layout_of S.args.source.now).D
    (bare_image S.args.source.now (length S.args.target.now))
unfolding carried_from
first S =
    let img = S.args.source.now in
    let L = length S.args.target.now in
    let D = (layout_of img).D in
    let p : D + 0 ≡ D = omega arith in
    subst (λ (q : ℕ). Ready img L q (bare_image img L)) p (ready img S.requires.0.bytes L S.requires.1 0)

same_area : (img : Bytes) → (other_layout img).D ≡ (layout_of img).D
unfolding other_layout recast
same_area img = refl

write-bare-requires : tie.Need-write_bare-requires
unfolding layout_of
write-bare-requires c κs =
    let S = c.before.before.before in
    let r = first S in
    let area = ap (λ (l : Layout). l.D) r.layout ∙ same_area S.args.source.now in
    (S.requires.0.opened, omega (arith, r.opened.free-low, r.opened.free-high, r.size, area))

read-shape-requires : tie.Need-read_shape-to-requires
read-shape-requires c κs =
    let S = c.before.before.before.before.before.before in
    ap open_number c.write_bare.ensures
    ∙ facts-opened _ (first S).opened

carry-all-requires : tie.Need-carry_all-requires
carry-all-requires c κs =
    let R = c in
    let W = c in
    let S = c.before.before.before.before.before.before.before.before in
    let img = S.args.source.now in
    let t = W.write_bare.new.target in
    let size : length t ≡ length S.args.target.now = W.write_bare.auto.target in
    record {
      source = S.requires.0.opened;
      bytes = S.requires.0.bytes;
      accepted = ap (convert_number img) size ∙ S.requires.1;
      target =
          record {
            accepted = ap open_number W.write_bare.ensures ∙ facts-opened _ (first S).opened;
            shape = R.read_shape-to.ensures;
          };
      low = omega arith;
      same =
          W.write_bare.ensures
          ∙ ap (bare_image img) (sym size)
          ∙ sym (below-start img (length t));
    }

same_length : tie.Need-shape_of-target
same_length c = search rules

returns : tie.Need-returns
unfolding carried_below converted
returns c =
    let P = c in
    let W = c in
    let S = c in
    let img = S.args.source.now in
    P.carry_all.ensures.same
    ∙ ap (converted img) (P.carry_all.auto.target ∙ W.write_bare.auto.target)

pub write_target_spec : {M : Type 1} → statement M
write_target_spec =
    tie.close
    (tie.spec
    write-bare-requires
    read-shape-requires
    carry-all-requires
    same_length
    returns)
