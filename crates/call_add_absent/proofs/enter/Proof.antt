-- The entry is put, and C, read before, is written one higher. Assumes nothing.
use native.Mathlib.Omega.{arith}
use mathlib.Core.Path.{ap₂, ◌∙◌}
use Prim.Native.Nat.{ℕ, ◌+◌}
use borrow.Author.Rules.{rules}
use Rattle.spec_file.specs.Bytes.{Bytes}
use Rattle.spec_file.specs.Limits.{points_field}
use Rattle.spec_file.specs.Image.{set_field}
use Rattle.spec_file.specs.Messages.{enter}
use Rattle.law_file.proofs.Opened.{opened-facts}
use Rattle.table_search.proofs.Headers.{placed-opened}
use Rattle.call_add_absent.proofs.enter.Statement.{statement}
use Rattle.call_add_absent.proofs.enter.Tie as tie

read-u32-requires : tie.Need-read_u32-points-requires
read-u32-requires c κs = omega (arith, (opened-facts _ c.requires.0.accepted).size_low)

abbrev start-at-put-entry-arg : tie.After-put_entry-arg-1 → tie.Start
start-at-put-entry-arg c = c.before.before.before.before

put-entry-requires : tie.Need-put_entry-requires
put-entry-requires c κs =
    let S = (start-at-put-entry-arg c) in
    (placed-opened S.args.image.now S.args.shape S.requires.0, S.requires.1, S.requires.2, S.requires.3)

abbrev shared-slice-known-at-write-u32-arg : tie.After-write_u32-arg-1 → tie.After-shared_slice_known-1
shared-slice-known-at-write-u32-arg c = c.before.before.before.before.before.before

abbrev start-at-write-u32-arg : tie.After-write_u32-arg-1 → tie.Start
start-at-write-u32-arg c = c.before.before.before.before.before.before.before.before

abbrev read-u32-at-write-u32-arg : tie.After-write_u32-arg-1 → tie.After-read_u32-points
read-u32-at-write-u32-arg c = c.before.before.before.before.before

add-write-u32 : tie.Need-overflow_add-points
add-write-u32 c =
    let f = opened-facts _ (start-at-write-u32-arg c).requires.0.accepted in
    omega (arith, (read-u32-at-write-u32-arg c).read_u32-points.ensures, f.points, f.slots-high)

write-u32-requires : tie.Need-write_u32-requires
write-u32-requires c κs =
    omega (
      arith,
      c.put_entry.auto.image,
      (opened-facts _ (start-at-write-u32-arg c).requires.0.accepted).size_low,
    )

same_length : tie.Need-shape_of-image
same_length c = search rules

abbrev put-entry-at-slice-known3 : tie.After-slice_known-3-1 → tie.After-put_entry
put-entry-at-slice-known3 c = c.before.before.before.before.before.before

abbrev put-entry-arg-at-slice-known3 : tie.After-slice_known-3-1 → tie.After-put_entry-arg-1
put-entry-arg-at-slice-known3 c = c.before.before.before.before.before.before.before

abbrev read-u32-at-slice-known3 : tie.After-slice_known-3-1 → tie.After-read_u32-points
read-u32-at-slice-known3 c = c.before.before.before.before.before.before.before.before

returns : tie.Need-returns
unfolding enter
returns c =
    c.write_u32.ensures
    ∙ ap₂ (λ (b : Bytes) (n : ℕ). set_field b points_field (n + 1)) (put-entry-at-slice-known3 c).put_entry.ensures
    (read-u32-at-slice-known3 c).read_u32-points.ensures

pub enter_spec : {M : Type 1} → statement M
enter_spec =
    tie.close
    (tie.spec
    read-u32-requires
    put-entry-requires
    add-write-u32
    write-u32-requires
    same_length
    returns)
