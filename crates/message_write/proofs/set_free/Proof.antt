-- Two fields, one after the other. Assumes nothing.
use Prim.Native.Nat.{ℕ}
use mathlib.Core.Path.{ap, ap₂, ◌∙◌}
use borrow.Author.Rules.{rules}
use Rattle.spec_file.specs.Bytes.{Bytes}
use Rattle.spec_file.specs.Image.{set_field}
use Rattle.spec_file.specs.Messages.{set_free}
use Rattle.message_write.proofs.set_free.Statement.{statement}
use Rattle.message_write.proofs.set_free.Tie as tie

at-requires : tie.Need-at-requires
at-requires c κs = search rules

cast-write-u32 : tie.Need-overflow_cast-at
cast-write-u32 c = search rules

write-u32-requires : tie.Need-write_u32-requires
write-u32-requires c κs = search rules

last-page-requires : tie.Need-last_page-requires
last-page-requires c κs = search rules

write-u32-requires-2 : tie.Need-write_u32-requires-2
write-u32-requires-2 c κs = search rules

same_length : tie.Need-shape_of-image
same_length c = search rules

returns : tie.Need-returns
unfolding set_free
returns c =
    let w = c in
    let img = w.args.image.now in
    c.write_u32-2.ensures
    ∙ ap₂ (λ (t : Bytes) (m : ℕ). set_field t 56 m)
    (w.write_u32.ensures ∙ ap (set_field img 52) w.at.ensures)
    c.last_page.ensures

pub set_free_spec : {M : Type 1} → statement M
set_free_spec =
    tie.close
    (tie.spec
    at-requires
    cast-write-u32
    write-u32-requires
    last-page-requires
    write-u32-requires-2
    same_length
    returns)
