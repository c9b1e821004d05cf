-- `call_compact::compact` meets its contract: the check's verdict, and the compaction of a sound image. Assumes
-- nothing.
use native.Mathlib.Omega.{arith}
use mathlib.Core.Path.{sym, ap, ◌∙◌}
use borrow.Author.Rules.{rules}
use Rattle.law_file.proofs.Opened.{opened-facts}
use Rattle.law_file.proofs.Verdict.{check-open}
use Rattle.call_check.specs.Verdicts.{verdict_in}
use Rattle.call_compact.proofs.Told.{told-refused, told-sound, told-slot, told-count}
use Rattle.call_compact.proofs.compact.Statement.{statement}
use Rattle.call_compact.proofs.compact.Tie as tie

check-requires : tie.Need-check-found-requires
check-requires c κs = search rules

enum-known-found : tie.Need-enum_known-found
enum-known-found c = search rules

enum_told : tie.Need-enum_told-1
enum_told c = search rules

read-shape-requires : tie.Need-read_shape-requires
unfolding verdict_in
read-shape-requires c κs =
    let T = c in
    let F = c in
    let img = F.args.image.now in
    let ok = sym F.check-found.ensures ∙ ap verdict_in T.in-Sound.is in
    check-open img ok

pack-requires : tie.Need-pack-requires
unfolding verdict_in
pack-requires c κs =
    let T = c in
    let F = c in
    let K = c in
    let img = K.args.image.now in
    let ok = sym F.check-found.ensures ∙ ap verdict_in T.in-Sound.is in
    record {
      opened = record { accepted = check-open img ok; shape = c.read_shape.ensures };
      bytes = λ i. omega (arith, K.slice_known-1.given i);
      checked = ok;
    }

enum-told-2 : tie.Need-enum_told-in-SlotFails
enum-told-2 c = search rules

enum-told-3 : tie.Need-enum_told-in-CountFails
enum-told-3 c = search rules

same_length : tie.Need-shape_of-image-in-Refused
same_length c = search rules

returns : tie.Need-returns-in-Refused
unfolding verdict_in
returns c =
    let F = c in
    told-refused F.args.image.now _
    (sym (ap verdict_in c.in-Refused.is) ∙ F.check-found.ensures)

same-length-2 : tie.Need-shape_of-image-in-Sound
same-length-2 c = search rules

returns-2 : tie.Need-returns-in-Sound
unfolding verdict_in
returns-2 c =
    let P = c in
    let T = c in
    let F = c in
    let img = F.args.image.now in
    let ok = sym F.check-found.ensures ∙ ap verdict_in T.in-Sound.is in
    ((told-sound img ok).0, P.pack.ensures ∙ (told-sound img ok).1)

same-length-3 : tie.Need-shape_of-image-in-SlotFails
same-length-3 c = search rules

returns-3 : tie.Need-returns-in-SlotFails
unfolding verdict_in
returns-3 c =
    let F = c in
    told-slot F.args.image.now _
    (sym (ap verdict_in c.in-SlotFails.is) ∙ F.check-found.ensures)

same-length-4 : tie.Need-shape_of-image-in-CountFails
same-length-4 c = search rules

returns-4 : tie.Need-returns-in-CountFails
unfolding verdict_in
returns-4 c =
    let F = c in
    told-count F.args.image.now
    (sym (ap verdict_in c.in-CountFails.is) ∙ F.check-found.ensures)

pub compact_spec : {M : Type 1} → statement M
compact_spec =
    tie.close
    (tie.spec
    check-requires
    enum-known-found
    enum_told
    read-shape-requires
    pack-requires
    enum-told-2
    enum-told-3
    same_length
    returns
    same-length-2
    returns-2
    same-length-3
    returns-3
    same-length-4
    returns-4)
