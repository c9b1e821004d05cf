-- The slot where the search ended, or none. Assumes nothing.
use Prim.Native.Nat.{ℕ}
use mathlib.Core.Path.{ap, ◌∙◌, subst}
use lib.ListN.{length}
use Rattle.spec_file.specs.Image.{layout_of}
use Rattle.spec_file.specs.Questions.{message_sound}
use Rattle.law_file.proofs.Stretch.{none-sound}
use Rattle.table_search.specs.Probes.{probe_of}
use Rattle.table_search.proofs.Taken.{met-is, met-within, empty-is, empty-within}
use Rattle.changes_extent.specs.Reaches.{Entry}
use Rattle.changes_extent.proofs.Reaching.{add-present, add-new, add_none}
use borrow.Author.Rules.{rules}
use Rattle.changes_reach.proofs.of_found.Statement.{statement}
use Rattle.changes_reach.proofs.of_found.Tie as tie

enum-known-found : tie.Need-enum_known-found
enum-known-found c = search rules

of-present-requires : tie.Need-of_present-requires
of-present-requires c κs =
    let S = c in
    (S.requires.0, met-within c.in-Met.is S.requires.1)

enum-known-found-2 : tie.Need-enum_known-found-in-Empty-1
enum-known-found-2 c = search rules

new-requires : tie.Need-new-requires
new-requires c κs = search rules

of-entry-requires : tie.Need-of_entry-requires
of-entry-requires c κs =
    let S = c in
    let img = S.args.image.now in (
      S.requires.0,
      empty-within c.in-Empty.is S.requires.1,
      ap (message_sound (layout_of img) img) c.new.ensures ∙ none-sound (layout_of img) img,
    )

enum_told : tie.Need-enum_told-1
enum_told c = search rules

none-requires : tie.Need-none-requires
none-requires c κs = search rules

returns : tie.Need-returns-in-Met
returns c =
    let A = c.args in
    let m = c.in-Met in (
      c.of_present.ensures.0,
      λ key bytes mode e len. add-present A.image.now A.m c.of_present.result m.slot.0
          c.of_present.ensures.1 key bytes mode (e ∙ met-is m.is) len,
    )

returns-2 : tie.Need-returns-in-Empty
returns-2 c =
    let N = c in
    let A = N.args in
    let m = N.in-Empty in
    let w = c.of_entry.result in (
      c.of_entry.ensures.0,
      λ key bytes mode e len. add-new A.image.now A.m w m.slot.0
          (subst (λ (a : ℕ). Entry A.image.now m.slot.0 a A.m w) N.new.ensures c.of_entry.ensures.1)
          key bytes mode (e ∙ empty-is m.is) len,
    )

returns-3 : tie.Need-returns-in-Exhausted
unfolding probe_of
returns-3 c =
    let A = c.args in (
      c.none.ensures (length A.image.now),
      λ key bytes mode e len. add_none A.image.now A.m c.none.result key bytes mode
          (e ∙ ap probe_of c.in-Exhausted.is) len,
    )

pub of_found_spec : {M : Type 1} → statement M
of_found_spec =
    tie.close
    (tie.spec
    enum-known-found
    of-present-requires
    enum-known-found-2
    new-requires
    of-entry-requires
    enum_told
    none-requires
    returns
    returns-2
    returns-3)
