-- The text is placed at X, and its offset put into the slot: a relocation of a point that has no message yet. Assumes
-- nothing.
use native.Mathlib.Omega.{arith}
use Prim.Native.Nat.{ℕ, ◌+◌, ◌≤◌}
use mathlib.Core.Path.{◌≡◌, refl, sym, ap, ◌∙◌}
use mathlib.Core.Bool.{true}
use mathlib.Core.List.{◌++◌}
use lib.ListN.{length}
use borrow.Author.Rules.{rules}
use Rattle.spec_file.specs.Bytes.{Bytes}
use Rattle.spec_file.specs.Limits.{free_field}
use Rattle.spec_file.specs.Image.{field, layout_of}
use Rattle.spec_file.specs.Messages.{is_active, retire, relocated}
use Rattle.spec_file.specs.Questions.{message_sound}
use Rattle.spec_conversion.specs.Convert.{carried}
use Rattle.law_file.proofs.Opened.{opened-facts}
use Rattle.law_file.proofs.Stretch.{none-sound}
use Rattle.law_file.proofs.Effects.{area-above}
use Rattle.bytes_words.proofs.Numbers.{part-zero}
use Rattle.header_layout.proofs.Shaped.{head-range}
use Rattle.table_search.specs.Slots.{key_in}
use Rattle.table_search.proofs.Headers.{placed-opened}
use Rattle.table_search.proofs.Heads.{same-open}
use Rattle.message_write.specs.Fits.{Fits}
use Rattle.message_write.proofs.Steps.{head-relocated, relocated-steps}
use Rattle.convert_message.proofs.place_text.Statement.{statement}
use Rattle.convert_message.proofs.place_text.Tie as tie

-- a point without an offset has no message to retire
none-retired : (t : Bytes) → t ≡ retire t 0
unfolding retire is_active
none-retired t = refl

relocated-carried : (t : Bytes) (i : ℕ) (text : Bytes)
    → relocated (layout_of t) t i 0 (key_in t i) text ≡ carried (layout_of t) t i (key_in t i) text
unfolding relocated carried retire is_active
relocated-carried t i text = refl

-- a header's place lies below X
low : (S : tie.Start) → 0 + S.args.to.head + 0 ≤ field S.args.target.now free_field
low S =
    let f = opened-facts S.args.target.now S.requires.0.accepted in
    omega (arith, head-range S.requires.0, area-above S.args.target.now f, f.free-low)

sound : (S : tie.Start) → message_sound (layout_of S.args.target.now) S.args.target.now 0 ≡ true
sound S = none-sound (layout_of S.args.target.now) S.args.target.now

-- room for no old bytes and the text
room : (S : tie.Start) → Fits S.args.target.now S.args.to (0 + length S.args.text.now)
room S = record { small = omega (arith, S.requires.2.small); room = omega (arith, S.requires.2.room) }

read-u32-requires : tie.Need-read_u32-requires
read-u32-requires c κs =
    let S = c in
    omega (arith, (opened-facts _ S.requires.0.accepted).size_low)

cast-new : tie.Need-overflow_cast-read_u32
cast-new c = search rules

new-requires : tie.Need-new-free-requires
new-requires c κs = search rules

new-requires-2 : tie.Need-new-requires
new-requires-2 c κs = search rules

text-start-requires : tie.Need-text_start-requires
text-start-requires c κs =
    let S = c in
    (omega (arith, c.new.ensures), omega (arith, head-range S.requires.0))

abbrev new-at-text-start : tie.After-text_start → tie.After-new-free
new-at-text-start c = c.before.before.before

abbrev start-at-text-start : tie.After-text_start → tie.Start
start-at-text-start c = c.before.before.before.before.before.before.before

-- where the (empty) old text would begin
from_is : (c : tie.After-text_start) → c.text_start.result.0 ≡ 0 + (start-at-text-start c).args.to.head
from_is c =
    c.text_start.ensures
    ∙ ap (λ (o : ℕ). o + (start-at-text-start c).args.to.head) c.new.ensures

take-space-requires : tie.Need-take_space-requires
take-space-requires c κs =
    let S = start-at-text-start c in
    (S.requires.0, omega (arith, from_is c, low S), room S)

set-offset-requires : tie.Need-set_offset-requires
set-offset-requires c κs =
    let P = c in
    let T = c.before.before.before.before in
    let N = new-at-text-start T in
    let S = start-at-text-start T in
    let t = S.args.target.now in
    let f = opened-facts t S.requires.0.accepted in
    let same =
    head-relocated S.requires.0 t 0 (sound S) (none-retired t) P.take_space.new.image S.args.text.now
    T.text_start.result.0 0 (from_is T) (low S) (room S) P.take_space.ensures in (
      placed-opened P.take_space.new.image S.args.to (same-open same S.requires.0),
      S.requires.1,
      omega (arith, N.new-free.ensures, N.read_u32.ensures, f.free-high, f.size-high),
    )

same_length : tie.Need-shape_of-target
same_length c = search rules

returns : tie.Need-returns
returns c =
    let E = c in
    let P = c in
    let T = c.before.before.before.before.before.before.before in
    let N = new-at-text-start T in
    let S = start-at-text-start T in
    let A = S.args in
    let t = A.target.now in
    relocated-steps S.requires.0 t 0 (sound S) (none-retired t) P.take_space.new.image A.text.now
    T.text_start.result.0 0 (from_is T) (low S) (room S) P.take_space.ensures
    E.set_offset.new.image A.i.0 N.new-free.result.0 S.requires.1 (N.new-free.ensures ∙ N.read_u32.ensures)
    E.set_offset.ensures
    ∙ ap (λ (old : Bytes). relocated (layout_of t) t A.i.0 0 (key_in t A.i.0) (old ++ A.text.now))
    (part-zero t _)
    ∙ relocated-carried t A.i.0 A.text.now

pub place_text_spec : {M : Type 1} → statement M
place_text_spec =
    tie.close
    (tie.spec
    read-u32-requires
    cast-new
    new-requires
    new-requires-2
    text-start-requires
    take-space-requires
    set-offset-requires
    same_length
    returns)
