-- The target's length, then the check's verdict; then a sound image is carried over. Assumes nothing.
use native.Mathlib.Omega.{arith}
use Prim.Native.Nat.{ℕ}
use mathlib.Core.Path.{◌≡◌, refl, sym, ap, ◌∙◌}
use mathlib.Core.Bool.{true, false}
use borrow.Author.Rules.{rules}
use lib.ListN.{length}
use Rattle.spec_file.specs.Questions.{size_allowed}
use Rattle.spec_file.specs.Inspect.{Verdict, sound, check}
use Rattle.law_file.proofs.Tests.{was-no, was-yes}
use Rattle.law_file.proofs.Verdict.{check-open}
use Rattle.call_check.specs.Verdicts.{verdict_in}
use Rattle.call_compact.proofs.Told.{slot-no, count_no}
use Rattle.call_convert.proofs.Told.{number-length, number-refused, number-unsound, number-sound, into-refused, into-same}
use Rattle.call_convert.proofs.convert.Statement.{statement}
use Rattle.call_convert.proofs.convert.Tie as tie

size-allowed-requires : tie.Need-size_allowed-requires
size-allowed-requires c κs = search rules

returns : tie.Need-returns-then-not-size_allowed
returns c =
    let z = c in
    let A = c.args in
    let n = number-length A.source.now (length A.target.now)
    (was-no z.size_allowed.ensures c.if-not-size_allowed.true) in
    (n, into-refused A.source.now A.target.now 1 n (λ e. omega (arith, e)))

abbrev start : tie.After-check-found → tie.Start
start c = c.before.before.before.before.before

check-requires : tie.Need-check-found-requires
check-requires c κs = search rules

enum-known-found : tie.Need-enum_known-found
enum-known-found c = search rules

enum_told : tie.Need-enum_told-1
enum_told c = search rules

-- the target's length is allowed
allowed : (c : tie.After-check-found) → size_allowed (length (start c).args.target.now) ≡ true
allowed c = was-yes c.size_allowed.ensures c.if-not-size_allowed.false

-- the verdict is the one that the branch is for
is-sound : (c : tie.After-carry_over-arg-1) → check (start c.before.before).args.source.now ≡ sound
unfolding verdict_in
is-sound c =
    let T = c in
    sym T.check-found.ensures ∙ ap verdict_in T.in-Sound.is

read-shape-requires : tie.Need-read_shape-requires
read-shape-requires c κs = check-open _ (is-sound c)

carry-over-requires : tie.Need-carry_over-requires
carry-over-requires c κs =
    let P = c.before in
    let K = c.before.before.before in
    let ok = is-sound P in (
      record {
        opened = record { accepted = check-open _ ok; shape = c.read_shape.ensures };
        bytes = λ i. omega (arith, K.shared_slice_known-1.given i);
        checked = ok;
      },
      allowed K,
    )

enum-told-2 : tie.Need-enum_told-in-SlotFails
enum-told-2 c = search rules

enum-told-3 : tie.Need-enum_told-in-CountFails
enum-told-3 c = search rules

returns-2 : tie.Need-returns-in-Refused
unfolding verdict_in
returns-2 c =
    let K = c.before in
    let A = (start K).args in
    let n = number-refused A.source.now (length A.target.now) (allowed K) _
    (sym (ap verdict_in c.in-Refused.is) ∙ K.check-found.ensures) in
    (n.0, into-refused A.source.now A.target.now _ n.0 n.1)

same_length : tie.Need-shape_of-target
same_length c = search rules

returns-3 : tie.Need-returns-in-Sound
returns-3 c =
    let P = c in
    let Q = c.before.before.before.before in
    let K = c.before.before.before.before.before.before in
    let A = (start K).args in
    let n = P.carry_over.ensures.0
    ∙ number-sound A.source.now (length A.target.now) (allowed K) (is-sound Q) in
    (n, into-same A.source.now A.target.now _ _ n P.carry_over.ensures.1)

returns-4 : tie.Need-returns-in-SlotFails
unfolding verdict_in
returns-4 c =
    let K = c.before in
    let A = (start K).args in
    let n = number-unsound A.source.now (length A.target.now) (allowed K) _
    (sym (ap verdict_in c.in-SlotFails.is) ∙ K.check-found.ensures) (slot-no _)
    (λ k q. let z : ◌≡◌ {A = ℕ} 0 1 = cc in absurd (omega arith)) in
    (n, into-refused A.source.now A.target.now 15 n (λ e. omega (arith, e)))

returns-5 : tie.Need-returns-in-CountFails
unfolding verdict_in
returns-5 c =
    let K = c.before in
    let A = (start K).args in
    let n = number-unsound A.source.now (length A.target.now) (allowed K) _
    (sym (ap verdict_in c.in-CountFails.is) ∙ K.check-found.ensures) count_no
    (λ k q. let z : ◌≡◌ {A = ℕ} 0 1 = cc in absurd (omega arith)) in
    (n, into-refused A.source.now A.target.now 15 n (λ e. omega (arith, e)))

pub convert_spec : {M : Type 1} → statement M
convert_spec =
    tie.close
    (tie.spec
    size-allowed-requires
    returns
    check-requires
    enum-known-found
    enum_told
    read-shape-requires
    carry-over-requires
    enum-told-2
    enum-told-3
    returns-2
    same_length
    returns-3
    returns-4
    returns-5)
