-- Where lookup shows a message fits 32 bits: an accepted image is short, and a refusal answers 0. Assumes nothing.
use mathlib.Core.Path.{◌≡◌, sym, ◌∙◌}
use Prim.Native.Nat.{ℕ, ◌+◌, ◌≤◌}
use native.Mathlib.Omega.{arith}
use Rattle.spec_file.specs.Bytes.{Bytes}
use Rattle.spec_file.specs.Limits.{most_image}
use Rattle.spec_file.specs.Questions.{open_number, lookup_number}
use Rattle.spec_file.specs.Calls.{lookup_start, lookup_length}
use Rattle.law_file.proofs.Tests.{by-eq}
use Rattle.law_file.proofs.Opened.{opened-facts}
use Rattle.law_file.proofs.Outcomes.{lookup-closed, offset-refused}
use Rattle.call_lookup.proofs.Answers.{start_none, length_none, inside}

open-accepted : (img key : Bytes) → lookup_number img key ≡ 0 → open_number img ≡ 0
open-accepted img key h =
    by-eq (open_number img) 0 (λ z. z) (λ z. absurd (z (sym (lookup-closed img key z) ∙ h)))

pub lookup-small : (img key : Bytes) → lookup_start img key + lookup_length img key ≤ most_image
lookup-small img key =
    by-eq (lookup_number img key) 0
    (λ z. omega (arith, inside img key, (opened-facts img (open-accepted img key z)).size-high))
    (λ z. let none' = offset-refused img key z in omega (arith, start_none img key none', length_none img key none'))
