-- Document 02, Job 11: the converter in lists and the call are one. Lists of calls go on in the target; what the call's
-- contract says of the target's bytes is what the list goes on with.
--     convert-number      the step's number is the call's
--     convert-into        accepted, the list's image afterwards is the target's bytes
--     convert-stays       refused, it is the source
-- Assumes nothing.
use mathlib.Core.Path.{◌≡◌, refl, sym, ◌∙◌}
use lib.ListN.{length}
use Prim.Native.Nat.{ℕ}
use Rattle.spec_file.specs.Bytes.{Bytes}
use Rattle.spec_file.specs.Calls.{plain}
use Rattle.spec_conversion.specs.Convert.{converted, convert_number, convert, convert_into}
use Rattle.law_file.proofs.Outcomes.{settled-yes, settled-no}

pub convert-number : (img : Bytes) (L : ℕ) → (convert img L).answer.number ≡ convert_number img L
unfolding convert plain
convert-number img L = refl

pub convert-into : (img t : Bytes) → convert_number img (length t) ≡ 0
    → (convert img (length t)).after ≡ convert_into img t
unfolding convert convert_into
convert-into img t z =
    let L = length t in
    settled-yes (convert_number img L) img (converted img L) z
    ∙ sym (settled-yes (convert_number img L) t (converted img L) z)

pub convert-stays : (img : Bytes) (L : ℕ) → (convert_number img L ≡ 0 → ⊥) → (convert img L).after ≡ img
unfolding convert
convert-stays img L n = settled-no (convert_number img L) img (converted img L) n
