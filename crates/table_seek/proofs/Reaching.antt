-- `seek`'s answer in the arms of a match.
--     refused-is, refused-some      the number of the first no, which is not 0
--     reached-is                    the shape, and how the search ended
--     reached-key                   the key is as long as the file's keys
--     refused-read, reached-read    how many slots the search read; read_is, by both
-- Assumes nothing.
use mathlib.Core.Path.{◌≡◌, refl, sym, ◌∙◌, subst}
use Prim.Native.Nat.{ℕ}
use mathlib.Core.Bool.{Bool, not}
use lib.ListN.{length}
use lib.Dec.{eqb}
use borrow.Author.Tests.{eqb-true}
use Rattle.spec_file.specs.Bytes.{Bytes, all_zero}
use Rattle.spec_file.specs.Image.{layout_of}
use Rattle.spec_file.specs.Questions.{name_allowed, seek_number}
use Rattle.spec_file.specs.Calls.{sought_read}
use Rattle.law_file.proofs.Tests.{and_left}
use Rattle.law_file.proofs.Sought.{seek-allowed}
use Rattle.law_file.proofs.CallsRead.{sought-none, sought-some}
use Rattle.header_layout.specs.declared.shape.Shape.{Shape}
use Rattle.table_search.specs.declared.Found.{Found}
use Rattle.table_search.proofs.Headers.{layout-key}
use Rattle.table_seek.specs.declared.Sought.{Sought}
use Rattle.table_seek.specs.declared.Sought.TheVariants.{Refused, At}
use Rattle.table_seek.specs.Seeks.{Reached, SoughtIs, read_of}

module _ (img key : Bytes) (known : Bool) {r : Sought} (is : SoughtIs img key known r) where
  pub refused-is : {n : ℕ} → r ≡ Refused n → (n ≡ seek_number img key known) × (n ≡ 0 → ⊥)
  unfolding SoughtIs
  refused-is e = subst (SoughtIs img key known) e is

  pub reached-is : {s : Shape} {f : Found} {n : ℕ} → r ≡ At s f n → Reached img key known s f n
  unfolding SoughtIs
  reached-is e = subst (SoughtIs img key known) e is

  pub refused-read : {n : ℕ} → r ≡ Refused n → 0 ≡ sought_read img key known
  refused-read e = let w = refused-is e in sym (sought-none img key known (λ z. w.1 (w.0 ∙ z)))

  pub reached-read : {s : Shape} {f : Found} {n : ℕ} → r ≡ At s f n → n ≡ sought_read img key known
  reached-read e = let w = reached-is e in w.counted ∙ sym (sought-some img key known w.asked)

pub read_is : (img key : Bytes) (known : Bool) (r : Sought) → SoughtIs img key known r
    → read_of r ≡ sought_read img key known
unfolding read_of
read_is img key known (Refused n) is = refused-read img key known is refl
read_is img key known (At s f n) is = reached-read img key known is refl

pub reached-key : {img key : Bytes} {known : Bool} {s : Shape} {f : Found} {n : ℕ} → Reached img key known s f n
    → length key ≡ s.keylen
unfolding name_allowed
reached-key {img} {key} {known} {s} r =
    eqb-true (length key) (layout_of img).K
    (and_left (eqb (length key) (layout_of img).K) (not (all_zero key)) (seek-allowed img key known r.asked))
    ∙ layout-key img s r.opened.shape
