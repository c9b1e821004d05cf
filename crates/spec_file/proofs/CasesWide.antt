-- Document 02, Job 11: images of version 2.0.0, whose message headers have a letter and 4 bytes, by computation. More
-- in crates/spec_cases/proofs/CasesWider.antt.
--     wide_headed     create's header in version 2.0.0, which the converter alone makes
-- Assumes nothing.
use mathlib.Core.Path.{◌≡◌, refl}
use Prim.Native.Nat.{ℕ}
use mathlib.Core.Bool.{true, false}
use mathlib.Core.List.{[], ◌∷◌}
use mathlib.Core.Option.{some}
use lib.ListN.{length}
use lib.Dec.{leb}
use Rattle.spec_file.specs.Bytes.{Bytes, part, store}
use Rattle.spec_file.specs.Image.{major_of, wide, most_of, layout_of}
use Rattle.spec_file.specs.Messages.{noted}
use Rattle.spec_file.specs.Questions.{length_allowed}
use Rattle.spec_file.specs.Lists.{adding}
use Rattle.spec_file.proofs.CasesBase.{definitions, headed, after, one}
use Rattle.spec_file.proofs.CasesHeader.{Known}

unfoldable pub wide_headed : Bytes
unfolding headed store
wide_headed = store (headed 1 4 8192) 5 (2 ∷ 0 ∷ 0 ∷ [])

-- "Question 5 takes 2, 0, 0 too": another letter than v and versions 2.0.1, 2.1.0 and 3.0.0 are not known
pub wide-versions : Known 118 2 0 0 true × Known 119 2 0 0 false × Known 118 2 0 1 false × Known 118 2 1 0 false
    × Known 118 3 0 0 false
unfolding definitions
wide-versions = (refl, refl, refl, refl, refl)

-- bytes 0 to 7 of an image, with these version bytes
abbrev versioned : ℕ → ℕ → ℕ → Bytes
versioned a b c = 66 ∷ 72 ∷ 84 ∷ 70 ∷ 118 ∷ a ∷ b ∷ c ∷ []

-- "message headers of a letter and 4 bytes": by the version's first byte alone
pub widths : (layout_of (versioned 2 0 0)).W ∷ (layout_of (versioned 1 0 2)).W ∷ (layout_of (versioned 1 2 0)).W
    ∷ (layout_of (versioned 1 0 0)).W ∷ []
    ≡ 4 ∷ 3 ∷ 3 ∷ 3 ∷ []
unfolding definitions
widths = refl

-- "question 12's bound is 1,073,741,823"; on 1.x it is as before. Of any text: none so long can be computed with.
pub mosts : ((layout_of (versioned 2 0 0)).most ≡ 1073741823) × ((layout_of (versioned 1 0 2)).most ≡ 16777215)
unfolding definitions
mosts = (refl, refl)

pub wide-12 : (img t : Bytes) → wide (major_of img) ≡ true
    → length_allowed (layout_of img) (some t) ≡ leb (length t) 1073741823
unfolding length_allowed layout_of most_of
wide-12 img t w = rw w refl

-- "its version bytes never change": an empty note writes none
pub wide-noted : (noted [] 1 (versioned 2 0 0) ≡ versioned 2 0 0) × (noted [] 2 (versioned 2 0 0) ≡ versioned 2 0 0)
    × (noted [] 1 (versioned 1 0 0) ≡ versioned 1 0 2)
unfolding definitions
wide-noted = (refl, refl, refl)

-- "PQ" behind "a" and 4 bytes: X grows by 5 + 2
pub wide-added : (part (after (adding one (80 ∷ 81 ∷ []) 1 ∷ []) wide_headed) 52 4 ≡ 0 ∷ 0 ∷ 16 ∷ 7 ∷ [])
    × (part (after (adding one (80 ∷ 81 ∷ []) 1 ∷ []) wide_headed) 4096 8 ≡ 97 ∷ 0 ∷ 0 ∷ 0 ∷ 2 ∷ 80 ∷ 81 ∷ 0 ∷ [])
unfolding after wide_headed
wide-added = (refl, refl)
