-- What every call on a name asks before it looks at the table, questions 1, 5, 6, 7 and 8; and a call's number then.
--     seek-closed, seek-7, seek-8, seek-0      their number, by the first no
--     seek-opened, seek-allowed                what a 0 says
--     lookup-.., delete-.., add-.., with -stop and -on      a call's number where they refuse it, and where they do not
-- Assumes nothing.
use mathlib.Core.Path.{◌≡◌, refl, sym, ◌∙◌}
use Prim.Native.Nat.{ℕ}
use native.Mathlib.Omega.{arith}
use mathlib.Core.Bool.{Bool, true, false}
use mathlib.Core.List.{List, [], ◌∷◌}
use Rattle.spec_file.specs.Bytes.{Bytes}
use Rattle.spec_file.specs.Image.{layout_of}
use Rattle.spec_file.specs.Search.{search}
use Rattle.spec_file.specs.Questions.{Question, ask, first_no, opened, name_allowed, mode_known, named, point_asks, add_asks, shown_asks, removed_asks, lookup_asks, delete_asks, open_number, seek_number, add_number, delete_number, lookup_number}
use Rattle.law_file.proofs.Tests.{by_bool, by-eq}
use Rattle.law_file.proofs.Opened.{first_no-none, first_no-yes, first_no-no, first_no-head, first_no-tail, first_no-opened, first_no-refused}

module _ (img key : Bytes) (known : Bool) where
  abbrev allowed : Bool
  allowed = name_allowed (layout_of img).K key

  -- a call that puts further questions behind these
  abbrev asks : List Question → ℕ
  asks more = first_no (opened img (ask 7 allowed ∷ ask 8 known ∷ more))

  -- ---- the number
  pub seek-closed : (open_number img ≡ 0 → ⊥) → seek_number img key known ≡ open_number img
  unfolding seek_number
  seek-closed z = first_no-refused img _ z

  module _ (open₀ : open_number img ≡ 0) where
    pub seek-7 : allowed ≡ false → seek_number img key known ≡ 7
    unfolding seek_number
    seek-7 h = first_no-opened img _ open₀ ∙ first_no-no 7 _ _ h

    pub seek-8 : allowed ≡ true → known ≡ false → seek_number img key known ≡ 8
    unfolding seek_number
    seek-8 a h = first_no-opened img _ open₀ ∙ first_no-yes 7 _ _ a ∙ first_no-no 8 _ _ h

    pub seek-0 : allowed ≡ true → known ≡ true → seek_number img key known ≡ 0
    unfolding seek_number
    seek-0 a k = first_no-opened img _ open₀ ∙ first_no-yes 7 _ _ a ∙ first_no-yes 8 _ _ k ∙ first_no-none

  -- ---- where it is 0
  module _ (z : seek_number img key known ≡ 0) where
    pub seek-opened : open_number img ≡ 0
    seek-opened = by-eq (open_number img) 0 (λ e. e) (λ n. absurd (n (sym (seek-closed n) ∙ z)))

    asked-7 : first_no (ask 7 allowed ∷ ask 8 known ∷ []) ≡ 0
    unfolding seek_number
    asked-7 = sym (first_no-opened img _ seek-opened) ∙ z

    pub seek-allowed : allowed ≡ true
    seek-allowed = first_no-head 7 allowed _ (λ e. omega arith) asked-7

    pub seek-known : known ≡ true
    seek-known = first_no-head 8 known [] (λ e. omega arith) (first_no-tail 7 allowed _ (λ e. omega arith) asked-7)

    on : (more : List Question) → asks more ≡ first_no more
    on more = first_no-opened img _ seek-opened ∙ first_no-yes 7 _ _ seek-allowed ∙ first_no-yes 8 _ _ seek-known

  -- ---- where it is not
  stop : (seek_number img key known ≡ 0 → ⊥) → (more : List Question) → asks more ≡ seek_number img key known
  stop n more =
      by-eq (open_number img) 0
      (λ o. by_bool allowed
      (λ a. by_bool known
      (λ k. absurd (n (seek-0 o a k)))
      (λ k. first_no-opened img _ o ∙ first_no-yes 7 _ _ a ∙ first_no-no 8 _ _ k ∙ sym (seek-8 o a k)))
      (λ a. first_no-opened img _ o ∙ first_no-no 7 _ _ a ∙ sym (seek-7 o a)))
      (λ c. first_no-refused img _ c ∙ sym (seek-closed c))

-- ---- the calls

-- a call without a mode puts no 8
no_mode : (img : Bytes) (a : Bool) (more : List Question)
    → first_no (opened img (ask 7 a ∷ more)) ≡ first_no (opened img (ask 7 a ∷ ask 8 true ∷ more))
unfolding first_no ask opened
no_mode img a more = refl

module _ (img key : Bytes) where
  pub lookup-stop : (seek_number img key true ≡ 0 → ⊥) → lookup_number img key ≡ seek_number img key true
  unfolding lookup_number lookup_asks
  lookup-stop n = no_mode img _ _ ∙ stop img key true n _

  pub lookup-on : seek_number img key true ≡ 0
      → lookup_number img key ≡ first_no (shown_asks (layout_of img) img (search (layout_of img) img key))
  unfolding lookup_number lookup_asks
  lookup-on z = no_mode img _ _ ∙ on img key true z _

  pub delete-stop : (seek_number img key true ≡ 0 → ⊥) → delete_number img key ≡ seek_number img key true
  unfolding delete_number delete_asks
  delete-stop n = no_mode img _ _ ∙ stop img key true n _

  pub delete-on : seek_number img key true ≡ 0
      → delete_number img key ≡ first_no (removed_asks (layout_of img) img (search (layout_of img) img key))
  unfolding delete_number delete_asks
  delete-on z = no_mode img _ _ ∙ on img key true z _

  module _ (bytes : Bytes) (mode : ℕ) where
    pub add-stop : (seek_number img key (mode_known mode) ≡ 0 → ⊥)
        → add_number img key bytes mode ≡ seek_number img key (mode_known mode)
    unfolding add_number add_asks named
    add-stop n = stop img key (mode_known mode) n _

    pub add-on : seek_number img key (mode_known mode) ≡ 0
        → add_number img key bytes mode
        ≡ first_no (point_asks (layout_of img) img (search (layout_of img) img key) bytes mode)
    unfolding add_number add_asks named
    add-on z = on img key (mode_known mode) z _
