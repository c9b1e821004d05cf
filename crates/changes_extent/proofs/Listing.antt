-- The listed form of any call, by its number.
--     lists-16, lists-refused, lists-done      16; refused by the call itself; accepted
--     work-holds                               the working slice begins with the image as it was
--     windows-hold                             the working slice and the image after the call tell the image before it
--     add-leaves, add_small, and so for delete      a refused call leaves the image; an accepted one's is below 2^32
-- Assumes nothing.
use mathlib.Core.Path.{◌≡◌, sym, ap, ◌∙◌}
use Prim.Native.Nat.{ℕ, ◌-◌, ◌^◌, ◌≤◌, ◌<◌}
use native.Mathlib.Omega.{arith}
use mathlib.Core.Bool.{Bool, true, false, cond, ◌&&◌}
use lib.ListN.{length, take, drop, get_or}
use lib.Seq.{take-length}
use lib.Dec.{leb}
use borrow.Author.Tests.{leb-true}
use Rattle.spec_file.specs.Bytes.{Bytes, part, store}
use Rattle.spec_file.specs.Questions.{open_number}
use Rattle.spec_file.specs.Calls.{Outcome, plain, add, delete}
use Rattle.spec_changes.specs.Changes.{pair_bytes, copied, changes_in, list_allowed, work_allowed, worked_number, listed}
use Rattle.law_file.proofs.Tests.{by-eq, and_left, and_right, zero-yes, zero-no}
use Rattle.law_file.proofs.Bytes.{part-store-same}
use Rattle.law_file.proofs.Opened.{opened-facts}
use Rattle.spec_changes.proofs.Changes.{copied-changes}
use Rattle.spec_changes.proofs.Copied.{copied-back}
use Rattle.changes_windows.specs.Windows.{windows_of, before, Sorted}
use Rattle.changes_windows.specs.declared.Windows.{Windows}
use Rattle.changes_windows.proofs.Windowed.{windows-within}
use Rattle.changes_extent.specs.Reaches.{Only}
use Rattle.law_file.proofs.Outcomes.{settled-yes, settled-no, add-closed, add-refused, delete-closed, delete-refused}
use Rattle.spec_changes.specs.Lists.{Lists}

module _ (call : Bytes → Outcome Bytes) (img : Bytes) (work : ℕ) (list : Bytes) where
  abbrev allowed : Bool
  allowed = list_allowed (length list) && work_allowed (length img) work

  abbrev n : ℕ
  n = worked_number allowed (call img).answer.number

  -- a form that is refused with a number leaves image and list
  refused : (k : ℕ) → k ≡ n → (k ≡ 0 → ⊥) → Lists call img work list img list k 0
  unfolding listed
  refused k e z =
      let no' : n ≡ 0 → ⊥ = λ h. z (e ∙ h) in
      record {
        number_is = e;
        pairs_is = sym (zero-no n (length (changes_in (length list) img (call img).after)) 0 no');
        image-is = sym (settled-no n img (call img).after no');
        list-is =
            sym (settled-no n list (store list 0 (pair_bytes (changes_in (length list) img (call img).after))) no');
        refreshes = λ h. absurd (z h);
      }

  pub lists-16 : (list_allowed (length list) && work_allowed (length img) work) ≡ false
      → Lists call img work list img list 16 0
  unfolding worked_number
  lists-16 h = refused 16 (sym (ap (λ (b : Bool). cond b (call img).answer.number 16) h)) (λ z. omega arith)

  module _ (fits : (list_allowed (length list) && work_allowed (length img) work) ≡ true) where
    asked : (call img).answer.number ≡ n
    unfolding worked_number
    asked = sym (ap (λ (b : Bool). cond b (call img).answer.number 16) fits)

    pub lists-refused : (k : ℕ) (img' : Bytes) → k ≡ (call img).answer.number → (k ≡ 0 → ⊥) → img' ≡ img
        → Lists call img work list img' list k 0
    lists-refused k img' e z same =
        let r = refused k (e ∙ asked) z in
        record {
          number_is = r.number_is;
          pairs_is = r.pairs_is;
          image-is = same ∙ r.image-is;
          list-is = r.list-is;
          refreshes = λ h. absurd (z h);
        }

    pub lists-done : (img' list' : Bytes) (p : ℕ) → (call img).answer.number ≡ 0 → img' ≡ (call img).after
        → length img ≡ length img'
        → p ≡ length (changes_in (length list) img img')
        → list' ≡ store list 0 (pair_bytes (changes_in (length list) img img'))
        → Lists call img work list img' list' 0 p
    unfolding listed
    lists-done img' list' p z e same count bytes =
        let zero' : n ≡ 0 = sym asked ∙ z in
        let new : Bytes = (call img).after in
        record {
          number_is = sym zero';
          pairs_is =
              count ∙ ap (λ (x : Bytes). length (changes_in (length list) img x)) e
              ∙ sym (zero-yes n (length (changes_in (length list) img new)) 0 zero');
          image-is = e ∙ sym (settled-yes n img new zero');
          list-is =
              bytes ∙ ap (λ (x : Bytes). store list 0 (pair_bytes (changes_in (length list) img x))) e
              ∙ sym (settled-yes n list (store list 0 (pair_bytes (changes_in (length list) img new))) zero');
          refreshes = λ h. copied-changes (length list) img img' same;
        }

-- ---- question 16, as facts

pub allowed-list : (L work list : ℕ) → (list_allowed list && work_allowed L work) ≡ true → 8 ≤ list
unfolding list_allowed
allowed-list L work list h = leb-true 8 list (and_left (leb 8 list) (work_allowed L work) h)

pub allowed-work : (L work list : ℕ) → (list_allowed list && work_allowed L work) ≡ true → L ≤ work
unfolding work_allowed
allowed-work L work list h = leb-true L work (and_right (list_allowed list) (leb L work) h)

-- ---- the image, copied to the front of the working slice

pub work-holds : (work img work' : Bytes) → length img ≤ length work
    → work' ≡ store work 0 (part img 0 (length img - 0))
    → take (length img - 0) (drop 0 work') ≡ img
unfolding part
work-holds work img work' h e =
    let n : length img - 0 ≡ length img = omega arith in
    let is : take (length img) img ≡ img = take-length img in
    let size : length img ≡ length (take (length img) img) = ap (λ (t : Bytes). length t) (sym is) in
    ap (λ (k : ℕ). take k work') n
    ∙ ap (take (length img)) (e ∙ ap (λ (k : ℕ). store work 0 (take k img)) n)
    ∙ ap (λ (k : ℕ). take k (store work 0 (take (length img) img))) size
    ∙ part-store-same work 0 (take (length img) img) (omega arith)
    ∙ is

-- ---- the image, kept in the working slice where the call may write

pub windows-hold : (call : Bytes → Outcome Bytes) (img work new work' : Bytes) (w : Windows) → Sorted w (length img)
    → Only call img w → length img ≤ length work → (call img).answer.number ≡ 0 → new ≡ (call img).after
    → length new ≡ length img → work' ≡ copied (windows_of w) img work → before w work' new ≡ img
windows-hold call img work new work' w s only room z is size e =
    ap (λ (b : Bytes). before w b new) e
    ∙ copied-back (windows_of w) img work new (windows-within w (length img) s) room
    (record { size = size; outside = λ i c. ap (λ (b : Bytes). get_or b i 0) is ∙ only z i c })

-- ---- a refused call leaves the image

pub add-leaves : (img key bytes : Bytes) (mode : ℕ) → ((add img key bytes mode).answer.number ≡ 0 → ⊥)
    → (add img key bytes mode).after ≡ img
add-leaves img key bytes mode z = add-refused img key bytes mode (λ h. z (unfold add plain in h))

pub delete-leaves : (img key : Bytes) → ((delete img key).answer.number ≡ 0 → ⊥) → (delete img key).after ≡ img
delete-leaves img key z = delete-refused img key (λ h. z (unfold delete plain in h))

-- ---- the image of an accepted call is small

open-small : (img : Bytes) → open_number img ≡ 0 → length img < 2 ^ 32
open-small img o = omega (arith, (opened-facts img o).size-high)

pub add_small : (img key bytes : Bytes) (mode : ℕ) → (add img key bytes mode).answer.number ≡ 0 → length img < 2 ^ 32
unfolding add plain
add_small img key bytes mode z =
    open-small img
    (by-eq (open_number img) 0 (λ e. e) (λ e. absurd (e (sym (add-closed img key e bytes mode) ∙ z))))

pub delete-small : (img key : Bytes) → (delete img key).answer.number ≡ 0 → length img < 2 ^ 32
unfolding delete plain
delete-small img key z =
    open-small img
    (by-eq (open_number img) 0 (λ e. e) (λ e. absurd (e (sym (delete-closed img key e) ∙ z))))
