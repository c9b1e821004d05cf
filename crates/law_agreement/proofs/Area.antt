-- "Space once taken is never handed out again", but by a compaction: of the bytes between D and X an add or a delete
-- changes none but those of the message of the point that it names. New space begins at X. This holds of any image
-- bytes.
--     Clear img key p n       the n bytes from p on have none in common with the point's message
--     add-keeps-bytes, delete-keeps-bytes      such bytes are as they were
-- Assumes nothing.
use mathlib.Core.Path.{◌≡◌, refl, sym, ap, ◌∙◌}
use Prim.Native.Nat.{ℕ, ◌+◌, ◌≤◌, ◌<◌}
use native.Mathlib.Omega.{arith}
use mathlib.Core.Logic.{inl, inr}
use Rattle.spec_file.specs.Bytes.{Bytes, part}
use Rattle.spec_file.specs.Limits.{free_field, header_size}
use Rattle.spec_file.specs.Image.{field, Layout, layout_of, slot_size, slot_start, slot, offset_of}
use Rattle.spec_file.specs.Search.{met, search, is_met}
use Rattle.spec_file.specs.Questions.{open_number, add_number, delete_number}
use Rattle.spec_file.specs.Calls.{add, delete}
use Rattle.law_file.proofs.Tests.{by-eq}
use Rattle.law_file.proofs.Bytes.{Apart}
use Rattle.law_file.proofs.Slots.{slot-end}
use Rattle.law_file.proofs.Opened.{Opened, opened-facts, opened-room}
use Rattle.law_file.proofs.Outcomes.{delete-closed, delete-refused, add-closed, add-refused}
use Rattle.law_file.proofs.Probe.{by-search, search-met, search-empty}
use Rattle.law_file.proofs.Effects.{area-above}
use Rattle.law_file.proofs.Stretch.{span}
use Rattle.law_frames.proofs.Added.{Off, off-letter, Elsewhere, add-met, add-empty, add-exhausted}
use Rattle.law_frames.proofs.Deleted.{delete-met, delete-other}

-- the n bytes from p on have none in common with the message of the point of that name, if it has one
abbrev pub Clear : Bytes → Bytes → ℕ → ℕ → Type 0
Clear img key p n =
    (i : ℕ) → search (layout_of img) img key ≡ met i
    → Off (offset_of (layout_of img) (slot (layout_of img) img i))
    (span (layout_of img) img (offset_of (layout_of img) (slot (layout_of img) img i))) p n

module _ (img key : Bytes) (p n : ℕ) (low : (layout_of img).D ≤ p) (c : Clear img key p n) where
  abbrev G : Layout
  G = layout_of img

  module _ (open₀ : open_number img ≡ 0) where
    o : Opened img
    o = opened-facts img open₀

    some-slot : 0 < G.N
    unfolding layout_of
    some-slot = omega (arith, o.slots-low)

    -- what stands in the data area is neither the header's nor the table's
    header : header_size ≤ p
    unfolding layout_of
    header = omega (arith, area-above img o, low)

    entry : (k : ℕ) → k < G.N → Apart p n (slot_start G k) (slot_size G)
    entry k l = inr (omega (arith, slot-end G (opened-room img o) k l, low))

    -- nor, below X, new space
    elsewhere : p + n ≤ field img free_field → (i at m : ℕ) → i < G.N → Off at (span G img at) p n
        → Elsewhere img i at m p n
    elsewhere high i at m l f = record { header = header; entry = entry i l; message = f; fresh = λ h. inl high }

  pub delete-keeps-bytes : part (delete img key).after p n ≡ part img p n
  delete-keeps-bytes =
      by-eq (delete_number img key) 0
      (λ z.
      let open₀ : open_number img ≡ 0 =
      by-eq (open_number img) 0 (λ e. e) (λ e. absurd (e (sym (delete-closed img key e) ∙ z))) in
      by-search G img key (some-slot open₀)
      (λ i m.
      let l : i < G.N = (search-met G img key (some-slot open₀) i m).0 in
      delete-met img key z p n i i m (header open₀) (off-letter G img _ p n (c i m)) l (λ q. absurd (q refl))
      (λ k lk w. entry open₀ k lk))
      (λ i m. absurd (delete-other img key z p n i i (unfold is_met in ap is_met m)))
      (λ m. absurd (delete-other img key z p n 0 0 (unfold is_met in ap is_met m))))
      (λ z. ap (λ (x : Bytes). part x p n) (delete-refused img key z))

  pub add-keeps-bytes : p + n ≤ field img free_field → (bytes : Bytes) (mode : ℕ)
      → part (add img key bytes mode).after p n ≡ part img p n
  add-keeps-bytes high bytes mode =
      by-eq (add_number img key bytes mode) 0
      (λ z.
      let open₀ : open_number img ≡ 0 =
      by-eq (open_number img) 0 (λ e. e) (λ e. absurd (e (sym (add-closed img key e bytes mode) ∙ z))) in
      by-search G img key (some-slot open₀)
      (λ i m. add-met img key bytes mode z p n i m
      (elsewhere open₀ high i _ _ (search-met G img key (some-slot open₀) i m).0 (c i m)))
      (λ i m. add-empty img key bytes mode z p n i m
      (elsewhere open₀ high i 0 _ (search-empty G img key (some-slot open₀) i m).0 (λ w. absurd (w refl))))
      (λ m. absurd (add-exhausted img key bytes mode z p n 0 m)))
      (λ z. ap (λ (x : Bytes). part x p n) (add-refused img key bytes mode z))
