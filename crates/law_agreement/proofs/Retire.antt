-- Retire: the message of a point made inactive. It has no text then, the length held is as before.
--     retire-change, retire-point      the change, and the point's value
--     retire-slot, retire-field        what stays as it was
-- Assumes nothing.
use mathlib.Core.Path.{◌≡◌, refl, ap, ◌∙◌}
use Prim.Native.Nat.{ℕ, ◌+◌, ◌≤◌, ◌<◌}
use native.Mathlib.Omega.{arith}
use mathlib.Core.Bool.{true, false, ◌||◌}
use mathlib.Core.List.{[], ◌∷◌}
use mathlib.Core.Option.{none, some}
use lib.ListN.{length}
use lib.Dec.{eqb}
use borrow.Author.Tests.{ne_eqb}
use Rattle.spec_file.specs.Bytes.{Bytes, store, number}
use Rattle.spec_file.specs.Limits.{active, inactive, points_field, free_field, table_start}
use Rattle.spec_file.specs.Image.{field, Layout, layout_of, offset_of, slot}
use Rattle.spec_file.specs.Messages.{head_size, letter_at, length_at, is_active, shown, held, retire}
use Rattle.spec_file.specs.Questions.{message_sound}
use Rattle.spec_book.specs.Book.{withdrawn}
use Rattle.law_file.proofs.Tests.{by-eq}
use Rattle.law_file.proofs.Bytes.{Apart, apart-sym, apart-inside, part-store-same}
use Rattle.law_file.proofs.Kept.{kept-known}
use Rattle.law_file.proofs.Effects
use Rattle.law_file.proofs.Effects.{active-some, by-retire, retire-kept, retire-behind}
use Rattle.law_file.proofs.Table.{entry_of}
use Rattle.law_file.proofs.Probe.{entry_of-frame}
use Rattle.law_file.proofs.Stretch.{span, Lies, lies-sound, none-sound, SameOn, same-on-refl, same-on-store}
use Rattle.law_agreement.proofs.Data.{point-change, point-lies}
use Rattle.law_agreement.proofs.File.{Allowed, value_of, point_of, point_of-some, File, file-some, Change}

-- ---- retire

shown-inactive : (g : Layout) (img : Bytes) (o : ℕ) → is_active img o ≡ false → shown g img o ≡ none
unfolding shown
shown-inactive g img o h = rw h refl

-- what retire leaves of a point with message offset o: no text, the length held as before
module _ (g : Layout) (img : Bytes) (f : File g img) (key s : Bytes) (a : Allowed g key)
    (e : entry_of g img key ≡ some s) where
  abbrev o : ℕ
  o = offset_of g s

  abbrev off : Bytes
  off = retire img o

  -- question 11, as the image's own layout has it
  sound₁ : message_sound (layout_of img) img o ≡ true
  sound₁ = rw f.layout (f.messages key s a e).sound

  pub retire-slot : (k : ℕ) → k < g.N → slot g off k ≡ slot g img k
  retire-slot k l = rw f.layout at (Effects.retire-slot img f.opened o sound₁ k (rw f.layout l))

  pub retire-field : (at : ℕ) → at + 4 ≤ table_start → field off at ≡ field img at
  retire-field = Effects.retire-field img f.opened o sound₁

  off-length : length_at g off o ≡ length_at g img o
  unfolding length_at
  off-length = ap number (retire-behind img f.opened o sound₁ (o + 1) g.W (omega arith))

  dead-letter : o + 1 ≤ length img → letter_at (store img o (inactive ∷ [])) o ≡ inactive
  unfolding letter_at number
  dead-letter h = ap number (part-store-same img o (inactive ∷ []) (omega (arith, h)))

  off-inactive : is_active off o ≡ false
  off-inactive =
      by-retire img f.opened o sound₁ (λ (i : Bytes). is_active i o ≡ false)
      (λ h lo hi. unfold is_active in rw (dead-letter hi, ne_eqb o 0 (active-some img o h)) refl)
      (λ h. h)

  off-lies : (o ≡ 0 → ⊥) → Lies g off o
  off-lies z =
      let l = point-lies g img f key s a e z in
      record {
        low = l.low;
        letter =
            by-retire img f.opened o sound₁
            (λ (i : Bytes). (eqb (letter_at i o) active || eqb (letter_at i o) inactive) ≡ true)
            (λ h lo hi. rw (dead-letter hi) refl)
            (λ h. l.letter);
        end = rw (off-length, retire-field free_field (omega arith)) l.end;
      }

  pub retire-change : Change g img off key
  retire-change =
      point-change g img off f (retire-kept img f.opened o sound₁).fixed
      (kept-known (retire-kept img f.opened o sound₁) f.opened) retire-slot
      (retire-field points_field (omega arith))
      (rw (retire-field free_field (omega arith)) (omega arith))
      (rw (retire-field free_field (omega arith)) f.opened.free-high)
      key s a e
      (λ p n away.
      by-retire img f.opened o sound₁ (λ (i : Bytes). SameOn img i p n)
      (λ h lo hi. same-on-store img o (inactive ∷ []) p n hi (letter-apart p n (away (active-some img o h))))
      (λ h. same-on-refl img p n))
      (by-eq o 0 (λ z. rw z (none-sound g (retire img 0))) (λ z. lies-sound g off o (off-lies z)))
      (rw off-length (omega arith))
    where
      letter-apart : (p n : ℕ) → Apart p n o (span g img o) → Apart p n o 1
      letter-apart p n h =
          apart-sym o 1 p n
          (apart-inside o (span g img o) p n o 1 (omega arith) (unfold head_size in omega arith)
          (apart-sym p n o (span g img o) h))

  pub retire-point : point_of g off key ≡ some (withdrawn (value_of g img key o))
  unfolding held withdrawn
  retire-point =
      point_of-some g off key s (entry_of-frame g img off key (file-some f) retire-slot ∙ e)
      ∙ rw (shown-inactive g off o off-inactive, off-length) refl
