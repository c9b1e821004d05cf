-- Overwrite: a message written in place of one at least as long, with the rest zeroed.
--     overwrite-change, overwrite-point      the change, and the point's value
-- Assumes nothing.
use mathlib.Core.Path.{◌≡◌, refl, sym, ap, ap₂, ◌∙◌}
use Prim.Native.Nat.{ℕ, ◌+◌, ◌-◌, ◌^◌, ◌≤◌, ◌<◌}
use native.Mathlib.Omega.{arith}
use native.Mathlib.Nat.{add-zero}
use mathlib.Core.Logic.{inl}
use mathlib.Core.List.{◌++◌}
use mathlib.Core.Option.{some}
use lib.ListN.{length, length-append}
use lib.Seq.{take_at}
use Rattle.spec_file.specs.Bytes.{Bytes, part, store, zeros}
use Rattle.spec_file.specs.Limits.{points_field, free_field, table_start}
use Rattle.spec_file.specs.Image.{field, Layout, offset_of, slot}
use Rattle.spec_file.specs.Messages.{head_size, held, message, overwrite}
use Rattle.spec_book.specs.Book.{noting}
use Rattle.law_file.proofs.Bytes.{part-store-inside, length-zeros}
use Rattle.law_file.proofs.Slots.{slot-store-data, field-store-other}
use Rattle.law_file.proofs.Kept.{Kept, kept_store, kept-known}
use Rattle.law_file.proofs.Effects.{length-message}
use Rattle.law_file.proofs.Table.{entry_of}
use Rattle.law_file.proofs.Probe.{entry_of-frame}
use Rattle.law_file.proofs.Stretch.{span, Lies, lies-sound, same-on-store, held-some}
use Rattle.law_agreement.proofs.Data.{file-above, point-change, point-lies, point-end}
use Rattle.law_agreement.proofs.Space.{Written, written, written-value, written-lies}
use Rattle.law_agreement.proofs.File.{Allowed, point_of, point_of-some, File, file-room, file-some, Change}

module _ (g : Layout) (img : Bytes) (f : File g img) (key s : Bytes) (a : Allowed g key)
    (e : entry_of g img key ≡ some s) (z : offset_of g s ≡ 0 → ⊥) (t : Bytes)
    (le : length t ≤ held g img (offset_of g s)) where
  small : length t < 256 ^ g.W
  small = omega (arith, le, held-some g img (offset_of g s) z, (f.messages key s a e).short z)

  bytes : Bytes
  bytes = message g.W t ++ zeros (held g img (offset_of g s) - length t)

  lies : Lies g img (offset_of g s)
  lies = point-lies g img f key s a e z

  length-bytes : length bytes ≡ span g img (offset_of g s)
  unfolding bytes
  length-bytes =
      length-append (message g.W t) (zeros (held g img (offset_of g s) - length t))
      ∙ ap₂ ◌+◌ (length-message g t) (length-zeros (held g img (offset_of g s) - length t))
      ∙ omega (arith, held-some g img (offset_of g s) z, le)

  fits : offset_of g s + length bytes ≤ length img
  fits = rw length-bytes (point-end g img f key s a e z)

  there : part (store img (offset_of g s) bytes) (offset_of g s) (head_size g + length t) ≡ message g.W t
  unfolding bytes part
  there =
      ap (λ (x : ℕ). part (store img (offset_of g s) bytes) x (head_size g + length t)) (sym (add-zero (offset_of g s)))
      ∙ part-store-inside img (offset_of g s) bytes 0 (head_size g + length t) (omega (arith, fits))
      (rw length-bytes (omega (arith, held-some g img (offset_of g s) z, le)))
      ∙ take_at (message g.W t) (zeros (held g img (offset_of g s) - length t)) (head_size g + length t)
      (length-message g t)

  now-written : Written g (store img (offset_of g s) bytes) (offset_of g s) t
  now-written = written g (store img (offset_of g s) bytes) (offset_of g s) t small there

  now-slot : (k : ℕ) → k < g.N → slot g (store img (offset_of g s) bytes) k ≡ slot g img k
  now-slot k l = slot-store-data g img (file-room f) (offset_of g s) bytes k l lies.low fits

  now-field : (at : ℕ) → at + 4 ≤ table_start → field (store img (offset_of g s) bytes) at ≡ field img at
  now-field at h = field-store-other img (offset_of g s) bytes at fits (inl (omega (arith, lies.low, file-above f)))

  now-lies : Lies g (store img (offset_of g s) bytes) (offset_of g s)
  now-lies =
      written-lies g (store img (offset_of g s) bytes) (offset_of g s) t now-written z lies.low
      (rw (now-field free_field (omega arith)) (omega (arith, lies.end, held-some g img (offset_of g s) z, le)))

  is-overwrite : overwrite g img (offset_of g s) t ≡ store img (offset_of g s) bytes
  unfolding overwrite bytes
  is-overwrite = refl

  now-kept : Kept img (store img (offset_of g s) bytes)
  now-kept = kept_store img (offset_of g s) bytes fits (omega (arith, lies.low, file-above f))

  pub overwrite-change : Change g img (overwrite g img (offset_of g s) t) key
  overwrite-change =
      rw is-overwrite
      (point-change g img (store img (offset_of g s) bytes) f
      now-kept.fixed (kept-known now-kept f.opened) now-slot
      (now-field points_field (omega arith))
      (rw (now-field free_field (omega arith)) (omega arith))
      (rw (now-field free_field (omega arith)) f.opened.free-high)
      key s a e
      (λ p n away. same-on-store img (offset_of g s) bytes p n fits (rw length-bytes (away z)))
      (lies-sound g (store img (offset_of g s) bytes) (offset_of g s) now-lies)
      (rw now-written.count (omega (arith, held-some g img (offset_of g s) z, le))))

  pub overwrite-field : (at : ℕ) → at + 4 ≤ table_start → field (overwrite g img (offset_of g s) t) at ≡ field img at
  overwrite-field at h = rw is-overwrite (now-field at h)

  pub overwrite-point : point_of g (overwrite g img (offset_of g s) t) key ≡ some (noting key t)
  overwrite-point =
      rw is-overwrite
      (point_of-some g (store img (offset_of g s) bytes) key s (entry_of-frame g img _ key (file-some f) now-slot ∙ e)
      ∙ ap some (written-value g (store img (offset_of g s) bytes) (offset_of g s) t now-written z key))
