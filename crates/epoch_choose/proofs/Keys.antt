-- A slot's key by its parts: four bytes that tell other names, the name, the epoch.
--     part-take        a part of the first bytes is a part of all
--     mark-other       a key whose four bytes are others has another name
--     epoch-read       the number at a key's last four bytes is its epoch
--     slot-epoch       so of slot i
--     eligible-other, eligible-later, eligible-here      what an entry is, test by test
-- Assumes nothing.
use mathlib.Core.Path.{◌≡◌, refl, sym, ap, ap₂, ◌∙◌, subst}
use Prim.Native.Nat.{ℕ, ◌+◌, ◌-◌, ◌≤◌, ◌<◌}
use native.Mathlib.Omega.{arith}
use mathlib.Core.Bool.{Bool, true, false, not, ◌&&◌}
use lib.ListN.{length, take, drop, length-drop}
use lib.Seq.{length-take-le, take-length}
use lib.Dec.{leb}
use borrow.Author.Tests.{le-leb, lt-leb}
use Rattle.spec_file.specs.Bytes.{Bytes, part, number, same, all_zero}
use Rattle.spec_file.specs.Image.{field, layout_of, vacant}
use Rattle.spec_file.specs.Inspect.{taken}
use Rattle.law_file.proofs.Tests.{by_bool}
use Rattle.law_file.proofs.Bytes.{AreBytes, part-part, same_true}
use Rattle.spec_epoch.specs.Epochs.{epoch_size, epoch_of, dated_key, dated_by, epoch_at, eligible}
use Rattle.law_epoch.proofs.Choice.{named-key, key-bytes}
use Rattle.bytes_compare.specs.Little.{little}
use Rattle.header_layout.specs.Shapes.{Open}
use Rattle.header_layout.specs.declared.shape.Shape.{Shape}
use Rattle.table_search.specs.Slots.{key_in}
use Rattle.table_search.proofs.Headers.{layout-key}
use Rattle.table_search.proofs.Turns.{stored-length}
use Rattle.epoch_choose.specs.declared.Mark.{Mark}
use Rattle.epoch_choose.specs.Marks.{Told, SlotAt}

-- ---- four bytes of a name

pub part-take : (b : Bytes) (n q m : ℕ) → q + m ≤ n → part (take n b) q m ≡ part b q m
unfolding part
part-take b n q m h =
    let z : 0 + q ≡ q = omega arith in
    part-part b 0 n q m h ∙ ap (λ (p : ℕ). take m (drop p b)) z

pub mark-other : (key name : Bytes) (m : Mark) (x : ℕ) → Told key name m → 4 ≤ m.end
    → x ≡ little (part (take m.end key) (length (take m.end key) - 4) 4) → (x ≡ m.block → ⊥)
    → false ≡ same (take (length name) key) name
mark-other key name m x w e is other =
    by_bool (same (take (length name) key) name)
    (λ s. absurd (other (alike (same_true (take (length name) key) name s)))) sym
  where
    end : ℕ
    end = m.end

    ends : m.end ≤ length name
    ends = w.marks.ends

    alike : take (length name) key ≡ name → x ≡ m.block
    alike q =
        is
        ∙ ap (λ (n : ℕ). little (part (take end key) (n - 4) 4))
        (length-take-le end key (omega (arith, ends, w.room)))
        ∙ ap little
        (part-take key end (end - 4) 4 (omega arith)
        ∙ sym (part-take key (length name) (end - 4) 4 (omega (arith, ends)))
        ∙ ap (λ (b : Bytes). part b (end - 4) 4) q)
        ∙ sym (w.marks.is e)

-- ---- the epoch

pub epoch-read : (key : Bytes) → 4 ≤ length key → field key (length key - 4) ≡ epoch_of (length key) key
unfolding field epoch_of part
epoch-read key l =
    let rest = drop (length key - 4) key in
    ap number (ap (λ (n : ℕ). take n rest) (sym four) ∙ take-length rest)
  where
    four : length (drop (length key - 4) key) ≡ 4
    four = length-drop (length key - 4) key ∙ omega arith

-- ---- slot i, with its key k, of an image whose keys have a name's length and an epoch's
module _ (img : Bytes) (s : Shape) (name : Bytes) (t i : ℕ) (m : Mark) (w : SlotAt img s name m i) (k : Bytes)
    (is : k ≡ key_in img i) where
  o : Open img s
  o = w.named.opened

  stored : length k ≡ s.keylen
  stored = stored-length img s o i w.below k is

  -- the layout's K
  long : length k ≡ (layout_of img).K
  long = stored ∙ sym (layout-key img s o.shape)

  pub key-long : epoch_size ≤ length k
  key-long = omega (arith, stored, w.named.size)

  pub name-short : length name ≤ length k
  name-short = omega (arith, stored, w.named.size)

  pub slot-epoch : epoch_at (layout_of img) img i ≡ epoch_of (length k) k
  unfolding epoch_at
  slot-epoch = ap₂ epoch_of (sym long) (sym is)

  -- of an image of bytes
  module _ (bytes : AreBytes img) where
    named : Bool
    named = same (take (length name) k) name

    slot-named : same (key_in img i) (dated_key name (epoch_at (layout_of img) img i)) ≡ named
    unfolding named
    slot-named =
        ap₂ (λ (b : Bytes) (e : ℕ). same b (dated_key name e)) (sym is) slot-epoch
        ∙ named-key k name (subst AreBytes (sym is) (key-bytes (layout_of img) img bytes i))
        (omega (arith, stored, w.named.size))

    slot-eligible : (n d : Bool) → named ≡ n → leb (epoch_of (length k) k) t ≡ d
        → eligible (layout_of img) img name t i ≡ (taken (layout_of img) img i && (n && d))
    unfolding eligible dated_by epoch_at
    slot-eligible n d en ed =
        ap₂ (λ (a b : Bool). taken (layout_of img) img i && (a && b)) (slot-named ∙ en)
        (ap (λ (e : ℕ). leb e t) slot-epoch ∙ ed)

    no_last : (a : Bool) → (a && false) ≡ false
    no_last true = refl
    no_last false = refl

    yes-last : (a : Bool) → (a && true) ≡ a
    yes-last true = refl
    yes-last false = refl

    pub eligible-other : same (take (length name) k) name ≡ false → false ≡ eligible (layout_of img) img name t i
    unfolding named
    eligible-other h = sym (slot-eligible false _ h refl ∙ no_last (taken (layout_of img) img i))

    module _ (h : same (take (length name) k) name ≡ true) (e : ℕ) (q : e ≡ epoch_of (length k) k) where
      pub eligible-later : t < e → false ≡ eligible (layout_of img) img name t i
      unfolding named
      eligible-later m =
          sym (slot-eligible true false h (lt-leb (epoch_of (length k) k) t (omega arith))
          ∙ no_last (taken (layout_of img) img i))

      pub eligible-here : e ≤ t → (z : Bool) → z ≡ all_zero k → not z ≡ eligible (layout_of img) img name t i
      unfolding named taken vacant
      eligible-here m z a =
          ap not (a ∙ ap all_zero is)
          ∙ sym (slot-eligible true true h (le-leb (epoch_of (length k) k) t (omega arith))
          ∙ yes-last (taken (layout_of img) img i))
