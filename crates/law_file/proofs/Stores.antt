-- Stores one after the other as one store, and a part of an image that was lent and came back.
--     store-none, store-part     a store of nothing; a part stored where it stands
--     take-store, drop-store     what stands before a store, and behind it
--     store-inner                a store within the place of a later one leaves nothing
--     store-append, store-end    a store right behind another; a store up to the end
--     part-lent, store-lent      the bytes from a up to e, lent, and given back as v
-- Assumes nothing.
use mathlib.Core.Path.{◌≡◌, sym, ap, ap₂, ◌∙◌}
use Prim.Native.Nat.{ℕ, ◌+◌, ◌-◌, ◌≤◌}
use native.Mathlib.Omega.{arith}
use mathlib.Core.List.{[], ◌++◌, append_assoc, append-nil}
use lib.ListN.{length, take, drop, length-append, length-drop, take-append-drop}
use lib.Seq.{take_all, take_at, drop_at, drop-drop, drop-length, length-take-le}
use borrow.Rule.Slice.PartMut.{put_mid}
use Rattle.spec_file.specs.Bytes.{Bytes, part, store}
use Rattle.law_file.proofs.Bytes.{part_length, length-store, part-store-below, part-store-above}

pub store-none : (b : Bytes) (p : ℕ) → store b p [] ≡ b
unfolding store
store-none b p = take-append-drop p b

pub store-part : (b : Bytes) (p n : ℕ) → p + n ≤ length b → store b p (part b p n) ≡ b
unfolding store
store-part b p n h =
    let rest : part b p n ++ drop n (drop p b) ≡ drop p b = unfold part in (take-append-drop n (drop p b)) in
    ap (λ (m : ℕ). take p b ++ (part b p n ++ drop m (drop p b))) (part_length b p n h)
    ∙ ap (λ (v : Bytes). take p b ++ v) rest
    ∙ take-append-drop p b

pub take-store : (b : Bytes) (p : ℕ) (v : Bytes) (n : ℕ) → p ≤ length b → n ≤ p → take n (store b p v) ≡ take n b
unfolding part
take-store b p v n h f = part-store-below b p v 0 n h (omega arith)

pub drop-store : (b : Bytes) (p : ℕ) (v : Bytes) (n : ℕ) → p + length v ≤ length b → p + length v ≤ n
    → drop n (store b p v) ≡ drop n b
unfolding part
drop-store b p v n h f =
    sym (take_all (length b) (drop n (store b p v)) (simp (length-drop, length-store b p v h) (omega arith)))
    ∙ part-store-above b p v n (length b) h f
    ∙ take_all (length b) (drop n b) (simp length-drop (omega arith))

pub store-inner : (b : Bytes) (p : ℕ) (v : Bytes) (q : ℕ) (w : Bytes) → p ≤ q → q + length w ≤ p + length v
    → p + length v ≤ length b → store (store b q w) p v ≡ store b p v
unfolding store
store-inner b p v q w l h r =
    let behind : drop (length v) (drop p (store b q w)) ≡ drop (length v) (drop p b) =
    drop-drop (length v) p (store b q w)
    ∙ drop-store b q w (p + length v) (omega arith) h
    ∙ sym (drop-drop (length v) p b) in
    ap₂ (λ (x y : Bytes). x ++ (v ++ y)) (take-store b q w p (omega arith) l) behind

pub store-append : (b : Bytes) (p : ℕ) (v w : Bytes) → p + length v + length w ≤ length b
    → store (store b p v) (p + length v) w ≡ store b p (v ++ w)
unfolding store
store-append b p v w h =
    let front = take p b ++ v in
    let tail = drop (length v) (drop p b) in
    let size : length front ≡ p + length v =
    length-append (take p b) v ∙ ap (λ (n : ℕ). n + length v) (length-take-le p b (omega arith)) in
    let whole : take p b ++ (v ++ tail) ≡ front ++ tail = sym (append_assoc (take p b) v tail) in
    let behind : drop (length w) tail ≡ drop (length (v ++ w)) (drop p b) =
    drop-drop (length w) (length v) (drop p b) ∙ ap (λ (n : ℕ). drop n (drop p b)) (sym (length-append v w)) in
    ap₂ (λ (x y : Bytes). x ++ (w ++ drop (length w) y))
    (ap (take (p + length v)) whole ∙ take_at front tail (p + length v) size)
    (ap (drop (p + length v)) whole ∙ drop_at front tail (p + length v) size)
    ∙ append_assoc (take p b) v (w ++ drop (length w) tail)
    ∙ ap (λ (x : Bytes). take p b ++ x)
    (sym (append_assoc v w (drop (length w) tail)) ∙ ap (λ (x : Bytes). (v ++ w) ++ x) behind)

pub store-end : (b : Bytes) (p : ℕ) (v : Bytes) → p + length v ≡ length b → store b p v ≡ take p b ++ v
unfolding store
store-end b p v h =
    let none' = drop-drop (length v) p b ∙ ap (λ (n : ℕ). drop n b) h ∙ drop-length b in
    ap (λ (x : Bytes). take p b ++ x) (ap (λ (x : Bytes). v ++ x) none' ∙ append-nil v)

-- ---- as the program logic has a lent part, `b[p..p + m]` and `b[a..e]`
pub part-lent : (b : Bytes) (p m : ℕ) → take (p + m - p) (drop p b) ≡ part b p m
unfolding part
part-lent b p m = let e : p + m - p ≡ m = omega arith in ap (λ (n : ℕ). take n (drop p b)) e

pub store-lent : (b : Bytes) (a e : ℕ) (v : Bytes) → length v ≡ e - a → put_mid a (e - a) b v ≡ store b a v
unfolding store
store-lent b a e v h = ap (λ (n : ℕ). take a b ++ (v ++ drop n (drop a b))) (sym h)
