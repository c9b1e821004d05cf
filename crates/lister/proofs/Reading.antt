-- What is read piece by piece into a buffer is what the input began with.
--     consumes-none, consumes_keep, consumes_then     nothing read, a failed read, and a read behind another
--     take_read                                       the buffer's front after a read behind it
--     room_read                                       it lies in the buffer
--     read_on, read_kept                              the front is what was read, after another read and after one that failed
-- Assumes nothing.
use Rattle.std.proofs.Common.{◌≡◌, refl, sym, ap, ◌∙◌, ℕ, ◌+◌, ◌≤◌, List, [], ◌++◌, length, take, arith, subst, Option, None, Some}
use Rattle.std.proofs.lemmas.List.{append_assoc, length-append, length-take-le, take-take}
use Rattle.std.proofs.lemmas.Slice.{take-put_mid, take-put_mid_below}
use Rattle.std.proofs.Math.Seq.{take-append-add}
use Rattle.std.specs.Io.KnownBytes.{Consumes, Keeps}
use borrow.Rule.Slice.PartMut.{put_mid, post_of}

pub consumes-none : (a : Option (List ℕ)) → Consumes a a []
consumes-none None = tt
consumes-none (Some xs) = refl

pub consumes_keep : (a b c : Option (List ℕ)) (bs : List ℕ) → Consumes a b bs → Keeps b c → Consumes a c bs
consumes_keep None b c bs h k = tt
consumes_keep (Some xs) None c bs h k = elim h [ ]
consumes_keep (Some xs) (Some ys) None bs h k = elim k [ ]
consumes_keep (Some xs) (Some ys) (Some zs) bs h k = h ∙ ap (λ (v : List ℕ). bs ++ v) (sym k)

pub consumes_then : (a b c : Option (List ℕ)) (bs cs : List ℕ) → Consumes a b bs → Consumes b c cs
    → Consumes a c (bs ++ cs)
consumes_then None b c bs cs h k = tt
consumes_then (Some xs) None c bs cs h k = elim h [ ]
consumes_then (Some xs) (Some ys) None bs cs h k = elim k [ ]
consumes_then (Some xs) (Some ys) (Some zs) bs cs h k = h ∙ ap (λ (v : List ℕ). bs ++ v) k ∙ sym (append_assoc bs cs zs)

pub take_read : (a n k : ℕ) (xs ys : List ℕ) → a ≤ length xs → n ≤ length ys
    → take (a + n) (put_mid a k xs ys) ≡ take a xs ++ take n ys
take_read a n k xs ys low few =
    let long : length (take a xs) ≡ a = length-take-le a xs low in
    sym (take-take (a + n) (a + length ys) (put_mid a k xs ys) (omega arith))
    ∙ ap (take (a + n)) (take-put_mid a k xs ys (a + length ys) refl low)
    ∙ ap (λ (m : ℕ). take (m + n) (take a xs ++ ys)) (sym long) ∙ take-append-add (take a xs) ys n

pub room_read : (a n k : ℕ) (xs ys : List ℕ) → a ≤ length xs → n ≤ length ys → a + n ≤ length (put_mid a k xs ys)
room_read a n k xs ys low few =
    let all = length-append (take a xs) (ys ++ post_of a k xs) in
    let behind = length-append ys (post_of a k xs) in
    omega (arith, all, behind, length-take-le a xs low)

pub read_on : (a b c : Option (List ℕ)) (got n k m : ℕ) (xs ys : List ℕ) → m ≡ got + n → got ≤ length xs → n ≤ length ys
    → Consumes a b (take got xs) → Consumes b c (take n ys) → Consumes a c (take m (put_mid got k xs ys))
read_on a b c got n k m xs ys e low few h r =
    let front : take got xs ++ take n ys ≡ take m (put_mid got k xs ys) =
    sym (take_read got n k xs ys low few) ∙ ap (λ (j : ℕ). take j (put_mid got k xs ys)) (sym e) in
    subst (Consumes a c) front (consumes_then a b c (take got xs) (take n ys) h r)

pub read_kept : (a b c : Option (List ℕ)) (got k : ℕ) (xs ys : List ℕ) → got ≤ length xs
    → Consumes a b (take got xs) → Keeps b c → Consumes a c (take got (put_mid got k xs ys))
read_kept a b c got k xs ys low h r =
    subst (Consumes a c) (sym (take-put_mid_below got k xs ys got (omega arith) low)) (consumes_keep a b c (take got xs) h r)
