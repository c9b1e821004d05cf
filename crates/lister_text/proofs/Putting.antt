-- Texts put one behind the other are one text; and a loop that puts a text piece by piece.
--     put-none, put_then, put_on, put_three, put_six      nothing put, and texts behind each other
--     Rest b p w n a r        of the text w, to be put into b from p on, r is left, to be put into n from a on
--     rest-start, rest_put, rest_end      its turns
-- Assumes nothing.
use mathlib.Core.Path.{◌≡◌, refl, sym, ap, ap₂, ◌∙◌}
use Prim.Native.Nat.{ℕ, ◌+◌, ◌≤◌}
use native.Mathlib.Omega.{arith}
use mathlib.Core.List.{[], ◌++◌}
use lib.ListN.{length, take, length-append}
use lib.Seq.{length-take-le}
use Rattle.spec_file.specs.Bytes.{Bytes, store}
use Rattle.law_file.proofs.Bytes.{length-store}
use Rattle.law_file.proofs.Stores.{store-none, store-append}
use Rattle.lister_text.specs.Puts.{Put}

pub put-none : (b : Bytes) (p : ℕ) → Put b p b p []
put-none b p = record { bytes = sym (store-none b p); ends = omega arith }

pub put_same : {b : Bytes} {p : ℕ} {c : Bytes} {q : ℕ} {v w : Bytes} → v ≡ w → Put b p c q v → Put b p c q w
put_same {b} {p} {c} {q} {v} {w} e h =
    record { bytes = h.bytes ∙ ap (store b p) e; ends = h.ends ∙ ap (λ (x : Bytes). p + length x) e }

pub put_then : {b : Bytes} {p : ℕ} {c : Bytes} {q : ℕ} {v : Bytes} {d : Bytes} {r : ℕ} {w : Bytes}
    → Put b p c q v → Put c q d r w → p + length v + length w ≤ length b → Put b p d r (v ++ w)
put_then {b} {p} {c} {q} {v} {d} {r} {w} h k room =
    record {
      bytes = k.bytes ∙ ap₂ (λ (x : Bytes) (n : ℕ). store x n w) h.bytes h.ends ∙ store-append b p v w room;
      ends = omega (arith, k.ends, h.ends, length-append v w);
    }

-- the same, with the room that the whole text asks
pub put_on : {b : Bytes} {p : ℕ} {c : Bytes} {q : ℕ} {v : Bytes} {d : Bytes} {r : ℕ} {w : Bytes}
    → Put b p c q v → Put c q d r w → p + length (v ++ w) ≤ length b → Put b p d r (v ++ w)
put_on {b} {p} {c} {q} {v} {d} {r} {w} h k room = put_then h k (omega (arith, length-append v w))

front-room : (b : Bytes) (p : ℕ) (v w : Bytes) → p + length (v ++ w) ≤ length b → p + length v ≤ length b
front-room b p v w room = omega (arith, length-append v w)

-- three texts, and six
pub put_three : {b c₁ c₂ c₃ v₁ v₂ v₃ : Bytes} {p q₁ q₂ q₃ : ℕ}
    → Put b p c₁ q₁ v₁ → Put c₁ q₁ c₂ q₂ v₂ → Put c₂ q₂ c₃ q₃ v₃
    → p + length (v₁ ++ v₂ ++ v₃) ≤ length b → Put b p c₃ q₃ (v₁ ++ v₂ ++ v₃)
put_three {b} {c₁} {c₂} {c₃} {v₁} {v₂} {v₃} {p} h₁ h₂ h₃ room =
    put_on (put_on h₁ h₂ (front-room b p (v₁ ++ v₂) v₃ room)) h₃ room

pub put_six : {b c₁ c₂ c₃ c₄ c₅ c₆ v₁ v₂ v₃ v₄ v₅ v₆ : Bytes} {p q₁ q₂ q₃ q₄ q₅ q₆ : ℕ}
    → Put b p c₁ q₁ v₁ → Put c₁ q₁ c₂ q₂ v₂ → Put c₂ q₂ c₃ q₃ v₃
    → Put c₃ q₃ c₄ q₄ v₄ → Put c₄ q₄ c₅ q₅ v₅ → Put c₅ q₅ c₆ q₆ v₆
    → p + length (v₁ ++ v₂ ++ v₃ ++ v₄ ++ v₅ ++ v₆) ≤ length b → Put b p c₆ q₆ (v₁ ++ v₂ ++ v₃ ++ v₄ ++ v₅ ++ v₆)
put_six {b} {c₁} {c₂} {c₃} {c₄} {c₅} {c₆} {v₁} {v₂} {v₃} {v₄} {v₅} {v₆} {p} h₁ h₂ h₃ h₄ h₅ h₆ room =
    let room₅ = front-room b p (v₁ ++ v₂ ++ v₃ ++ v₄ ++ v₅) v₆ room in
    let room₄ = front-room b p (v₁ ++ v₂ ++ v₃ ++ v₄) v₅ room₅ in
    let room₃ = front-room b p (v₁ ++ v₂ ++ v₃) v₄ room₄ in
    put_on (put_on (put_on (put_three h₁ h₂ h₃ room₃) h₄ room₄) h₅ room₅) h₆ room

pub put-length : {b : Bytes} {p : ℕ} {c : Bytes} {q : ℕ} {v : Bytes}
    → Put b p c q v → p + length v ≤ length b → length c ≡ length b
put-length {b} {p} {c} {q} {v} h room = ap length h.bytes ∙ length-store b p v room

pub record Rest (b : Bytes) (p : ℕ) (w : Bytes) (n : Bytes) (a : ℕ) (r : Bytes) : Type 0 where
  pub stored : store n a r ≡ store b p w
  pub ends : a + length r ≡ p + length w
  pub size : length n ≡ length b

pub rest-start : (b : Bytes) (p : ℕ) (w r : Bytes) → r ≡ w → Rest b p w b p r
rest-start b p w r e =
    record { stored = ap (store b p) e; ends = ap (λ (x : Bytes). p + length x) e; size = refl }

-- the place behind a text lies in the slice
pub put-within : {b : Bytes} {p : ℕ} {c : Bytes} {q : ℕ} {v : Bytes} → Put b p c q v → p + length v ≤ length b
    → (q ≤ length c) × (q ≡ length (take q c))
put-within {b} {p} {c} {q} {v} h room =
    let l : q ≤ length c = omega (arith, h.ends, put-length h room) in
    (l, sym (length-take-le q c l))

-- the text v that is put is the first of what is left
pub rest_put : {b : Bytes} {p : ℕ} {w n : Bytes} {a : ℕ} {r n' : Bytes} {a' : ℕ} {v r' : Bytes}
    → Rest b p w n a r → r ≡ v ++ r' → Put n a n' a' v → p + length w ≤ length b → Rest b p w n' a' r'
rest_put {b} {p} {w} {n} {a} {r} {n'} {a'} {v} {r'} h e k room =
    let l : length r ≡ length v + length r' = ap length e ∙ length-append v r' in
    let fits : a + length v + length r' ≤ length n = omega (arith, h.ends, h.size) in
    record {
      stored =
          ap₂ (λ (x : Bytes) (m : ℕ). store x m r') k.bytes k.ends ∙ store-append n a v r' fits
          ∙ ap (store n a) (sym e) ∙ h.stored;
      ends = omega (arith, h.ends, k.ends);
      size = put-length k (omega arith) ∙ h.size;
    }

pub rest_end : {b : Bytes} {p : ℕ} {w n : Bytes} {a : ℕ} {r : Bytes} → Rest b p w n a r → r ≡ [] → Put b p n a w
rest_end {b} {p} {w} {n} {a} {r} h e =
    record {
      bytes = sym (store-none n a) ∙ ap (store n a) (sym e) ∙ h.stored;
      ends = omega (arith, h.ends, ap length e);
    }

-- room for a piece of what is left
pub rest-room : {b : Bytes} {p : ℕ} {w n : Bytes} {a : ℕ} {r : Bytes} (v r' : Bytes)
    → Rest b p w n a r → r ≡ v ++ r' → p + length w ≤ length b → a + length v ≤ length n
rest-room {b} {p} {w} {n} {a} {r} v r' h e room =
    let l : length r ≡ length v + length r' = ap length e ∙ length-append v r' in
    omega (arith, h.ends, h.size)
