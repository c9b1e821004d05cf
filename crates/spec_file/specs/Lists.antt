-- Lists of calls: "every list of add, delete, lookup and count calls", as document 01's third demand has them. Document
-- 02 lets lists hold more: crates/spec_book/specs/Steps.antt.
--     Call, call              a call with its arguments, and what it does to a file
--     answers, state_after     of a list of calls, each on the state that the last one left
-- Assumes nothing.
use Rattle.std.specs.Prelude.{ℕ, List, [], ◌∷◌}
use Rattle.spec_file.specs.Bytes.{Bytes}
use Rattle.spec_file.specs.Calls.{Answer, Outcome, add, delete, lookup, count}

-- keys and data of any length, modes any number
pub data Call : Type 0 where
  adding : Bytes → Bytes → ℕ → Call
  deleting : Bytes → Call
  looking : Bytes → Call
  counting : Call

unfoldable pub call : Call → Bytes → Outcome Bytes
call (adding key data' mode) img = add img key data' mode
call (deleting key) img = delete img key
call (looking key) img = lookup img key
call counting img = count img

-- the answers of a list, in order, and the state after the last; of the file and of the book alike
unfoldable pub answers : {A S : Type 0} → (A → S → Outcome S) → List A → S → List Answer
answers do' [] s = []
answers do' (c ∷ cs) s = (do' c s).answer ∷ answers do' cs (do' c s).after

unfoldable pub state_after : {A S : Type 0} → (A → S → Outcome S) → List A → S → S
state_after do' [] s = s
state_after do' (c ∷ cs) s = state_after do' cs (do' c s).after
