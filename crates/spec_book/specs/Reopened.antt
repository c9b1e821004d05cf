-- Document 02, Job 3: "The book to start from is read off a sound image: entries from taken slots, text from active
-- messages, held from the length at the offset, U = X − D. Every list of calls on such an image then agrees with it."
--     book_of img         the book that an image's bytes give
--     terms_of            the book's terms of a new file
--     Starts s b         where a list of calls may start: an accepted create, the new book; a sound image, its own
-- Assumes nothing.
use Rattle.std.specs.Prelude.{ℕ, zero, suc, ◌+◌, ◌-◌, ◌<◌, ◌≡◌, cond, not, List, [], ◌∷◌, ◌⊎◌, length, get_or, eqb}
use Rattle.spec_file.specs.Bytes.{Bytes}
use Rattle.spec_file.specs.Limits.{free_field, length_width, most_length}
use Rattle.spec_file.specs.Image.{field, Layout, layout_of, data_start, slot, key_of, offset_of}
use Rattle.spec_file.specs.Create.{slots_asked}
use Rattle.spec_file.specs.Messages.{head_size, shown, held}
use Rattle.spec_file.specs.Calls.{create}
use Rattle.spec_file.specs.Inspect.{taken, check, sound}
use Rattle.spec_book.specs.Steps.{State, alone, growing}
use Rattle.spec_book.specs.Book.{Book, Terms, Entry, new_book}

-- "text from active messages, held from the length at the offset"; Job 4: "an entry notes whether it has an offset"
unfoldable pub entry_at : Layout → Bytes → ℕ → Entry
entry_at g img i =
    let o : ℕ = offset_of g (slot g img i) in
    record { name = key_of g (slot g img i); text = shown g img o; held = held g img o; offset? = not (eqb o 0) }

-- "entries from taken slots": those from slot i on, of the slots that are left
unfoldable pub entries_from : Layout → Bytes → ℕ → ℕ → List Entry
entries_from g img zero i = []
entries_from g img (suc left) i =
    cond (taken g img i) (entry_at g img i ∷ entries_from g img left (suc i)) (entries_from g img left (suc i))

-- "U = X − D"; the terms are the header's
unfoldable pub book_of : Bytes → Book
book_of img =
    let g : Layout = layout_of img in
    record {
      terms = record { K = g.K; N = g.N; R = length img - g.D; head = head_size g; most = g.most };
      entries = entries_from g img g.N 0;
      used = field img free_field - g.D;
    }

-- ---- the two starts

-- "N and K are as created; R = L − D."
unfoldable pub terms_of : ℕ → ℕ → ℕ → Terms
terms_of L K N = record { K = K; N = N; R = L - data_start K N; head = length_width + 1; most = most_length }

pub record Created (img : Bytes) (b : Book) : Type 0 where
  pub slice : Bytes
  pub K : ℕ
  pub N : ℕ
  pub seed : ℕ
  pub accepted : (create slice K N seed).answer.number ≡ 0
  pub file-is : img ≡ (create slice K N seed).after
  pub book-is : b ≡ new_book (terms_of (length slice) K (slots_asked N))

-- any image of bytes that the check calls sound, whoever made it
pub record Reopened (img : Bytes) (b : Book) : Type 0 where
  pub bytes : (i : ℕ) → get_or img i 0 < 256
  pub checked : check img ≡ sound
  pub book-is : b ≡ book_of img

-- growth begins within a list, on one image
unfoldable pub Starts : State → Book → Type 0
Starts (alone img) b = Created img b ⊎ Reopened img b
Starts (growing p) b = ⊥
