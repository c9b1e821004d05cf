-- Cases of the list of changes, of the journal, and of recovery, most on images of a few bytes; each holds by
-- computation.
-- Assumes nothing.
use mathlib.Core.Path.{◌≡◌, refl}
use Prim.Native.Nat.{ℕ}
use mathlib.Core.List.{[], ◌∷◌, ◌++◌}
use Rattle.spec_file.specs.Bytes.{Bytes, zeros}
use Rattle.spec_file.specs.Calls.{Outcome, plain}
use Rattle.spec_file.specs.Lists.{adding}
use Rattle.spec_changes.specs.Changes.{Pair, joined, runs, pair_bytes, changes_in, copied, list_allowed, work_allowed, worked_number, listed}
use Rattle.spec_changes.specs.Journal.{new_bytes, content, mark_place, mark, journal_allowed, Disk, put, written, all_written, put_all, stretches, to_images, set_mark, updates, spoilt_bytes, spoilt_block, spoilt, cut_after, pair_count, pairs_from, pairs_of, bytes_start, blocks, blocks_of, total, content_inside, in_order, is_marked, journal_sound, recover_number, recovered, recoveries, journaled_number, journaled}
use Rattle.spec_file.proofs.CasesBase.{definitions, fresh, after, one}

unfoldable pub changes : ℕ
unfolding definitions joined runs pair_bytes changes_in copied list_allowed work_allowed worked_number listed
changes = 0

unfoldable pub journals : ℕ
unfolding changes new_bytes content mark_place mark journal_allowed put written all_written put_all stretches to_images
    set_mark updates spoilt_bytes spoilt_block spoilt cut_after pair_count pairs_from pairs_of bytes_start blocks blocks_of total
    content_inside in_order is_marked journal_sound recover_number recovered recoveries journaled_number
    journaled
journals = 0

abbrev pair : ℕ → ℕ → Pair
pair at size = record { at = at; size = size }

-- ---- Job 8: the runs

-- bytes 1, 3 and 4 changed; byte 2, between them, kept its value
two_runs : runs 0 (1 ∷ 2 ∷ 3 ∷ 4 ∷ 5 ∷ 6 ∷ []) (1 ∷ 9 ∷ 3 ∷ 8 ∷ 7 ∷ 6 ∷ []) ≡ pair 1 1 ∷ pair 3 2 ∷ []
unfolding changes
two_runs = refl

-- the first byte, and the last
ends : runs 0 (1 ∷ 2 ∷ 3 ∷ []) (0 ∷ 2 ∷ 0 ∷ []) ≡ pair 0 1 ∷ pair 2 1 ∷ []
unfolding changes
ends = refl

every : runs 0 (1 ∷ 2 ∷ 3 ∷ []) (0 ∷ 0 ∷ 0 ∷ []) ≡ pair 0 3 ∷ []
unfolding changes
every = refl

nothing : runs 0 (1 ∷ 2 ∷ 3 ∷ []) (1 ∷ 2 ∷ 3 ∷ []) ≡ []
unfolding changes
nothing = refl

-- A first message: C; X's last byte and all of M, one run; the key; of the offset the one byte that is not 0; letter;
-- length and text.
first-add : runs 0 (fresh 8192 4) (after (adding one (80 ∷ []) 1 ∷ []) (fresh 8192 4))
    ≡ pair 23 1 ∷ pair 55 5 ∷ pair 2063 1 ∷ pair 2066 1 ∷ pair 4096 1 ∷ pair 4099 2 ∷ []
unfolding changes fresh after
first-add = refl

-- ---- Job 8: the list. A call that makes bytes 1 and 3 of four bytes 9; one that is refused with 7.

old : Bytes
old = 1 ∷ 2 ∷ 3 ∷ 4 ∷ []

new : Bytes
new = 1 ∷ 9 ∷ 3 ∷ 9 ∷ []

nines : Bytes → Outcome Bytes
unfolding definitions
nines img = record { after = new; answer = plain 0 }

refuses : Bytes → Outcome Bytes
unfolding definitions
refuses img = record { after = img; answer = plain 7 }

keeps : Bytes → Outcome Bytes
unfolding definitions
keeps img = record { after = img; answer = plain 0 }

-- two pairs, and the byte behind them as it was
both-fit : listed nines old 4 (zeros 16 ++ (77 ∷ []))
    ≡ record {
      after = new;
      list = 0 ∷ 0 ∷ 0 ∷ 1 ∷ 0 ∷ 0 ∷ 0 ∷ 1 ∷ 0 ∷ 0 ∷ 0 ∷ 3 ∷ 0 ∷ 0 ∷ 0 ∷ 1 ∷ 77 ∷ [];
      number = 0;
      pairs = 2;
    }
unfolding changes old new nines
both-fit = refl

-- "If the pairs don't fit, the list is the single pair 0, L"
too_many : listed nines old 4 (zeros 8 ++ (77 ∷ 77 ∷ 77 ∷ 77 ∷ 77 ∷ 77 ∷ 77 ∷ []))
    ≡ record {
      after = new;
      list = 0 ∷ 0 ∷ 0 ∷ 0 ∷ 0 ∷ 0 ∷ 0 ∷ 4 ∷ 77 ∷ 77 ∷ 77 ∷ 77 ∷ 77 ∷ 77 ∷ 77 ∷ [];
      number = 0;
      pairs = 1;
    }
unfolding changes old new nines
too_many = refl

none-changed : listed keeps old 4 (zeros 8) ≡ record { after = old; list = zeros 8; number = 0; pairs = 0 }
unfolding changes old keeps
none-changed = refl

-- "A list slice below 8 bytes, or a working slice below L, is answered 16, before question 1."
short-list : listed refuses old 4 (zeros 7) ≡ record { after = old; list = zeros 7; number = 16; pairs = 0 }
unfolding changes old refuses
short-list = refl

short-work : listed refuses old 3 (zeros 8) ≡ record { after = old; list = zeros 8; number = 16; pairs = 0 }
unfolding changes old refuses
short-work = refl

refused-first : listed refuses old 4 (zeros 8) ≡ record { after = old; list = zeros 8; number = 7; pairs = 0 }
unfolding changes old refuses
refused-first = refl

-- ---- Job 9: the journal. Content: count 2, pairs 1, 1 and 3, 1, new bytes 9 and 9.

held : Bytes
held = 0 ∷ 0 ∷ 0 ∷ 2 ∷ 0 ∷ 0 ∷ 0 ∷ 1 ∷ 0 ∷ 0 ∷ 0 ∷ 1 ∷ 0 ∷ 0 ∷ 0 ∷ 3 ∷ 0 ∷ 0 ∷ 0 ∷ 1 ∷ 9 ∷ 9 ∷ []

-- one byte between content and mark stays
journal-filled : journaled nines old 4 (zeros 22 ++ (77 ∷ 0 ∷ []))
    ≡ record { after = new; journal = held ++ (77 ∷ 0 ∷ []); number = 0 }
unfolding journals old new nines held
journal-filled = refl

-- content and mark need 23 bytes
just-fits : journaled_number nines old 4 (zeros 23) ≡ 0
unfolding journals old new nines
just-fits = refl

too_short : journaled nines old 4 (zeros 22) ≡ record { after = old; journal = zeros 22; number = 17 }
unfolding journals old new nines
too_short = refl

still_marked : journaled nines old 4 (zeros 22 ++ (1 ∷ []))
    ≡ record { after = old; journal = zeros 22 ++ (1 ∷ []); number = 17 }
unfolding journals old new nines
still_marked = refl

-- 17 after all other questions, 16 before them
number-first : journaled_number refuses old 4 [] ≡ 7
unfolding journals old refuses
number-first = refl

work-first : journaled_number refuses old 3 [] ≡ 16
unfolding journals old refuses
work-first = refl

-- no byte changed: the count 0, and the mark
empty-content : journaled_number keeps old 4 (zeros 5) ≡ 0
unfolding journals old keeps
empty-content = refl

no-mark : journaled_number keeps old 4 (zeros 4) ≡ 17
unfolding journals old keeps
no-mark = refl

-- ---- Job 9: recovery

abbrev disk : Bytes → Bytes → Disk
disk img j = record { image = img; journal = j }

rewrites : recovered (disk old (held ++ (165 ∷ []))) ≡ disk new (held ++ (0 ∷ []))
unfolding journals old new held
rewrites = refl

-- any other mark: the image stays, the mark becomes 0
leaves : recovered (disk old (held ++ (164 ∷ []))) ≡ disk old (held ++ (0 ∷ []))
unfolding journals old held
leaves = refl

-- 18 on an image of three bytes, which the second pair leaves, and nothing changed
leaves-image : recovered (disk (1 ∷ 2 ∷ 3 ∷ []) (held ++ (165 ∷ []))) ≡ disk (1 ∷ 2 ∷ 3 ∷ []) (held ++ (165 ∷ []))
unfolding journals held
leaves-image = refl

bad-journal : recover_number 3 (held ++ (165 ∷ [])) ≡ 18
unfolding journals held
bad-journal = refl

-- a pair that starts before the last one's end, and one that starts at it
abbrev pairs : ℕ → Bytes
pairs at = 0 ∷ 0 ∷ 0 ∷ 2 ∷ 0 ∷ 0 ∷ 0 ∷ 1 ∷ 0 ∷ 0 ∷ 0 ∷ 1 ∷ 0 ∷ 0 ∷ 0 ∷ at ∷ 0 ∷ 0 ∷ 0 ∷ 1 ∷ 9 ∷ 9 ∷ 165 ∷ []

out_of_order : recover_number 4 (pairs 1) ≡ 18
unfolding journals
out_of_order = refl

touching : recover_number 4 (pairs 2) ≡ 0
unfolding journals
touching = refl

-- content that reaches the mark: the second new byte would stand there; a count that lies
reaches-mark : recover_number 4 (0 ∷ 0 ∷ 0 ∷ 1 ∷ 0 ∷ 0 ∷ 0 ∷ 0 ∷ 0 ∷ 0 ∷ 0 ∷ 2 ∷ 9 ∷ 165 ∷ []) ≡ 18
unfolding journals
reaches-mark = refl

lying-count : recover_number 4 (0 ∷ 0 ∷ 1 ∷ 0 ∷ 165 ∷ []) ≡ 18
unfolding journals
lying-count = refl

marked-alone : recover_number 4 (165 ∷ []) ≡ 18
unfolding journals
marked-alone = refl

empty-journal : recover_number 4 [] ≡ 18
unfolding journals
empty-journal = refl

one_byte : recovered (disk old (7 ∷ [])) ≡ disk old (0 ∷ [])
unfolding journals old
one_byte = refl

-- ---- Job 9: a cut in each of the five writes; the sixth is none

cut : ℕ → ℕ → Bytes
unfolding journals old new
cut n byte = (recovered (cut_after n (λ i. byte) (updates old new (zeros 23)) (disk old (zeros 23)))).image

-- content, and the mark half-way: the byte that it leaves decides
cut-content : cut 0 165 ≡ old
unfolding cut journals old
cut-content = refl

cut-mark : cut 1 165 ≡ new
unfolding cut journals new
cut-mark = refl

cut-mark-other : cut 1 164 ≡ old
unfolding cut journals old
cut-mark-other = refl

-- the first stretch, the second, and the mark's end
cut-first : cut 2 55 ≡ new
unfolding cut journals new
cut-first = refl

cut-second : cut 3 55 ≡ new
unfolding cut journals new
cut-second = refl

cut-unmark : cut 4 165 ≡ new
unfolding cut journals new
cut-unmark = refl

uncut : cut 5 55 ≡ new
unfolding cut journals new
uncut = refl

-- ---- Job 9: a recovery that is cut, in the first stretch and in the mark, and the next one

cut_again : ℕ → ℕ → Bytes
unfolding journals old held
cut_again n byte =
    let d : Disk = disk old (held ++ (165 ∷ [])) in
    (recovered (cut_after n (λ i. byte) (recoveries d.journal) d)).image

again-first : cut_again 0 55 ≡ new
unfolding cut_again journals old new held
again-first = refl

again-mark : cut_again 2 165 ≡ new
unfolding cut_again journals old new held
again-mark = refl
