-- Two books joined: the book of the old image and that of the new one are together the book of the list.
--     Joins c d b       c of the old image, d of the new one, b of the list
--     joins-move        a point that moves from c to d; b stays
--     joins-enter, joins-remove     an entry of d, of a name that c does not have, entered or removed in d and b alike
-- Assumes nothing.
use mathlib.Core.Path.{◌≡◌, refl, sym, ap, ◌∙◌}
use Prim.Native.Nat.{ℕ, suc, ◌+◌, ◌≤◌}
use native.Mathlib.Omega.{arith}
use mathlib.Core.List.{List, [], ◌∷◌}
use mathlib.Core.Option.{Option, none, some, none-ne-some}
use lib.ListN.{length}
use Rattle.spec_file.specs.Bytes.{Bytes}
use Rattle.spec_book.specs.Book.{Entry, Terms, Book, find, without, with_entry, entered, trimmed, space_for, space_for_all}
use Rattle.law_file.proofs.Bytes.{by-same}
use Rattle.law_agreement.proofs.Entries.{Distinct, removed, find-same, find-without-other, find-without-same, distinct_without, length_without, find-with_entry, find-with_entry-other, distinct-with_entry, length-with_entry-new, length-with_entry-old}
use Rattle.law_agreement.proofs.Spaces.{space-without}

-- what the list's book has of a name: old's entry after the compaction step, else new's
abbrev pub joined : Option Entry → Option Entry → Option Entry
joined none f = f
joined (some e) f = some (trimmed e)

pub record Joins (c d b : Book) : Type 0 where
  pub terms : b.terms ≡ d.terms
  pub number : length b.entries ≡ length c.entries + length d.entries
  pub used : b.used ≡ d.used + space_for_all d.terms.head c.entries
  pub points : (name : Bytes) → find name b.entries ≡ joined (find name c.entries) (find name d.entries)
  pub apart : (name : Bytes) (e : Entry) → find name c.entries ≡ some e → find name d.entries ≡ none
  pub distinct : Distinct b.entries
  -- room for what is still to move
  pub points-within : length b.entries ≤ b.terms.N
  pub space-within : b.used ≤ b.terms.R

pub by-find {ℓ} : {A : Type ℓ} (f : Option Entry) → (f ≡ none → A) → ((e : Entry) → f ≡ some e → A) → A
by-find none n y = n refl
by-find (some e) n y = y e refl

module _ (c d b : Book) (j : Joins c d b) (key : Bytes) where
  -- ---- a move
  module _ (dc : Distinct c.entries) (e : Entry) (q : find key c.entries ≡ some e) (t : Entry) (n : t.name ≡ key)
      (is : some (trimmed e) ≡ some t) (more : ℕ) (m : more ≡ space_for d.terms.head e.text) where
    absent : find t.name d.entries ≡ none
    absent = ap (λ (k : Bytes). find k d.entries) n ∙ j.apart key e q

    found-t : find key (with_entry t d.entries) ≡ some t
    found-t = ap (λ (k : Bytes). find k (with_entry t d.entries)) (sym n) ∙ find-with_entry t d.entries

    pub joins-move : Joins (removed key c) (entered d t more) b
    unfolding entered
    joins-move =
        record {
          terms = j.terms;
          number = omega (
            arith,
            j.number,
            length_without key c.entries e q,
            length-with_entry-new t d.entries absent,
          );
          used = omega (arith, j.used, m, space-without d.terms.head key c.entries e q);
          points = λ name. by-same name key
              (λ s.
              j.points name
              ∙ ap (λ (k : Bytes). joined (find k c.entries) (find k d.entries)) s
              ∙ ap (λ (f : Option Entry). joined f (find key d.entries)) q
              ∙ is ∙ sym found-t
              ∙ ap (λ (f : Option Entry). joined f (find key (with_entry t d.entries)))
              (sym (find-without-same key c.entries dc))
              ∙ ap (λ (k : Bytes). joined (find k (without key c.entries)) (find k (with_entry t d.entries)))
              (sym s))
              (λ s.
              j.points name
              ∙ ap (λ (f : Option Entry). joined f (find name d.entries))
              (sym (find-without-other key name c.entries s))
              ∙ ap (joined (find name (without key c.entries)))
              (sym (find-with_entry-other t d.entries name (λ r. s (r ∙ n)))));
          apart = λ name x f. by-same name key
              (λ s. absurd (none-ne-some x
              (sym (find-without-same key c.entries dc)
              ∙ ap (λ (k : Bytes). find k (without key c.entries)) (sym s) ∙ f)))
              (λ s.
              find-with_entry-other t d.entries name (λ r. s (r ∙ n))
              ∙ j.apart name x (sym (find-without-other key name c.entries s) ∙ f));
          distinct = j.distinct;
          points-within = j.points-within;
          space-within = j.space-within;
        }

  -- ---- a name that the old image does not have
  module _ (a : find key c.entries ≡ none) where
    pub same-find : find key b.entries ≡ find key d.entries
    same-find = j.points key ∙ ap (λ (f : Option Entry). joined f (find key d.entries)) a

    -- the same entry in both
    module _ (e : Entry) (n : e.name ≡ key) (more : ℕ) where
      at_name : (es : List Entry) → find e.name es ≡ find key es
      at_name es = ap (λ (k : Bytes). find k es) n

      grows : length (with_entry e b.entries) ≡ length c.entries + length (with_entry e d.entries)
      grows =
          by-find (find key d.entries)
          (λ h. omega (
            arith,
            j.number,
            length-with_entry-new e b.entries (at_name b.entries ∙ same-find ∙ h),
            length-with_entry-new e d.entries (at_name d.entries ∙ h),
          ))
          (λ x h. omega (
            arith,
            j.number,
            length-with_entry-old e b.entries x (at_name b.entries ∙ same-find ∙ h),
            length-with_entry-old e d.entries x (at_name d.entries ∙ h),
          ))

      pub joins-enter : length (with_entry e b.entries) ≤ b.terms.N → b.used + more ≤ b.terms.R
          → Joins c (entered d e more) (entered b e more)
      unfolding entered
      joins-enter lo hi =
          record {
            terms = j.terms;
            number = grows;
            used = omega (arith, j.used);
            points = λ name. by-same name key
                (λ s.
                ap (λ (k : Bytes). find k (with_entry e b.entries)) (s ∙ sym n)
                ∙ find-with_entry e b.entries
                ∙ sym (find-with_entry e d.entries)
                ∙ ap (λ (k : Bytes). find k (with_entry e d.entries)) n
                ∙ ap (λ (f : Option Entry). joined f (find key (with_entry e d.entries))) (sym a)
                ∙ ap (λ (k : Bytes). joined (find k c.entries) (find k (with_entry e d.entries))) (sym s))
                (λ s.
                find-with_entry-other e b.entries name (λ r. s (r ∙ n))
                ∙ j.points name
                ∙ ap (joined (find name c.entries))
                (sym (find-with_entry-other e d.entries name (λ r. s (r ∙ n)))));
            apart = λ name x f. find-with_entry-other e d.entries name
                (λ r. none-ne-some x (sym a ∙ ap (λ (k : Bytes). find k c.entries) (sym n ∙ sym r) ∙ f))
                ∙ j.apart name x f;
            distinct = distinct-with_entry e b.entries j.distinct;
            points-within = lo;
            space-within = hi;
          }

    -- gone from both
    pub joins-remove : Distinct d.entries → (e : Entry) → find key d.entries ≡ some e
        → Joins c (removed key d) (removed key b)
    joins-remove dd e q =
        record {
          terms = j.terms;
          number = omega (
            arith,
            j.number,
            length_without key b.entries e (same-find ∙ q),
            length_without key d.entries e q,
          );
          used = j.used;
          points = λ name. by-same name key
              (λ s.
              ap (λ (k : Bytes). find k (without key b.entries)) s
              ∙ find-without-same key b.entries j.distinct
              ∙ sym (find-without-same key d.entries dd)
              ∙ ap (λ (f : Option Entry). joined f (find key (without key d.entries))) (sym a)
              ∙ ap (λ (k : Bytes). joined (find k c.entries) (find k (without key d.entries))) (sym s))
              (λ s.
              find-without-other key name b.entries s
              ∙ j.points name
              ∙ ap (joined (find name c.entries)) (sym (find-without-other key name d.entries s)));
          apart = λ name x f.
              find-without-other key name d.entries
              (λ r. none-ne-some x (sym a ∙ ap (λ (k : Bytes). find k c.entries) (sym r) ∙ f))
              ∙ j.apart name x f;
          distinct = distinct_without key b.entries j.distinct;
          points-within = omega (arith, j.points-within, length_without key b.entries e (same-find ∙ q));
          space-within = j.space-within;
        }
