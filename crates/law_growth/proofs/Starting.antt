-- The start puts file and book into the relation of two images, and the end takes them out of it.
-- Assumes nothing.
use mathlib.Core.Path.{◌≡◌, refl, sym, ap, ap₂, ◌∙◌, subst}
use Prim.Native.Nat.{ℕ, zero, suc, ◌+◌, ◌-◌, ◌≤◌, ◌<◌}
use native.Mathlib.Omega.{arith}
use mathlib.Core.Bool.{Bool, true, false, cond, not, ◌&&◌}
use mathlib.Core.List.{List, [], ◌∷◌}
use mathlib.Core.Option.{Option, none, some, none-ne-some}
use lib.ListN.{length, get_or}
use lib.Dec.{leb, ltb, eqb}
use borrow.Author.Tests.{eq-eqb, eqb-true, leb-true, ltb-true, not-false}
use Rattle.spec_file.specs.Bytes.{Bytes, all_zero}
use Rattle.spec_file.specs.Limits.{points_field, free_field, version_field}
use Rattle.spec_file.specs.Image.{field, Layout, layout_of, slot, key_of, offset_of, vacant}
use Rattle.spec_file.specs.Search.{met, search, is_met}
use Rattle.spec_file.specs.Messages.{head_size}
use Rattle.spec_file.specs.Questions.{Question, ask, first_no, name_allowed}
use Rattle.spec_file.specs.Inspect.{taken, next_taken, Verdict, refused, sound, slot_bad, count_bad, check}
use Rattle.spec_compaction.specs.Compact.{is_sound}
use Rattle.spec_book.specs.Book.{Entry, Terms, Book, find, trimmed_all, space_for_all}
use Rattle.spec_book.specs.Reopened.{book_of}
use Rattle.law_file.proofs.Tests.{by_bool, by-eq, and_left, and_right, not-both}
use Rattle.law_file.proofs.Opened.{Opened, opened-facts, first_no-yes, first_no-opened}
use Rattle.law_file.proofs.Total.{total, term-le}
use Rattle.law_file.proofs.Table.{Taken, entry_of, weight, weigh}
use Rattle.law_file.proofs.Insert.{weigh-taken}
use Rattle.law_file.proofs.Verdict.{lowest-none, check-open, check-weight, check-findable}
use Rattle.law_file.proofs.Probe.{search-met}
use Rattle.law_agreement.proofs.File.{Allowed, allowed-zero, File, file-some, file-slots}
use Rattle.law_agreement.proofs.Reflect.{Reflects, Reflected}
use Rattle.law_agreement.proofs.Entries.{Distinct, find_none, find-here}
use Rattle.law_agreement.proofs.Trimmed.{trimmed_of, find-trimmed, distinct-trimmed, length-trimmed}
use Rattle.law_agreement.proofs.Checked.{file-check, entry-slot}
use Rattle.law_agreement.proofs.Reopened.{file-reflects}
use Rattle.law_agreement.proofs.Simple.{open₀, found_none, by-met}
use Rattle.spec_moves.specs.Moves.{Pair, active_space, same_kind, unused, second_fits, grow_number, lowest_slot}
use Rattle.spec_book.specs.Book.{grown_terms, grown_book, second_allowed}
use Rattle.law_growth.proofs.Joins.{joined, Joins}
use Rattle.law_growth.proofs.Moving.{Grown, GrownIn, own-layout}
use Rattle.law_growth.proofs.Versions.{same-heads, same-most}
use Rattle.law_growth.proofs.Sums.{active-space}

-- ---- an image without points

is-sound : (v : Verdict) → is_sound v ≡ true → v ≡ sound
unfolding is_sound
is-sound (refused n) e = absurd (not-both true refl (sym e))
is-sound sound e = refl
is-sound (slot_bad i) e = absurd (not-both true refl (sym e))
is-sound count_bad e = absurd (not-both true refl (sym e))

-- whoever wrote its bytes, and whatever numbers they are
module _ (img : Bytes) (ok : check img ≡ sound) (zero' : field img points_field ≡ 0) where
  abbrev g : Layout
  g = layout_of img

  facts : Opened img
  facts = opened-facts img (check-open img ok)

  no_slot : (i : ℕ) → i < g.N → Taken g img i → ⊥
  unfolding weight
  no_slot i l v =
      let w : weight g img (λ s. 1) ≡ 0 = sym (check-weight img ok) ∙ zero' in
      omega (
        arith,
        w,
        term-le (λ k. weigh g (λ s. 1) (slot g img k)) g.N i l,
        weigh-taken g (λ s. 1) (slot g img i) v,
      )

  some-slot : 0 < g.N
  unfolding layout_of
  some-slot = omega (arith, facts.slots-low)

  no-entry : {A : Type 0} (key s : Bytes) → Allowed g key → entry_of g img key ≡ some s → A
  no-entry key s a e =
      let w = entry-slot g img key s some-slot a e in
      absurd (no_slot w.0 w.1 w.2)

  pub empty-file : File g img
  empty-file =
      record {
        layout = refl;
        opened = facts;
        table = check-findable img ok;
        counted = check-weight img ok;
        messages = λ key s a e. no-entry key s a e;
        apart = λ key key' s s' a a' n e e' z z'. no-entry key s a e;
      }

no-entries : (es : List Entry) → length es ≡ 0 → es ≡ []
no-entries [] e = refl
no-entries (x ∷ es) e = absurd (omega arith)

-- ---- the start

module _ (old new : Bytes) (b : Book) (r : Reflects (layout_of old) old b) where
  abbrev G : Layout
  G = layout_of old

  abbrev H : Layout
  H = layout_of new

  terms-K : b.terms.K ≡ G.K
  terms-K = ap (λ (t : Terms). t.K) r.terms

  terms-N : b.terms.N ≡ G.N
  terms-N = ap (λ (t : Terms). t.N) r.terms

  terms-head : b.terms.head ≡ head_size G
  terms-head = ap (λ (t : Terms). t.head) r.terms

  space-is : active_space old ≡ space_for_all b.terms.head b.entries
  space-is = active-space old b r ∙ ap (λ (n : ℕ). space_for_all n b.entries) (sym terms-head)

  -- what 21 asks of the two kinds is what the book asks, of an image that can be opened
  kinds : unused new ≡ true → same_kind old new ≡ (eqb (head_size H) b.terms.head && eqb H.K b.terms.K)
  unfolding unused same_kind
  kinds u =
      let s = is-sound (check new) (and_left _ _ (and_left _ (eqb (field new free_field) H.D) u)) in
      let o = opened-facts new (check-open new s) in
      ap₂ (λ (x y : Bool). x && y)
      (same-heads new old o r.file.opened ∙ ap (eqb (head_size H)) (sym terms-head))
      (ap (eqb H.K) (sym terms-K))

  pub fits_both : second_fits old new ≡ second_allowed b new
  unfolding second_fits second_allowed
  fits_both =
      by_bool (unused new)
      (λ u. rw (kinds u, space-is, terms-N) refl)
      (λ u. rw u refl)

  pub start-number : grow_number old new ≡ first_no (ask 21 (second_allowed b new) ∷ [])
  unfolding grow_number
  start-number =
      first_no-opened old _ (open₀ r)
      ∙ first_no-yes 15 _ _ (ap is_sound (file-check G old r.file) ∙ (unfold is_sound in refl))
      ∙ ap (λ (x : Bool). first_no (ask 21 x ∷ [])) fits_both

  module _ (fits : second_allowed b new ≡ true) where
    abbrev kind : Bool
    kind = eqb (head_size H) b.terms.head && eqb H.K b.terms.K

    abbrev larger : Bool
    larger = ltb b.terms.N H.N

    abbrev space : Bool
    space = leb (space_for_all b.terms.head b.entries) (length new - H.D)

    parts : (unused new ≡ true) × (kind ≡ true) × (larger ≡ true) × (space ≡ true)
    unfolding second_allowed
    parts =
        let f : (unused new && kind && larger && space) ≡ true = fits in (
          and_left (unused new) kind
              (and_left (unused new && kind) larger (and_left (unused new && kind && larger) space f)),
          and_right (unused new) kind
              (and_left (unused new && kind) larger (and_left (unused new && kind && larger) space f)),
          and_right (unused new && kind) larger (and_left (unused new && kind && larger) space f),
          and_right (unused new && kind && larger) space f,
        )

    is-unused : (check new ≡ sound) × (field new points_field ≡ 0) × (field new free_field ≡ H.D)
    unfolding unused
    is-unused =
        let s = is_sound (check new) in
        let z = eqb (field new points_field) 0 in
        let x = eqb (field new free_field) H.D in (
          is-sound (check new) (and_left s z (and_left (s && z) x parts.0)),
          eqb-true _ _ (and_right s z (and_left (s && z) x parts.0)),
          eqb-true _ _ (and_right (s && z) x parts.0),
        )

    d₀ : Reflects H new (book_of new)
    d₀ = file-reflects new (empty-file new is-unused.0 is-unused.1)

    no-points : (book_of new).entries ≡ []
    no-points = no-entries _ (d₀.number ∙ is-unused.1)

    none-there : (name : Bytes) → find name (book_of new).entries ≡ none
    none-there name = ap (find name) no-points ∙ find_none name

    key-is : H.K ≡ b.terms.K
    key-is = eqb-true _ _ (and_right (eqb (head_size H) b.terms.head) _ parts.1)

    width_is : H.W ≡ G.W
    unfolding head_size
    width_is =
        let e : head_size H ≡ b.terms.head = eqb-true _ _ (and_left _ (eqb H.K b.terms.K) parts.1) in
        omega (arith, e, terms-head)

    nothing-used : (book_of new).used ≡ 0
    unfolding book_of
    nothing-used = omega (arith, is-unused.2)

    terms-is : grown_terms b.terms new ≡ (book_of new).terms
    unfolding grown_terms book_of
    terms-is = terms-eq (sym key-is) (sym (eqb-true (head_size H) b.terms.head (and_left _ _ parts.1))) most
      where
        terms-eq : {k k' e e' m m' : ℕ} → k ≡ k' → e ≡ e' → m ≡ m'
            → ◌≡◌ {A = Terms} (record { K = k; N = H.N; R = length new - H.D; head = e; most = m })
            (record { K = k'; N = H.N; R = length new - H.D; head = e'; most = m' })
        terms-eq x y z = cc

        most : b.terms.most ≡ (layout_of new).most
        most =
            ap (λ (t : Terms). t.most) r.terms
            ∙ same-most old new r.file.opened d₀.file.opened (sym width_is)

    joined-none : (f : Option Entry) → trimmed_of f ≡ joined f none
    joined-none none = refl
    joined-none (some e) = refl

    pub begun : Grown (record { old = old; new = new }) b (book_of new) (grown_book b new)
    unfolding grown_book
    begun =
        record {
          old = r;
          new = d₀;
          joins =
              record {
                terms = terms-is;
                number = length-trimmed b.entries ∙ omega (arith, d₀.number, is-unused.1);
                used = omega (
                  arith,
                  nothing-used,
                  ap (λ (t : Terms). space_for_all t.head b.entries) (sym terms-is),
                  ap (λ (n : ℕ). space_for_all n b.entries) head-is,
                );
                points = λ name.
                    find-trimmed name b.entries ∙ joined-none (find name b.entries)
                    ∙ ap (joined (find name b.entries)) (sym (none-there name));
                apart = λ name e q. none-there name;
                distinct = distinct-trimmed b.entries r.distinct;
                points-within = within;
                space-within = room;
              };
          key = sym terms-K ∙ sym key-is;
          width = sym width_is;
        }
      where
        head-is : b.terms.head ≡ (book_of new).terms.head
        head-is = unfold book_of in (sym (eqb-true (head_size (layout_of new)) _ (and_left _ _ parts.1)))

        within : length (trimmed_all b.entries) ≤ (grown_terms b.terms new).N
        within = unfold grown_terms in
            (omega (
              arith,
              length-trimmed b.entries,
              r.number,
              r.file.opened.points,
              file-slots r.file,
              terms-N,
              ltb-true b.terms.N (layout_of new).N parts.2,
            ))

        room : space_for_all b.terms.head b.entries ≤ (grown_terms b.terms new).R
        room = unfold grown_terms in (leb-true _ _ parts.3)

-- ---- the end

module _ (p : Pair) (c d b : Book) (r : Grown p c d b) (none_left : lowest_slot p.old ≡ none) where
  untaken : (i : ℕ) → i < (layout_of p.old).N → Taken (layout_of p.old) p.old i → ⊥
  unfolding lowest_slot next_taken taken
  untaken i l v =
      not-both (vacant (layout_of p.old) (slot (layout_of p.old) p.old i))
      (not-false _ (lowest-none (taken (layout_of p.old) p.old) ((layout_of p.old).N - 0) 0 none_left i
      (omega arith) (omega arith)))
      v

  -- the old image has no point
  no_name : (name : Bytes) → find name c.entries ≡ none
  no_name name =
      by_bool (name_allowed (layout_of p.old).K name)
      (λ a. by-met (layout_of p.old) p.old c r.old name
      (λ i m.
      let f = search-met (layout_of p.old) p.old name (file-some r.old.file) i m in
      absurd (untaken i f.0 (unfold vacant in (ap all_zero f.1 ∙ allowed-zero (layout_of p.old) name a))))
      (λ n. found_none (layout_of p.old) p.old c r.old name a n))
      (λ h. r.old.others name h)

  nothing : (es : List Entry) → ((name : Bytes) → find name es ≡ none) → es ≡ []
  nothing [] h = refl
  nothing (e ∷ es) h = absurd (none-ne-some e (sym (h e.name) ∙ find-here e es e.name refl))

  c-empty : c.entries ≡ []
  c-empty = nothing c.entries no_name

  same-all : (name : Bytes) → find name b.entries ≡ find name d.entries
  same-all name = r.joins.points name ∙ ap (λ (f : Option Entry). joined f (find name d.entries)) (no_name name)

  -- "when no point is left the old image is finished with"
  pub finished : Reflects (layout_of p.new) p.new b
  finished =
      record {
        file = r.new.file;
        terms = r.joins.terms ∙ r.new.terms;
        used = omega (arith, r.new.used, r.joins.used, none-used);
        number = omega (arith, r.joins.number, r.new.number, ap length c-empty);
        points = λ name a. r.new.points name a ∙ sym (same-all name);
        others = λ name h. same-all name ∙ r.new.others name h;
        distinct = r.joins.distinct;
      }
    where
      none-used : space_for_all d.terms.head c.entries ≡ 0
      none-used = unfold space_for_all in ap (space_for_all d.terms.head) c-empty
