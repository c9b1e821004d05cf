-- Questions 1, 5, 6, 21, 22 and 16, then the list is filled, from the old image and behind that from the new one.
-- Assumes nothing.
use native.Mathlib.Omega.{arith}
use mathlib.Core.Path.{◌≡◌, refl, sym, ap, ap₂, ◌∙◌}
use Prim.Native.Nat.{ℕ, ◌+◌, ◌*◌, ◌≤◌}
use mathlib.Core.List.{List, ◌++◌}
use lib.ListN.{length}
use borrow.Author.Rules.{rules}
use Rattle.spec_file.specs.Bytes.{Bytes, store}
use Rattle.spec_file.specs.Limits.{most_slots}
use Rattle.spec_file.specs.Image.{layout_of}
use Rattle.spec_range.specs.Ranges.{selected, slot_numbers}
use Rattle.spec_moves.specs.Moves.{Pair}
use Rattle.spec_growth.specs.Growth.{grow_select_number}
use Rattle.law_file.proofs.Opened.{opened-facts}
use Rattle.law_file.proofs.Bytes.{length-store}
use Rattle.law_file.proofs.Stores.{store-append}
use Rattle.law_range.proofs.Chosen.{length-numbers}
use Rattle.law_range.proofs.Selected.{selected-few}
use Rattle.header_layout.specs.Shapes.{Open}
use Rattle.table_search.proofs.Headers.{header, layout-key, layout-slots}
use Rattle.call_select.specs.Ranged.{Ranged}
use Rattle.call_grow_select.proofs.Numbers.{Granted, grow-granted, grow-refused, grow-fills, numbers-append}
use Rattle.call_grow_select.proofs.select_pair.Statement.{statement}
use Rattle.call_grow_select.proofs.select_pair.Tie as tie

-- ---- the stages
abbrev pair : tie.Start → Pair
pair S = record { old = S.args.old.now; new = S.args.new.now }

abbrev start : tie.Else-number-ne0 → tie.Start
start c = c.before.before.before.before.before.before.before

accepted : (c : tie.Else-number-ne0)
    → let A = (start c).args in
    grow_select_number (pair (start c)) A.lowest.now A.highest.now (length A.list.now) ≡ 0
accepted c = sym c.select_pair_number-number.ensures ∙ c.if-number-ne0.false

granted : (c : tie.Else-number-ne0)
    → let A = (start c).args in
    Granted (pair (start c)) A.lowest.now A.highest.now (length A.list.now)
granted c =
    let A = (start c).args in
    grow-granted (pair (start c)) A.lowest.now A.highest.now (length A.list.now) (accepted c)

abbrev else-at-shape : tie.After-read_shape → tie.Else-number-ne0
else-at-shape c = c.before.before

old-open : (c : tie.After-read_shape) → Open (pair (start (else-at-shape c))).old c.read_shape.result
old-open c = record { accepted = (granted (else-at-shape c)).opened.first; shape = c.read_shape.ensures }

-- the slots that are listed of each image
abbrev first : tie.Else-number-ne0 → List ℕ
first c =
    let A = (start c).args in
    selected (layout_of A.old.now) A.old.now A.lowest.now A.highest.now

abbrev second : tie.Else-number-ne0 → List ℕ
second c =
    let A = (start c).args in
    selected (layout_of A.new.now) A.new.now A.lowest.now A.highest.now

-- after the old image's
abbrev shape-at-fill : tie.After-fill_list-listed → tie.After-read_shape
shape-at-fill c = c.before.before

abbrev else-at-fill : tie.After-fill_list-listed → tie.Else-number-ne0
else-at-fill c = c.before.before.before.before

-- how many they are
few : (c : tie.Else-number-ne0) → length (first c) ≤ (layout_of (pair (start c)).old).N
few c = let A = (start c).args in selected-few A.old.now A.lowest.now A.highest.now

few-second : (c : tie.Else-number-ne0) → length (second c) ≤ (layout_of (pair (start c)).new).N
few-second c = let A = (start c).args in selected-few A.new.now A.lowest.now A.highest.now

-- the list is as long as it was
same_size : (c : tie.Else-number-ne0) (list : Bytes) → list ≡ store (start c).args.list.now 0 (slot_numbers (first c))
    → length list ≡ length (start c).args.list.now
same_size c list e =
    ap length e
    ∙ length-store (start c).args.list.now 0 (slot_numbers (first c))
    (omega (arith, length-numbers (first c), few c, (granted c).room))

-- both lists behind each other are one
both : (c : tie.Else-number-ne0) (list after : Bytes) (n : ℕ)
    → list ≡ store (start c).args.list.now 0 (slot_numbers (first c)) → n ≡ length (first c)
    → after ≡ store list (4 * n) (slot_numbers (second c))
    → after ≡ store (start c).args.list.now 0 (slot_numbers (first c ++ second c))
both c list after n e en ea =
    let l = (start c).args.list.now in
    let a = slot_numbers (first c) in
    let b = slot_numbers (second c) in
    let at : 4 * n ≡ 0 + length a = omega (arith, length-numbers (first c), en) in
    let fits : 0 + length a + length b ≤ length l =
    omega (
      arith,
      length-numbers (first c),
      length-numbers (second c),
      few c,
      few-second c,
      (granted c).room,
    ) in
    ea ∙ ap₂ (λ (x : Bytes) (k : ℕ). store x k b) e at
    ∙ store-append l 0 a b fits
    ∙ ap (store l 0) (sym (numbers-append (first c) (second c)))

abbrev fill-at-shape2 : tie.After-read_shape-2 → tie.After-fill_list-listed
fill-at-shape2 c = c.before.before.before

new-open : (c : tie.After-read_shape-2)
    → Open (pair (start (else-at-fill (fill-at-shape2 c)))).new c.read_shape-2.result
new-open c =
    record { accepted = (granted (else-at-fill (fill-at-shape2 c))).opened.second; shape = c.read_shape-2.ensures }

-- N of both is small
small : (c : tie.Else-number-ne0)
    → ((layout_of (pair (start c)).old).N ≤ most_slots) × ((layout_of (pair (start c)).new).N ≤ most_slots)
unfolding layout_of
small c =
    let f = (granted c).opened in
    let p = pair (start c) in
    ((opened-facts p.old f.first).slots-high, (opened-facts p.new f.second).slots-high)

-- ---- the needs
select-pair-number-requires : tie.Need-select_pair_number-number-requires
select-pair-number-requires c κs = search rules

returns : tie.Need-returns-then-number-ne0
returns c =
    let S = c.before.before.before.before.before.before.before in
    let A = S.args in
    grow-refused (pair S) A.lowest.now A.highest.now A.list.now _ c.select_pair_number-number.ensures
    c.if-number-ne0.true

asked-positions-requires : tie.Need-asked_positions-asked-requires
asked-positions-requires c κs =
    let f = (granted c).ranges in
    (f.lowest-length ∙ sym f.highest-length, λ p l. f.ordered p (omega (arith, f.lowest-length)))

read-shape-requires : tie.Need-read_shape-requires
read-shape-requires c κs = (granted c.before).opened.first

fill-list-requires : tie.Need-fill_list-listed-requires
fill-list-requires c κs =
    let P = c.before in
    let E = else-at-shape P in
    let img = (start E).args.old.now in
    let s = P.read_shape.result in
    let f = granted E in
    let k = layout-key img s P.read_shape.ensures in (
      old-open P,
      record {
        lowest-length = f.ranges.lowest-length ∙ k;
        highest-length = f.ranges.highest-length ∙ k;
        asked = P.asked_positions-asked.ensures;
      },
      omega (arith, f.room, layout-slots img s P.read_shape.ensures),
    )

read-shape-requires-2 : tie.Need-read_shape-requires-2
read-shape-requires-2 c κs = (granted (else-at-fill c.before.before)).opened.second

mul-fill-behind : tie.Need-overflow_mul-listed
mul-fill-behind c =
    let F = fill-at-shape2 c.before in
    let E = else-at-fill F in
    omega (arith, F.fill_list-listed.ensures.0, few E, small E)

fill-behind-requires : tie.Need-fill_behind-further-requires
fill-behind-requires c κs =
    let P = c.before in
    let F = fill-at-shape2 P in
    let E = else-at-fill F in
    let img = (start E).args.new.now in
    let s = P.read_shape-2.result in
    let f = granted E in
    let k = sym f.opened.key-is ∙ layout-key img s P.read_shape-2.ensures in (
      new-open P,
      record {
        lowest-length = f.ranges.lowest-length ∙ k;
        highest-length = f.ranges.highest-length ∙ k;
        asked = (shape-at-fill F).asked_positions-asked.ensures;
      },
      omega (
        arith,
        f.room,
        layout-slots img s P.read_shape-2.ensures,
        F.fill_list-listed.ensures.0,
        few E,
        same_size E _ F.fill_list-listed.ensures.1,
      ),
    )

abbrev shape2-at-end : tie.After-slice_known-3-1 → tie.After-read_shape-2
shape2-at-end c = c.before.before.before.before

abbrev fill-at-end : tie.After-slice_known-3-1 → tie.After-fill_list-listed
fill-at-end c = c.before.before.before.before.before.before.before

cast-first : tie.Need-overflow_cast-first
cast-first c =
    let F = fill-at-end c in
    let E = else-at-fill F in
    omega (arith, F.fill_list-listed.ensures.0, few E, small E)

cast-second : tie.Need-overflow_cast-second
cast-second c =
    let E = else-at-fill (fill-at-end c) in
    omega (arith, c.fill_behind-further.ensures.0, few-second E, small E)

same_length : tie.Need-shape_of-list
same_length c = search rules

returns-2 : tie.Need-returns
returns-2 c =
    let B = c.fill_behind-further.ensures in
    let F = fill-at-end c in
    let E = else-at-fill F in
    let A = (start E).args in
    grow-fills (pair (start E)) A.lowest.now A.highest.now A.list.now (accepted E) _ _ _ _ refl
    F.fill_list-listed.ensures.0 B.0
    (both E _ _ _ F.fill_list-listed.ensures.1 F.fill_list-listed.ensures.0 B.1)

pub select_pair_spec : {M : Type 1} → statement M
select_pair_spec =
    tie.close
    (tie.spec
    select-pair-number-requires
    returns
    asked-positions-requires
    read-shape-requires
    fill-list-requires
    read-shape-requires-2
    mul-fill-behind
    fill-behind-requires
    cast-first
    cast-second
    same_length
    returns-2)
