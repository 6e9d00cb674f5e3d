-- The effect of moving an item of a list to another index.
use Rattle.std.proofs.Common.{◌≡◌, ℕ, zero, suc, ◌+◌, ◌-◌, ◌%◌, ◌<◌, ◌≤◌, inl, inr, arith, List, [], ◌∷◌, ◌++◌, length, get_or, map, ltb}
use Rattle.std.proofs.Common.{if◌then◌else◌, Option, Some, None, refl, sym, ap, subst, ◌∙◌}
use Rattle.std.specs.Prelude.{option_map}
use Rattle.std.specs.List.{insert, remove}
use Rattle.std.proofs.lemmas.Bool.{cases_eq, cases_lt}
use Rattle.std.proofs.lemmas.Bool.Decides.{nat_tests}
use Rattle.std.proofs.lemmas.List.{length-map, get_or-map, map-append, append-nil, take-map, drop-map}
use Rattle.std.proofs.lemmas.List.Edits.{length-insert, length-remove, get_or-insert_above, get_or-insert_at, get_or-insert_below, insert_end, remove-append_right}
use Rattle.std.proofs.lemmas.List.Elements.{All-from_get_or}
use Rattle.ijson_table.specs.declared.slot.Slot.{Slot}
use Rattle.ijson_table.specs.Crowd.{distance}
use Rattle.ijson_table.specs.Slots.{after, below, displaced, displacement, home_at, resident, times}
use Rattle.ijson_table.specs.Store.{keys_of, IsDistinct}
use Rattle.ijson_table.specs.private.Holds.{one_if, Holds}
use Rattle.ijson_table.specs.private.Insertion.{IsTableBut, IsTableOf}
use Rattle.ijson_table.specs.private.KeptHash.{kept}
use Rattle.ijson_table.specs.private.Moving.{moved, renumbered}
use Rattle.ijson_table.specs.private.SlotHashes.{blank, coded_position, position_in, positions, HasHash, HaveHashes}
use Rattle.ijson_table.proofs.slots.HashesInSlots.{hashes-at}
use Rattle.ijson_table.proofs.slots.Residents.{times-cons, times-nil}
use Rattle.ijson_table.proofs.arithmetic.Circular.{after-below}
use Rattle.ijson_table.proofs.pairs.DistinctKeys.{apart, distinct}
use Rattle.ijson_table.proofs.shifting.ListShiftOut.{raise, get_or-remove, map-remove}

-- Moving an item from `from` to `to` and back keeps each index.
moved-back : (from to i : ℕ) → moved to from (moved from to i) ≡ i
moved-back from to i = grind (arith, nat_tests)

-- The list after the item `x` at index `from` is moved to index `to`.
abbrev pub relocated : {X : Type 0} → List X → ℕ → ℕ → X → List X
relocated xs from to x = insert (remove xs from) to x

-- Mapping and inserting commute.
map-insert : {X Y : Type 0} (f : X → Y) (xs : List X) (i : ℕ) (x : X) → map f (insert xs i x) ≡ insert (map f xs) i (f x)
map-insert f xs i x = map-append f _ _ ∙ (λ k. sym (take-map f i xs) k ++ f x ∷ sym (drop-map f i xs) k)

pub map-relocated : {X Y : Type 0} (f : X → Y) (xs : List X) (from to : ℕ) (x : X)
    → map f (relocated xs from to x) ≡ relocated (map f xs) from to (f x)
map-relocated f xs from to x = map-insert f (remove xs from) to x ∙ ap (λ ys. insert ys to (f x)) (map-remove f xs from)

module _ {X : Type 0} (xs : List X) (from to : ℕ) (x : X) (lf : from < length xs) (lt : to < length xs) where
  abbrev pub rest : List X
  rest = remove xs from

  fits : to ≤ length rest
  fits = omega (arith, lt, length-remove xs from lf)

  pub length-relocated : length (relocated xs from to x) ≡ length xs
  length-relocated = omega (arith, length-insert rest to x fits, length-remove xs from lf)

  -- After the move, each item is at its `moved` index.
  pub get_or-relocated : (i : ℕ) (d : X) → x ≡ get_or xs from d → get_or (relocated xs from to x) (moved from to i) d ≡ get_or xs i d
  get_or-relocated i d is = elim (cases_eq i from) [
    | inl same ↦
        let there : moved from to i ≡ to = grind (arith, nat_tests, same) in
        ap (λ n. get_or (relocated xs from to x) n d) there ∙ (get_or-insert_at rest to x d fits ∙ is ∙ ap (λ n. get_or xs n d) (sym same))
    | inr other ↦
        let k : ℕ = if ltb i from then i else i - 1 in
        let raised : raise from k ≡ i = grind (arith, nat_tests, other) in
        let read : get_or rest k d ≡ get_or xs i d = get_or-remove xs from k d lf ∙ ap (λ n. get_or xs n d) raised in
        elim (cases_lt k to) [
          | inl before ↦
              let there : moved from to i ≡ k = grind (arith, nat_tests, other, before) in
              ap (λ n. get_or (relocated xs from to x) n d) there ∙ get_or-insert_below rest to x d k before fits ∙ read
          | inr past ↦
              let there : moved from to i ≡ k + 1 = grind (arith, nat_tests, other, past) in
              ap (λ n. get_or (relocated xs from to x) n d) there ∙ get_or-insert_above rest to x d k past fits ∙ read
        ]
  ]

  -- Removing an item after it is moved to the last index equals removing it before the move.
  pub last_removed : to + 1 ≡ length xs → remove (relocated xs from to x) to ≡ rest
  last_removed last =
      let end : to ≡ length rest = omega (arith, last, length-remove xs from lf) in
      let none : length rest - length rest ≡ 0 = omega arith in
      ap (λ n. remove (insert rest n x) n) end ∙ ap (λ ys. remove ys (length rest)) (insert_end rest x)
      ∙ remove-append_right rest (x ∷ []) (length rest) (length rest) refl (omega arith)
      ∙ ap (λ n. rest ++ remove (x ∷ []) n) none ∙ append-nil rest

-- Moving a pair keeps the keys distinct.
pub distinct_relocated : {V : Type 0} (pairs : List (List ℕ × V)) (from to : ℕ) (pair : List ℕ × V) → IsDistinct (keys_of pairs)
    → from < length (keys_of pairs) → to < length (keys_of pairs) → pair.0 ≡ get_or (keys_of pairs) from []
    → IsDistinct (keys_of (relocated pairs from to pair))
distinct_relocated pairs from to pair d lf lt is =
    let keys = keys_of pairs in
    let moved_keys = relocated keys from to pair.0 in
    let size = length-relocated keys from to pair.0 lf lt in
    let came : (j : ℕ) → get_or moved_keys j [] ≡ get_or keys (moved to from j) [] = λ j.
    ap (λ n. get_or moved_keys n []) (sym (moved-back to from j)) ∙ get_or-relocated keys from to pair.0 lf lt (moved to from j) [] is in
    let within : (j : ℕ) → j < length moved_keys → moved to from j < length keys = λ j lj. grind (arith, nat_tests, lj, size, lf, lt) in
    subst IsDistinct (sym (map-relocated (λ p. p.0) pairs from to pair)) (distinct moved_keys (λ j k lj lk e.
    let same : moved to from j ≡ moved to from k = apart keys d (moved to from j) (moved to from k) (within j lj) (within k lk)
    (sym (came j) ∙ (e ∙ came k)) in
    sym (moved-back to from j) ∙ ap (moved from to) same ∙ moved-back to from k))

-- The resident `o`, renumbered for a move of the item at index `from` to index `to`.
abbrev moved_resident : ℕ → ℕ → Option ℕ → Option ℕ
moved_resident from to o = option_map (moved from to) o

-- Decoding a renumbered code yields the renumbered resident.
position-coded : (from to code : ℕ) → coded_position (moved (from + 1) (to + 1) code) ≡ moved_resident from to (coded_position code)
position-coded from to zero = let none : moved (from + 1) (to + 1) 0 ≡ 0 = grind (arith, nat_tests) in ap coded_position none
position-coded from to (suc i) =
    let one_on : moved (from + 1) (to + 1) (suc i) ≡ suc (moved from to i) = grind (arith, nat_tests) in
    ap coded_position one_on

positions-renumbered : (from to : ℕ) (slots : List Slot) → positions (map (renumbered from to) slots) ≡ map (moved_resident from to) (positions slots)
positions-renumbered from to [] = refl
positions-renumbered from to (slot ∷ slots) = λ k. position-coded from to slot.code k ∷ positions-renumbered from to slots k

-- If `from` equals `to`, renumbering changes no slot.
pub not_moved : (from to : ℕ) (slots : List Slot) → from ≡ to → slots ≡ map (renumbered from to) slots
not_moved from to [] same = refl
not_moved from to (slot ∷ slots) same =
    let code : slot.code ≡ moved (from + 1) (to + 1) slot.code = grind (arith, nat_tests, same) in
    λ k. (record { code = code k; hash = slot.hash }) ∷ not_moved from to slots same k

-- A moved resident is index `i` exactly if the resident is the index that moves to `i`.
one_if-moved : (from to i : ℕ) (o : Option ℕ) → one_if i (moved_resident from to o) ≡ one_if (moved to from i) o
one_if-moved from to i None = refl
one_if-moved from to i (Some k) = grind (arith, nat_tests)

times-moved : (from to i : ℕ) (os : List (Option ℕ)) → times i (map (moved_resident from to) os) ≡ times (moved to from i) os
times-moved from to i [] = times-nil i ∙ sym (times-nil (moved to from i))
times-moved from to i (o ∷ os) = omega (
  arith,
  times-cons i (moved_resident from to o) (map (moved_resident from to) os),
  times-cons (moved to from i) o os,
  one_if-moved from to i o,
  times-moved from to i os,
)

-- If a moved resident is index `i`, the resident is an index that moves to `i`.
moved_from : (from to i : ℕ) (o : Option ℕ) → moved_resident from to o ≡ Some i → (k : ℕ) × (o ≡ Some k) × (moved from to k ≡ i)
moved_from from to i None e = cc
moved_from from to i (Some k) e = (k, refl, cc)

module _ (hashes : List ℕ) (from to : ℕ) (lf : from < length hashes) (lt : to < length hashes) (slots : List Slot) where
  abbrev ps : List (Option ℕ)
  ps = positions slots

  abbrev hashes' : List ℕ
  hashes' = relocated hashes from to (get_or hashes from 0)

  abbrev slots' : List Slot
  slots' = map (renumbered from to) slots

  same_hash : (k : ℕ) → get_or hashes' (moved from to k) 0 ≡ get_or hashes k 0
  same_hash k = get_or-relocated hashes from to (get_or hashes from 0) lf lt k 0 refl

  -- Moving an item keeps the displacement of each resident.
  displaced-moved : (n p : ℕ) (o : Option ℕ) → displaced n hashes' p (moved_resident from to o) ≡ displaced n hashes p o
  unfolding home_at
  displaced-moved n p None = refl
  displaced-moved n p (Some k) = ap (λ h. distance n (h % n) p + 1) (same_hash k)

  displacement-moved : (p : ℕ) → p < length ps → displacement hashes' (map (moved_resident from to) ps) p ≡ displacement hashes ps p
  unfolding displacement
  displacement-moved p lp =
      ap (λ n. displaced n hashes' p (resident (map (moved_resident from to) ps) p)) (length-map ps (moved_resident from to))
      ∙ (ap (displaced (length ps) hashes' p) (get_or-map (moved_resident from to) ps p None None lp)
      ∙ displaced-moved (length ps) p (resident ps p))

  -- If `Holds` is true of the slots before the move, it is true of the renumbered slots after the
  -- move.
  holds-moved : (pending : Option ℕ) → Holds hashes (below (length hashes)) pending ps
      → Holds hashes' (below (length hashes')) (moved_resident from to pending) (positions slots')
  holds-moved pending was =
      let size : length (map (moved_resident from to) ps) ≡ length ps = length-map ps (moved_resident from to) in
      let count : length hashes' ≡ length hashes = length-relocated hashes from to (get_or hashes from 0) lf lt in
      subst (Holds hashes' (below (length hashes')) (moved_resident from to pending)) (sym (positions-renumbered from to slots)) (record {
        ordered = λ p lp.
            let lp' : p < length ps = omega (arith, lp, size) in
            omega (
              arith,
              was.ordered p lp',
              displacement-moved p lp',
              displacement-moved (after (length ps) p) (after-below (length ps) p lp'),
              ap (λ n. displacement hashes' (map (moved_resident from to) ps) (after n p)) size,
            );
        placed = λ i. grind (arith, nat_tests, times-moved from to i ps, one_if-moved from to i pending, was.placed (moved to from i), count, lf, lt);
      })

  has_hash : (n : ℕ) (slot : Slot) → HasHash n hashes slot → HasHash n hashes' (renumbered from to slot)
  has_hash n slot has i e =
      let was = moved_from from to i (position_in slot) (sym (position-coded from to slot.code) ∙ e) in
      has was.0 was.1 ∙ ap (kept n) (sym (same_hash was.0) ∙ ap (λ k. get_or hashes' k 0) was.2)

  have_hashes : HaveHashes (length slots) hashes slots → HaveHashes (length slots') hashes' slots'
  have_hashes have = All-from_get_or (HasHash (length slots') hashes') slots' blank (λ p lp.
      let size : length slots' ≡ length slots = length-map slots (renumbered from to) in
      let lp' : p < length slots = omega (arith, lp, size) in
      rw (size, get_or-map (renumbered from to) slots p blank blank lp')
      (has_hash (length slots) (get_or slots p blank) (hashes-at (length slots) hashes slots p have lp')))

  -- If the slots are a table, the renumbered slots are a table of the hashes in their new order.
  pub moved_table : IsTableOf hashes slots → IsTableOf hashes' slots'
  moved_table was =
      let held = holds-moved None (record { ordered = was.table.ordered; placed = λ i. omega (arith, was.table.placed i) }) in
      record {
        table = record { ordered = held.ordered; placed = λ i. omega (arith, held.placed i) };
        hashes_are = have_hashes was.hashes_are;
      }

  -- If the slots are a table without index `from`, the renumbered slots are a table without index
  -- `to`.
  pub moved_but : IsTableBut hashes from slots → IsTableBut hashes' to slots'
  moved_but was =
      let there : moved from to from ≡ to = grind (arith, nat_tests) in
      record {
        holds = subst (λ i. Holds hashes' (below (length hashes')) (Some i) (positions slots')) there (holds-moved (Some from) was.holds);
        hashes_are = have_hashes was.hashes_are;
      }
