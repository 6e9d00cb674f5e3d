-- Hashed indices, sorted by home slot, are written to empty slots.
use Rattle.std.proofs.Common.{◌≡◌, ◌⊎◌, ℕ, suc, ◌+◌, ◌<◌, ◌≤◌, inl, inr, arith, List, length, get_or, map, set, take, None, ◌%◌, ap, sym}
use Rattle.std.proofs.Common.{refl, subst, ◌∙◌, get_or-set_other}
use Rattle.std.specs.List.{All}
use Rattle.std.proofs.lemmas.Bool.{cases_eq}
use Rattle.std.proofs.lemmas.Grind.{get_or-set_at}
use Rattle.std.proofs.lemmas.List.{get_or-map, length-map, length-set, take_all}
use Rattle.std.proofs.lemmas.List.Elements.{All-get_or, All-from_get_or}
use Rattle.ijson_table.specs.declared.slot.Slot.{Slot}
use Rattle.ijson_table.specs.declared.sorting.order.HashedIndex.{HashedIndex}
use Rattle.ijson_table.specs.Crowd.{distance}
use Rattle.ijson_table.specs.Slots.{after, displacement, times}
use Rattle.ijson_table.specs.private.Entries.{index_in, slot_for, AreEntries, IsHashed}
use Rattle.ijson_table.specs.private.Holds.{one_if}
use Rattle.ijson_table.specs.private.Homes.{home_of_entry}
use Rattle.ijson_table.specs.private.Insertion.{IsTableOf}
use Rattle.ijson_table.specs.private.SlotHashes.{blank, position_in, positions, HasHash, HaveHashes}
use Rattle.ijson_table.specs.private.Sorting.{past_last}
use Rattle.ijson_table.proofs.arithmetic.Circular.{after-below, after-injective}
use Rattle.ijson_table.proofs.filling.Spots.{ArePlaces}
use Rattle.ijson_table.proofs.probing.ProbePath.{displacement-none}
use Rattle.ijson_table.proofs.shifting.Removal.{times-none}
use Rattle.ijson_table.proofs.slots.HashesInSlots.{all_empty, displacement-read, has_own_hash, nothing_has_hash}
use Rattle.ijson_table.proofs.slots.HashesInSlots.{position-at, positions-length, positions-set}
use Rattle.ijson_table.proofs.slots.Residents.{times-set, times-more, times-nil}

-- Holds if element `j` of `sorted` is in slot `p j`, for each `j` below `k`, and every other slot
-- is empty.
pub record Filled (n : ℕ) (p : ℕ → ℕ) (sorted : List HashedIndex) (k : ℕ) (slots : List Slot) : Type 0 where
  pub count : length slots ≡ n
  pub there : (j : ℕ) → j < k → get_or slots (p j) blank ≡ slot_for (get_or sorted j past_last)
  pub others : (q : ℕ) → q < n → (position_in (get_or slots q blank) ≡ None) ⊎ ((j : ℕ) × (j < k) × (q ≡ p j))
  pub placed : (i : ℕ) → times i (positions slots) ≡ times i (take k (map index_in sorted))

-- Empty slots satisfy `Filled` for 0 elements of `sorted`.
pub filled_none : (n : ℕ) (p : ℕ → ℕ) (sorted : List HashedIndex) (slots : List Slot) → length slots ≡ n → All (λ slot. position_in slot ≡ None) slots
    → Filled n p sorted 0 slots
filled_none n p sorted slots count empty = record {
  count = count;
  there = λ j lj. absurd (omega arith);
  others = λ q lq. inl (All-get_or (λ slot. position_in slot ≡ None) slots q blank (omega (arith, count, lq)) empty);
  placed = λ i. omega (arith, times-none i (positions slots) (all_empty slots empty), times-nil i);
}

-- If `Filled` holds for `k` elements, it holds for `k + 1` elements after element `k` is written to
-- its slot.
pub filled_more : (n : ℕ) (p : ℕ → ℕ) (sorted : List HashedIndex) → ArePlaces n sorted p → (k : ℕ) (slots : List Slot) → k < length sorted
    → Filled n p sorted k slots → Filled n p sorted (k + 1) (set slots (p k) (slot_for (get_or sorted k past_last)))
filled_more n p sorted places k slots lk f =
    let entry : Slot = slot_for (get_or sorted k past_last) in
    let lp : p k < length slots = omega (arith, f.count, places.below k lk) in
    let free : position_in (get_or slots (p k) blank) ≡ None = elim (f.others (p k) (places.below k lk)) [
      | inl none ↦ none
      | inr it ↦ absurd (places.apart it.0 k it.1 lk (sym it.2))
    ] in
    record {
      count = length-set slots (p k) entry ∙ f.count;
      there = λ j lj. elim (cases_eq j k) [
        | inl same ↦ get_or-set_at slots (p k) (p j) entry blank (ap p same) lp ∙ ap (λ i. slot_for (get_or sorted i past_last)) (sym same)
        | inr ne ↦ let less : j < k = omega (arith, lj, ne) in
            get_or-set_other slots (p k) (p j) entry blank (places.apart j k less lk) ∙ f.there j less
      ];
      others = λ q lq. elim (cases_eq q (p k)) [
        | inl same ↦ inr (k, omega arith, same)
        | inr ne ↦ elim (f.others q lq) [
          | inl none ↦ inl (ap position_in (get_or-set_other slots (p k) q entry blank ne) ∙ none)
          | inr it ↦ inr (it.0, omega (arith, it.1), it.2)
        ]
      ];
      placed = λ i. omega (
        arith,
        f.placed i,
        ap (times i) (positions-set slots (p k) entry),
        times-set i (positions slots) (p k) (position_in entry) (omega (arith, lp, positions-length slots)),
        ap (one_if i) (position-at slots (p k) None lp (sym free)),
        ap (λ l. times i (take l (map index_in sorted))) (let e : k + 1 ≡ suc k = omega arith in e),
        times-more i (map index_in sorted) k (omega (arith, lk, length-map sorted index_in)),
        ap (one_if i) (get_or-map index_in sorted k past_last None lk),
      );
    }

-- If `Filled` holds for all elements of `sorted`, the slots are a table.
module _ (p : ℕ → ℕ) (sorted : List HashedIndex) (slots : List Slot) (places : ArePlaces (length slots) sorted p)
    (f : Filled (length slots) p sorted (length sorted) slots) (hashes : List ℕ) (are : AreEntries (length slots) hashes sorted) where
  abbrev n : ℕ
  n = length slots

  abbrev d : ℕ → ℕ
  d q = displacement hashes (positions slots) q

  have : HaveHashes n hashes slots
  have = All-from_get_or (HasHash n hashes) slots blank (λ q lq. elim (f.others q lq) [
    | inl none ↦ nothing_has_hash n hashes (get_or slots q blank) none
    | inr it ↦ subst (HasHash n hashes) (sym (ap (λ p. get_or slots p blank) it.2 ∙ f.there it.0 it.1))
        (has_own_hash n hashes (slot_for (get_or sorted it.0 past_last)) (get_or sorted it.0 past_last).index refl
        (All-get_or (IsHashed n hashes) sorted it.0 past_last it.1 are.hashes_are))
  ])

  displaced : (k : ℕ) → k < length sorted → d (p k) ≡ distance n (home_of_entry n sorted k) (p k) + 1
  displaced k lk = displacement-read hashes slots (p k) (get_or sorted k past_last).index (distance n (home_of_entry n sorted k) (p k)) have
      (places.below k lk) (sym (ap position_in (f.there k lk))) (ap (λ slot. distance n (slot.hash % n) (p k)) (sym (f.there k lk)))

  in_order : (q : ℕ) → q < n → d (after n q) ≤ d q + 1
  in_order q lq = elim (f.others (after n q) (after-below n q lq)) [
    | inl none ↦ omega (
      arith,
      displacement-none hashes (positions slots) (after n q)
          (position-at slots (after n q) None (after-below n q lq) (sym none)),
    )
    | inr it ↦ elim (places.led it.0 it.1) [
      | inl home ↦ omega (arith, ap d it.2, displaced it.0 it.1, home)
      | inr b ↦
          let back : q ≡ p b.0 = after-injective n q (p b.0) lq (places.below b.0 b.1) (it.2 ∙ sym b.2) in
          omega (arith, ap d it.2, displaced it.0 it.1, ap d back, displaced b.0 b.1, b.3)
    ]
  ]

  is_table : IsTableOf hashes slots
  is_table = record {
    table = record {
      ordered = λ q lq. omega (
        arith,
        in_order q (omega (arith, lq, positions-length slots)),
        ap (λ n. d (after n q)) (positions-length slots),
      );
      placed = λ i. f.placed i ∙ (ap (times i) (take_all (length sorted) (map index_in sorted) (omega (arith, length-map sorted index_in))) ∙ are.placed i);
    };
    hashes_are = have;
  }

pub filled_all : (n k : ℕ) (p : ℕ → ℕ) (sorted : List HashedIndex) (slots : List Slot) → ArePlaces n sorted p → k ≡ length sorted → Filled n p sorted k slots
    → (hashes : List ℕ) → AreEntries n hashes sorted → IsTableOf hashes slots
filled_all n k p sorted slots places all f =
    subst (λ n. ArePlaces n sorted p → Filled n p sorted (length sorted) slots
    → (hashes : List ℕ) → AreEntries n hashes sorted → IsTableOf hashes slots) f.count
    (is_table p sorted slots) places (subst (λ k. Filled n p sorted k slots) all f)
