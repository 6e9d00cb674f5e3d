-- The pass over sorted hashed indices finds an earlier index for each duplicate key.
use Rattle.std.proofs.Common.{◌≡◌, ◌≢◌, ℕ, suc, ◌+◌, ◌-◌, ◌<◌, ◌≤◌, inl, inr, arith, List, [], length, get_or, set, map, Some, None}
use Rattle.std.proofs.Common.{refl, sym, ap, subst, ◌∙◌, get_or-set_other, get_or-set_same}
use Rattle.std.proofs.lemmas.Bool.{cases_eq, cases_order}
use Rattle.std.proofs.lemmas.Bool.Decides.{nat_tests}
use Rattle.std.proofs.lemmas.List.{get_or-map, length-map, length-set}
use Rattle.std.proofs.lemmas.List.Elements.{All-get_or}
use Rattle.std.specs.declared.cmp.Ordering.TheVariants.{Equal}
use Rattle.ijson_table.specs.Slots.{times}
use Rattle.ijson_table.specs.private.EntryOrder.{AreEarlier, AreInOrder, IsEarlier, entry_before, cmp_keys, entry_key}
use Rattle.ijson_table.specs.private.KeptHash.{kept}
use Rattle.ijson_table.specs.private.Entries.{index_in, IsHashed}
use Rattle.ijson_table.specs.declared.sorting.order.HashedIndex.{HashedIndex}
use Rattle.ijson_table.specs.private.Sorting.{past_last}
use Rattle.ijson_table.proofs.building.EntriesInOrder.{entry_within}
use Rattle.ijson_table.proofs.firsts.KeyTies.{between, lower_first, same_entry_key, sorted_at, tied}
use Rattle.ijson_table.proofs.slots.Residents.{stands, stands_once}

-- Holds after the first `k` elements of `sorted` are read: `earlier` has, for the index of each of
-- them, an index that satisfies `IsEarlier`. `last` is element `k - 1`, or element 0 if `k` is 0.
pub record EarlierSoFar (keys : List (List ℕ)) (sorted : List HashedIndex) (k : ℕ) (last : HashedIndex) (earlier : List ℕ) : Type 0 where
  pub count : length earlier ≡ length keys
  pub last_is : last ≡ get_or sorted (k - 1) past_last
  pub told : (j : ℕ) → j < k
      → IsEarlier keys (get_or sorted j past_last).index (get_or earlier (get_or sorted j past_last).index 0)

module _ {n : ℕ} {hash : List ℕ → ℕ} (keys : List (List ℕ)) (sorted : List HashedIndex) (s : AreInOrder n hash keys sorted) where
  -- The index of each element of `sorted` is below the number of keys.
  pub is_position : (k : ℕ) → k < length sorted → (get_or sorted k past_last).index < length keys
  is_position k lk = omega (arith, entry_within n (map hash keys) sorted s.entries k lk, length-map keys hash)

  -- Each index of a key is the index of an element of `sorted`.
  pub spot : (i : ℕ) → i < length keys → (k : ℕ) × (k < length sorted) × ((get_or sorted k past_last).index ≡ i)
  spot i li =
      let one : times i (map index_in sorted) ≡ 1 = grind (arith, nat_tests, s.entries.placed i, length-map keys hash) in
      let it = stands i (map index_in sorted) (omega arith) in
      let lk : it.0 < length sorted = omega (arith, it.1, length-map sorted index_in) in
      let same : Some (get_or sorted it.0 past_last).index ≡ Some i = sym (get_or-map index_in sorted it.0 past_last None lk) ∙ it.2 in
      (it.0, lk, cc)

  -- Each element of `sorted` has the kept part of its key's hash.
  is_hashed : (k : ℕ) → k < length sorted → (get_or sorted k past_last).hash ≡ kept n (hash (entry_key keys (get_or sorted k past_last)))
  is_hashed k lk =
      All-get_or (IsHashed n (map hash keys)) sorted k past_last lk s.entries.hashes_are
      ∙ ap (kept n) (get_or-map hash keys (get_or sorted k past_last).index [] 0 (is_position k lk))

  -- Elements of `sorted` with the same key have the same hash.
  one_hash : (k l : ℕ) → k < length sorted → l < length sorted
      → entry_key keys (get_or sorted k past_last) ≡ entry_key keys (get_or sorted l past_last)
      → (get_or sorted k past_last).hash ≡ (get_or sorted l past_last).hash
  one_hash k l lk ll same = is_hashed k lk ∙ (ap (λ key. kept n (hash key)) same ∙ sym (is_hashed l ll))

  -- If element `k` differs from the previous element in its key, no lower index has the key of
  -- element `k`.
  none_before : (k : ℕ) → k < length sorted
      → ((j : ℕ) → suc j ≡ k → cmp_keys n keys (get_or sorted j past_last) (get_or sorted k past_last) ≢ Equal)
      → (j : ℕ) → j < (get_or sorted k past_last).index → get_or keys j [] ≢ entry_key keys (get_or sorted k past_last)
  none_before k lk other j lj same =
      let entry : HashedIndex = get_or sorted k past_last in
      let it = spot j (omega (arith, lj, is_position k lk)) in
      let m : ℕ = it.0 in
      let seen : HashedIndex = get_or sorted m past_last in
      let key_there : entry_key keys seen ≡ entry_key keys entry = ap (λ i. get_or keys i []) it.2 ∙ same in
      let hash_there : seen.hash ≡ entry.hash = one_hash m k it.1 lk key_there in
      let level : cmp_keys n keys seen entry ≡ Equal = tied n keys seen entry hash_there key_there in
      elim (cases_order m k) [
        | inl here ↦ omega (arith, lj, it.2, ap (λ m. (get_or sorted m past_last).index) here)
        | inr apart ↦ elim apart [
          | inl before ↦
              let l : ℕ = k - 1 in
              let next : suc l ≡ k = omega arith in
              elim (cases_eq m l) [
                | inl at ↦ other l next (subst (λ m. cmp_keys n keys (get_or sorted m past_last) entry ≡ Equal) at level)
                | inr ne ↦ other l next (between n keys seen (get_or sorted l past_last) entry
                    (sorted_at (entry_before n keys) sorted s.order m l (omega (arith, before, ne)) (omega (arith, lk)))
                    (sorted_at (entry_before n keys) sorted s.order l k (omega arith) lk) level)
              ]
          | inr after ↦
              let lower : entry.index ≤ seen.index = lower_first n keys entry seen
              (sorted_at (entry_before n keys) sorted s.order k m after it.1)
              (tied n keys entry seen (sym hash_there) (sym key_there)) in
              omega (arith, lower, it.2, lj)
        ]
      ]

  -- If element `k` differs from the previous element in its key or hash, its index satisfies
  -- `IsEarlier` for itself.
  pub other_key : (k : ℕ) (last : HashedIndex) → k < length sorted → last ≡ get_or sorted (k - 1) past_last
      → ((last.hash ≡ (get_or sorted k past_last).hash) × (entry_key keys last ≡ entry_key keys (get_or sorted k past_last)) → ⊥)
      → IsEarlier keys (get_or sorted k past_last).index (get_or sorted k past_last).index
  other_key k last lk last_is other = inr (
    refl,
    none_before k lk (λ j after level.
        let there : last ≡ get_or sorted j past_last = last_is ∙ ap (λ m. get_or sorted m past_last) (let m : k - 1 ≡ j = omega arith in m) in
        let key = same_entry_key n keys (get_or sorted j past_last) (get_or sorted k past_last) level in
        other (
          ap (λ x. x.hash) there ∙ one_hash j k (omega (arith, after, lk)) lk key,
          ap (entry_key keys) there ∙ key,
        )),
  )

  -- If element `k` has the key of the previous element, the index of the previous element satisfies
  -- `IsEarlier` for the index of element `k`.
  pub same_key : (k : ℕ) (last : HashedIndex) → k < length sorted → last ≡ get_or sorted (k - 1) past_last
      → (last.hash ≡ (get_or sorted k past_last).hash) × (entry_key keys last ≡ entry_key keys (get_or sorted k past_last))
      → IsEarlier keys (get_or sorted k past_last).index last.index
  same_key k last lk last_is same =
      let entry : HashedIndex = get_or sorted k past_last in
      let l : ℕ = k - 1 in
      let before : HashedIndex = get_or sorted l past_last in
      let there : before.index ≡ last.index = ap (λ x. x.index) (sym last_is) in
      let key : entry_key keys before ≡ entry_key keys entry = ap (entry_key keys) (sym last_is) ∙ same.1 in
      elim (cases_eq k 0) [
        | inl start ↦
            let here : last.index ≡ entry.index = sym there ∙ ap (λ m. (get_or sorted m past_last).index) (let m : l ≡ k = omega arith in m) in
            inr (here, none_before k lk (λ j next. omega arith))
        | inr further ↦
            let ll : l < length sorted = omega arith in
            let lower : before.index ≤ entry.index = lower_first n keys before entry (sorted_at (entry_before n keys) sorted s.order l k (omega arith) lk)
            (tied n keys before entry (one_hash l k ll lk key) key) in
            let apart : before.index ≢ entry.index = λ one.
            let once : times entry.index (map index_in sorted) ≤ 1 = grind (arith, nat_tests, s.entries.placed entry.index) in
            let at_one : l ≡ k = stands_once entry.index (map index_in sorted) l k once (omega (arith, ll, length-map sorted index_in))
            (omega (arith, lk, length-map sorted index_in)) (get_or-map index_in sorted l past_last None ll ∙ ap Some one)
            (get_or-map index_in sorted k past_last None lk) in
            omega arith in
            inl (omega (arith, lower, apart, there), ap (λ i. get_or keys i []) (sym there) ∙ key)
      ]

  -- If `EarlierSoFar` holds for `k` elements, it holds for `k + 1` elements after an index that
  -- satisfies `IsEarlier` for element `k` is written.
  pub goes_on : (k q : ℕ) (last : HashedIndex) (earlier : List ℕ) → k < length sorted → EarlierSoFar keys sorted k last earlier
      → IsEarlier keys (get_or sorted k past_last).index q
      → EarlierSoFar keys sorted (k + 1) (get_or sorted k past_last) (set earlier (get_or sorted k past_last).index q)
  goes_on k q last earlier lk so is =
      let p : ℕ = (get_or sorted k past_last).index in
      let written : get_or (set earlier p q) p 0 ≡ q = get_or-set_same earlier p q 0 (omega (arith, is_position k lk, so.count)) in
      record {
        count = length-set earlier p q ∙ so.count;
        last_is = ap (λ m. get_or sorted m past_last) (let m : k ≡ k + 1 - 1 = omega arith in m);
        told = λ j lj. elim (cases_eq (get_or sorted j past_last).index p) [
          | inl same ↦ subst (λ m. IsEarlier keys m (get_or (set earlier p q) m 0)) (sym same)
              (subst (IsEarlier keys p) (sym written) is)
          | inr apart ↦ elim (cases_eq j k) [
            | inl here ↦ absurd (apart (ap (λ m. (get_or sorted m past_last).index) here))
            | inr before ↦ subst (IsEarlier keys (get_or sorted j past_last).index)
                (sym (get_or-set_other earlier p (get_or sorted j past_last).index q 0 apart)) (so.told j (omega (arith, lj, before)))
          ]
        ];
      }

  -- If `EarlierSoFar` holds for all elements of `sorted`, then `earlier` satisfies `AreEarlier`.
  pub all_told : (k : ℕ) (last : HashedIndex) (earlier : List ℕ) → length sorted ≤ k → EarlierSoFar keys sorted k last earlier
      → AreEarlier keys earlier
  all_told k last earlier all so = record {
    count = so.count;
    each = λ i li. let it = spot i li in subst (λ m. IsEarlier keys m (get_or earlier m 0)) it.2 (so.told it.0 (omega (arith, it.1, all)));
  }
