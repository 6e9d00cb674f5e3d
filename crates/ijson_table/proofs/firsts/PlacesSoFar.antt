-- Lemmas about inserting pairs in order within their list, given an earlier index of each duplicate
-- key.
use Rattle.std.proofs.Common.{◌≡◌, ◌≢◌, ℕ, ◌+◌, ◌<◌, ◌≤◌, inl, inr, arith, List, [], ◌∷◌, ◌++◌, length, get_or, set, take, drop}
use Rattle.std.proofs.Common.{Some, None, refl, sym, ap, ap₂, subst, ◌∙◌, get_or-set_other, get_or-set_same, length-take-le, le_of_lt}
use Rattle.std.specs.Prelude.{swap}
use Rattle.std.proofs.lemmas.List.{at_drop_more, get_or-take, get_or_read, length-set, take-map, take_more}
use Rattle.std.proofs.lemmas.List.Edits.{length-swap}
use Rattle.std.proofs.lemmas.Bool.{cases_eq}
use Rattle.ijson_table.specs.Store.{at, keys_of, put, put_each}
use Rattle.ijson_table.specs.private.EntryOrder.{AreEarlier, IsEarlier}
use Rattle.ijson_table.proofs.firsts.PutPlaces.{at-put_each, at-put_kept, at-put_new, put_each-more}
use Rattle.ijson_table.proofs.pairs.PairsByKey.{key_at, keys-length}
use Rattle.ijson_table.proofs.pairs.PutInPlace.{before, Moved, moved_first, moved_left, next, next_key, one_more, over_left, over_put}

-- Holds after the first `n` pairs of `all` are inserted. The first `k` pairs of `pairs` are the
-- result, and the pairs from index `n` on are unchanged. For each `i` below `n`, `places` has at
-- `i` the index of key `i` of `all` among the first `k` pairs. From index `n` on, `places` equals
-- `earlier`.
pub record PlacesSoFar {V : Type 0} (all pairs : List (List ℕ × V)) (earlier places : List ℕ) (k n : ℕ) : Type 0 where
  pub within : k ≤ n
  pub put : take k pairs ≡ put_each [] (take n all)
  pub left : drop n pairs ≡ drop n all
  pub count : length places ≡ length earlier
  pub rest : (i : ℕ) → n ≤ i → get_or places i 0 ≡ get_or earlier i 0
  pub placed : (i : ℕ) → i < n → at (take k pairs) (get_or (keys_of all) i []) ≡ Some (get_or places i 0)

-- Holds in an iteration after the number at index `n` of `places` is read as `e`, and pair `n` is
-- moved to index `k`.
pub record Turn {V : Type 0} (all pairs new : List (List ℕ × V)) (earlier places : List ℕ) (k n e : ℕ) : Type 0 where
  pub so_far : PlacesSoFar all pairs earlier places k n
  pub size : length pairs ≡ length all
  pub more : n < length pairs
  pub read : e ≡ get_or places n e
  pub moved : new ≡ swap pairs k n

module _ {V : Type 0} (all : List (List ℕ × V)) (earlier : List ℕ) (are : AreEarlier (keys_of all) earlier)
    (pairs new : List (List ℕ × V)) (places : List ℕ) (k n e : ℕ) (t : Turn all pairs new earlier places k n e) where
  -- The length of `places` equals the number of pairs.
  count : length places ≡ length all
  count = omega (arith, t.so_far.count, are.count, keys-length all)

  abbrev pair_at : Moved pairs new k n
  pair_at = next pairs new k n t.so_far.within t.more t.moved

  abbrev pair : List ℕ × V
  pair = pair_at.pair

  in_all : n < length all
  in_all = omega (arith, t.more, t.size)

  -- `pair` is pair `n` of `all`.
  pair_is : pair ≡ get_or all n pair
  pair_is =
      pair_at.was ∙ (sym (at_drop_more (λ xs. get_or xs 0 pair) pairs n pair t.more)
      ∙ (ap (λ xs. get_or xs 0 pair) t.so_far.left ∙ at_drop_more (λ xs. get_or xs 0 pair) all n pair in_all))

  key_is : get_or (keys_of all) n [] ≡ pair.0
  key_is = key_at all n pair in_all ∙ ap (λ p. p.0) (sym pair_is)

  -- `e` satisfies `IsEarlier` for index `n`.
  earlier_is : IsEarlier (keys_of all) n e
  earlier_is = subst (IsEarlier (keys_of all) n)
      (sym (get_or_read places n e (omega (arith, in_all, count)) t.read 0 ∙ t.so_far.rest n (omega arith)))
      (are.each n (omega (arith, in_all, keys-length all)))

  -- Moving pair `n` to index `k` keeps the index of its key among the first `k` pairs.
  at_is : at (take k new) (get_or (keys_of new) k []) ≡ at (take k pairs) pair.0
  at_is = ap₂ at (moved_first pairs new k n t.so_far.within t.more t.moved) (next_key pairs new k n t.so_far.within t.more t.moved)

  -- If `e` is `n`, the key of `pair` is new: the first `k` pairs lack it.
  lacks : e ≡ n → at (take k pairs) pair.0 ≡ None
  lacks own = elim earlier_is [
    | inl other ↦ absurd (omega (arith, own, other))
    | inr none ↦ ap (λ ps. at ps pair.0) t.so_far.put ∙ at-put_each [] (take n all) pair.0 (λ j lj same.
        let less : j < n = omega (arith, lj, length-take-le n all (le_of_lt in_all)) in
        none.1 j less (sym (get_or-take n (keys_of all) j [] less)
        ∙ (ap (λ ks. get_or ks j []) (take-map (λ pair. pair.0) n all) ∙ (same ∙ sym key_is))))
  ]

  -- If `e` is not `n`, the key of `pair` is a duplicate: `e` is below `n`, and `places` has the
  -- index of the key at `e`.
  earlier_one : e ≢ n → (e < n) × (at (take k pairs) pair.0 ≡ Some (get_or places e 0))
  earlier_one other = elim earlier_is [
    | inl one ↦ (one.0, ap (at (take k pairs)) (sym (one.1 ∙ key_is)) ∙ t.so_far.placed e one.0)
    | inr own ↦ absurd (other own.0)
  ]

  -- If `e` is not `n`, then `e` is below the length of `places`.
  pub within : e ≢ n → e < length places
  within other = omega (arith, (earlier_one other).0, in_all, count)

  -- If `e` is not `n`, the number that is read at index `e` of `places` is the index of the key of
  -- `pair`.
  place_of : e ≢ n → (place : ℕ) → place ≡ get_or places e place → at (take k pairs) pair.0 ≡ Some place
  place_of other place read = (earlier_one other).1 ∙ ap Some (sym (get_or_read places e place (within other) read 0))

  -- If `e` is not `n`, the number that is read at index `e` of `places` is below the number of
  -- pairs.
  pub place_below : e ≢ n → (place : ℕ) → place ≡ get_or places e place → place < length new
  place_below other place read = omega (
    arith,
    before pairs new k n t.so_far.within t.more t.moved place (at_is ∙ place_of other place read),
    t.so_far.within,
    t.more,
    ap length t.moved,
    length-swap pairs k n,
  )

  -- If `pair` is inserted and the index of its key is written, `PlacesSoFar` holds for `n + 1`
  -- pairs.
  inserted : (k' p : ℕ) (pairs' : List (List ℕ × V)) (places' : List ℕ) → k' ≤ n + 1 → take k' pairs' ≡ put (take k pairs) pair.0 pair.1
      → drop (n + 1) pairs' ≡ drop (n + 1) new → places' ≡ set places n p → at (put (take k pairs) pair.0 pair.1) pair.0 ≡ Some p
      → PlacesSoFar all pairs' earlier places' k' (n + 1)
  inserted k' p pairs' places' within' put' left' written there =
      let keys : List (List ℕ) = keys_of all in
      let next_all : take (n + 1) all ≡ take n all ++ pair ∷ [] = take_more all n pair in_all ∙ ap (λ p. take n all ++ p ∷ []) (sym pair_is) in
      let others : (i : ℕ) → i ≢ n → get_or places' i 0 ≡ get_or places i 0 =
      λ i apart. ap (λ ps. get_or ps i 0) written ∙ get_or-set_other places n i p 0 apart in
      record {
        within = within';
        put = put' ∙ (ap (λ ps. put ps pair.0 pair.1) t.so_far.put
            ∙ (sym (put_each-more (take n all) pair.0 pair.1) ∙ ap (put_each []) (sym next_all)));
        left = left' ∙ (moved_left pairs new k n t.so_far.within t.more t.moved
            ∙ (sym (at_drop_more (drop 1) pairs n pair t.more) ∙ (ap (drop 1) t.so_far.left ∙ at_drop_more (drop 1) all n pair in_all)));
        count = ap length written ∙ (length-set places n p ∙ t.so_far.count);
        rest = λ i li. others i (λ e. omega (arith, e, li)) ∙ t.so_far.rest i (omega (arith, li));
        placed = λ i li. ap (λ ps. at ps (get_or keys i [])) put' ∙ elim (cases_eq i n) [
          | inl here ↦ ap (at (put (take k pairs) pair.0 pair.1)) (ap (λ m. get_or keys m []) here ∙ key_is) ∙ (there
              ∙ ap Some (sym (ap (λ m. get_or places' m 0) here ∙ (ap (λ ps. get_or ps n 0) written
              ∙ get_or-set_same places n p 0 (omega (arith, in_all, count))))))
          | inr apart ↦ at-put_kept (take k pairs) pair.0 (get_or keys i []) pair.1 (get_or places i 0)
              (t.so_far.placed i (omega (arith, li, apart))) ∙ ap Some (sym (others i apart))
        ];
      }

  -- If the key of `pair` is new, moving the pair to index `k` inserts it last.
  pub with_new : e ≡ n → (places' : List ℕ) → places' ≡ set places n k → PlacesSoFar all new earlier places' (k + 1) (n + 1)
  with_new own places' written =
      inserted (k + 1) k new places' (omega (arith, t.so_far.within))
      (one_more pairs new k n t.so_far.within t.more t.moved (at_is ∙ lacks own)) refl written
      (at-put_new (take k pairs) pair.0 pair.1 (lacks own) ∙ ap Some (length-take-le k pairs (omega (arith, t.so_far.within, t.more))))

  -- If the key of `pair` is a duplicate, swapping `pair` with the pair at the index of its key
  -- inserts it.
  pub with_old : e ≢ n → (place : ℕ) → place ≡ get_or places e place → (last : List (List ℕ × V)) → last ≡ swap new place k
      → (places' : List ℕ) → places' ≡ set places n place → PlacesSoFar all last earlier places' k (n + 1)
  with_old other place read last is places' written =
      let found = place_of other place read in
      inserted k place last places' (omega (arith, t.so_far.within))
      (ap (take k) is ∙ over_put pairs new k n t.so_far.within t.more t.moved place (at_is ∙ found))
      (ap (drop (n + 1)) is ∙ over_left pairs new k n t.so_far.within t.more t.moved place (at_is ∙ found)) written
      (at-put_kept (take k pairs) pair.0 pair.0 pair.1 place found)
