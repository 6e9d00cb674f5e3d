-- Lemmas about the `Entry` of an existing or a missing key.
use Rattle.std.proofs.Common.{◌≡◌, ◌<◌, ℕ, zero, suc, List, [], ◌∷◌, ◌++◌, length, get_or, refl, sym, ap, subst, ◌∙◌, Option, Some, None}
use Rattle.std.proofs.Common.{arith}
use Rattle.std.specs.Prelude.{slice_get, option_map, IsSome}
use denote.Struct.Props.{props}
use Rattle.ijson_table.proofs.pairs.KeyPositions.{position-some, position-distinct}
use Rattle.ijson_table.proofs.pairs.PairsByKey.{lookup-found, lookup-absent, position_within, keys-length, put-present, put-absent}
use Rattle.ijson_table.proofs.pairs.SameStores.{store_path}
use Rattle.ijson_table.specs.Growth.{Ungrown}
use Rattle.ijson_table.specs.Store.{Store, at, lookup, keys_of, swap_out, with_value, put}
use Rattle.ijson_table.specs.declared.store.ReserveError.{ReserveError}
use Rattle.ijson_table.specs.declared.store.ReserveError.TheVariants.{Memory, TooLarge}
use Rattle.ijson_table.specs.StoreWithValue.{store_with_value}
use Rattle.ijson_value.specs.AtKey.{swap_out_key, out_at}
use Rattle.ijson_value.specs.FindsEntry.{FindsNoRoom}
use Rattle.ijson_value.specs.WellFormed.{WellFormed}
use Rattle.ijson_value.specs.WithEntry.{with_entry_value}
use Rattle.ijson_value.specs.declared.object.entry.OccupiedEntry.{OccupiedEntry}
use Rattle.ijson_value.specs.laws.EntryValid.{still_valid}
use Rattle.ijson_value.proofs.pairs.PairLookups.{pair_there}

-- If reserving capacity fails, then the capacity is unchanged.
pub refused_capacity : (len c n c' : ℕ) (why : ReserveError) → Ungrown len c n why c' → c' ≡ c
refused_capacity len c n c' Memory g = g.0
refused_capacity len c n c' TooLarge g = g.0

-- An option that equals `Some x` satisfies `IsSome`.
pub is_there : {A : Type 0} (o : Option A) (x : A) → o ≡ Some x → IsSome o
is_there None x e = cc
is_there (Some y) x e = refl

module _ {V : Type 0} where
  -- If reserving capacity fails and the entries are unchanged, then the object is unchanged.
  pub refused_same : (old new : Store V) (why : ReserveError) → Ungrown (length old.pairs) old.capacity 1 why new.capacity
      → new.pairs ≡ old.pairs → new ≡ old
  refused_same old new why g e = store_path new old e (refused_capacity (length old.pairs) old.capacity 1 new.capacity why g)

  -- The index found for the bytes of a key is the index of the key.
  pub placed : (pairs : List (List ℕ × V)) {key text : List ℕ} {found answer : Option ℕ} → text ≡ key → found ≡ at pairs text
      → found ≡ answer → at pairs key ≡ answer
  placed pairs text_is found_is is = ap (at pairs) (sym text_is) ∙ sym found_is ∙ is

  -- The key at the index of `key` is `key`.
  pub key_there : (pairs : List (List ℕ × V)) (key : List ℕ) (i : ℕ) → at pairs key ≡ Some i → get_or (keys_of pairs) i [] ≡ key
  key_there pairs key i e = (position-some (keys_of pairs) key i e).1

  -- The key at index `i` is the key of the entry at index `i`.
  pub key_got : (pairs : List (List ℕ × V)) (i : ℕ) (pair : List ℕ × V) → slice_get pairs i ≡ Some pair
      → get_or (keys_of pairs) i [] ≡ pair.0
  key_got [] i pair e = cc
  key_got (p ∷ ps) zero pair e = let same : p ≡ pair = cc in ap (λ q. q.0) same
  key_got (p ∷ ps) (suc i) pair e = key_got ps i pair e

  -- The value at the index of `key` is the value that a lookup of `key` returns.
  pub value_there : (pairs : List (List ℕ × V)) (key : List ℕ) (i : ℕ) → at pairs key ≡ Some i
      → option_map (λ pair. pair.1) (slice_get pairs i) ≡ lookup key pairs
  value_there pairs key i e =
      let got = pair_there pairs i (position_within pairs key i e) in
      ap (option_map (λ pair. pair.1)) got.1 ∙ sym (lookup-found pairs key i got.0 e got.1)

  -- After `w` is written at index `i`, the value at index `i` is `w`.
  pub value_set : (pairs : List (List ℕ × V)) (i : ℕ) (w : V) → i < length pairs
      → option_map (λ pair. pair.1) (slice_get (with_value pairs i w) i) ≡ Some w
  value_set [] i w li = absurd (omega arith)
  value_set (p ∷ ps) zero w li = refl
  value_set (p ∷ ps) (suc i) w li = value_set ps i w (omega arith)

  -- Writing `v` and then `w` at an index of a list of entries equals writing `w`.
  twice : (pairs : List (List ℕ × V)) (i : ℕ) (v w : V) → with_value (with_value pairs i v) i w ≡ with_value pairs i w
  twice [] i v w = refl
  twice (p ∷ ps) zero v w = refl
  twice (p ∷ ps) (suc i) v w = ap (λ l. p ∷ l) (twice ps i v w)

  -- Writing `v` and then `w` at an index of an object equals writing `w`.
  pub store_twice : (s : Store V) (i : ℕ) (v w : V) → store_with_value (store_with_value s i v) i w ≡ store_with_value s i w
  store_twice s i v w = store_path (store_with_value (store_with_value s i v) i w) (store_with_value s i w) (twice s.pairs i v w) refl

  -- Pushing an entry with the value `v` and then writing `w` at its index equals pushing the entry
  -- with the value `w`.
  pub written_last : (pairs : List (List ℕ × V)) (key : List ℕ) (v w : V)
      → with_value (pairs ++ (key, v) ∷ []) (length pairs) w ≡ pairs ++ (key, w) ∷ []
  written_last [] key v w = refl
  written_last (p ∷ ps) key v w = ap (λ l. p ∷ l) (written_last ps key v w)

  -- The index of a pushed entry is the length of the list before the push.
  pub got_last : (pairs : List (List ℕ × V)) (key : List ℕ) (v : V) → slice_get (pairs ++ (key, v) ∷ []) (length pairs) ≡ Some (key, v)
  got_last [] key v = refl
  got_last (p ∷ ps) key v = got_last ps key v

  -- If two optional entries are equal, then their values are equal.
  pub same_value : {p q : List ℕ × V} → Some p ≡ Some q → p.1 ≡ q.1
  same_value {p} {q} e = let same : p ≡ q = cc in ap (λ x. x.1) same

  -- Removing the entry at index `i` equals removing the key at index `i`.
  pub swap_out_there : (s : Store V) (i : ℕ) → i < length s.pairs
      → swap_out s.pairs i ≡ swap_out_key (get_or (keys_of s.pairs) i []) s.pairs
  swap_out_there s i within =
      let found : at s.pairs (get_or (keys_of s.pairs) i []) ≡ Some i =
      position-distinct (keys_of s.pairs) (get_or (keys_of s.pairs) i []) i s.distinct (omega (arith, within, keys-length s.pairs)) refl in
      ap (λ o. out_at swap_out o s.pairs) (sym found)

-- Holds if the key `k` of the object `old` is at index `i`, and writing at `i` equals `put`.
pub record IsAt (old : Store WellFormed) (k : List ℕ) (i : ℕ) : Type 0 where
  pub there : IsSome (at old.pairs k)
  pub key : get_or (keys_of old.pairs) i [] ≡ k
  pub value : option_map (λ pair. pair.1) (slice_get old.pairs i) ≡ lookup k old.pairs
  pub update : (w : WellFormed) → with_value old.pairs i w ≡ put old.pairs k w

-- If the index of `key` is `i`, then `IsAt` holds for `key` and `i`.
pub is_at : (old : Store WellFormed) (key : List ℕ) (i : ℕ) → at old.pairs key ≡ Some i → IsAt old key i
is_at old key i found = record {
  there = is_there (at old.pairs key) i found;
  key = key_there old.pairs key i found;
  value = value_there old.pairs key i found;
  update = λ w. sym (put-present old.pairs i key w found);
}

-- Holds if `key` is missing in the object `old`, and pushing an entry with `key` equals `put`.
pub record IsAbsent (old : Store WellFormed) (key : List ℕ) : Type 0 where
  pub gone : at old.pairs key ≡ None
  pub none : None ≡ lookup key old.pairs
  pub pushed : {pairs : List (List ℕ × WellFormed)} {copy : List ℕ} → pairs ≡ old.pairs → copy ≡ key → (w : WellFormed)
      → pairs ++ (copy, w) ∷ [] ≡ put old.pairs key w

-- If `key` is missing, then `IsAbsent` holds for `key`.
pub is_absent : (old : Store WellFormed) (key : List ℕ) → at old.pairs key ≡ None → IsAbsent old key
is_absent old key missing = record {
  gone = missing;
  none = sym (lookup-absent old.pairs key missing);
  pushed = λ same copied w. (λ i. same i ++ (copied i, w) ∷ []) ∙ sym (put-absent old.pairs key w missing);
}

-- If `key` is missing and reserving capacity fails, then `FindsNoRoom` holds.
pub finds_no_room : (old : Store WellFormed) (key : List ℕ) (why : ReserveError) (c : ℕ) → at old.pairs key ≡ None
    → Ungrown (length old.pairs) old.capacity 1 why c → FindsNoRoom old key why
finds_no_room old key why c missing growth = (
  lookup-absent old.pairs key missing,
  subst (λ n. Ungrown (length old.pairs) old.capacity 1 why n) (refused_capacity (length old.pairs) old.capacity 1 c why growth) growth,
)

-- An occupied entry after a write of `w` is `with_entry_value o w`, for any proof that its index is
-- in bounds.
pub rewritten : (o : OccupiedEntry) (w : WellFormed) (v : o.index < length (with_value o.object.now.pairs o.index w))
    → ◌≡◌ {A = OccupiedEntry}
    (record { object = record o.object { now = store_with_value o.object.now o.index w }; index = o.index; valid = v })
    (with_entry_value o w)
rewritten o w v =
    let same : IsProp (o.index < length (with_value o.object.now.pairs o.index w)) = hlevel props in
    λ i. record {
      object = record o.object { now = store_with_value o.object.now o.index w };
      index = o.index;
      valid = same v (still_valid o w) i;
    }
