-- A lookup walks the chain of a bucket from its head, and finds the key if it is present.
use Rattle.std.proofs.Common.{◌≡◌, ◌∙◌, ap, ap₂, sym, subst, refl, ℕ, zero, suc, ◌+◌, ◌-◌, ◌<◌, ◌≤◌, ◌≢◌, true, false, ◌&&◌, ◌||◌, List, []}
use Rattle.std.proofs.Common.{◌∷◌, length, get_or, take, if◌then◌else◌, arith, add-one}
use Rattle.std.specs.Prelude.{◌==◌, nat_eq}
use Rattle.std.specs.Cmp.Lexicographic.{bytes_decides}
use Rattle.std.specs.List.{list_any}
use Rattle.std.specs.Str.{bytes_eq}
use Rattle.std.proofs.lemmas.Bool.{eq-eqb, eqb-false, ne_eqb}
use Rattle.std.proofs.Math.Bool.{and-false, or-false}
use Rattle.std.proofs.Math.Dec.{eqb-suc-zero}
use Rattle.std.proofs.Math.Seq.{take-length}
use Rattle.std.proofs.lemmas.List.{get_or-map, get_or-take, length-map, length-take, length-take-le, take-map, take-take}
use Rattle.std.proofs.lemmas.List.Folds.{list_any_at, list_any_more}
use Rattle.ijson_string.specs.declared.table.chains.Link.{Link}
use Rattle.ijson_string.specs.private.Chains.{bucket_of, head_of, IsChained}
use Rattle.ijson_string.specs.declared.table.chains.Bucket.{Bucket}
use Rattle.ijson_string.specs.private.IsTable.{hashes_of, nexts_of, heads_of, IsTable}
use Rattle.ijson_string.specs.private.Keys.{Key, buckets_of, is_key, keys_of, no_key, IsKeyAt}
use Rattle.ijson_string.proofs.Chains.{head_of-within, head_of-here}
use Rattle.ijson_string.proofs.KeysAt.{buckets_of_keys, buckets-keys, as_many_keys}

module _ (hash : ℕ) (text : List ℕ) where
  -- A key with the hash `hash` and the string `text` satisfies `is_key`.
  pub is_same : (k : Key) → k.hash ≡ hash → k.text ≡ text → is_key hash text k ≡ true
  is_same k h t = ap₂ ◌&&◌ (eq-eqb hash k.hash (sym h)) ((bytes_decides text k.text).1 (sym t))

  -- If the key at index `at` has the hash `hash` and the string `text`, the list contains the key.
  pub any_at : (keys : List Key) (at : ℕ) → IsKeyAt hash text keys at → list_any (is_key hash text) keys ≡ true
  any_at keys at there = list_any_at (is_key hash text) keys at no_key there.0
      (ap (is_key hash text) there.1 ∙ is_same (record { hash = hash; text = text }) refl refl)

  -- A key with a different hash does not satisfy `is_key`.
  pub is_other_hash : (k : Key) → k.hash ≢ hash → is_key hash text k ≡ false
  is_other_hash k h = ap (λ b. b && bytes_eq text k.text) (ne_eqb hash k.hash (λ e. h (sym e)))

  -- A key with a different string does not satisfy `is_key`.
  pub is_other_text : (k : Key) → k.text ≢ text → is_key hash text k ≡ false
  is_other_text k t = elim (bytes_eq text k.text)
      as (λ b. bytes_eq text k.text ≡ b → (nat_eq hash k.hash && b) ≡ false) [
        | true ↦ λ same. absurd (t (sym ((bytes_decides text k.text).0 same)))
        | false ↦ λ _. and-false (nat_eq hash k.hash)
      ] refl

module _ (count hash : ℕ) (text : List ℕ) where
  -- A key in a different bucket does not satisfy `is_key`.
  is_other_bucket : (k : Key) → (bucket_of count k.hash == bucket_of count hash) ≡ false → is_key hash text k ≡ false
  is_other_bucket k other = is_other_hash hash text k (λ e. eqb-false _ _ other (ap (bucket_of count) e))

  -- A list contains the key if and only if its keys up to the last key of the bucket contain it.
  any-heads : (keys : List Key)
      → list_any (is_key hash text) keys
      ≡ list_any (is_key hash text) (take (head_of (bucket_of count hash) (buckets_of_keys count keys)) keys)
  any-heads [] = refl
  any-heads (k ∷ keys) =
      elim (head_of (bucket_of count hash) (buckets_of_keys count keys))
      as (λ n. list_any (is_key hash text) keys ≡ list_any (is_key hash text) (take n keys)
      → list_any (is_key hash text) (k ∷ keys)
      ≡ list_any (is_key hash text) (take (if n == 0 then (if bucket_of count k.hash == bucket_of count hash then 1 else 0) else n + 1)
      (k ∷ keys))) [
        | zero ↦ λ none. elim (bucket_of count k.hash == bucket_of count hash)
            as (λ b. (bucket_of count k.hash == bucket_of count hash) ≡ b
            → list_any (is_key hash text) (k ∷ keys) ≡ list_any (is_key hash text) (take (if b then 1 else 0) (k ∷ keys))) [
              | true ↦ λ _. ap (λ b. is_key hash text k || b) none
              | false ↦ λ other. ap₂ ◌||◌ (is_other_bucket k other) none
            ] refl
        | suc n ↦ λ some.
            subst (λ b. list_any (is_key hash text) (k ∷ keys) ≡ list_any (is_key hash text)
            (take (if b then (if bucket_of count k.hash == bucket_of count hash then 1 else 0) else suc n + 1) (k ∷ keys)))
            (sym (eqb-suc-zero n)) (rw (add-one (suc n)) (ap (λ b. is_key hash text k || b) some))
      ] (any-heads keys)

  -- The state of a lookup at `at`, an index plus 1. Holds if the key, if present, is among the
  -- first `at` keys, and if key `at - 1` is in the bucket of `hash`.
  pub record IsAhead (keys : List Key) (at : ℕ) : Type 0 where
    pub within : at ≤ length keys
    pub here : 0 < at → get_or (buckets_of_keys count keys) (at - 1) 0 ≡ bucket_of count hash
    pub ahead : list_any (is_key hash text) keys ≡ list_any (is_key hash text) (take at keys)

  -- If the key can only be among the first `n` keys, a lookup may start at the last of these `n`
  -- keys that is in the bucket of `hash`.
  IsAhead-heads : (keys : List Key) (n at : ℕ) → n ≤ length keys
      → list_any (is_key hash text) keys ≡ list_any (is_key hash text) (take n keys)
      → at ≡ head_of (bucket_of count hash) (take n (buckets_of_keys count keys)) → IsAhead keys at
  IsAhead-heads keys n at some ahead e =
      let buckets = buckets_of_keys count keys in
      let as_many = length-map keys (λ k. bucket_of count k.hash) in
      let first = length-take-le n buckets (omega arith) in
      let least : at ≤ n = omega (arith, head_of-within (bucket_of count hash) (take n buckets)) in
      record {
        within = omega arith;
        here = λ there.
            sym (get_or-take n buckets (at - 1) 0 (omega arith)) ∙ ap (λ m. get_or (take n buckets) (m - 1) 0) e
            ∙ head_of-here (bucket_of count hash) (take n buckets) (omega arith);
        ahead =
            ahead ∙ any-heads (take n keys)
            ∙ ap (λ m. list_any (is_key hash text) (take m (take n keys)))
            (ap (head_of (bucket_of count hash)) (sym (take-map (λ k. bucket_of count k.hash) n keys)) ∙ sym e)
            ∙ ap (list_any (is_key hash text)) (take-take at n keys least);
      }

  module _ (links : List Link) (texts : List (List ℕ)) (heads : List ℕ) (listed : length texts ≡ length links)
      (chained : IsChained (buckets_of count (hashes_of links)) (nexts_of links) heads) where
    abbrev keys : List Key
    keys = keys_of (hashes_of links) texts

    -- There are as many keys as links.
    as_many : length keys ≡ length links
    as_many = as_many_keys links texts keys listed refl

    -- The chains of the links are the chains of the keys.
    by_bucket : IsChained (buckets_of_keys count keys) (nexts_of links) heads
    by_bucket =
        subst (λ buckets. IsChained buckets (nexts_of links) heads)
        (sym (buckets-keys count (hashes_of links) texts (listed ∙ sym (length-map links (λ l. l.hash))))) chained

    as_many_buckets : length (buckets_of_keys count keys) ≡ length links
    as_many_buckets = length-map keys (λ k. bucket_of count k.hash) ∙ as_many

    -- A lookup that starts at the head of the bucket of `hash` satisfies `IsAhead`.
    IsAhead-start : bucket_of count hash < length heads → IsAhead keys (get_or heads (bucket_of count hash) 0)
    IsAhead-start inside =
        IsAhead-heads keys (length keys) _ (omega arith) (ap (list_any (is_key hash text)) (sym (take-length keys)))
        (by_bucket.starts _ inside ∙ ap (head_of (bucket_of count hash))
        (sym (take-length (buckets_of_keys count keys)) ∙ ap (λ n. take n (buckets_of_keys count keys))
        (as_many_buckets ∙ sym as_many)))

    module _ (at : ℕ) (l : Link) (ahead : IsAhead keys at) (some : 0 < at) (there : l ≡ get_or links (at - 1) l) where
      -- The lookup is at an existing link.
      within : at - 1 < length links
      within = let heads = ahead.within in omega (arith, as_many)

      -- The link points to the previous key of its bucket.
      leads : l.next ≡ head_of (bucket_of count hash) (take (at - 1) (buckets_of_keys count keys))
      leads =
          ap (λ l. l.next) there ∙ sym (get_or-map (λ l. l.next) links (at - 1) l 0 within)
          ∙ by_bucket.links (at - 1) (omega (arith, as_many_buckets, within))
          ∙ ap (λ h. head_of h (take (at - 1) (buckets_of_keys count keys))) (ahead.here some)

      -- Each step of a lookup decreases the index.
      pub falls : l.next < at
      falls = omega (
        arith,
        leads,
        head_of-within (bucket_of count hash) (take (at - 1) (buckets_of_keys count keys)),
        length-take (at - 1)
            (buckets_of_keys count keys),
      )

      -- If key `at - 1` is a different key, the lookup continues at the next index, and still
      -- satisfies `IsAhead`.
      pub IsAhead-step : is_key hash text (get_or keys (at - 1) no_key) ≡ false → IsAhead keys l.next
      IsAhead-step other =
          let on : at - 1 + 1 ≡ at = omega arith in
          let inside : at - 1 < length keys = omega (arith, as_many, within) in
          IsAhead-heads keys (at - 1) _ (omega arith)
          (ahead.ahead ∙ ap (λ n. list_any (is_key hash text) (take n keys)) (sym on)
          ∙ list_any_more (is_key hash text) keys (at - 1) no_key inside
          ∙ ap (λ b. list_any (is_key hash text) (take (at - 1) keys) || b) other
          ∙ or-false _)
          leads

-- In a table, a lookup that starts at the head of the bucket of `hash` satisfies `IsAhead`.
pub IsAhead-first : (hash : ℕ) (text : List ℕ) (links : List Link) (texts : List (List ℕ)) (buckets : List Bucket) (at : ℕ)
    → IsTable links buckets
    → length texts ≡ length links → bucket_of (length buckets) hash < length buckets
    → at ≡ get_or (heads_of buckets) (bucket_of (length buckets) hash) 0
    → IsAhead (length (heads_of buckets)) hash text (keys_of (hashes_of links) texts) at
IsAhead-first hash text links texts buckets at table listed inside is =
    let heads = heads_of buckets in
    let as_many : length heads ≡ length buckets = length-map buckets (λ b. b.head) in
    rw (is, ← as_many) (IsAhead-start (length heads) hash text links texts heads listed table.chained (rw as_many inside))
