-- A lookup in the keys of a cache finds a string if and only if the set of their strings contains
-- the string.
use Rattle.std.proofs.Common.{◌≡◌, ◌∙◌, ap, ap₂, sym, refl, ℕ, ◌+◌, ◌<◌, true, false, cond, ◌&&◌, ◌||◌, List, [], ◌∷◌, ◌++◌, length}
use Rattle.std.specs.Prelude.{nat_eq}
use Rattle.std.specs.Cmp.Lexicographic.{bytes_decides, slice_cmp}
use Rattle.std.specs.List.{list_any}
use Rattle.std.specs.FinSet as set
use Rattle.std.specs.Ordering.{nat_cmp}
use Rattle.std.specs.Str.{bytes_eq}
use Rattle.std.proofs.Math.Bool.{and-false}
use Rattle.std.proofs.lemmas.Bool.{eq-eqb}
use Rattle.std.proofs.lemmas.List.{get_or-map, length-append, length-map, map-append}
use Rattle.std.proofs.lemmas.List.Folds.{list_any_at}
use Rattle.ijson_string.specs.Cache.{AreLong}
use Rattle.ijson_string.specs.laws.Longer.{longer_empty, longer_insert}
use Rattle.ijson_string.specs.private.Chains.{mixed}
use Rattle.ijson_string.specs.private.IsCache.{set_of, IsCache}
use Rattle.ijson_string.specs.private.Keys.{Key, texts_of, is_key, no_key, IsTextAt, AreHashed}
use Rattle.ijson_string.proofs.TextSets.{order, exact, contains-from_list}

-- Appending a key inserts its string into the set.
pub set_of-push : (keys : List Key) (k : Key) → set_of (keys ++ k ∷ []) ≡ set.insert (set_of keys) k.text
set_of-push keys k =
    ap set.from_list (map-append (λ k. k.text) keys (k ∷ [])) ∙ set.from_list_push order exact (texts_of keys) k.text

-- The set contains the string of each key.
pub contains-at : (q : List ℕ) (keys : List Key) (at : ℕ) → IsTextAt q keys at → set.contains (set_of keys) q ≡ true
contains-at q keys at there =
    let within : at < length (texts_of keys) = rw (length-map keys (λ k. k.text)) there.0 in
    contains-from_list (texts_of keys) q
    ∙ list_any_at (λ t. bytes_eq q t) (texts_of keys) at [] within
    (ap (bytes_eq q) (get_or-map (λ k. k.text) keys at no_key [] there.0 ∙ there.1) ∙ (bytes_decides q q).1 refl)

-- Appending a key with a string of more than 7 bytes keeps `AreLong`.
pub AreLong-push : (keys : List Key) (k : Key) → AreLong (set_of keys) → 7 < length k.text → AreLong (set_of (keys ++ k ∷ []))
AreLong-push keys k all long = rw (set_of-push keys k) (longer_insert 7 (set_of keys) k.text all long)

-- An empty list of keys satisfies `AreLong`.
pub AreLong-none : (keys : List Key) → keys ≡ [] → AreLong (set_of keys)
AreLong-none keys none = rw none (longer_empty 7)

module _ (text_hash : List ℕ → ℕ) where
  -- If `hash` is the hash of `q` and the key has the hash of its string, `is_key` depends only on
  -- the strings.
  by_text : (hash : ℕ) (q : List ℕ) (k : Key) → hash ≡ mixed (text_hash q) → k.hash ≡ mixed (text_hash k.text)
      → is_key hash q k ≡ bytes_eq q k.text
  by_text hash q k e f = elim (bytes_eq q k.text) as (λ b. bytes_eq q k.text ≡ b → (nat_eq hash k.hash && b) ≡ b) [
    | true ↦ λ same. ap (λ b. b && true) (eq-eqb hash k.hash (e ∙ ap (λ t. mixed (text_hash t)) ((bytes_decides q k.text).0 same) ∙ sym f))
    | false ↦ λ _. and-false (nat_eq hash k.hash)
  ] refl

  any-texts : (hash : ℕ) (q : List ℕ) (keys : List Key) → hash ≡ mixed (text_hash q) → AreHashed text_hash keys
      → list_any (is_key hash q) keys ≡ list_any (λ t. bytes_eq q t) (texts_of keys)
  any-texts hash q [] e all = refl
  any-texts hash q (k ∷ keys) e all = ap₂ ◌||◌ (by_text hash q k e all.0) (any-texts hash q keys e all.1)

  -- A lookup finds a string if and only if the set contains the string.
  pub contains-set_of : (hash : ℕ) (q : List ℕ) (keys : List Key) → hash ≡ mixed (text_hash q) → AreHashed text_hash keys
      → list_any (is_key hash q) keys ≡ set.contains (set_of keys) q
  contains-set_of hash q keys e all = any-texts hash q keys e all ∙ sym (contains-from_list (texts_of keys) q)

  hashed-push : (keys : List Key) (k : Key) → AreHashed text_hash keys → k.hash ≡ mixed (text_hash k.text)
      → AreHashed text_hash (keys ++ k ∷ [])
  hashed-push [] k all e = (e, tt)
  hashed-push (x ∷ keys) k all e = (all.0, hashed-push keys k all.1 e)

  -- Appending a key whose string is absent keeps `IsCache`.
  pub IsCache-push : (keys : List Key) (k : Key) → IsCache text_hash keys → k.hash ≡ mixed (text_hash k.text)
      → set.contains (set_of keys) k.text ≡ false → IsCache text_hash (keys ++ k ∷ [])
  IsCache-push keys k cache hashed new = record {
    hashed = hashed-push keys k cache.hashed hashed;
    each_once =
        ap set.len (set_of-push keys k) ∙ set.len-insert order (set_of keys) k.text
        ∙ ap (λ b. cond b (set.len (set_of keys)) (set.len (set_of keys) + 1)) new ∙ ap (λ n. n + 1) cache.each_once
        ∙ sym (length-append keys (k ∷ []));
  }

  -- An empty list of keys satisfies `IsCache`.
  pub IsCache_none : (keys : List Key) → keys ≡ [] → IsCache text_hash keys
  IsCache_none keys none = rw none (record {
    hashed = tt;
    each_once = set.len-empty (slice_cmp nat_cmp);
  })
