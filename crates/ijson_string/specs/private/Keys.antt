-- The keys of a cache: strings with their 32-bit hashes.
use Rattle.std.specs.Prelude.{◌≡◌, ◌&&◌, ◌<◌, ℕ, Bool, List, [], ◌∷◌, get_or, length, map, nat_eq}
use Rattle.std.specs.List.{AllByRecursion}
use Rattle.std.specs.Str.{bytes_eq}
use Rattle.ijson_string.specs.private.Chains.{mixed, bucket_of}

pub record Key : Type 0 where
  pub hash : ℕ
  pub text : List ℕ

-- The keys of two lists: each string with the hash at the same index.
abbrev pub keys_of : List ℕ → List (List ℕ) → List Key
keys_of [] texts = []
keys_of (hash ∷ hashes) [] = []
keys_of (hash ∷ hashes) (text ∷ texts) = record { hash = hash; text = text } ∷ keys_of hashes texts

abbrev pub texts_of : List Key → List (List ℕ)
texts_of keys = map (λ k. k.text) keys

-- The buckets that the hashes select among `count` buckets.
abbrev pub buckets_of : ℕ → List ℕ → List ℕ
buckets_of count hashes = map (bucket_of count) hashes

-- Returns `true` if a key has the hash `hash` and the string `text`.
abbrev pub is_key : ℕ → List ℕ → Key → Bool
is_key hash text k = nat_eq hash k.hash && bytes_eq text k.text

-- The default that reading past the end of a list of keys returns.
abbrev pub no_key : Key
no_key = record { hash = 0; text = [] }

-- Holds if the key at index `at` has the hash `hash` and the string `text`.
abbrev pub IsKeyAt : ℕ → List ℕ → List Key → ℕ → Type 0
IsKeyAt hash text keys at = (at < length keys) × (get_or keys at no_key ≡ record { hash = hash; text = text })

-- Holds if the key at index `at` has the string `text`.
abbrev pub IsTextAt : List ℕ → List Key → ℕ → Type 0
IsTextAt text keys at = (at < length keys) × ((get_or keys at no_key).text ≡ text)

-- Holds if each key has the mixed hash of its string.
abbrev pub AreHashed : (List ℕ → ℕ) → List Key → Type 0
AreHashed text_hash keys = AllByRecursion (λ k. k.hash ≡ mixed (text_hash k.text)) keys
