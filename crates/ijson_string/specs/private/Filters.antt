-- Each bucket has a Bloom filter of 32 bits, in which a hash sets up to three bits.
use Rattle.std.specs.Prelude.{◌≡◌, ℕ, ◌/◌, ◌%◌, ◌^◌, ◌==◌, Bool, true, List, length, get_or, slice_set}
use Rattle.std.specs.Int.Bits.{bit_or}
use Rattle.std.specs.List.{AllByRecursion}
use Rattle.ijson_string.specs.private.Chains.{bucket_of}

-- The filter in which only the bits of `hash` are set.
unfoldable pub filter_of : ℕ → ℕ
filter_of hash = bit_or (bit_or (2 ^ (hash % 32)) (2 ^ (hash / 32 % 32))) (2 ^ (hash / 1024 % 32))

-- Returns `true` if the filter of the bucket of `hash` contains all bits of `hash`.
abbrev pub passes : List ℕ → ℕ → Bool
passes filters hash = bit_or (get_or filters (bucket_of (length filters) hash) 0) (filter_of hash) == get_or filters
    (bucket_of (length filters) hash) 0

-- The filters after the bits of `hash` are set in the filter of the bucket of `hash`.
abbrev pub with_filter : List ℕ → ℕ → List ℕ
with_filter filters hash = slice_set filters (bucket_of (length filters) hash)
    (bit_or (get_or filters (bucket_of (length filters) hash) 0) (filter_of hash))

-- Holds if each hash passes the filter of its bucket.
abbrev pub AllPass : List ℕ → List ℕ → Type 0
AllPass filters hashes = AllByRecursion (λ hash. passes filters hash ≡ true) hashes
