-- Chains of indices: each bucket links to its newest string, and each string to the next older
-- string of its bucket.
use Rattle.std.specs.Prelude.{◌≡◌, ℕ, ◌+◌, ◌*◌, ◌/◌, ◌%◌, ◌^◌, ◌<◌, ◌==◌, List, [], ◌∷◌, length, get_or, take, if◌then◌else◌}

-- The 32-bit hash derived from a 64-bit hash: the upper half of its product with an odd constant,
-- modulo `2 ^ 64`.
unfoldable pub mixed : ℕ → ℕ
mixed hash = hash * 0x9E37_79B9_7F4A_7C15 % 2 ^ 64 / 2 ^ 32

-- The bucket that a 32-bit hash selects among `count` buckets.
unfoldable pub bucket_of : ℕ → ℕ → ℕ
bucket_of count hash = hash * count / 2 ^ 32

-- The last index at which `bucket` occurs in the list, plus 1, or 0 if it does not occur.
abbrev pub head_of : ℕ → List ℕ → ℕ
head_of bucket [] = 0
head_of bucket (h ∷ buckets) =
    (if head_of bucket buckets == 0 then (if h == bucket then 1 else 0) else head_of bucket buckets + 1)

-- Holds if `heads` links each bucket to its newest string, and `nexts` links each string to the
-- next older string of its bucket. Links are indices plus 1, or 0 at the end of a chain.
pub record IsChained (buckets nexts heads : List ℕ) : Type 0 where
  pub starts : (h : ℕ) → h < length heads → get_or heads h 0 ≡ head_of h buckets
  pub links : (p : ℕ) → p < length buckets → get_or nexts p 0 ≡ head_of (get_or buckets p 0) (take p buckets)
