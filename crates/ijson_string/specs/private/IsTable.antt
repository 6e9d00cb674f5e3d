-- The links and buckets of a table, and the invariant `IsTable`.
use Rattle.std.specs.Prelude.{◌≡◌, ℕ, ◌*◌, ◌<◌, ◌≤◌, ◌^◌, List, length, map, slice_set}
use Rattle.ijson_string.specs.declared.table.chains.Bucket.{Bucket}
use Rattle.ijson_string.specs.declared.table.chains.Link.{Link}
use Rattle.ijson_string.specs.private.Chains.{bucket_of, IsChained}
use Rattle.ijson_string.specs.private.Keys.{buckets_of}
use Rattle.ijson_string.specs.private.Filters.{AllPass, with_filter}

abbrev pub hashes_of : List Link → List ℕ
hashes_of links = map (λ l. l.hash) links

abbrev pub nexts_of : List Link → List ℕ
nexts_of links = map (λ l. l.next) links

abbrev pub heads_of : List Bucket → List ℕ
heads_of buckets = map (λ b. b.head) buckets

abbrev pub filters_of : List Bucket → List ℕ
filters_of buckets = map (λ b. b.filter) buckets

-- Holds if the links form one chain for each bucket.
abbrev pub AreChained : List Link → List ℕ → Type 0
AreChained links heads = IsChained (buckets_of (length heads) (hashes_of links)) (nexts_of links) heads

-- The invariant of a table.
--
-- - There are at most 4 links per bucket on average, and at most `2 ^ 32` buckets.
-- - The links form one chain for each bucket.
-- - Each hash passes the filter of its bucket.
pub record IsTable (links : List Link) (buckets : List Bucket) : Type 0 where
  pub room : length links ≤ 4 * length buckets
  pub bounded : length buckets ≤ 2 ^ 32
  pub chained : AreChained links (heads_of buckets)
  pub filtered : AllPass (filters_of buckets) (hashes_of links)

-- Holds if `after` are the buckets after a string with the hash `hash` is added. `link` is the
-- index of the string plus 1.
--
-- `link` is the head of the bucket of `hash`, and the bits of `hash` are set in the filter of this
-- bucket.
pub record IsEntered (buckets after : List Bucket) (hash link : ℕ) : Type 0 where
  pub as_many : length after ≡ length buckets
  pub inside : bucket_of (length buckets) hash < length buckets
  pub head : heads_of after ≡ slice_set (heads_of buckets) (bucket_of (length buckets) hash) link
  pub filters : filters_of after ≡ with_filter (filters_of buckets) hash
