-- Appending a link to a table keeps its chains valid.
use Rattle.std.proofs.Common.{◌≡◌, ◌∙◌, ap, ap₂, sym, subst, ℕ, ◌+◌, ◌*◌, ◌^◌, ◌<◌, ◌≤◌, List, [], ◌∷◌, ◌++◌, length, get_or, replicate, arith}
use Rattle.std.proofs.Math.ListN.{set}
use Rattle.std.proofs.lemmas.List.{get_or-map, get_or-replicate, length-append, length-map, length-replicate, length-set, map-append}
use Rattle.ijson_string.specs.declared.table.chains.Link.{Link}
use Rattle.ijson_string.specs.declared.table.chains.Bucket.{Bucket}
use Rattle.ijson_string.specs.private.Chains.{bucket_of, IsChained}
use Rattle.ijson_string.specs.private.IsTable.{hashes_of, nexts_of, heads_of, filters_of, AreChained, IsEntered, IsTable}
use Rattle.ijson_string.specs.private.Keys.{buckets_of}
use Rattle.ijson_string.proofs.Chains.{IsChained-push}
use Rattle.ijson_string.proofs.Filters.{AllPass-push}

abbrev no_bucket : Bucket
no_bucket = record { head = 0; filter = 0 }

-- Without strings, empty buckets form valid chains.
pub IsChained-none : (n : ℕ) → IsChained [] [] (heads_of (replicate n no_bucket))
IsChained-none n =
    let empty = replicate n no_bucket in
    record {
      starts = λ h lt.
          let inside : h < length empty = rw (← length-map empty (λ b. b.head)) lt in
          get_or-map (λ b. b.head) empty h no_bucket 0 inside
          ∙ ap (λ b. b.head) (get_or-replicate n h no_bucket no_bucket (rw (← length-replicate n no_bucket) inside));
      links = λ p lt. absurd (omega arith);
    }

-- Appending a link to the old head of its bucket, and making the new link the head, keeps the
-- chains valid.
AreChained-push : (links : List Link) (heads : List ℕ) (l : Link) → AreChained links heads
    → bucket_of (length heads) l.hash < length heads → l.next ≡ get_or heads (bucket_of (length heads) l.hash) 0
    → AreChained (links ++ l ∷ []) (set heads (bucket_of (length heads) l.hash) (length links + 1))
AreChained-push links heads l chained inside leads =
    let count = length heads in
    let h = bucket_of count l.hash in
    let buckets = buckets_of count (hashes_of links) in
    let nexts = nexts_of links in
    let as_many_buckets : length buckets ≡ length links = length-map (hashes_of links) (bucket_of count) ∙ length-map links (λ l. l.hash) in
    let as_many_nexts = length-map links (λ l. l.next) in
    let buckets_now : buckets_of (length (set heads h (length links + 1))) (hashes_of (links ++ l ∷ [])) ≡ buckets ++ h ∷ [] =
    ap₂ buckets_of (length-set heads h (length links + 1)) (map-append (λ l. l.hash) links (l ∷ []))
    ∙ map-append (bucket_of count) (hashes_of links) (l.hash ∷ []) in
    let nexts_now : nexts_of (links ++ l ∷ []) ≡ nexts ++ get_or heads h 0 ∷ [] =
    map-append (λ l. l.next) links (l ∷ []) ∙ ap (λ n. nexts ++ n ∷ []) leads in
    let pushed = IsChained-push buckets nexts heads h chained (as_many_nexts ∙ sym as_many_buckets) inside in
    rw (buckets_now, nexts_now)
    (subst (λ n. IsChained (buckets ++ h ∷ []) (nexts ++ get_or heads h 0 ∷ []) (set heads h (n + 1))) as_many_buckets pushed)

-- Appending a string keeps `IsTable` if there are fewer than four strings per bucket.
pub IsTable-push : (links : List Link) (buckets after : List Bucket) (l : Link) → IsTable links buckets → length links < 4 * length buckets
    → IsEntered buckets after l.hash (length links + 1) → l.next ≡ get_or (heads_of buckets) (bucket_of (length buckets) l.hash) 0
    → IsTable (links ++ l ∷ []) after
IsTable-push links buckets after l table room entered leads =
    let heads = heads_of buckets in
    let as_many : length heads ≡ length buckets = length-map buckets (λ b. b.head) in
    let as_many_filters : length (filters_of buckets) ≡ length buckets = length-map buckets (λ b. b.filter) in
    let same = entered.as_many in
    let one_more = length-append links (l ∷ []) in
    let bounded = table.bounded in
    record {
      room = omega arith;
      bounded = omega arith;
      chained =
          rw (entered.head, ← as_many)
          (AreChained-push links heads l table.chained (rw as_many entered.inside) (rw as_many leads));
      filtered =
          rw (entered.filters, map-append (λ l. l.hash) links (l ∷ []))
          (AllPass-push (filters_of buckets) l.hash (rw as_many_filters entered.inside) (hashes_of links) table.filtered);
    }

-- A table without strings satisfies `IsTable`.
pub IsTable-none : (n : ℕ) → n ≤ 2 ^ 32 → IsTable [] (replicate n no_bucket)
IsTable-none n bounded =
    let count = length-replicate n no_bucket in
    record {
      room = omega arith;
      bounded = omega arith;
      chained = IsChained-none n;
      filtered = tt;
    }
