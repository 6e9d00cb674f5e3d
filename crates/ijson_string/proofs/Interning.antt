-- Interning adds a long string to the cache, and leaves the cache unchanged for a short string.
use Rattle.std.proofs.Common.{◌≡◌, ℕ, ◌<◌, ◌≤◌, List, length, ap, if◌then◌else◌}
use Rattle.std.proofs.lemmas.Bool.{lt-ltb, le-ltb}
use Rattle.std.specs.FinSet as set
use Rattle.ijson_string.specs.Cache.{Texts, interned}

-- Interning a string of more than 7 bytes adds it to the cache.
pub interned_long : (text : List ℕ) (cache : Texts) → 7 < length text → (interned text cache).texts ≡ set.insert cache.texts text
interned_long text cache long = ap (λ b. if b then set.insert cache.texts text else cache.texts) (lt-ltb 7 (length text) long)

-- Interning a string of up to 7 bytes leaves the cache unchanged.
pub interned_short : (text : List ℕ) (cache : Texts) → length text ≤ 7 → (interned text cache).texts ≡ cache.texts
interned_short text cache short = ap (λ b. if b then set.insert cache.texts text else cache.texts) (le-ltb 7 (length text) short)
