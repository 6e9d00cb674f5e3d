-- A cache is a finite set of strings of more than 7 bytes, as in the Rust crate `ijson`. The
-- threshold of 7 bytes is this project's own.
use Rattle.std.specs.Prelude.{◌≡◌, ◌<◌, ℕ, List, Bool, true, length, ltb, if◌then◌else◌}
use Rattle.std.specs.Ordering.{nat_cmp}
use Rattle.std.specs.Cmp.Lexicographic.{slice_cmp}
use Rattle.std.specs.FinSet as set
use Rattle.ijson_string.specs.laws.Longer.{longer_with}

-- Holds if each string of the set has more than 7 bytes.
abbrev pub AreLong : set.FinSet (slice_cmp nat_cmp) → Type 0
AreLong texts = (text : List ℕ) → set.contains texts text ≡ true → 7 < length text

-- A finite set of strings, with a proof that each has more than 7 bytes.
pub record Texts : Type 0 where
  pub texts : set.FinSet (slice_cmp nat_cmp)
  pub long : AreLong texts

-- Returns `true` if a string is too long to be stored inline.
abbrev pub is_long : List ℕ → Bool
is_long text = ltb 7 (length text)

-- The cache after interning `text`. A long string is added to the set, and a short string leaves
-- the cache unchanged.
-- e.g. `seven77` leaves the empty set empty; `eight888`, interned once or twice, makes it a set of
-- one.
abbrev pub interned : List ℕ → Texts → Texts
interned text cache = record {
  texts = if is_long text then set.insert cache.texts text else cache.texts;
  long = longer_with 7 cache.texts text cache.long;
}
