-- Reading a JSON text adds only strings of that text to the cache. Like the Rust crate `ijson`, the
-- reader interns each key and each string.
use Rattle.std.specs.Prelude.{◌≡◌, ℕ, ◌<◌, true, ◌⊎◌, List, ◌++◌, length}
use Rattle.std.specs.FinSet as set
use Rattle.ijson_string.specs.Cache.{Texts}
use Rattle.ijson_json.specs.Strings.{StringBody}

-- Holds if a slice of `text` is the body of a JSON string with the content `s`.
abbrev pub IsSpelledIn : List ℕ → List ℕ → Type 0
IsSpelledIn text s =
    (before body after : List ℕ) × StringBody body s × (text ≡ before ++ (body ++ after))

-- Holds if `new` contains every string of `old`, and every other string in `new` has more than 7
-- bytes and is spelled by a slice of `text`.
-- e.g. `["eight888"]` adds `eight888` and no more.
pub record AddsOnlyRead (text : List ℕ) (old new : Texts) : Type 0 where
  pub kept : (s : List ℕ) → set.contains old.texts s ≡ true → set.contains new.texts s ≡ true
  pub added : (s : List ℕ) → set.contains new.texts s ≡ true
      → (set.contains old.texts s ≡ true) ⊎ ((7 < length s) × IsSpelledIn text s)
