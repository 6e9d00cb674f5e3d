-- The output of `compact` for the bytes read, and the strings that `compact` adds to the cache.
use Rattle.std.specs.Prelude.{◌≡◌, ℕ, List, [], ◌∷◌, ◌++◌, Option, Some, IfSome, IsUtf8}
use Rattle.std.specs.Io.KnownBytes.{Appends}
use Rattle.ijson_value.specs.Tree.{Tree}
use Rattle.ijson_json.specs.Grammar.{Accepted}
use Rattle.ijson_json.specs.Print.{print}
use Rattle.ijson_json.specs.WritesBeginning.{WritesBeginning}
use Rattle.ijson_json.specs.AddsOnlyRead.{AddsOnlyRead}
use Rattle.ijson_string.specs.Cache.{Texts}

-- Holds if `text` is accepted, and `written` is its tree printed without white space.
abbrev pub Compacts : List ℕ → List ℕ → Type 0
Compacts text written = (tree : Tree) × Accepted text tree × (written ≡ print tree)

-- Holds if `bytes` are UTF-8 and accepted, and `line` is their tree printed without white space,
-- then a line feed.
abbrev pub IsCompactLine : List ℕ → List ℕ → Type 0
IsCompactLine bytes line =
    (written : List ℕ) × IsUtf8 bytes × Compacts bytes written × (line ≡ written ++ 10 ∷ [])

-- Holds if the source was read to its end, and the line for its bytes `left` was written to the
-- sink. Always holds if `left` is unknown.
abbrev pub WritesLine : (left rest before after : Option (List ℕ)) → Type 0
WritesLine left rest before after = IfSome left (λ bytes. (rest ≡ Some [])
    × ((line : List ℕ) × IsCompactLine bytes line × Appends before after line))

-- Holds if a proper prefix of the line for the source's bytes `left` was written to the sink.
-- Always holds if `left` is unknown.
abbrev pub BeginsLine : (left before after : Option (List ℕ)) → Type 0
BeginsLine left before after =
    IfSome left (λ bytes. (line : List ℕ) × IsCompactLine bytes line × WritesBeginning before after line)

-- Holds if the cache gained only strings that the source's bytes spell. These bytes are `left`, if
-- known.
-- e.g. ` [1.50, true ] ` gives `[1.5,true]` and a line feed; a sink that fails after `[1.` got a
-- proper prefix.
abbrev pub AddsOnlyLeft : Option (List ℕ) → Texts → Texts → Type 0
AddsOnlyLeft left old new =
    (read : List ℕ) × IfSome left (λ bytes. bytes ≡ read) × AddsOnlyRead read old new
