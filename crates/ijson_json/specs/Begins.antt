-- Prefixes of JSON texts.
use Rattle.std.specs.Prelude.{ℕ, Bool, List, ◌++◌}
use Rattle.ijson_value.specs.Tree.{Tree}
use Rattle.ijson_json.specs.Grammar.{Reads, Accepted}

-- Holds if some JSON text begins with `bytes`. That text may exceed the limits.
abbrev pub Begins : List ℕ → Type 0
Begins bytes = (more : List ℕ) × (tree : Tree) × (deepest : ℕ) × (ranged : Bool) × Reads (bytes ++ more) tree deepest ranged

-- Holds if some JSON text within the limits begins with `bytes`.
abbrev pub BeginsWithin : List ℕ → Type 0
BeginsWithin bytes = (more : List ℕ) × (tree : Tree) × Accepted (bytes ++ more) tree
