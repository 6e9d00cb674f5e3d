-- A law of the grammar. The law does not mention the reader.
use Rattle.std.specs.Prelude.{◌≡◌, ℕ, Bool, List}
use Rattle.ijson_value.specs.Tree.{Tree}
use Rattle.ijson_json.specs.Grammar.{Reads}

-- A text has at most one tree.
-- e.g. `{"a":1,"b":2,"a":3}` is JSON for `{"a":3,"b":2}` and for no other tree.
abbrev pub OneTree : Type 0
OneTree =
    (text : List ℕ) (t u : Tree) (d e : ℕ) (r s : Bool) → Reads text t d r → Reads text u e s → t ≡ u
