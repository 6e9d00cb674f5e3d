-- `map_tree` is the tree of a map with string keys: an object with the map's entries in order.
use Rattle.std.specs.Prelude.{ℕ, List, map, String, string_bytes}
use Rattle.std.specs.declared.alloc.Global.{Global}
use Rattle.ijson_value.specs.Tree.{Tree, object, members_of}

abbrev pub pair_tree : {X : Type 0} → (X → Tree) → String Global × X → List ℕ × Tree
pair_tree tree pair = (string_bytes pair.0, tree pair.1)

-- e.g. the map b:1, a:2 in that order is `{"b":1,"a":2}`.
abbrev pub map_tree : {X : Type 0} → (X → Tree) → List (String Global × X) → Tree
map_tree tree pairs = object (members_of (map (pair_tree tree) pairs))
