-- The tree of a list: an array of the trees of its elements, in order.
use Rattle.std.specs.Prelude.{List, map}
use Rattle.ijson_value.specs.Tree.{Tree, array, items_of}

-- e.g. the list 1, 2 is `[1,2]`.
abbrev pub list_tree : {X : Type 0} → (X → Tree) → List X → Tree
list_tree tree xs = array (items_of (map tree xs))
