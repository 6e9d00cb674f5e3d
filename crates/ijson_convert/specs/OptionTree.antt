-- The tree of an option: null for `None`, and the content's tree for `Some`.
use Rattle.std.specs.Prelude.{Option, None, Some}
use Rattle.ijson_value.specs.Tree.{Tree, null}

-- e.g. `None` is null, `Some(2)` is the tree of 2.
abbrev pub option_tree : {X : Type 0} → (X → Tree) → Option X → Tree
option_tree tree None = null
option_tree tree (Some x) = tree x
