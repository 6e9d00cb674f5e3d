-- Steps from a value to a value inside it, as in the Rust crate `ijson`.
use Rattle.std.specs.Prelude.{ℕ, List, Option, None, set, slice_get}
use Rattle.std.specs.List.{remove}
use Rattle.ijson_table.specs.Store.{lookup, put}
use Rattle.ijson_value.specs.AtKey.{swap_out_key}
use Rattle.ijson_value.specs.Tree.{Tree, array, object, items_of, items_list, members_of, members_list}
use Rattle.ijson_value.specs.declared.value.ValueType.{ValueType}
use Rattle.ijson_value.specs.declared.value.ValueType.TheVariants.{Array, Object}

-- The index of an element of an array, or a key of an object.
pub data Step : Type 0 where
  by_position : ℕ → Step
  by_key : List ℕ → Step

-- The kind that a value must have for the step: an array for an index, an object for a key.
-- e.g. `[1,2]` is entered by index 1, `{"a":1}` by the key a.
abbrev pub kind_for : Step → ValueType
kind_for (by_position i) = Array
kind_for (by_key key) = Object

-- The tree at the step, or `None` if no value exists there.
abbrev pub tree_at : Tree → Step → Option Tree
tree_at (array ts) (by_position i) = slice_get (items_list ts) i
tree_at (object ps) (by_key key) = lookup key (members_list ps)
tree_at _ _ = None

-- The tree with the value at the step replaced by `u`. A missing key is appended.
abbrev pub tree_with : Tree → Step → Tree → Tree
tree_with (array ts) (by_position i) u = array (items_of (set (items_list ts) i u))
tree_with (object ps) (by_key key) u = object (members_of (put (members_list ps) key u))
tree_with t _ u = t

-- The tree without the value at the step. Later elements of an array shift to the left. The last
-- entry of an object replaces the removed entry.
-- e.g. at index 1 of `[null,true,false]` is `true`; without it `[null,false]` is left; without b,
-- the members a, b, c, d are a, d, c.
abbrev pub tree_without : Tree → Step → Tree
tree_without (array ts) (by_position i) = array (items_of (remove (items_list ts) i))
tree_without (object ps) (by_key key) = object (members_of (swap_out_key key (members_list ps)))
tree_without t _ = t
