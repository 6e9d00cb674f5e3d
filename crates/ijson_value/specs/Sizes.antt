-- Sizes of values, arrays and objects. Each size exceeds the sizes of all values inside.
use Rattle.std.specs.Prelude.{ℕ, ◌+◌, ◌*◌}
use Rattle.ijson_table.specs.Store.{Store}
use Rattle.ijson_value.specs.Tree.{depth, items_depth, members_depth}
use Rattle.ijson_value.specs.Sequence.{Sequence}
use Rattle.ijson_value.specs.WellFormed.{WellFormed, item_trees, pair_trees}

-- The size of a value: twice its nesting depth.
abbrev pub value_size : WellFormed → ℕ
value_size v = 2 * depth v.tree

-- The size of an array: twice the maximum depth of its elements, plus one.
abbrev pub array_size : Sequence → ℕ
array_size a = 2 * items_depth (item_trees a.items) + 1

-- The size of an object: twice the maximum depth of its values, plus one.
-- e.g. of `[1]` the array has size 1, the value 2, and the value in it 0.
abbrev pub object_size : Store WellFormed → ℕ
object_size s = 2 * members_depth (pair_trees s.pairs) + 1
