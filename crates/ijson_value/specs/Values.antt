-- Values of each kind, from their content.
use Rattle.std.specs.Prelude.{Bool, ℕ, List}
use Rattle.ijson_number.specs.Num.{Num}
use Rattle.ijson_table.specs.Store.{Store}
use Rattle.ijson_value.specs.Tree.{Tree, null, boolean, number, string, array, object}
use Rattle.ijson_value.specs.WellFormed.{WellFormed, item_trees, pair_trees}
use Rattle.ijson_value.specs.laws.HoldsWellFormed.{AreWellFormed-items, IsWellFormed-object}

-- The tree of an array with the elements `vs`.
abbrev pub array_tree : List WellFormed → Tree
array_tree vs = array (item_trees vs)

-- The tree of an object with the entries `ps`.
abbrev pub object_tree : List (List ℕ × WellFormed) → Tree
object_tree ps = object (pair_trees ps)

-- The value null.
abbrev pub null_value : WellFormed
null_value = record { tree = null; well_formed = tt }

-- The Boolean `b` as a value.
abbrev pub boolean_value : Bool → WellFormed
boolean_value b = record { tree = boolean b; well_formed = tt }

-- The number `n` as a value.
abbrev pub number_value : Num → WellFormed
number_value n = record { tree = number n.decimal; well_formed = n.is_num }

-- The string with the bytes `s` as a value.
abbrev pub string_value : List ℕ → WellFormed
string_value s = record { tree = string s; well_formed = tt }

-- The array with the elements `vs` as a value.
abbrev pub array_value : List WellFormed → WellFormed
array_value vs = record { tree = array_tree vs; well_formed = AreWellFormed-items vs }

-- The object `s` as a value.
-- e.g. the array value of no elements is the value of `[]`.
abbrev pub object_value : Store WellFormed → WellFormed
object_value s = record { tree = object_tree s.pairs; well_formed = IsWellFormed-object s }
