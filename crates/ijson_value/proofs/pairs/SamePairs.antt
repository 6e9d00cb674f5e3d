-- Objects with the same entries are the same value.
use Rattle.std.proofs.Common.{◌≡◌, ap}
use Rattle.ijson_table.specs.Store.{Store}
use Rattle.ijson_value.specs.Values.{object_tree, object_value}
use Rattle.ijson_value.specs.WellFormed.{WellFormed}
use Rattle.ijson_value.specs.laws.WellFormedCode.{one_tree}

-- Objects with the same entries are the same value, for any capacities.
pub same_pairs_value : (s r : Store WellFormed) → s.pairs ≡ r.pairs → object_value s ≡ object_value r
same_pairs_value s r e = one_tree (object_value s) (object_value r) (ap object_tree e)
