-- The values of an object are smaller than the object.
use Rattle.std.specs.Prelude.{◌≤◌, Option, Some, None}
use Rattle.std.proofs.Common.{arith}
use Rattle.std.specs.declared.alloc.Global.{Global}
use Rattle.std.specs.declared.boxed.Box.{Box}
use Rattle.ijson_table.specs.Placed.{Placed}
use Rattle.ijson_value.specs.WellFormed.{WellFormed}
use Rattle.ijson_value.specs.laws.Falls.{pairs_fall}
use Rattle.ijson_value.specs.private.Boxed.{table_store}
use Rattle.ijson_value.specs.Sizes.{object_size}
use Rattle.ijson_value.specs.declared.array.IArray.TheDeep.{deep-IObject}

pub object_falls : (table : Option (Box (Placed WellFormed) Global)) (alloc : Global)
    → deep-IObject (record { table = table; alloc = alloc }) ≤ object_size (table_store table)
object_falls None alloc = omega arith
object_falls (Some table) alloc = omega (arith, pairs_fall table.value.store.pairs)
