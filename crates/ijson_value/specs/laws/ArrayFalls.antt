-- The elements of an array are smaller than the array.
use Rattle.std.specs.Prelude.{◌≤◌, Option, Some, None}
use Rattle.std.proofs.Common.{arith}
use Rattle.std.specs.declared.alloc.Global.{Global}
use Rattle.std.specs.declared.boxed.Box.{Box}
use Rattle.std.specs.declared.vec.Vec.{Vec}
use Rattle.ijson_value.specs.WellFormed.{WellFormed}
use Rattle.ijson_value.specs.laws.Falls.{items_fall}
use Rattle.ijson_value.specs.private.Boxed.{list_items, list_capacity}
use Rattle.ijson_value.specs.Sizes.{array_size}
use Rattle.ijson_value.specs.declared.array.IArray.TheDeep.{deep-IArray}

pub array_falls : (list : Option (Box (Vec WellFormed Global) Global)) (alloc : Global)
    → deep-IArray (record { list = list; alloc = alloc })
    ≤ array_size (record { items = list_items list; capacity = list_capacity list })
array_falls None alloc = omega arith
array_falls (Some list) alloc = omega (arith, items_fall list.value.items)
