-- The content of a value is smaller than the value.
use Rattle.std.specs.Prelude.{◌≤◌, max}
use Rattle.std.proofs.Common.{arith}
use Rattle.ijson_value.specs.Sizes.{value_size}
use Rattle.ijson_value.specs.NodeValue.{node_value}
use Rattle.ijson_value.specs.declared.value.Destructured.{Destructured}
use Rattle.ijson_value.specs.declared.value.Destructured.TheVariants.{Null}
use Rattle.ijson_value.specs.declared.array.IArray.TheDeep.{deep-Destructured}

pub node_falls : (n : Destructured) → max (deep-Destructured n) 0 ≤ value_size (node_value n)
node_falls Null = omega arith
node_falls n = omega arith
