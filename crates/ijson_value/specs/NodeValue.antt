-- The value with a given content, as in the Rust crate `ijson`.
use Rattle.ijson_value.specs.Values.{null_value, boolean_value, number_value, string_value, array_value, object_value}
use Rattle.ijson_value.specs.WellFormed.{WellFormed}
use Rattle.ijson_value.specs.declared.value.Destructured.{Destructured}
use Rattle.ijson_value.specs.declared.value.Destructured.TheVariants.{Null, Bool, Number, String, Array, Object}

-- e.g. an opened array of 1 and 2 is the value of `[1,2]`.
abbrev pub node_value : Destructured → WellFormed
node_value Null = null_value
node_value (Bool b) = boolean_value b
node_value (Number n) = number_value n
node_value (String s) = string_value s
node_value (Array a) = array_value a.items
node_value (Object s) = object_value s
