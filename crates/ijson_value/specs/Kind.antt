-- The kind of a tree, as in the Rust crate `ijson`.
use Rattle.ijson_value.specs.Tree.{Tree, null, boolean, number, string, array, object}
use Rattle.ijson_value.specs.declared.value.ValueType.{ValueType}
use Rattle.ijson_value.specs.declared.value.ValueType.TheVariants.{Null, Bool, Number, String, Array, Object}

-- e.g. of `2.5` it is `Number`; the kinds are ordered Null, Bool, Number, String, Array, Object.
abbrev pub kind_of : Tree → ValueType
kind_of null = Null
kind_of (boolean b) = Bool
kind_of (number n) = Number
kind_of (string s) = String
kind_of (array ts) = Array
kind_of (object ps) = Object
