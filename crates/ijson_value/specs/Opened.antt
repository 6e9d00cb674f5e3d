-- The value whose content a `DestructuredRef` or a `DestructuredMut` refers to, as in the Rust
-- crate `ijson`.
use Rattle.ijson_value.specs.Values.{null_value, boolean_value, number_value, string_value, array_value, object_value}
use Rattle.ijson_value.specs.WellFormed.{WellFormed}
use Rattle.ijson_value.specs.declared.value.destructure.DestructuredRef.{DestructuredRef}
use Rattle.ijson_value.specs.declared.value.destructure.DestructuredRef.TheVariants.{Null, Bool, Number, String, Array, Object}
use Rattle.ijson_value.specs.declared.value.destructure.DestructuredMut.{DestructuredMut}
use Rattle.ijson_value.specs.declared.value.destructure.DestructuredMut.TheVariants as parts

-- The value whose content the `DestructuredRef` refers to.
abbrev pub ref_value : DestructuredRef → WellFormed
ref_value Null = null_value
ref_value (Bool b) = boolean_value b
ref_value (Number n) = number_value n.now
ref_value (String s) = string_value s.now
ref_value (Array a) = array_value a.now.items
ref_value (Object o) = object_value o.now

-- The value whose content the `DestructuredMut` refers to, before any write.
-- e.g. like `node_value`, of a borrowed array.
abbrev pub mut_value : DestructuredMut → WellFormed
mut_value parts.Null = null_value
mut_value (parts.Bool b) = boolean_value b.place.now
mut_value (parts.Number n) = number_value n.now
mut_value (parts.String s) = string_value s.now
mut_value (parts.Array a) = array_value a.now.items
mut_value (parts.Object o) = object_value o.now
