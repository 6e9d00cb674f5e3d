-- `null_value` is the only value of kind null.
use Rattle.std.proofs.Common.{◌≡◌, refl}
use Rattle.ijson_value.specs.Kind.{kind_of}
use Rattle.ijson_value.specs.Tree.{Tree, null}
use Rattle.ijson_value.specs.Values.{null_value}
use Rattle.ijson_value.specs.WellFormed.{WellFormed, IsWellFormed}
use Rattle.ijson_value.specs.declared.value.ValueType.TheVariants as kind

-- A well-formed tree of kind null is the tree of `null_value`.
only_null : (t : Tree) (h : IsWellFormed t) → kind_of t ≡ kind.Null → null_value ≡ record { tree = t; well_formed = h }
only_null null h e = refl
only_null t h e = absurd (cc)

-- A value of kind null is `null_value`.
pub is_null : (v : WellFormed) → kind_of v.tree ≡ kind.Null → null_value ≡ v
is_null v e = only_null v.tree v.well_formed e
