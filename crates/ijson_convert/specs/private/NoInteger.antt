-- Holds if `e` is the error for a value that is not an integer of the requested type.
use Rattle.std.specs.Prelude.{◌≡◌}
use Rattle.ijson_value.specs.Tree.{Tree, number}
use Rattle.ijson_convert.specs.declared.convert_error.ConvertError.{ConvertError}
use Rattle.ijson_convert.specs.declared.convert_error.ConvertError.TheVariants.{WrongKind, OutOfRange}

abbrev pub IsNoInteger : Tree → ConvertError → Type 0
IsNoInteger (number n) e = e ≡ OutOfRange
IsNoInteger _ e = e ≡ WrongKind
