-- Holds if the tree is accepted: no error rejects it.
use Rattle.ijson_value.specs.Tree.{Tree}
use Rattle.ijson_convert.specs.declared.convert_error.ConvertError.{ConvertError}

-- e.g. 2.0 is read as an `i32`.
abbrev pub IsRead : (Tree → ConvertError → Type 0) → Tree → Type 0
IsRead Refused t = (e : ConvertError) → Refused t e → ⊥
