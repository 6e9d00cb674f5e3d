-- The mathematical value of a `Form`, with its borrowed digits as a list.
use Rattle.ijson_number.specs.Form.{FormOf, packed, signed_word, unsigned_word, digits}
use Rattle.ijson_number.specs.declared.number.Form.{Form}
use Rattle.ijson_number.specs.declared.number.Form.TheVariants.{Packed, I64, U64, Digits}

-- e.g. a `Packed` of 5, -1 and a point is `packed` of the same.
abbrev pub form_value : Form → FormOf
form_value (Packed mantissa exponent point) = packed mantissa exponent point
form_value (I64 value) = signed_word value
form_value (U64 value) = unsigned_word value
form_value (Digits negative ds exponent point) = digits negative ds.now exponent point
