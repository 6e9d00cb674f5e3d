-- The number that a representation denotes.
use Rattle.std.specs.Prelude.{nat_abs, ℤ, pos, true, false}
use Rattle.ijson_number.specs.Decimal.{Decimal}
use Rattle.ijson_number.specs.Form.{FormOf, packed, signed_word, unsigned_word, digits, fits_packed, fits_i64}
use Rattle.ijson_number.specs.StoredNumber.{stored_number}
use Rattle.ijson_number.specs.Stripped.{stripped_number}

abbrev pub form_number : FormOf → Decimal
form_number (packed m e point) = stripped_number m e point
form_number (signed_word z) = stripped_number z (pos 0) false
form_number (unsigned_word n) = stripped_number (pos n) (pos 0) false
form_number (digits negative ds e point) = stored_number negative ds e point

-- The representation of an integer that fits an `i64` or a `u64`.
-- e.g. packed 15 with exponent -1 and a point is `1.5`; 5 is packed, and 2^55 a signed word.
abbrev pub integer_word : ℤ → FormOf
integer_word z =
    elim (fits_packed z) [
      | true ↦ packed z (pos 0) false
      | false ↦ elim (fits_i64 z) [ true ↦ signed_word z | false ↦ unsigned_word (nat_abs z) ]
    ]
