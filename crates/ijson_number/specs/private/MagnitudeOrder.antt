-- The order of two numbers by absolute value.
use Rattle.std.specs.Prelude.{false, true}
use Rattle.std.specs.declared.cmp.Ordering.{Ordering}
use Rattle.ijson_number.specs.Decimal.{Decimal}
use Rattle.ijson_number.specs.Order.{number_cmp}
use Rattle.ijson_number.specs.StrippedDigits.{stripped_digits}
use Rattle.ijson_number.specs.StoredNumber.{stored_number}

abbrev pub magnitude_cmp : Decimal → Decimal → Ordering
magnitude_cmp a b =
    number_cmp (stored_number false (stripped_digits a) a.exponent true)
    (stored_number false (stripped_digits b) b.exponent true)
