-- The number that a `StrippedNumber` denotes.
use Rattle.ijson_number.specs.Decimal.{Decimal}
use Rattle.ijson_number.specs.Num.{Num}
use Rattle.ijson_number.specs.StoredNumber.{stored_number}
use Rattle.ijson_number.specs.declared.repr.stored.StrippedNumber.{StrippedNumber}

abbrev pub decimal_of : StrippedNumber → Decimal
decimal_of n = stored_number n.negative n.digits.now n.exponent n.point

-- The number that a `StrippedNumber` denotes, with its proof of `IsNum`.
abbrev pub stripped_num : StrippedNumber → Num
stripped_num n = record { decimal = decimal_of n; is_num = n.num }
