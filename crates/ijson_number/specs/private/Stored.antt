-- The representation that each kind of stored number denotes.
use Rattle.std.specs.Prelude.{◌≡◌, ◌≢◌, ◌↔◌, ⊤}
use Rattle.ijson_number.specs.Decimal.{Decimal}
use Rattle.ijson_number.specs.Form.{FormOf, packed, signed_word, unsigned_word, digits, form_of}
use Rattle.ijson_number.specs.FormNumber.{form_number}
use Rattle.ijson_number.specs.private.ShortDigits.{short_digits}
use Rattle.ijson_number.specs.private.Word.{word_exponent, word_mantissa, word_point}
use Rattle.ijson_number.specs.declared.repr.stored.LongNumber.{LongNumber}
use Rattle.ijson_number.specs.declared.repr.stored.ShortNumber.{ShortNumber}
use Rattle.ijson_number.specs.declared.repr.stored.Stored.{Stored}
use Rattle.ijson_number.specs.declared.repr.stored.Stored.TheVariants.{Packed, I64, U64, Short, Long}

abbrev pub short_form : ShortNumber → FormOf
short_form n = digits n.negative (short_digits n.digits) n.exponent n.point

abbrev pub long_form : LongNumber → FormOf
long_form n = digits n.negative n.digits.items n.exponent n.point

abbrev pub stored_form : Stored → FormOf
stored_form (Packed word) = packed (word_mantissa word.bits) (word_exponent word.bits) (word_point word.bits)
stored_form (I64 value) = signed_word value
stored_form (U64 value) = unsigned_word value
stored_form (Short number) = short_form number.value
stored_form (Long number) = long_form number.value

abbrev pub stored_decimal : Stored → Decimal
stored_decimal stored = form_number (stored_form stored)

-- Holds if the number is stored in the representation that `form_of` selects for it.
abbrev pub IsForm : Stored → Type 0
IsForm stored = form_of (stored_decimal stored) ≡ stored_form stored

-- Holds if the number is stored in one block with up to 19 digits, its sign and its exponent.
abbrev pub IsShort : Stored → Type 0
IsShort (Short number) = ⊤
IsShort (Long number) = ⊥
IsShort (Packed word) = ⊥
IsShort (I64 value) = ⊥
IsShort (U64 value) = ⊥

-- Holds if `copy` has the same representation as `stored`, and both are stored in a block or
-- neither is.
pub record IsCopy (stored copy : Stored) : Type 0 where
  pub form : stored_form copy ≡ stored_form stored
  pub short : IsShort stored ↔ IsShort copy

-- Holds if the number is stored as digits, in a block or in a list.
abbrev pub IsList : Stored → Type 0
IsList (Short number) = ⊤
IsList (Long number) = ⊤
IsList (Packed word) = ⊥
IsList (I64 value) = ⊥
IsList (U64 value) = ⊥

-- Holds if two stored numbers have different forms, but agree on the decimal point.
pub record IsOtherWord (stored other : Stored) : Type 0 where
  pub form : stored_form stored ≢ stored_form other
  pub point : (stored_decimal stored).point ≡ (stored_decimal other).point
