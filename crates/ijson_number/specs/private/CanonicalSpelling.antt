-- The parts of a number that a `Spelling` of the general reader denotes.
use Rattle.std.specs.Prelude.{ℕ, List, ◌++◌}
use Rattle.ijson_number.specs.Decimal.{Decimal}
use Rattle.ijson_number.specs.Num.{IsNum}
use Rattle.ijson_number.specs.Strips.{signed}
use Rattle.ijson_number.specs.StoredNumber.{stored_number}
use Rattle.ijson_number.specs.private.StoredNumber.{IsStored}
use Rattle.ijson_number.specs.Grammar.{AllDigits, Parts, value}
use Rattle.ijson_number.specs.declared.general_reader.Spelling.{Spelling}
use Rattle.ijson_number.specs.declared.general_reader.CanonicalSpelling.{CanonicalSpelling}
use Rattle.ijson_number.specs.private.Stripped.{digits_from_text}

abbrev pub parts_of : Spelling → Parts
parts_of s = record {
  negative = s.negative;
  whole = s.whole.now;
  fraction = s.tail.fraction.now;
  exponent = signed s.tail.negative (value s.tail.exponent.now);
  point = s.tail.point;
}

abbrev pub spelled_digits : CanonicalSpelling → List ℕ
spelled_digits s = digits_from_text (s.front.now ++ s.back.now)

abbrev pub spelled_number : CanonicalSpelling → Decimal
spelled_number s = stored_number s.negative (spelled_digits s) s.exponent s.point

-- Holds if the digits of `s` are ASCII digits, form a canonical mantissa, and denote a number
-- within the limits.
pub record IsCanonicalSpelling (s : CanonicalSpelling) : Type 0 where
  pub front : AllDigits s.front.now
  pub back : AllDigits s.back.now
  pub num : IsNum (spelled_number s)
  pub stored : IsStored s.negative (spelled_digits s)
