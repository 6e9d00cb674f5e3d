-- Significands, as the fast reader returns them. `significand_of` assembles a significand from its
-- fields.
use Rattle.std.specs.Prelude.{◌≡◌, ◌⊎◌, ℕ, ◌+◌, ◌^◌, ◌<◌, ◌≤◌, Bool, List, ◌++◌, drop, length, nat_lt, take, true, false}
use Rattle.std.specs.Prelude.{ℤ, pos, negsuc, neg_ℤ, ◌*◌, ◌+ℤ◌, ◌≤ℤ◌}
use Rattle.std.specs.Int.Digits.{number_from_digits_after}
use Rattle.ijson_number.specs.private.CommonFront.{EndsDigits, EndsToken}
use Rattle.ijson_number.specs.Decimal.{Decimal}
use Rattle.ijson_number.specs.Grammar.{IsExponent, IsFraction, IsMinus, IsWhole, Spells, value}
use Rattle.ijson_number.specs.Num.{IsNum}
use Rattle.ijson_number.specs.NumberFront.{HasNoPoint}
use Rattle.ijson_number.specs.Stripped.{stripped_number}
use Rattle.ijson_number.specs.Strips.{signed}
use Rattle.ijson_number.specs.private.Stripped.{digits_from_text}
use Rattle.ijson_number.specs.declared.fast_reader.Front.{Front}
use Rattle.ijson_number.specs.declared.significand.Significand.{Significand}

abbrev pub significand_of : (negative : Bool) (magnitude : ℕ) (exponent : ℤ) (point : Bool) → Significand
significand_of negative magnitude exponent point =
    record { negative = negative; magnitude = magnitude; exponent = exponent; point = point }

-- The number that a significand denotes, without trailing zeros in its mantissa.
abbrev pub significand_number : Significand → Decimal
significand_number s = stripped_number (signed s.negative s.magnitude) s.exponent s.point

-- The number that a significand denotes if ten does not divide its magnitude.
abbrev pub canonical_number : Significand → Decimal
canonical_number s = record { mantissa = signed s.negative s.magnitude; exponent = s.exponent; point = s.point }

-- Holds if `t` is `s` with `count` trailing zeros of its magnitude stripped, and the exponent
-- increased by `count`.
pub record HasFewerTens (s t : Significand) : Type 0 where
  pub count : ℕ
  pub magnitude : s.magnitude ≡ t.magnitude * 10 ^ count
  pub exponent : t.exponent ≡ s.exponent +ℤ pos count

-- Holds if `text` is an optional fraction of `scale` digits followed by `rest`, and `longer` is
-- `number` with these digits appended.
pub record IsFractionTaken (number : ℕ) (text : List ℕ) (longer scale : ℕ) (rest : List ℕ) : Type 0 where
  pub front : List ℕ
  pub digits : List ℕ
  pub text_is : text ≡ front ++ rest
  pub fraction : IsFraction front digits (nat_lt 0 scale)
  pub count : length digits ≡ scale
  pub value : longer ≡ number_from_digits_after 10 number (digits_from_text digits)
  pub few : scale ≤ 19
  pub small : longer < 10 ^ 19
  pub no_point : HasNoPoint (nat_lt 0 scale) rest

-- Holds if `text` is the optional fraction `front` followed by `rest`, and the fraction has few
-- digits.
--
-- The `count` whole digits of `number` and the fraction digits are at most 19 digits together. If
-- `number` is 0, the fraction alone has at most 19 digits.
pub record IsFewFraction (number count : ℕ) (text front rest : List ℕ) : Type 0 where
  pub digits : List ℕ
  pub has_point : Bool
  pub text_is : text ≡ front ++ rest
  pub fraction : IsFraction front digits has_point
  pub few : (count + length digits ≤ 19) ⊎ ((number ≡ 0) × (length digits ≤ 19))
  pub ends : EndsDigits has_point rest

-- Holds if `text` is an optional sign, a whole part and an optional fraction, followed by `rest`,
-- and `f` has their value and their length. The fraction has at most 19 digits, and the magnitude
-- is below `10 ^ 19`.
pub record IsMantissa (text : List ℕ) (f : Front) (rest : List ℕ) : Type 0 where
  pub minus_text : List ℕ
  pub whole : List ℕ
  pub fraction_text : List ℕ
  pub fraction : List ℕ
  pub text_is : text ≡ (minus_text ++ (whole ++ fraction_text)) ++ rest
  pub length_is : f.length ≡ length (minus_text ++ (whole ++ fraction_text))
  pub minus : IsMinus minus_text f.significand.negative
  pub whole_is : IsWhole whole
  pub fraction_is : IsFraction fraction_text fraction f.significand.point
  pub exponent_is : f.significand.exponent ≡ neg_ℤ (pos (length fraction))
  pub magnitude_is : f.significand.magnitude ≡ value (whole ++ fraction)
  pub few : length fraction ≤ 19
  pub small : f.significand.magnitude < 10 ^ 19
  pub no_point : HasNoPoint f.significand.point rest

-- Holds if the absolute value of the exponent is at most 9999.
abbrev pub IsPowerSmall : ℤ → Type 0
IsPowerSmall power = (neg_ℤ (pos 9999) ≤ℤ power) × (power ≤ℤ pos 9999)

-- Holds if the first `count` bytes of `text` are an exponent of value `power` with at most four
-- digits, and neither a digit nor a letter follows.
pub record IsPower (text : List ℕ) (power : ℤ) (count : ℕ) : Type 0 where
  pub within : count ≤ length text
  pub exponent : IsExponent (take count text) power true
  pub small : IsPowerSmall power
  pub ends : EndsToken (drop count text)

-- Holds if the fast reader can return the significand.
--
-- - The magnitude is below `10 ^ 19`.
-- - The absolute value of the exponent is at most 10050.
-- - The exponent is 0 without a decimal point, and at least -19 for zero.
-- - The number is within the limits.
pub record IsSmall (s : Significand) : Type 0 where
  pub magnitude : s.magnitude < 10 ^ 19
  pub low : neg_ℤ (pos 10050) ≤ℤ s.exponent
  pub high : s.exponent ≤ℤ pos 10050
  pub integer : s.point ≡ false → s.exponent ≡ pos 0
  pub zero : s.magnitude ≡ 0 → neg_ℤ (pos 19) ≤ℤ s.exponent
  pub num : IsNum (significand_number s)

-- Holds if the first `f.length` bytes of `text` are a number with the value of `f`, and the next
-- byte, if any, does not continue the number and is neither a digit nor a letter.
pub record IsFront (text : List ℕ) (f : Front) : Type 0 where
  pub within : f.length ≤ length text
  pub spelled : Spells (take f.length text) (significand_number f.significand)
  pub small : IsSmall f.significand
  pub ends : EndsToken (drop f.length text)
  pub digits_end : EndsDigits f.significand.point (drop f.length text)

-- Holds if a significand has an exponent from -7 to 0 and a magnitude below `2 ^ 55`.
abbrev pub IsCommonWord : Significand → Type 0
IsCommonWord s = (negsuc 6 ≤ℤ s.exponent) × (s.exponent ≤ℤ pos 0) × (s.magnitude < 2 ^ 55)
