-- A packed number in one word of 64 bits. The layout is this project's own.
--
-- | Bits | Content |
-- |---|---|
-- | 8 to 63 | the mantissa in two's complement |
-- | 4 to 7 | the exponent plus 7, or 15 for a number without a decimal point |
-- | 0 to 3 | the value 8 |
use Rattle.std.specs.Prelude.{ℕ, ◌/◌, ◌%◌, ◌^◌, nat_eq, nat_lt, ℤ, pos, ◌-ℤ◌, Bool, true, false, not}

abbrev pub word_mantissa : ℕ → ℤ
word_mantissa bits = elim (nat_lt (bits / 256) (2 ^ 55)) [ true ↦ pos (bits / 256) | false ↦ pos (bits / 256) -ℤ pos (2 ^ 56) ]

abbrev pub word_code : ℕ → ℕ
word_code bits = bits / 16 % 16

abbrev pub word_exponent : ℕ → ℤ
word_exponent bits = elim (nat_eq (word_code bits) 15) [ true ↦ pos 0 | false ↦ pos (word_code bits) -ℤ pos 7 ]

abbrev pub word_point : ℕ → Bool
word_point bits = not (nat_eq (word_code bits) 15)
