-- How a number is represented: by a mantissa and an exponent in 64 bits, by an `i64`, by a `u64`,
-- or by a list of digits.
use Rattle.std.specs.Prelude.{ℕ, zero, suc, ◌^◌, ℤ, pos, negsuc, neg_ℤ, nat_abs, ◌*ℤ◌, ◌-ℤ◌, int_lt, int_le, Bool, true, false, ◌&&◌, List}
use Rattle.ijson_number.specs.Decimal.{Decimal}
use Rattle.ijson_number.specs.StrippedDigits.{stripped_digits}

pub data FormOf : Type 0 where
  packed : ℤ → ℤ → Bool → FormOf
  signed_word : ℤ → FormOf
  unsigned_word : ℕ → FormOf
  digits : Bool → List ℕ → ℤ → Bool → FormOf

-- Returns `true` if a mantissa fits a packed number, which has 56 bits for it:
-- `-(2 ^ 55) <= m < 2 ^ 55`.
abbrev pub fits_packed : ℤ → Bool
fits_packed m = int_le (neg_ℤ (pos 36028797018963968)) m && int_lt m (pos 36028797018963968)

abbrev pub fits_i64 : ℤ → Bool
fits_i64 m = int_le (neg_ℤ (pos (2 ^ 63))) m && int_lt m (pos (2 ^ 63))

abbrev pub fits_u64 : ℤ → Bool
fits_u64 m = int_le (pos 0) m && int_lt m (pos (2 ^ 64))

abbrev pub digits_form : Decimal → FormOf
digits_form n = digits (int_lt n.mantissa (pos 0)) (stripped_digits n) n.exponent n.point

-- The representation of `n`, a number without a decimal point whose value is the integer `m`.
abbrev pub integer_form : Decimal → ℤ → FormOf
integer_form n m =
    elim (fits_packed m) [
      | true ↦ packed m (pos 0) false
      | false ↦ elim (fits_i64 m) [
        | true ↦ signed_word m
        | false ↦ elim (fits_u64 m) [
          | true ↦ unsigned_word (nat_abs m)
          | false ↦ digits_form n
        ]
      ]
    ]

-- The packed representation of `n` with the smallest exponent for which the mantissa fits, or the
-- list of digits if no mantissa fits. Tries the `tries` exponents from `k` on, up to the exponent
-- of `n`.
abbrev pub smallest_packed : (tries k : ℕ) → Decimal → FormOf
smallest_packed zero k n = digits_form n
smallest_packed (suc tries) k n =
    let m = n.mantissa *ℤ pos (10 ^ nat_abs (n.exponent -ℤ pos k)) in
    elim (int_le (pos k) n.exponent && fits_packed m) [
      | true ↦ packed m (pos k) true
      | false ↦ smallest_packed tries (suc k) n
    ]

-- The representation of `n`. A number with a decimal point is packed only with an exponent from -7
-- (`negsuc 6`) to 7.
-- e.g. 36028797018963967 is packed, 36028797018963968 a signed word, 9223372036854775808 an
-- unsigned one, 18446744073709551616 digits; `1e23` is packed as 10000000000000000 and 7.
abbrev pub form_of : Decimal → FormOf
form_of n =
    elim n.point [
      | false ↦ integer_form n (n.mantissa *ℤ pos (10 ^ nat_abs n.exponent))
      | true ↦ elim (int_le (pos 0) n.exponent) [
        | true ↦ smallest_packed 8 0 n
        | false ↦ elim (int_le (negsuc 6) n.exponent && fits_packed n.mantissa) [
          | true ↦ packed n.mantissa n.exponent true
          | false ↦ digits_form n
        ]
      ]
    ]

-- Returns `true` if a representation is a list of digits. Only a list of digits is allocated.
-- e.g. so for `1e24` and `441044444333116.125`, not for `1e23`.
abbrev pub is_digits : FormOf → Bool
is_digits (packed m e point) = false
is_digits (signed_word z) = false
is_digits (unsigned_word n) = false
is_digits (digits negative ds e point) = true
