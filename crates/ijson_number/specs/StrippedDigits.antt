-- The decimal digits of a mantissa.
use Rattle.std.specs.Prelude.{ℕ, zero, suc, ◌/◌, ◌%◌, nat_eq, nat_abs, true, false, List, [], ◌∷◌, ◌++◌}
use Rattle.ijson_number.specs.Decimal.{Decimal}

-- The last `turns` digits of a number, most significant first, or all of its digits if it has
-- fewer.
abbrev pub digits_within : ℕ → ℕ → List ℕ
digits_within zero n = []
digits_within (suc turns) n =
    elim (nat_eq n 0) [
      | true ↦ []
      | false ↦ digits_within turns (n / 10) ++ (n % 10 ∷ [])
    ]

-- The digits of the mantissa of `n`, most significant first. The list is empty for zero.
-- e.g. of -250, whose significand is -25, the digits are 2, 5; of 0 there are none.
abbrev pub stripped_digits : Decimal → List ℕ
stripped_digits n = digits_within (nat_abs n.mantissa) (nat_abs n.mantissa)
