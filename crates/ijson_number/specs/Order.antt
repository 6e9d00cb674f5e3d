-- The order of numbers by value: `2` and `2.0` are equal.
use Rattle.std.specs.Prelude.{◌^◌, ℤ, pos, nat_abs, ◌-ℤ◌, ◌*ℤ◌, Bool}
use Rattle.std.specs.Int.{int_min}
use Rattle.std.specs.declared.cmp.Ordering.{Ordering}
use Rattle.std.specs.Ordering.{int_cmp, is_eq}
use Rattle.ijson_number.specs.Decimal.{Decimal}

-- The mantissa of `n` scaled to the exponent `c`. Requires that `c` is at most the exponent of `n`.
abbrev pub at_exponent : ℤ → Decimal → ℤ
at_exponent c n = n.mantissa *ℤ pos (10 ^ nat_abs (n.exponent -ℤ c))

-- The order of two numbers by value: compares the mantissas scaled to the smaller exponent.
abbrev pub number_cmp : Decimal → Decimal → Ordering
number_cmp a b =
    let c = int_min a.exponent b.exponent in
    int_cmp (at_exponent c a) (at_exponent c b)

-- Returns `true` if two numbers have the same value.
-- e.g. 2 and 2.0 tie; 2.5 is above 2, since 25 is above 20 at exponent -1.
abbrev pub number_eq : Decimal → Decimal → Bool
number_eq a b = is_eq (number_cmp a b)
