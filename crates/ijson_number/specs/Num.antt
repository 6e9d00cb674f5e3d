-- The numbers that a JSON value can hold: canonical decimals whose exponent is within a limit. The
-- limit is this project's own.
use Rattle.std.specs.Prelude.{ℤ, pos, neg_ℤ, ◌^◌, nat_abs, int_le, nat_eq, Bool, ◌&&◌, ◌||◌, IsTrue}
use Rattle.ijson_number.specs.Decimal.{Decimal, IsPlain}

-- The maximum absolute value of an exponent, `2 ^ 30`.
abbrev pub exponent_limit : ℤ
exponent_limit = pos (2 ^ 30)

-- Returns `true` if the number is zero or the absolute value of its exponent is at most
-- `exponent_limit`.
-- e.g. `10e1073741823` is in range, with exponent 1073741824; `10e1073741824` is not;
-- `0e99999999999999999999` is.
abbrev pub is_in_range : Decimal → Bool
is_in_range n =
    nat_eq (nat_abs n.mantissa) 0
    || (int_le (neg_ℤ exponent_limit) n.exponent && int_le n.exponent exponent_limit)

-- Holds if the decimal is canonical and its exponent is within the limit.
pub record IsNum (n : Decimal) : Type 0 where
  pub plain : IsPlain n
  pub in_range : IsTrue (is_in_range n)

-- A decimal with a proof that a JSON value can hold it.
-- e.g. 15 and -1 with a point is a Num; 150 and -2 is not.
pub record Num : Type 0 where
  pub decimal : Decimal
  pub is_num : IsNum decimal
