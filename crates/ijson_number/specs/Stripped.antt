-- Stripping the trailing zeros of a mantissa. `with_ten` is one step: if ten divides `n`, the step
-- counts one zero in addition to the zeros that `rest` counts; otherwise nothing is stripped.
use Rattle.std.specs.Prelude.{ℕ, zero, suc, ◌/◌, ◌%◌, nat_eq, nat_abs, int_lt, ℤ, pos, ◌+ℤ◌, Bool, true, false}
use Rattle.ijson_number.specs.Decimal.{Decimal}
use Rattle.ijson_number.specs.Strips.{signed}

abbrev pub with_ten : Bool → ℕ → ℕ × ℕ → ℕ × ℕ
with_ten true n rest = (rest.0, suc rest.1)
with_ten false n rest = (n, 0)

-- `n` without its trailing zeros, at most `turns` of them, paired with the number of zeros
-- stripped.
unfoldable pub tens_out : ℕ → ℕ → ℕ × ℕ
tens_out zero n = (n, 0)
tens_out (suc turns) n = with_ten (nat_eq (n % 10) 0) n (tens_out turns (n / 10))

abbrev pub exponent_above : Bool → ℤ → ℕ → ℤ
exponent_above true e tens = pos 0
exponent_above false e tens = e +ℤ pos tens

-- The decimal `m * 10 ^ e` without trailing zeros in its mantissa. Strips at most 20 zeros, so `m`
-- may have at most 20 digits.
-- e.g. 100 has two tens, so with exponent 0 it is 1 and 2; zero gets exponent 0.
abbrev pub stripped_number : ℤ → ℤ → Bool → Decimal
stripped_number m e point =
    let r = tens_out 20 (nat_abs m) in
    record {
      mantissa = signed (int_lt m (pos 0)) r.0;
      exponent = exponent_above (nat_eq (nat_abs m) 0) e r.1;
      point = point;
    }
