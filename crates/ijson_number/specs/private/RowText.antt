-- The numbers that are written as 16-byte vectors of digits, without a formatter.
use Rattle.std.specs.Prelude.{◌≡◌, ℕ, ◌+◌, ◌<◌, ◌≤◌, length, ℤ, pos, negsuc, nat_abs, neg_ℤ, int_le, int_lt, ◌+ℤ◌, ◌<ℤ◌, ◌≤ℤ◌}
use Rattle.std.specs.Prelude.{◌||◌, true, false, ◌⊎◌, FitsSigned}
use mir.Syntax.{w16}
use Rattle.ijson_number.specs.Decimal.{Decimal}
use Rattle.ijson_number.specs.Form.{form_of, is_digits, packed}
use Rattle.ijson_number.specs.StrippedDigits.{stripped_digits}

-- Holds if the decimal point is between two of `count` digits.
pub record IsSplit (count : ℕ) (e : ℤ) : Type 0 where
  pub below_zero : e <ℤ pos 0
  pub between : nat_abs e < count

-- Holds if the decimal point is before all `count` digits and no exponent is written.
pub record IsBelowOne (count : ℕ) (e : ℤ) : Type 0 where
  pub below_zero : e <ℤ pos 0
  pub before_all : count ≤ nat_abs e
  pub no_exponent : nat_abs e ≤ count + 5

-- Holds if an exponent is written and there are at least two digits.
pub record IsScientific (count : ℕ) (e : ℤ) : Type 0 where
  pub exponent : (int_le (pos count +ℤ e) (negsuc 5) || int_lt (pos 20) e) ≡ true
  pub some : 1 < count

abbrev pub IsInRows : ℕ → ℤ → Type 0
IsInRows count e = IsSplit count e ⊎ IsBelowOne count e ⊎ IsScientific count e

-- Holds if the number is an integer without a decimal point that is stored without a list of
-- digits.
pub record IsWordInteger (n : Decimal) : Type 0 where
  pub in_word : is_digits (form_of n) ≡ false
  pub integer : n.point ≡ false

-- Holds if the number is a packed number with a decimal point, and its text has neither an exponent
-- nor zeros between the digits and the point.
pub record IsPackedPointed (n : Decimal) : Type 0 where
  pub mantissa : ℤ
  pub exponent : ℤ
  pub form : form_of n ≡ packed mantissa exponent true
  pub no_zeros : exponent ≤ℤ pos 0
  pub no_exponent : (neg_ℤ (pos 6) ≤ℤ exponent) ⊎ (10 ≤ nat_abs mantissa)

-- Holds if the number has a decimal point and up to 19 digits stored in a `ShortDigits`, and can be
-- written as vectors.
pub record IsShortInRows (n : Decimal) : Type 0 where
  pub by_digits : is_digits (form_of n) ≡ true
  pub pointed : n.point ≡ true
  pub few : length (stripped_digits n) ≤ 19
  pub small : FitsSigned w16 n.exponent
  pub rows : IsInRows (length (stripped_digits n)) n.exponent

abbrev pub IsRowText : Decimal → Type 0
IsRowText n = IsWordInteger n ⊎ IsPackedPointed n ⊎ IsShortInRows n
