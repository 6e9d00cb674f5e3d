-- Reading a number byte by byte: the states of the reader, and where it stops.
use Rattle.std.specs.Prelude.{◌≡◌, ℕ, Bool, true, false, ◌||◌, ◌==◌, cond, List, [], ◌∷◌, ⊤, Option, Some, None}
use Rattle.ijson_number.specs.NumberBytes.{is_digit}

-- The state of a reader of numbers, named after the last byte that it read.
--
-- The states are: no byte, the minus sign, a leading zero, any other whole digit, the decimal
-- point, a fraction digit, `'e'` or `'E'`, the sign of the exponent, and a digit of the exponent.
pub data State : Type 0 where
  start : State
  minus : State
  zero_digit : State
  whole_digit : State
  point : State
  fraction_digit : State
  letter : State
  sign : State
  exponent_digit : State

abbrev pub is_letter : ℕ → Bool
is_letter b = (b == 101) || (b == 69)

-- The state after one more byte, or `None` if the byte cannot continue a number.
abbrev pub next : State → ℕ → Option State
next start b = cond (b == 45) (Some minus) (cond (b == 48) (Some zero_digit) (cond (is_digit b) (Some whole_digit) None))
next minus b = cond (b == 48) (Some zero_digit) (cond (is_digit b) (Some whole_digit) None)
next zero_digit b = cond (b == 46) (Some point) (cond (is_letter b) (Some letter) None)
next whole_digit b = cond (is_digit b) (Some whole_digit) (cond (b == 46) (Some point) (cond (is_letter b) (Some letter) None))
next point b = cond (is_digit b) (Some fraction_digit) None
next fraction_digit b = cond (is_digit b) (Some fraction_digit) (cond (is_letter b) (Some letter) None)
next letter b = cond ((b == 43) || (b == 45)) (Some sign) (cond (is_digit b) (Some exponent_digit) None)
next sign b = cond (is_digit b) (Some exponent_digit) None
next exponent_digit b = cond (is_digit b) (Some exponent_digit) None

abbrev pub step : Option State → ℕ → Option State
step None b = None
step (Some s) b = next s b

-- The state after reading all bytes of a list.
abbrev pub after : Option State → List ℕ → Option State
after s [] = s
after s (b ∷ bs) = after (step s b) bs

-- Returns `true` if the bytes read so far are a complete number.
abbrev pub is_final : State → Bool
is_final start = false
is_final minus = false
is_final zero_digit = true
is_final whole_digit = true
is_final point = false
is_final fraction_digit = true
is_final letter = false
is_final sign = false
is_final exponent_digit = true

-- Holds if the input is empty or its first byte cannot continue the number.
abbrev pub IsStuck : State → List ℕ → Type 0
IsStuck s [] = ⊤
IsStuck s (b ∷ bs) = next s b ≡ None

-- Holds if reading `bytes` in state `s` ends in state `at`, and the first byte of `rest`, if any,
-- cannot continue the number.
pub record Halts (s : State) (bytes rest : List ℕ) : Type 0 where
  pub at : State
  pub runs : after (Some s) bytes ≡ Some at
  pub stuck : IsStuck at rest
