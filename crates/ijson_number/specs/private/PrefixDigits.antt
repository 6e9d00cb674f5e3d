-- The leading digits of an input, and the number to which they are appended.
use Rattle.std.specs.Prelude.{◌≡◌, ◌<◌, ◌≤◌, ℕ, List, take, drop, length, get_or}
use Rattle.std.specs.Int.Digits.{number_from_digits_after}
use Rattle.ijson_number.specs.Grammar.{AllDigits, IsDigit}
use Rattle.ijson_number.specs.private.Reading.{BeginsWithNoDigit}
use Rattle.ijson_number.specs.private.Stripped.{digits_from_text}

-- Holds if `bytes` begins with exactly `count` digits.
pub record IsCount (bytes : List ℕ) (count : ℕ) : Type 0 where
  pub within : count ≤ length bytes
  pub digits : AllDigits (take count bytes)
  pub stops : count < length bytes → IsDigit (get_or bytes count 0) → ⊥

-- Holds if `longer` is `number` with the first `count` bytes, all of them digits, appended. Reading
-- stops at `most` digits.
pub record IsTaken (number : ℕ) (bytes : List ℕ) (most longer count : ℕ) : Type 0 where
  pub few : count ≤ most
  pub within : count ≤ length bytes
  pub digits : AllDigits (take count bytes)
  -- If `count` is less than `most`, no digit follows.
  pub all : count < most → BeginsWithNoDigit (drop count bytes)
  pub value : longer ≡ number_from_digits_after 10 number (digits_from_text (take count bytes))
