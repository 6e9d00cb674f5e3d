-- The longest prefix of an input with which a number can begin, and the errors of reading it.
use Rattle.std.specs.Prelude.{◌≡◌, ◌≢◌, ℕ, ◌+◌, ◌<◌, ◌≤◌, Bool, false, List, [], ◌∷◌, ◌++◌, length, take}
use Rattle.ijson_number.specs.Decimal.{Decimal}
use Rattle.ijson_number.specs.Num.{is_in_range}
use Rattle.ijson_number.specs.Grammar.{Spells}
use Rattle.ijson_number.specs.Refused.{IsRefused}
use Rattle.ijson_number.specs.declared.number.ParseNumberError.TheVariants as parse
use Rattle.ijson_number.specs.declared.number.ReadNumberError.{ReadNumberError}
use Rattle.ijson_number.specs.declared.number.ReadNumberError.TheVariants.{Syntax, OutOfRange, Memory}

-- Holds if the bytes are a prefix of some JSON number.
abbrev pub BeginsNumber : List ℕ → Type 0
BeginsNumber bytes = (more : List ℕ) × (n : Decimal) × Spells (bytes ++ more) n

-- Holds if the first `count` bytes of `text` can begin a JSON number, and the first `count + 1`
-- bytes, if `text` has that many, cannot.
pub record IsNumberFront (text : List ℕ) (count : ℕ) : Type 0 where
  pub within : count ≤ length text
  pub begins : BeginsNumber (take count text)
  pub ends : count < length text → BeginsNumber (take (count + 1) text) → ⊥

-- Holds if `has_point` is true or the bytes do not begin with `'.'`.
-- e.g. `.5` does after `1.5` and does not after `1`.
abbrev pub HasNoPoint : (has_point : Bool) → List ℕ → Type 0
HasNoPoint has_point [] = Unit {0}
HasNoPoint has_point (b ∷ bs) = has_point ≡ false → b ≢ 46

-- Holds if the bytes spell a number whose exponent exceeds the limit.
-- e.g. `1e2000000000`.
abbrev pub IsPastLimit : List ℕ → Type 0
IsPastLimit bytes = (n : Decimal) × Spells bytes n × (is_in_range n ≡ false)

-- Holds if reading a number at the start of `text` fails with this error. `Syntax at`: the longest
-- prefix that can begin a number has `at` bytes and is not a number. `OutOfRange`: the exponent of
-- the leading number exceeds the limit. `Memory`: the leading number is stored as a list of digits,
-- so an allocation can fail.
abbrev pub IsUnread : List ℕ → ReadNumberError → Type 0
IsUnread text (Syntax at) = IsNumberFront text at × ((n : Decimal) → Spells (take at text) n → ⊥)
IsUnread text OutOfRange = (count : ℕ) × IsNumberFront text count × IsPastLimit (take count text)
IsUnread text Memory = (count : ℕ) × IsNumberFront text count × IsRefused (take count text) parse.Memory
