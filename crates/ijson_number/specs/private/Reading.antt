-- The postconditions of the functions that read the parts of a number.
use Rattle.std.specs.Prelude.{true, false, ◌≡◌, ◌≢◌, ◌<◌, ◌-◌, length, slice_index, ◌⊎◌, ◌||◌, ℕ, ℤ}
use Rattle.std.specs.Prelude.{Bool, List, [], ◌∷◌, ◌++◌, pos, neg_ℤ, ◌≤ℤ◌, ◌+ℤ◌, ◌-ℤ◌}
use Rattle.ijson_number.specs.Num.{exponent_limit}
use Rattle.ijson_number.specs.Grammar.{IsDigit, IsFraction, IsExponent}

-- Holds if the absolute value of the exponent is at most `exponent_limit`.
abbrev pub IsWithin : ℤ → Type 0
IsWithin e = (neg_ℤ exponent_limit ≤ℤ e) × (e ≤ℤ exponent_limit)

-- The exponent after stripping: `written` minus the number of fraction digits, plus the number of
-- stripped zeros.
abbrev pub exponent_of : (written : ℤ) → (fraction tens : ℕ) → ℤ
exponent_of written fraction tens = (written -ℤ pos fraction) +ℤ pos tens

-- Holds if the input is empty or does not begin with a digit.
abbrev pub BeginsWithNoDigit : List ℕ → Type 0
BeginsWithNoDigit [] = Unit {0}
BeginsWithNoDigit (b ∷ bs) = IsDigit b → ⊥

-- Holds if the bytes do not begin with `'0'`.
abbrev pub BeginsWithNoZero : List ℕ → Type 0
BeginsWithNoZero bs = 0 < length bs → slice_index bs 0 ≢ 48

-- Holds if the bytes do not end with `'0'`.
abbrev pub EndsWithNoZero : List ℕ → Type 0
EndsWithNoZero bs = 0 < length bs → slice_index bs (length bs - 1) ≢ 48

-- Holds if `text` is everything after the whole digits of a number: an optional fraction and an
-- optional exponent.
pub record IsTail (text fraction : List ℕ) (exponent : ℤ) (point : Bool) : Type 0 where
  pub fraction_text : List ℕ
  pub exponent_text : List ℕ
  pub has_point : Bool
  pub has_exponent : Bool
  pub text_is : text ≡ fraction_text ++ exponent_text
  pub fraction_is : IsFraction fraction_text fraction has_point
  pub exponent_is : IsExponent exponent_text exponent has_exponent
  pub point_is : point ≡ has_point || has_exponent

-- Holds if `rest` is `text` without its optional leading `'-'`, and `negative` is true if the sign
-- is present.
abbrev pub IsSignTaken : (text : List ℕ) → (negative : Bool) → (rest : List ℕ) → Type 0
IsSignTaken text negative rest =
    (text ≡ 45 ∷ rest × negative ≡ true)
    ⊎ (text ≡ rest × negative ≡ false × (0 < length text → slice_index text 0 ≢ 45))

-- Holds if `rest` is the exponent `text` without a leading `'+'` or `'-'`, and `negative` is true
-- if the sign was `'-'`.
abbrev pub IsExponentSignTaken : (text : List ℕ) → (negative : Bool) → (rest : List ℕ) → Type 0
IsExponentSignTaken text negative rest =
    (text ≡ 45 ∷ rest × negative ≡ true)
    ⊎ (text ≡ 43 ∷ rest × negative ≡ false)
    ⊎ (text ≡ rest × negative ≡ false × (0 < length text → slice_index text 0 ≢ 45 × slice_index text 0 ≢ 43))
