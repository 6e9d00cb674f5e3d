-- The leading numbers that the fast reader accepts.
use Rattle.std.specs.Prelude.{◌≡◌, ◌≢◌, ◌⊎◌, ℕ, ◌+◌, ◌≤◌, Bool, false, List, [], ◌∷◌, ◌++◌, length}
use Rattle.std.specs.Char.{is_ascii_alphanumeric}
use Rattle.ijson_number.specs.Grammar.{IsDigit, IsDigits, IsFraction, IsMinus, IsWhole, Parts}

-- Holds if the input is empty or begins with a byte that is neither a digit nor a letter.
abbrev pub EndsToken : List ℕ → Type 0
EndsToken [] = Unit {0}
EndsToken (b ∷ bs) = is_ascii_alphanumeric b ≡ false

-- Holds if the bytes are one to four digits.
abbrev pub IsFewDigits : List ℕ → Type 0
IsFewDigits ds = IsDigits ds × (length ds ≤ 4)

-- Holds if the bytes are an optional `'+'` or `'-'` and one to four digits.
abbrev pub IsFewSigned : List ℕ → Type 0
IsFewSigned [] = ⊥
IsFewSigned (b ∷ bs) = ((b ≡ 43 ⊎ b ≡ 45) × IsFewDigits bs) ⊎ IsFewDigits (b ∷ bs)

-- Holds if the bytes are empty, or `'e'` or `'E'` and a signed integer of one to four digits.
abbrev pub IsFewExponent : List ℕ → Type 0
IsFewExponent [] = Unit {0}
IsFewExponent (b ∷ bs) = (b ≡ 101 ⊎ b ≡ 69) × IsFewSigned bs

-- Holds if `text` is an optional exponent of at most four digits followed by `rest`, and `rest`
-- does not begin with a digit or a letter.
pub record IsExponentTail (text rest : List ℕ) : Type 0 where
  pub exponent_text : List ℕ
  pub text_is : text ≡ exponent_text ++ rest
  pub exponent : IsFewExponent exponent_text
  pub ends : EndsToken rest

-- Holds if the input does not continue a number's digits: it does not begin with a digit, nor with
-- `'.'` if `has_point` is false.
abbrev pub EndsDigits : (has_point : Bool) → List ℕ → Type 0
EndsDigits has_point [] = Unit {0}
EndsDigits has_point (b ∷ bs) = (IsDigit b → ⊥) × (has_point ≡ false → b ≢ 46)

-- Holds if `text` is a number with the parts `p` followed by `rest`, and the fast reader accepts
-- the number.
--
-- - The whole part and the fraction have at most 19 digits together, not counting a single `0`
--   before the point.
-- - The exponent has at most four digits.
-- - Neither a digit nor a letter follows.
pub record IsCommonFront (text : List ℕ) (p : Parts) (rest : List ℕ) : Type 0 where
  pub minus_text : List ℕ
  pub fraction_text : List ℕ
  pub after : List ℕ
  pub has_point : Bool
  pub text_is : text ≡ minus_text ++ (p.whole ++ (fraction_text ++ after))
  pub minus : IsMinus minus_text p.negative
  pub whole : IsWhole p.whole
  pub fraction : IsFraction fraction_text p.fraction has_point
  pub few : (length p.whole + length p.fraction ≤ 19) ⊎ ((p.whole ≡ 48 ∷ []) × (length p.fraction ≤ 19))
  pub digits_end : EndsDigits has_point after
  pub tail : IsExponentTail after rest
