-- The text of a number whose decimal point is between its digits.
use Rattle.std.specs.Prelude.{ℕ, Bool, List, ◌∷◌, ◌++◌, take, drop}
use Rattle.ijson_number.specs.Text.{digits_text, minus_text}

-- The text of `digits` with the decimal point after the first `place` of them.
abbrev pub split_text : (negative : Bool) → (digits : List ℕ) → (place : ℕ) → List ℕ
split_text negative digits place =
    minus_text negative ++ (digits_text (take place digits) ++ 46 ∷ digits_text (drop place digits))
