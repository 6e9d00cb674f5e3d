-- Digits without leading and trailing zeros.
use Rattle.std.specs.Prelude.{◌≢◌, ◌<◌, ◌-◌, ℕ, List, map, length, slice_index}
use Rattle.std.specs.List.{All}

-- Holds if each digit is below 10 and neither the first nor the last is 0.
pub record IsStripped (ds : List ℕ) : Type 0 where
  pub below_ten : All (λ d. d < 10) ds
  pub first : 0 < length ds → slice_index ds 0 ≢ 0
  pub last : 0 < length ds → slice_index ds (length ds - 1) ≢ 0

-- The values of ASCII digits.
abbrev pub digits_from_text : List ℕ → List ℕ
digits_from_text bs = map (λ b. b - 48) bs
