-- The invariant of the digits of a stored number.
use Rattle.std.specs.Prelude.{◌≡◌, ℕ, ◌-◌, Bool, false, List, [], drop}
use Rattle.ijson_number.specs.private.Stripped.{IsStripped}

-- The `count` digits at the end of a buffer of 19 bytes.
abbrev pub buffer_digits : (count : ℕ) → (buffer : List ℕ) → List ℕ
buffer_digits count buffer = drop (19 - count) buffer

-- Holds if the digits are canonical and zero is not negative.
pub record IsStored (negative : Bool) (digits : List ℕ) : Type 0 where
  pub stripped : IsStripped digits
  pub no_minus : digits ≡ [] → negative ≡ false
