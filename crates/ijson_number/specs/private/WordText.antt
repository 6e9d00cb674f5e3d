-- The text of a number that is stored in one word, assembled from its sign, whole part and
-- fraction.
use Rattle.std.specs.Prelude.{ℕ, zero, suc, ◌+◌, ◌/◌, ◌%◌, Bool, List, [], ◌∷◌, ◌++◌}
use Rattle.std.specs.Fmt.{decimal}
use Rattle.ijson_number.specs.Text.{minus_text}

-- The last `count` digits of `n` in ASCII, with leading zeros if `n` has fewer digits.
unfoldable pub last_digits : (count n : ℕ) → List ℕ
last_digits zero n = []
last_digits (suc count) n = last_digits count (n / 10) ++ (48 + n % 10) ∷ []

abbrev pub integer_text : (negative : Bool) → (magnitude : ℕ) → List ℕ
integer_text negative magnitude = minus_text negative ++ decimal magnitude

abbrev pub pointed_text : (negative : Bool) → (whole scale fraction : ℕ) → List ℕ
pointed_text negative whole scale fraction =
    minus_text negative ++ (decimal whole ++ 46 ∷ last_digits scale fraction)
