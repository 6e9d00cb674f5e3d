-- Trees that are numbers equal to an integer.
use Rattle.std.specs.Prelude.{ℤ}
use Rattle.ijson_number.specs.Integers.{HasValue, IsInteger}
use Rattle.ijson_value.specs.Tree.{Tree, number}

-- Holds if the tree is a number equal to `z`.
abbrev pub HasInteger : Tree → ℤ → Type 0
HasInteger (number n) z = HasValue n z
HasInteger _ z = ⊥

-- Holds if the tree is a number equal to `z` and written without a decimal point.
-- e.g. `2.0` and `2` have the integer 2, and only `2` is its tree.
abbrev pub IsIntegerTree : Tree → ℤ → Type 0
IsIntegerTree (number n) z = IsInteger n z
IsIntegerTree _ z = ⊥
