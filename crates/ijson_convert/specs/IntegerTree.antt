-- The tree of an integer: a number without a decimal point, with a canonical significand.
use Rattle.std.specs.Prelude.{ℤ, pos, false}
use Rattle.ijson_number.specs.Decimal.{Decimal}
use Rattle.ijson_number.specs.Stripped.{stripped_number}
use Rattle.ijson_value.specs.Tree.{Tree, number}

-- The decimal of an integer of up to 20 digits, with a canonical significand.
abbrev pub integer_number : ℤ → Decimal
integer_number z = stripped_number z (pos 0) false

-- e.g. 100 is 1 and 2, without the point; -1 is -1 and 0.
abbrev pub integer_tree : ℤ → Tree
integer_tree z = number (integer_number z)
