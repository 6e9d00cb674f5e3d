-- The measures that recursions over a value decrease.
use Rattle.std.proofs.Common.{ℕ, ◌+◌, ◌*◌, List}
use denote.Param.Weighed.{most}
use Rattle.ijson_value.specs.Sizes.{value_size}
use Rattle.ijson_value.specs.WellFormed.{WellFormed}

-- The measure of a value: twice its size.
abbrev pub at_value : WellFormed → ℕ
at_value v = 2 * value_size v

-- The measure of a list of elements: twice the maximum size of the elements, plus one.
abbrev pub at_items : List WellFormed → ℕ
at_items vs = 2 * most value_size vs + 1

-- The measure of a list of entries: twice the maximum size of the values, plus one.
abbrev pub at_pairs : List (List ℕ × WellFormed) → ℕ
at_pairs ps = 2 * most (λ p. value_size p.1) ps + 1
