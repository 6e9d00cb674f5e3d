-- The amounts of invoice lines, and the sum of the first amounts.
use Rattle.std.specs.Prelude.{◌≡◌, ℕ, suc, zero, ℤ, pos, ◌+ℤ◌, Some, codes, FitsSigned}
use Rattle.std.specs.Int.{w64}
use Rattle.ijson_value.specs.Integers.{HasInteger}
use Rattle.ijson_value.specs.Kind.{kind_of}
use Rattle.ijson_value.specs.Length.{length_of}
use Rattle.ijson_value.specs.Step.{by_key, by_position, tree_at}
use Rattle.ijson_value.specs.Tree.{Tree}
use Rattle.ijson_value.specs.declared.value.ValueType.TheVariants.{Array}

-- Holds if the value of the key `amount` is the integer `z`.
-- e.g. `{"amount":4.0}` has the amount 4, and element 1 of `[{"amount":1},{"amount":0.5}]` lacks
-- one.
abbrev pub HasAmount : Tree → ℤ → Type 0
HasAmount t z = (a : Tree) × (tree_at t (by_key (codes "amount")) ≡ Some a) × HasInteger a z

-- Holds if the element at index `i` has the amount `z`.
abbrev pub AmountAt : Tree → ℕ → ℤ → Type 0
AmountAt t i z = (line : Tree) × (tree_at t (by_position i) ≡ Some line) × HasAmount line z

-- Holds if the amounts of the first `count` elements add up to `z`.
abbrev pub FirstAddTo : Tree → ℕ → ℤ → Type 0
FirstAddTo t zero z = z ≡ pos 0
FirstAddTo t (suc count) z = (sum a : ℤ) × FirstAddTo t count sum × AmountAt t count a × (z ≡ sum +ℤ a)

-- Holds if the tree is an array whose amounts add up to `z`.
-- e.g. `[{"amount":3},{"amount":-1}]` has the total 2.
abbrev pub IsTotal : Tree → ℤ → Type 0
IsTotal t z = (count : ℕ) × (kind_of t ≡ Array) × (length_of t ≡ Some count) × FirstAddTo t count z

-- Holds if the amounts of some leading elements add up to a number that does not fit `i64`.
-- e.g. `[{"amount":9223372036854775807},{"amount":1},{"amount":-1}]`, whose first two amounts sum
-- to 2^63.
abbrev pub IsPastTotal : Tree → Type 0
IsPastTotal t = (count : ℕ) × (z : ℤ) × FirstAddTo t count z × (FitsSigned w64 z → ⊥)

-- Holds if the element at index `i` lacks an amount that fits `i64`.
abbrev pub LacksAmount : Tree → ℕ → Type 0
LacksAmount t i = (item : Tree) × (tree_at t (by_position i) ≡ Some item) × ((z : ℤ) → FitsSigned w64 z → HasAmount item z → ⊥)
