-- Elements and values are smaller than the array or object that contains them.
use Rattle.std.specs.Prelude.{ℕ, ◌+◌, ◌*◌, ◌≤◌, List, [], ◌∷◌}
use Rattle.std.proofs.Common.{arith}
use denote.Param.Weighed.{most}
use Rattle.ijson_table.specs.formers.linear.LinearPairs.{values_of}
use Rattle.ijson_value.specs.Tree.{items_depth, members_depth}
use Rattle.ijson_value.specs.WellFormed.{WellFormed, item_trees, pair_trees}
use Rattle.ijson_value.specs.Sizes.{value_size}

-- Each element is smaller than an array of the elements `vs`.
pub items_fall : (vs : List WellFormed)
    → most (λ v. value_size v + 1) vs ≤ 2 * items_depth (item_trees vs) + 1
items_fall [] = omega arith
items_fall (v ∷ vs) = omega (arith, items_fall vs)

-- Each value is smaller than an object with the entries `ps`.
pub pairs_fall : (ps : List (List ℕ × WellFormed))
    → most (λ v. value_size v + 1) (values_of ps) ≤ 2 * members_depth (pair_trees ps) + 1
pairs_fall [] = omega arith
pairs_fall (p ∷ ps) = omega (arith, pairs_fall ps)
