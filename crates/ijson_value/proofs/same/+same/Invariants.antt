use Rattle.std.proofs.Common.{◌≡◌, ◌*◌, drop}
use Rattle.ijson_value.specs.WellFormed.{item_trees, pair_trees}
use Rattle.ijson_value.specs.SameTest.{same_each, same_in}
use Rattle.ijson_value.specs.Sizes.{object_size}
use Rattle.ijson_value.proofs.WalkMeasures.{at_value, at_items}
use Rattle.ijson_value.proofs.same.+same.Given as goal

abbrev pub invariant-same_items-loop-i : goal.invariant-same_items-loop-i
invariant-same_items-loop-i l =
    same_each (item_trees l.xs) (item_trees l.ys)
    ≡ same_each (item_trees (drop l.i l.xs)) (item_trees (drop l.i l.ys))

abbrev pub invariant-same_pairs-loop-pair : goal.invariant-same_pairs-loop-pair
invariant-same_pairs-loop-pair l =
    same_in (pair_trees l.a.pairs) (pair_trees l.b.pairs)
    ≡ same_in (pair_trees (drop l.pair-index l.pair-items)) (pair_trees l.b.pairs)

abbrev pub decreases-same_value : goal.decreases-same_value
decreases-same_value l = at_value l.a.now

abbrev pub decreases-same_items : goal.decreases-same_items
decreases-same_items l = at_items l.xs.now

abbrev pub decreases-same_pairs : goal.decreases-same_pairs
decreases-same_pairs l = 2 * object_size l.a.now
