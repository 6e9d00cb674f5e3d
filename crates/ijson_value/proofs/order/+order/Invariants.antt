use Rattle.std.proofs.Common.{◌≡◌, ◌≤◌, length, drop}
use Rattle.ijson_value.specs.Order.{items_cmp}
use Rattle.ijson_value.specs.WellFormed.{item_trees}
use Rattle.ijson_value.proofs.WalkMeasures.{at_value, at_items}
use Rattle.ijson_value.proofs.order.+order.Given as goal

abbrev pub invariant-items_cmp-loop-i : goal.invariant-items_cmp-loop-i
invariant-items_cmp-loop-i l = record {
  within : l.i ≤ length l.ys;
  left : items_cmp (item_trees l.xs) (item_trees l.ys)
      ≡ items_cmp (item_trees (drop l.i l.xs)) (item_trees (drop l.i l.ys));
}

abbrev pub decreases-value_cmp : goal.decreases-value_cmp
decreases-value_cmp l = at_value l.a.now

abbrev pub decreases-items_cmp : goal.decreases-items_cmp
decreases-items_cmp l = at_items l.xs.now
