use Rattle.std.proofs.Common.{◌+◌, ◌*◌, drop}
use Rattle.ijson_value.specs.Tree.{depth, items_depth, members_depth}
use Rattle.ijson_value.specs.WellFormed.{item_trees, pair_trees}
use Rattle.ijson.specs.examples.Total.{EachSumsTo, ValuesSumTo}
use Rattle.ijson.proofs.example_lemmas.Totals.{IsLeft}
use Rattle.ijson.proofs.examples.total.+total.Given as goal

abbrev pub invariant-total_of_items-loop-item : goal.invariant-total_of_items-loop-item
invariant-total_of_items-loop-item l =
    IsLeft (EachSumsTo (item_trees l.items)) (items_depth (item_trees l.items)) (drop l.item-index l.items) l.sum

abbrev pub invariant-total_of_members-loop-value : goal.invariant-total_of_members-loop-value
invariant-total_of_members-loop-value l =
    IsLeft (ValuesSumTo (pair_trees l.fn.object.pairs)) (members_depth (pair_trees l.fn.object.pairs)) l.value-iterator l.sum

abbrev pub decreases-total : goal.decreases-total
decreases-total l = 2 * depth l.value.now.tree

abbrev pub decreases-total_of_items : goal.decreases-total_of_items
decreases-total_of_items l = 2 * items_depth (item_trees l.items.now) + 1

abbrev pub decreases-total_of_members : goal.decreases-total_of_members
decreases-total_of_members l = 2 * members_depth (pair_trees l.object.now.pairs) + 1
