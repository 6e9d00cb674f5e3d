use Rattle.std.proofs.Common.{◌≡◌, ◌+◌, take, length}
use Rattle.std.specs.Prelude.{vec_capacity}
use Rattle.ijson_value.proofs.WalkMeasures.{at_value, at_items, at_pairs}
use Rattle.ijson_value.proofs.clone.+clone.Given as goal

abbrev pub invariant-clone_items-loop-item : goal.invariant-clone_items-loop-item
invariant-clone_items-loop-item l = (l.copies.items ≡ take l.item-index l.items) × (vec_capacity l.copies ≡ length l.items)

abbrev pub invariant-clone_pairs-loop-pair : goal.invariant-clone_pairs-loop-pair
invariant-clone_pairs-loop-pair l = (l.copies.items ≡ take l.pair-index l.pairs) × (vec_capacity l.copies ≡ length l.pairs)

abbrev pub decreases-clone_value : goal.decreases-clone_value
decreases-clone_value l = at_value l.value.now

abbrev pub decreases-clone_items : goal.decreases-clone_items
decreases-clone_items l = at_items l.items.now

abbrev pub decreases-clone_object : goal.decreases-clone_object
decreases-clone_object l = at_pairs l.object.now.pairs + 1

abbrev pub decreases-clone_pairs : goal.decreases-clone_pairs
decreases-clone_pairs l = at_pairs l.pairs.now
