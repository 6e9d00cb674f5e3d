use Rattle.std.proofs.Common.{◌≡◌, length, vec_capacity}
use Rattle.ijson_table.proofs.vec.reallocate_exact.Given as goal

-- The list has the items moved so far, and its capacity is the number of all items.
abbrev pub invariant-loop-item : goal.invariant-loop-item
invariant-loop-item g l =
    (goal.iterator-loop-item g).can_next l.item-iterator ×
    (goal.iterator-loop-item g).is_finite l.item-iterator ×
    (l.list.items ≡ l.yielded) × (vec_capacity l.list ≡ length l.fn.list.items)
