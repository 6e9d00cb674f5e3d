use Rattle.std.proofs.Common.{◌≡◌, vec_capacity}
use Rattle.ijson_value.proofs.object.map.IObject.from_distinct_pairs.Given as goal

-- The list contains the entries yielded so far, and its capacity is `count`.
abbrev pub invariant-loop-pair : goal.invariant-loop-pair
invariant-loop-pair g l =
    (goal.iterator-loop-pair g).can_next l.pair-iterator
    × (goal.iterator-loop-pair g).is_finite l.pair-iterator
    × (l.list.items ≡ l.yielded) × (vec_capacity l.list ≡ l.count)
