use Rattle.std.proofs.Common.{◌≡◌, ◌≤◌, [], length}
use Rattle.ijson_table.specs.Store.{put_each}
use Rattle.ijson_value.proofs.object.map.IObject.try_from_pairs.Given as goal

-- The entries yielded so far are inserted, and the capacity is the number of all entries.
abbrev pub invariant-loop-key : goal.invariant-loop-key
invariant-loop-key l =
    goal.iterator-loop-key.can_next l.key-iterator
    × goal.iterator-loop-key.is_finite l.key-iterator
    × (l.object.pairs ≡ put_each [] l.yielded)
    × (l.object.capacity ≡ length l.fn.pairs.items)
    × (length l.object.pairs ≤ length l.yielded)
