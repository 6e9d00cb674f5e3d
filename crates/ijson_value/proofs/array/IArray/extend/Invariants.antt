use Rattle.std.proofs.Common.{◌≡◌, ◌++◌, ◌≤◌, List, length, ◌-◌, ◌^◌}
use Rattle.std.specs.Iterator.{Yields}
use Rattle.ijson_value.specs.WellFormed.{WellFormed}
use Rattle.ijson_value.proofs.array.IArray.extend.Given as goal

abbrev pub invariant-items : goal.invariant-items
invariant-items g l =
    g.I.IntoIter.Iterator.can_next l.rest
    × (l.initial.self.capacity ≤ l.self.capacity)
    × ((it : g.row.I-IntoIter.Denot) × (added : List WellFormed)
    × g.I.IntoIterator.into_iter_gives l.fn.items it
    × Yields g.I.IntoIter.Iterator.next_gives it added l.rest
    × (l.self.items ≡ l.initial.self.items ++ added))

abbrev pub decreases-items : goal.decreases-items
decreases-items g l = 2 ^ 64 - length l.self.items
