use Rattle.std.proofs.Common.{◌≡◌, ◌+◌, ◌≤◌}
use Rattle.ijson_table.specs.private.Homes.{home_of_entry, next_after}
use Rattle.ijson_table.proofs.index.fill.wrapped_count.Given as goal

abbrev pub invariant-loop-index : goal.invariant-loop-index
invariant-loop-index l = record {
  next : l.next ≡ next_after (home_of_entry l.modulus.count l.sorted) 0 l.index;
  within : l.next ≤ l.modulus.count + l.index;
}
