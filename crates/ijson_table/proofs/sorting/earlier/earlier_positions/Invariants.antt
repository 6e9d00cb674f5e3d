use Rattle.std.proofs.Common.{◌≡◌, ◌+◌}
use Rattle.ijson_table.specs.Store.{keys_of}
use Rattle.ijson_table.proofs.firsts.KeyRuns.{EarlierSoFar}
use Rattle.ijson_table.proofs.sorting.earlier.earlier_positions.Given as goal

abbrev pub invariant-loop-entry : goal.invariant-loop-entry
invariant-loop-entry g l = record {
  so_far : EarlierSoFar (keys_of l.pairs) l.sorted l.entry-index l.last l.earlier.items;
  looked : l.looks ≡ l.fn.looks + l.entry-index;
}
