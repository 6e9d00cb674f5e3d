use Rattle.std.proofs.Common.{ℕ, ◌+◌, ◌≤◌, drop}
use Rattle.ijson_value.specs.WellFormed.{item_trees}
use Rattle.ijson.specs.examples.Records.{LackId}
use Rattle.ijson.proofs.examples.records.count_refused.Given as goal

-- If `n` of the remaining elements lack an id, `count + n` of all elements lack an id.
abbrev pub invariant-loop-item : goal.invariant-loop-item
invariant-loop-item l = record {
  within : l.count ≤ l.item-index;
  so_far : (n : ℕ) → LackId (item_trees (drop l.item-index l.items)) n → LackId (item_trees l.items) (l.count + n);
}
