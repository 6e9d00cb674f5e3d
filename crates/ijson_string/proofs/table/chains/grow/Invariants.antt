use Rattle.std.proofs.Common.{◌≡◌, length, take}
use Rattle.ijson_string.specs.private.IsTable.{hashes_of, IsTable}
use Rattle.ijson_string.proofs.table.chains.grow.Given as goal

-- Loop invariant: the links before `position` form chains, and the hashes are unchanged.
abbrev pub invariant-loop-position : goal.invariant-loop-position
invariant-loop-position l = record {
  buckets : length l.buckets.items ≡ l.count;
  links : length l.links.items ≡ length l.fn.links.items;
  capacity : l.links.cap ≡ l.fn.links.cap;
  kept : hashes_of l.links.items ≡ hashes_of l.fn.links.items;
  table : IsTable (take l.position l.links.items) l.buckets.items;
}
