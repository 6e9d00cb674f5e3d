use Rattle.std.proofs.Common.{◌≡◌, ◌≤◌, ◌+◌, ◌*◌, [], length, take, drop}
use Rattle.ijson_table.specs.Store.{put_each}
use Rattle.ijson_table.specs.private.FirstPlaced.{FirstPlaced}
use Rattle.ijson_table.proofs.table.from_list.put_in_place.Given as goal

abbrev pub invariant-loop-position : goal.invariant-loop-position
invariant-loop-position g l = record {
  within : l.kept ≤ l.position;
  placed : FirstPlaced g.H.KeyHash.hash_of l.pairs l.kept l.slots;
  pairs : put_each (take l.kept l.pairs) (drop l.position l.pairs) ≡ put_each [] l.fn.pairs;
  count : length l.slots ≡ length l.fn.slots;
  counted : l.position ≤ l.steps;
  steps : l.steps ≤ l.most + 2 * length l.fn.slots;
}
