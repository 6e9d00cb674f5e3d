use Rattle.std.proofs.Common.{◌≡◌, ◌≤◌, ◌+◌, ◌*◌, length}
use Rattle.ijson_table.specs.private.FirstPlaced.{FirstPlaced}
use Rattle.ijson_table.proofs.index.add.add_new_keys.Given as goal

abbrev pub invariant-loop-position : goal.invariant-loop-position
invariant-loop-position g l = record {
  placed : FirstPlaced g.H.KeyHash.hash_of l.pairs l.position l.slots;
  count : length l.slots ≡ length l.fn.slots;
  counted : l.position ≤ l.steps;
  steps : l.steps ≤ l.most + 2 * length l.fn.slots;
}
