use Rattle.std.proofs.Common.{◌≡◌, take}
use Rattle.ijson.proofs.tests.table.copied.Given as goal

abbrev pub invariant-loop-pair : goal.invariant-loop-pair
invariant-loop-pair g l = l.copies.items ≡ take l.pair-index l.pairs
