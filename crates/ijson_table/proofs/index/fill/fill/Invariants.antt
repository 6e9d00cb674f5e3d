use Rattle.std.proofs.Common.{◌≡◌}
use Rattle.ijson_table.specs.private.Homes.{home_of_entry, next_after, passing}
use Rattle.ijson_table.proofs.filling.FilledSlots.{Filled}
use Rattle.ijson_table.proofs.filling.Spots.{place}
use Rattle.ijson_table.proofs.index.fill.fill.Given as goal

abbrev pub invariant-loop-index : goal.invariant-loop-index
invariant-loop-index l = record {
  next : l.next ≡ next_after (home_of_entry l.modulus.count l.sorted) (passing l.modulus.count l.sorted) l.index;
  filled : Filled l.modulus.count (place l.modulus.count l.sorted) l.sorted l.index l.slots;
}
