use Rattle.ijson_table.proofs.firsts.PlacesSoFar.{PlacesSoFar}
use Rattle.ijson_table.proofs.sorting.duplicates.merge_duplicates.Given as goal

abbrev pub invariant-loop-position : goal.invariant-loop-position
invariant-loop-position g l = PlacesSoFar l.fn.pairs l.pairs l.fn.earlier.items l.places.items l.kept l.position
