use Rattle.std.proofs.Common.{◌≡◌, map, vec_capacity}
use Rattle.std.specs.Map.Iter.{deref_pair}
use Rattle.ijson_convert.specs.MapTree.{pair_tree}
use Rattle.ijson_convert.proofs.pairs.PairsPut.{SoFar}
use Rattle.ijson_convert.proofs.maps_to.object_of.Given as goal

-- The entries so far are converted, in a list with capacity for all entries.
abbrev pub invariant-loop-key : goal.invariant-loop-key
invariant-loop-key g l = record {
  ready : (goal.iterator-loop-key g).can_next l.key-iterator;
  finite : (goal.iterator-loop-key g).is_finite l.key-iterator;
  so_far : SoFar (pair_tree g.T.ToIValue.tree) l.fn.cache l.pairs.items (map deref_pair l.yielded) l.cache;
  room : vec_capacity l.pairs ≡ l.count;
}
