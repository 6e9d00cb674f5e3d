use Rattle.std.proofs.Common.{◌≡◌, drop, fold}
use Rattle.std.specs.Hash as fed
use Rattle.std.specs.List.{flat_map}
use Rattle.ijson_value.specs.WellFormed.{item_trees}
use Rattle.ijson_value.specs.Words.{item_words}
use Rattle.ijson_value.proofs.WalkMeasures.{at_value, at_items}
use Rattle.ijson_value.proofs.hash.+hash.Given as goal

abbrev pub invariant-hash_items-loop-item : goal.invariant-hash_items-loop-item
invariant-hash_items-loop-item g l =
    fold g.H.Hasher.write l.initial.state (flat_map fed.u64 (item_words (item_trees l.items)))
    ≡ fold g.H.Hasher.write l.state (flat_map fed.u64 (item_words (item_trees (drop l.item-index l.items))))

abbrev pub decreases-hash_value : goal.decreases-hash_value
decreases-hash_value g l = at_value l.value.now

abbrev pub decreases-hash_items : goal.decreases-hash_items
decreases-hash_items g l = at_items l.items.now
