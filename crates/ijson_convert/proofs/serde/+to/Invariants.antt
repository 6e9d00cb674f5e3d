use Rattle.std.proofs.Common.{◌≡◌, ◌≤◌, ℕ, List, ◌++◌, ◌+◌, ◌*◌, length, take, vec_capacity}
use Rattle.serde_json.specs.Data as serde
use Rattle.serde_json.specs.View.{items_view, members_view}
use Rattle.ijson_value.specs.Sizes.{value_size, object_size}
use Rattle.ijson_value.specs.Tree.{items_depth}
use Rattle.ijson_value.specs.Values.{array_tree, object_tree}
use Rattle.ijson_value.specs.WellFormed.{WellFormed, item_trees}
use Rattle.ijson_convert.specs.SerdeTree.{SerdeMeans}
use Rattle.ijson_convert.proofs.serde.+to.Given as goal

-- The list means the same as the elements so far, and has capacity for all elements.
abbrev pub invariant-to_items-loop-item : goal.invariant-to_items-loop-item
invariant-to_items-loop-item l = record {
  means : SerdeMeans (serde.array (items_view l.list.items)) (array_tree (take l.item-index l.items));
  full : length l.list.items ≡ l.item-index;
  room : length l.items ≤ vec_capacity l.list;
}

-- The map means the same as the entries so far.
abbrev pub invariant-to_serde_map-loop-key : goal.invariant-to_serde_map-loop-key
invariant-to_serde_map-loop-key l = record {
  done : List (List ℕ × WellFormed);
  parts : l.fn.object.pairs ≡ done ++ l.key-iterator;
  means : SerdeMeans (serde.object (members_view l.map.entries)) (object_tree done);
}

abbrev pub decreases-to_serde : goal.decreases-to_serde
decreases-to_serde l = value_size l.value.now

abbrev pub decreases-to_items : goal.decreases-to_items
decreases-to_items l = 2 * items_depth (item_trees l.items.now) + 1

abbrev pub decreases-to_serde_map : goal.decreases-to_serde_map
decreases-to_serde_map l = object_size l.object.now
