use Rattle.std.proofs.Common.{◌≡◌, List, ◌++◌, ◌+◌, length, take, vec_capacity}
use Rattle.serde_json.specs.View.{items_view, members_view}
use Rattle.serde_json.proofs.Views.{Entry}
use Rattle.ijson_value.specs.WellFormed.{item_trees, pair_trees}
use Rattle.ijson_convert.specs.Interned.{all_interned}
use Rattle.ijson_convert.specs.SerdeTree.{SerdeItems, SerdeMembers}
use Rattle.ijson_convert.specs.SerdeTexts.{serde_items_texts, serde_members_texts}
use Rattle.ijson_convert.proofs.serde.+from.Given as goal

-- The array has the trees of the elements so far, and their strings are interned.
abbrev pub invariant-from_items-loop-item : goal.invariant-from_items-loop-item
invariant-from_items-loop-item g l =
    SerdeItems (items_view (take l.item-index l.item-items)) (item_trees l.array.items)
    × (l.cache ≡ all_interned (serde_items_texts (items_view (take l.item-index l.item-items))) l.fn.cache)

-- The entries so far are converted, their strings are interned, and the list has capacity for the
-- remaining entries.
abbrev pub invariant-from_serde_map-loop-key : goal.invariant-from_serde_map-loop-key
invariant-from_serde_map-loop-key g l = record {
  done : List Entry;
  parts : l.map.entries ≡ done ++ l.key-iterator;
  trees : SerdeMembers (members_view done) (pair_trees l.pairs.items);
  texts : l.cache ≡ all_interned (serde_members_texts (members_view done)) l.fn.cache;
  room : vec_capacity l.pairs ≡ length l.pairs.items + length l.key-iterator;
}
