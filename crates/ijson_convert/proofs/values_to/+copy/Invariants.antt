use Rattle.std.proofs.Common.{◌≡◌, ℕ, List, ◌++◌, ◌+◌, ◌*◌, length, map, take, vec_capacity}
use Rattle.ijson_value.specs.Sizes.{value_size, object_size}
use Rattle.ijson_value.specs.Tree.{items_depth}
use Rattle.ijson_value.specs.Values.{array_tree}
use Rattle.ijson_value.specs.WellFormed.{WellFormed, item_trees, tree_of}
use Rattle.ijson_value.specs.laws.MemberTrees.{pair_tree}
use Rattle.ijson_convert.specs.Interned.{all_interned}
use Rattle.ijson_convert.specs.TextsOf.{texts_of}
use Rattle.ijson_convert.proofs.pairs.PairsPut.{SoFar}
use Rattle.ijson_convert.proofs.values_to.+copy.Given as goal

-- The elements so far are copied, and their strings are interned.
abbrev pub invariant-copy_items-loop-item : goal.invariant-copy_items-loop-item
invariant-copy_items-loop-item g l =
    (map tree_of l.array.items ≡ map tree_of (take l.item-index l.items))
    × (l.cache ≡ all_interned (texts_of (array_tree (take l.item-index l.items))) l.fn.cache)

-- The entries so far are copied, their strings are interned, and the list has capacity for the
-- remaining entries.
abbrev pub invariant-copy_pairs-loop-key : goal.invariant-copy_pairs-loop-key
invariant-copy_pairs-loop-key g l = record {
  done : List (List ℕ × WellFormed);
  parts : l.fn.object.pairs ≡ done ++ l.key-iterator;
  so_far : SoFar pair_tree l.fn.cache l.pairs.items done l.cache;
  room : vec_capacity l.pairs ≡ length l.pairs.items + length l.key-iterator;
}

abbrev pub decreases-copy_value : goal.decreases-copy_value
decreases-copy_value g l = value_size l.value.now

abbrev pub decreases-copy_items : goal.decreases-copy_items
decreases-copy_items g l = 2 * items_depth (item_trees l.items.now) + 1

abbrev pub decreases-copy_pairs : goal.decreases-copy_pairs
decreases-copy_pairs g l = object_size l.object.now
