use Rattle.std.proofs.Common.{◌≡◌, ◌≤◌, ◌+◌, ◌*◌, ◌++◌, length, map}
use Rattle.std.specs.Prelude.{vec_capacity}
use Rattle.std.specs.Vec.Iter.{into_iter_items, into_iter_len}
use Rattle.ijson_value.specs.Tree.{depth, members_depth}
use Rattle.ijson_value.specs.Values.{object_tree}
use Rattle.ijson_value.specs.WellFormed.{pair_trees}
use Rattle.ijson_value.specs.laws.MemberTrees.{pair_tree}
use Rattle.ijson_extra.specs.MergePatch.{members_in, merged_into}
use Rattle.ijson_extra.specs.private.Joined.{change_of, joined, old_trees, shown}
use Rattle.ijson_extra.proofs.patching.Joined.{change_depth, changes_depth, made}
use Rattle.ijson_extra.proofs.merge_patch.+merge.Given as goal

-- Merging the remaining members of the patch into the object has the same result as merging the
-- complete patch into the target.
abbrev pub invariant-changed_in_turn-loop-key : goal.invariant-changed_in_turn-loop-key
invariant-changed_in_turn-loop-key l = record {
  below : members_depth (pair_trees l.key-iterator) ≤ members_depth (pair_trees l.fn.changes.pairs);
  whole : merged_into (members_in (object_tree l.object.pairs)) (pair_trees l.key-iterator)
      ≡ merged_into (members_in (object_tree l.fn.object.pairs)) (pair_trees l.fn.changes.pairs);
}

-- The entries so far, followed by the entries made from the remaining keys and old values, are all
-- entries of the result.
abbrev pub invariant-changed_at_once-loop-key : goal.invariant-changed_at_once-loop-key
invariant-changed_at_once-loop-key l = record {
  below : changes_depth (map shown (into_iter_items l.key-iterator)) ≤ members_depth (pair_trees l.fn.changes.pairs);
  whole : map pair_tree l.pairs.items ++ made (map shown (into_iter_items l.key-iterator)) (old_trees l.olds)
      ≡ made (joined l.fn.object.pairs l.fn.changes.pairs) (old_trees l.fn.object.pairs);
  counted : into_iter_len l.key-iterator ≡ length (into_iter_items l.key-iterator);
  room : length l.pairs.items + length (into_iter_items l.key-iterator) ≤ vec_capacity l.pairs;
}

abbrev pub decreases-merge_patch : goal.decreases-merge_patch
decreases-merge_patch l = 3 * depth l.patch.now.tree

abbrev pub decreases-changed_in_turn : goal.decreases-changed_in_turn
decreases-changed_in_turn l = 3 * members_depth (pair_trees l.changes.now.pairs) + 2

abbrev pub decreases-changed_at_once : goal.decreases-changed_at_once
decreases-changed_at_once l = 3 * members_depth (pair_trees l.changes.now.pairs) + 2

abbrev pub decreases-changed_value : goal.decreases-changed_value
decreases-changed_value l = 3 * change_depth (change_of l.change) + 1
