use Rattle.std.proofs.Common.{◌≡◌, ◌+◌, ◌*◌, ◌≤◌, ◌++◌, drop, string_bytes}
use Rattle.ijson_value.specs.Sizes.{value_size, object_size}
use Rattle.ijson_value.specs.WellFormed.{item_trees, pair_trees}
use Rattle.ijson_value.specs.Tree.{items_depth, members_depth}
use Rattle.ijson_json.specs.Print.{print, print_items, print_members}
use Rattle.ijson_json.proofs.writing.Joined.{joined, item_texts, member_texts}
use Rattle.ijson_json.proofs.write.+push.Given as goal

-- The text written so far and the text of the remaining elements are together the whole text.
abbrev pub invariant-push_items-loop-item : goal.invariant-push_items-loop-item
invariant-push_items-loop-item l =
    string_bytes l.initial.out ++ print_items (item_trees l.items) ≡ string_bytes l.out ++ joined l.is_first
    (item_texts print (drop l.item-index l.items))

-- The text written so far and the text of the remaining members are together the whole text.
abbrev pub invariant-push_members-loop-key : goal.invariant-push_members-loop-key
invariant-push_members-loop-key l = record {
  below : members_depth (pair_trees l.key-iterator) ≤ members_depth (pair_trees l.fn.object.pairs);
  written : string_bytes l.initial.out ++ print_members (pair_trees l.fn.object.pairs) ≡ string_bytes l.out ++ joined l.is_first
      (member_texts print l.key-iterator);
}

abbrev pub decreases-push_value : goal.decreases-push_value
decreases-push_value l = value_size l.value.now

abbrev pub decreases-push_items : goal.decreases-push_items
decreases-push_items l = 2 * items_depth (item_trees l.items.now) + 1

abbrev pub decreases-push_members : goal.decreases-push_members
decreases-push_members l = object_size l.object.now
