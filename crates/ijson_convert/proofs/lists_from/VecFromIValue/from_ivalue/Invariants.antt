use Rattle.std.proofs.Common.{◌≡◌, ◌≤◌, take, map, length, vec_capacity}
use Rattle.std.specs.Prelude.{All}
use Rattle.ijson_value.specs.Same.{SameEach}
use Rattle.ijson_value.specs.Tree.{items_of}
use Rattle.ijson_value.specs.WellFormed.{tree_of}
use Rattle.ijson_convert.proofs.reading.ItemsRead.{AllRead}
use Rattle.ijson_convert.proofs.lists_from.VecFromIValue.from_ivalue.Given as goal

-- The list means the same as the elements so far, which are accepted, and has capacity for all
-- elements. `null_is_none` holds for each element of the list.
abbrev pub invariant-loop-item : goal.invariant-loop-item
invariant-loop-item g l =
    let items = map tree_of (take l.item-index l.item-items) in
    record {
      same : SameEach (items_of (map g.T.FromIValue.tree l.list.items)) (items_of items);
      read : AllRead g.T.FromIValue.refused items;
      none : All g.T.FromIValue.null_is_none l.list.items;
      full : length l.list.items ≡ l.item-index;
      room : length l.item-items ≤ vec_capacity l.list;
    }
