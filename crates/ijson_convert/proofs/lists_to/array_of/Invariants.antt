use Rattle.std.proofs.Common.{◌≡◌, take, map}
use Rattle.ijson_value.specs.WellFormed.{tree_of}
use Rattle.ijson_convert.specs.Interned.{all_interned}
use Rattle.ijson_convert.specs.ListTree.{list_tree}
use Rattle.ijson_convert.specs.TextsOf.{texts_of}
use Rattle.ijson_convert.proofs.lists_to.array_of.Given as goal

-- The elements so far are converted and their strings are interned.
abbrev pub invariant-loop-x : goal.invariant-loop-x
invariant-loop-x g l =
    (map tree_of l.array.items ≡ map g.T.ToIValue.tree (take l.x-index l.items))
    × (l.cache ≡ all_interned (texts_of (list_tree g.T.ToIValue.tree (take l.x-index l.items))) l.fn.cache)
