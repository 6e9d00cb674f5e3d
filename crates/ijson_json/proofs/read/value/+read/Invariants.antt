use Rattle.std.proofs.Common.{◌≡◌, ℕ, List, ◌+◌, ◌-◌, ◌*◌, length, ◌∷◌}
use denote.Shadow.{shadow}
use denote.Text.{Utf8}
use Rattle.ijson_value.specs.Tree.{Tree}
use Rattle.ijson_json.specs.Limits.{max_depth}
use Rattle.ijson_json.proofs.grammar.ElementShapes.{items_shape, members_shape}
use Rattle.ijson_json.proofs.reading.ArraysAndObjects.{arrays, objects}
use Rattle.ijson_json.proofs.reading.Gathering.{Gathered}
use Rattle.ijson_json.proofs.reading.GatheredTrees.{kept_items, kept_members}
use Rattle.ijson_json.proofs.read.value.+read.Given as goal

abbrev pub decreases-read_array : goal.decreases-read_array
decreases-read_array g l = 4 * (max_depth - l.opened)

abbrev pub decreases-read_object : goal.decreases-read_object
decreases-read_object g l = 4 * (max_depth - l.opened)

abbrev pub decreases-read_value : goal.decreases-read_value
decreases-read_value g l = 4 * (max_depth - l.opened) + 2

abbrev pub decreases-read_container : goal.decreases-read_container
decreases-read_container g l = 4 * (max_depth - l.opened) + 1

-- Some elements of the array were read and are on the stack, and the next element begins at `rest`.
abbrev pub invariant-read_array-loop-item : goal.invariant-read_array-loop-item
invariant-read_array-loop-item g l = record {
  read : Gathered Tree items_shape arrays kept_items l.opened (91 ∷ l.inside) l.rest l.fn.scratch.values.items l.scratch.values.items
      l.fn.cache l.cache;
  members : l.scratch.members.items ≡ l.fn.scratch.members.items;
  utf8 : shadow (Utf8 l.rest);
}

abbrev pub decreases-read_array-loop-item : goal.decreases-read_array-loop-item
decreases-read_array-loop-item g l = length l.rest

-- Some members of the object were read and are on the stack, and the next member begins at `rest`.
abbrev pub invariant-read_object-loop-key : goal.invariant-read_object-loop-key
invariant-read_object-loop-key g l = record {
  read : Gathered (List ℕ × Tree) members_shape objects kept_members l.opened (123 ∷ l.inside) l.rest l.fn.scratch.members.items
      l.scratch.members.items l.fn.cache l.cache;
  values : l.scratch.values.items ≡ l.fn.scratch.values.items;
  utf8 : shadow (Utf8 l.rest);
}

abbrev pub decreases-read_object-loop-key : goal.decreases-read_object-loop-key
decreases-read_object-loop-key g l = length l.rest
