-- Trees without duplicate keys. RFC 8259, section 4, does not define the meaning of duplicate keys;
-- this project keeps the index of the first and the value of the last.
use Rattle.std.specs.Prelude.{ℕ, List, [], ◌∷◌}
use Rattle.ijson_table.specs.Store.{put_each}
use Rattle.ijson_value.specs.Tree.{Tree, null, boolean, number, string, array, object, Items, no_items, item, Members, no_members}
use Rattle.ijson_value.specs.Tree.{member, members_of}

-- The tree with duplicate keys resolved: the members of each object are inserted in order into an
-- empty object.
abbrev mutual
  pub settled : Tree → Tree
  settled null = null
  settled (boolean b) = boolean b
  settled (number n) = number n
  settled (string s) = string s
  settled (array items) = array (settled_items items)
  settled (object members) = object (members_of (put_each [] (settled_pairs members)))

  pub settled_items : Items → Items
  settled_items no_items = no_items
  settled_items (item t more) = item (settled t) (settled_items more)

  -- e.g. `{"a":1,"b":2,"a":3}` settles to `{"a":3,"b":2}`.
  pub settled_pairs : Members → List (List ℕ × Tree)
  settled_pairs no_members = []
  settled_pairs (member k t more) = (k, settled t) ∷ settled_pairs more
