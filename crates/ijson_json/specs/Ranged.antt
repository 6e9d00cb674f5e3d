-- `is_ranged` returns `true` if each number of a tree is within the exponent limit, which is this
-- project's own.
use Rattle.std.specs.Prelude.{Bool, true, ◌&&◌}
use Rattle.ijson_number.specs.Num.{is_in_range}
use Rattle.ijson_value.specs.Tree.{Tree, null, boolean, number, string, array, object, Items, no_items, item, Members, no_members, member}

abbrev mutual
  pub is_ranged : Tree → Bool
  is_ranged null = true
  is_ranged (boolean b) = true
  is_ranged (number n) = is_in_range n
  is_ranged (string s) = true
  is_ranged (array items) = items_ranged items
  is_ranged (object members) = members_ranged members

  pub items_ranged : Items → Bool
  items_ranged no_items = true
  items_ranged (item t more) = is_ranged t && items_ranged more

  -- e.g. `[1e1073741824]` is, `[1e1073741825]` is not.
  pub members_ranged : Members → Bool
  members_ranged no_members = true
  members_ranged (member k t more) = is_ranged t && members_ranged more
