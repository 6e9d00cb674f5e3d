-- `texts_of` lists the strings and keys of a tree, in order. A key comes before its value's
-- strings.
use Rattle.std.specs.Prelude.{ℕ, List, [], ◌∷◌, ◌++◌}
use Rattle.ijson_value.specs.Tree.{Tree, null, boolean, number, string, array, object, Items, no_items, item, Members, no_members, member}

abbrev mutual
  pub texts_of : Tree → List (List ℕ)
  texts_of null = []
  texts_of (boolean b) = []
  texts_of (number n) = []
  texts_of (string s) = s ∷ []
  texts_of (array items) = items_texts items
  texts_of (object members) = members_texts members

  pub items_texts : Items → List (List ℕ)
  items_texts no_items = []
  items_texts (item t more) = texts_of t ++ items_texts more

  -- e.g. of `{"a":["x",1],"b":"y"}` they are a, x, b, y.
  pub members_texts : Members → List (List ℕ)
  members_texts no_members = []
  members_texts (member k t more) = k ∷ (texts_of t ++ members_texts more)
