-- `serde_texts` lists the strings and keys of a `serde_json` value, in order. A key comes before
-- the strings of its value.
use Rattle.std.specs.Prelude.{ℕ, List, [], ◌∷◌, ◌++◌}
use Rattle.serde_json.specs.Data.{Data, null, boolean, number, string, array, object, Items, no_items, item, Members, no_members, member}

abbrev mutual
  pub serde_texts : Data → List (List ℕ)
  serde_texts null = []
  serde_texts (boolean b) = []
  serde_texts (number n) = []
  serde_texts (string s) = s ∷ []
  serde_texts (array ds) = serde_items_texts ds
  serde_texts (object ms) = serde_members_texts ms

  pub serde_items_texts : Items → List (List ℕ)
  serde_items_texts no_items = []
  serde_items_texts (item d ds) = serde_texts d ++ serde_items_texts ds

  -- e.g. of its object a:`x` they are a, x.
  pub serde_members_texts : Members → List (List ℕ)
  serde_members_texts no_members = []
  serde_members_texts (member k d ms) = k ∷ (serde_texts d ++ serde_members_texts ms)
