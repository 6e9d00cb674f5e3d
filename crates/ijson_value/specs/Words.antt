-- The 64-bit words that a value feeds to a hasher, each by one `write_u64`. The words of an object
-- do not depend on the order of its entries.
use Rattle.std.specs.Prelude.{ℕ, ◌+◌, ◌%◌, ◌^◌, cond, List, [], ◌∷◌, ◌++◌}
use Rattle.ijson_number.specs.Words.{number_words}
use Rattle.ijson_string.specs.Words.{text_words}
use Rattle.ijson_table.specs.Fold.{fold_words}
use Rattle.ijson_value.specs.Length.{items_len}
use Rattle.ijson_value.specs.Tree.{Tree, null, boolean, number, string, array, object, Items, no_items, item, Members, no_members, member}
use Rattle.ijson_value.specs.Tree.{members_len}

abbrev mutual
  -- The words that the tree feeds to a hasher.
  pub words : Tree → List ℕ
  words null = 0 ∷ []
  words (boolean b) = 1 ∷ cond b 1 0 ∷ []
  words (number n) = number_words n
  words (string s) = text_words s
  words (array ts) = 4 ∷ items_len ts ∷ item_words ts
  words (object ps) = 5 ∷ members_len ps ∷ (pair_sum ps % 2 ^ 64) ∷ []

  -- The words of all elements, in order.
  pub item_words : Items → List ℕ
  item_words no_items = []
  item_words (item t ts) = words t ++ item_words ts

  -- The sum of the folds of all members. The fold of a member folds the words of its key, then the
  -- words of its value.
  -- e.g. `[true]` feeds 4, 1, 1, 1; `{}` feeds 5, 0, 0; `null` feeds 0.
  pub pair_sum : Members → ℕ
  pair_sum no_members = 0
  pair_sum (member k t ps) = fold_words (text_words k ++ words t) + pair_sum ps
