-- The model of a value: a tree whose numbers satisfy `IsNum` and whose objects have distinct keys.
use Rattle.std.specs.Prelude.{ℕ, List, map}
use Rattle.ijson_number.specs.Num.{IsNum}
use Rattle.ijson_table.specs.Store.{IsDistinct}
use Rattle.ijson_value.specs.Tree.{Tree, null, boolean, number, string, array, object, Items, no_items, item, items_of, Members, no_members}
use Rattle.ijson_value.specs.Tree.{member, members_of, member_keys}

abbrev mutual
  -- Holds if each number in the tree satisfies `IsNum` and each object has distinct keys.
  pub IsWellFormed : Tree → Type 0
  IsWellFormed null = Unit {0}
  IsWellFormed (boolean b) = Unit {0}
  IsWellFormed (number n) = IsNum n
  IsWellFormed (string s) = Unit {0}
  IsWellFormed (array ts) = AreWellFormed ts
  IsWellFormed (object ps) = IsDistinct (member_keys ps) × HaveWellFormed ps

  -- Holds if each element is well-formed.
  pub AreWellFormed : Items → Type 0
  AreWellFormed no_items = Unit {0}
  AreWellFormed (item t ts) = IsWellFormed t × AreWellFormed ts

  -- Holds if each member has a well-formed value.
  -- e.g. `{"a":1,"a":3}` as written is not well-formed, and its settled tree `{"a":3}` is.
  pub HaveWellFormed : Members → Type 0
  HaveWellFormed no_members = Unit {0}
  HaveWellFormed (member k t ps) = IsWellFormed t × HaveWellFormed ps

-- A tree with a proof that the tree is well-formed.
pub record WellFormed : Type 0 where
  pub tree : Tree
  pub well_formed : IsWellFormed tree

-- The tree of a value.
abbrev pub tree_of : WellFormed → Tree
tree_of v = v.tree

-- The trees of the values, as the elements of an array.
abbrev pub item_trees : List WellFormed → Items
item_trees vs = items_of (map tree_of vs)

-- The entries with the trees of their values, as the members of an object.
-- e.g. the value read from `[1.50]` is the array of 15 and -1, and the proof.
abbrev pub pair_trees : List (List ℕ × WellFormed) → Members
pair_trees ps = members_of (map (λ p. (p.0, tree_of p.1)) ps)
