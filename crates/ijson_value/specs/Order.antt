-- The partial order of trees, as in the Rust crate `ijson`. Trees of different kinds are ordered by
-- kind, numbers by value, and strings by their bytes. Arrays are ordered by the first elements that
-- are not `Equal`, then by length. Objects are `Equal` if they are the same, and otherwise
-- unordered.
use Rattle.std.specs.Prelude.{ℕ, cond, Option, Some, None}
use Rattle.std.specs.Ordering.{nat_cmp, bool_cmp, partial_ordering_then}
use Rattle.std.specs.Cmp.Lexicographic.{slice_cmp}
use Rattle.std.specs.declared.cmp.Ordering.{Ordering}
use Rattle.std.specs.declared.cmp.Ordering.TheVariants.{Less, Equal, Greater}
use Rattle.ijson_number.specs.Order.{number_cmp}
use Rattle.ijson_value.specs.Tree.{Tree, null, boolean, number, string, array, object, Items, no_items, item}
use Rattle.ijson_value.specs.SameTest.{same}

-- The rank of the kind of the tree in the order of kinds.
abbrev pub rank : Tree → ℕ
rank null = 0
rank (boolean b) = 1
rank (number n) = 2
rank (string s) = 3
rank (array ts) = 4
rank (object ps) = 5

abbrev mutual
  -- The order of two trees, or `None` if they are unordered.
  pub tree_cmp : Tree → Tree → Option Ordering
  tree_cmp null null = Some Equal
  tree_cmp (boolean a) (boolean b) = Some (bool_cmp a b)
  tree_cmp (number m) (number n) = Some (number_cmp m n)
  tree_cmp (string s) (string t) = Some (slice_cmp nat_cmp s t)
  tree_cmp (array ts) (array us) = items_cmp ts us
  tree_cmp (object ps) (object qs) = cond (same (object ps) (object qs)) (Some Equal) None
  tree_cmp t u = Some (nat_cmp (rank t) (rank u))

  -- The order of the first two elements at the same index that are not `Equal`, or else the order
  -- of the lengths. The order of two elements may be `None`.
  -- e.g. `null`, `false`, `true`, `0`, `""`, `[]`, `{}`: each is less than the next; `{"k":1}` and
  -- `{"k":2}` are unordered; `[1,{"k":1}]` is less than `[2,{"k":2}]`.
  pub items_cmp : Items → Items → Option Ordering
  items_cmp no_items no_items = Some Equal
  items_cmp no_items (item u us) = Some Less
  items_cmp (item t ts) no_items = Some Greater
  items_cmp (item t ts) (item u us) = partial_ordering_then (tree_cmp t u) (items_cmp ts us)
