-- Trees that contain no object at any depth.
use Rattle.ijson_value.specs.Tree.{Tree, array, object, Items, no_items, item}

abbrev mutual
  -- Holds if the tree is not an object and contains no object at any depth.
  pub HoldsNoObject : Tree → Type 0
  HoldsNoObject (array ts) = HoldNoObject ts
  HoldsNoObject (object ps) = ⊥
  HoldsNoObject _ = Unit {0}

  -- Holds if no element is an object or contains an object at any depth.
  -- e.g. `[1,[]]` contains none, `[1,{}]` one.
  pub HoldNoObject : Items → Type 0
  HoldNoObject no_items = Unit {0}
  HoldNoObject (item t ts) = HoldsNoObject t × HoldNoObject ts
