-- Records with an id, and the number of elements of an array that lack an id.
use Rattle.std.specs.Prelude.{◌≡◌, ◌⊎◌, ◌<◌, ◌^◌, ℕ, suc, pos, Some, codes}
use Rattle.ijson_value.specs.Integers.{HasInteger}
use Rattle.ijson_value.specs.Step.{by_key, tree_at}
use Rattle.ijson_value.specs.Tree.{Tree, array, Items, no_items, item}

-- Holds if the tree is an object whose member `id` is an integer from 0 to `2 ^ 64 - 1`.
-- e.g. `{"id":0.0}`, not `{"id":"7"}`.
pub record HasId (t : Tree) : Type 0 where
  pub id : Tree
  pub number : ℕ
  pub beside : tree_at t (by_key (codes "id")) ≡ Some id
  pub fits : number < 2 ^ 64
  pub value : HasInteger id (pos number)

-- Holds if exactly `count` of the elements lack an id.
abbrev pub LackId : Items → ℕ → Type 0
LackId no_items count = count ≡ 0
LackId (item t ts) count =
    (HasId t × LackId ts count) ⊎ ((HasId t → ⊥) × (rest : ℕ) × (count ≡ suc rest) × LackId ts rest)

-- Holds if the tree is an array in which exactly `count` elements lack an id.
-- e.g. one element of `[{"id":1},7]`.
abbrev pub RefusesSoMany : Tree → ℕ → Type 0
RefusesSoMany (array ts) count = LackId ts count
RefusesSoMany _ count = ⊥
