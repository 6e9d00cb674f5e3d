-- `Same` relates trees that are the same JSON value, as in the Rust crate `ijson`. Numbers are
-- compared by value, arrays element by element, and objects as maps, in any order of their entries.
use Rattle.std.specs.Prelude.{◌≡◌, ◌⊎◌, ℕ, List}
use Rattle.std.specs.declared.cmp.Ordering.TheVariants.{Equal}
use Rattle.ijson_number.specs.Order.{number_cmp}
use Rattle.ijson_value.specs.Tree.{Tree, null, boolean, number, string, array, object, Items, no_items, item, Members, no_members, member}
use Rattle.ijson_value.specs.Tree.{members_len}

-- Holds if a member has the key `k` and the value `u`.
abbrev pub Has : List ℕ → Tree → Members → Type 0
Has k u no_members = ⊥
Has k u (member j v qs) = ((k ≡ j) × (u ≡ v)) ⊎ Has k u qs

abbrev mutual
  -- Holds if the trees are the same JSON value. For objects, equal lengths and `SameIn` suffice: if
  -- the keys are distinct, each entry of the second object then has the same key and value as an
  -- entry of the first.
  pub Same : Tree → Tree → Type 0
  Same null null = Unit {0}
  Same (boolean a) (boolean b) = a ≡ b
  Same (number m) (number n) = number_cmp m n ≡ Equal
  Same (string s) (string t) = s ≡ t
  Same (array ts) (array us) = SameEach ts us
  Same (object ps) (object qs) = (members_len ps ≡ members_len qs) × SameIn ps qs
  Same _ _ = ⊥

  -- Holds if the lists have equal lengths and the same elements in order.
  pub SameEach : Items → Items → Type 0
  SameEach no_items no_items = Unit {0}
  SameEach (item t ts) (item u us) = Same t u × SameEach ts us
  SameEach _ _ = ⊥

  -- Holds if, for each entry of `ps`, an entry of `qs` has the same key and the same value.
  -- e.g. `{"k":2,"l":[1,{}]}` and `{"l":[1.0,{}],"k":2.0}` mean the same; `[1,2]` and `[2,1]` do
  -- not.
  pub SameIn : Members → Members → Type 0
  SameIn no_members qs = Unit {0}
  SameIn (member k t ps) qs = ((u : Tree) × Has k u qs × Same t u) × SameIn ps qs
