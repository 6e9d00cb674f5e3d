-- A Boolean test for `Same`, which `==` computes. `specs/laws/SameDecided.antt` proves that the
-- test decides `Same`.
use Rattle.std.specs.Prelude.{Bool, true, false, ◌&&◌, ◌||◌, ◌==◌, ℕ, List}
use Rattle.std.specs.Str.{bytes_eq}
use mathlib.Core.Bool.{beq}
use Rattle.ijson_number.specs.Order.{number_eq}
use Rattle.ijson_value.specs.Tree.{Tree, null, boolean, number, string, array, object, Items, no_items, item, Members, no_members, member}
use Rattle.ijson_value.specs.Tree.{members_len}

-- Returns `true` if a member has the key `k` and a value that passes the test `passes`.
abbrev pub some_has : List ℕ → (Tree → Bool) → Members → Bool
some_has k passes no_members = false
some_has k passes (member j v qs) = (bytes_eq k j && passes v) || some_has k passes qs

abbrev mutual
  -- Returns `true` if the trees are the same JSON value.
  pub same : Tree → Tree → Bool
  same null null = true
  same (boolean a) (boolean b) = beq a b
  same (number m) (number n) = number_eq m n
  same (string s) (string t) = bytes_eq s t
  same (array ts) (array us) = same_each ts us
  same (object ps) (object qs) = (members_len ps == members_len qs) && same_in ps qs
  same _ _ = false

  -- Returns `true` if the lists have equal lengths and the same elements in order.
  pub same_each : Items → Items → Bool
  same_each no_items no_items = true
  same_each (item t ts) (item u us) = same t u && same_each ts us
  same_each _ _ = false

  -- Returns `true` if, for each entry of `ps`, an entry of `qs` has the same key and the same
  -- value.
  -- e.g. true of the first two, false of the last two.
  pub same_in : Members → Members → Bool
  same_in no_members qs = true
  same_in (member k t ps) qs = some_has k (same t) qs && same_in ps qs
