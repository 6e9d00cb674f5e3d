-- The strings and keys of a tree that a cache contains after reading. Like the Rust crate `ijson`,
-- the reader interns each key and each string.
use Rattle.std.specs.Prelude.{◌≡◌, ℕ, ◌<◌, true, List, ⊤, length}
use Rattle.std.specs.FinSet as set
use Rattle.ijson_string.specs.Cache.{Texts}
use Rattle.ijson_value.specs.Tree.{Tree, null, boolean, number, string, array, object, Items, no_items, item, Members, no_members, member}
use Rattle.ijson_json.specs.Grammar.{Accepted}

-- Holds if the cache contains `s`, or if `s` has at most 7 bytes and is therefore inline.
abbrev pub IsShared : Texts → List ℕ → Type 0
IsShared cache s = 7 < length s → set.contains cache.texts s ≡ true

-- Holds if the cache contains each string and each key of the tree that has more than 7 bytes.
abbrev mutual
  pub AreShared : Texts → Tree → Type 0
  AreShared cache null = ⊤
  AreShared cache (boolean b) = ⊤
  AreShared cache (number n) = ⊤
  AreShared cache (string s) = IsShared cache s
  AreShared cache (array items) = ItemsAreShared cache items
  AreShared cache (object members) = MembersAreShared cache members

  pub ItemsAreShared : Texts → Items → Type 0
  ItemsAreShared cache no_items = ⊤
  ItemsAreShared cache (item t more) = AreShared cache t × ItemsAreShared cache more

  pub MembersAreShared : Texts → Members → Type 0
  MembersAreShared cache no_members = ⊤
  MembersAreShared cache (member k t more) =
      IsShared cache k × AreShared cache t × MembersAreShared cache more

-- Holds if `text` is accepted, and `cache` contains each string and key of its tree that has more
-- than 7 bytes.
-- e.g. after reading `["eight888","a"]` the cache has `eight888`; `a` is not long.
abbrev pub SharesTextsOf : List ℕ → Texts → Type 0
SharesTextsOf text cache = (tree : Tree) × Accepted text tree × AreShared cache tree
