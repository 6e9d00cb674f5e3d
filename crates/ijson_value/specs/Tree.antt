-- JSON values as trees (RFC 8259, sections 3 to 7).
use Rattle.std.specs.Prelude.{ℕ, suc, max, Bool, List, [], ◌∷◌}
use Rattle.ijson_number.specs.Decimal.{Decimal}

mutual
  -- A JSON value. A string is stored as its UTF-8 bytes, and the entries of an object are in order.
  pub data Tree : Type 0 where
    null : Tree
    boolean : Bool → Tree
    number : Decimal → Tree
    string : List ℕ → Tree
    array : Items → Tree
    object : Members → Tree

  -- The elements of an array.
  pub data Items : Type 0 where
    no_items : Items
    item : Tree → Items → Items

  -- The members of an object, each a key with a value.
  -- e.g. `[1,{"a":null}]` is an array of a number and an object with one member.
  pub data Members : Type 0 where
    no_members : Members
    member : List ℕ → Tree → Members → Members

-- The list of trees as the elements of an array.
abbrev pub items_of : List Tree → Items
items_of [] = no_items
items_of (t ∷ ts) = item t (items_of ts)

-- The list of keys with trees as the members of an object.
abbrev pub members_of : List (List ℕ × Tree) → Members
members_of [] = no_members
members_of (p ∷ ps) = member p.0 p.1 (members_of ps)

-- The elements of an array as a list of trees. The inverse of `items_of`.
abbrev pub items_list : Items → List Tree
items_list no_items = []
items_list (item t ts) = t ∷ items_list ts

-- The members of an object as a list of keys with trees. The inverse of `members_of`.
abbrev pub members_list : Members → List (List ℕ × Tree)
members_list no_members = []
members_list (member k t ps) = (k, t) ∷ members_list ps

-- The number of members.
abbrev pub members_len : Members → ℕ
members_len no_members = 0
members_len (member k t ps) = suc (members_len ps)

-- The keys of the members, in order.
-- e.g. `{"a":1,"b":2}` has 2 members, and the keys a and b.
abbrev pub member_keys : Members → List (List ℕ)
member_keys no_members = []
member_keys (member k t ps) = k ∷ member_keys ps

-- The nesting depth of arrays and objects. An empty array or object has depth 1, and the other
-- kinds have depth 0.
abbrev mutual
  pub depth : Tree → ℕ
  depth null = 0
  depth (boolean b) = 0
  depth (number n) = 0
  depth (string s) = 0
  depth (array ts) = suc (items_depth ts)
  depth (object ps) = suc (members_depth ps)

  -- The maximum depth of the elements.
  pub items_depth : Items → ℕ
  items_depth no_items = 0
  items_depth (item t ts) = max (depth t) (items_depth ts)

  -- The maximum depth of the values of the members.
  -- e.g. `1` has depth 0, `[]` has 1, `[1,{}]` has 2.
  pub members_depth : Members → ℕ
  members_depth no_members = 0
  members_depth (member k t ps) = max (depth t) (members_depth ps)
