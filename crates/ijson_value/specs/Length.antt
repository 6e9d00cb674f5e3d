-- The length of an array or an object, as in the Rust crate `ijson`.
use Rattle.std.specs.Prelude.{ℕ, suc, Option, Some, None}
use Rattle.ijson_value.specs.Tree.{Tree, null, boolean, number, string, array, object, Items, no_items, item, members_len}

-- The number of elements.
abbrev pub items_len : Items → ℕ
items_len no_items = 0
items_len (item t ts) = suc (items_len ts)

-- The number of elements of an array or of entries of an object. Other kinds have no length.
-- e.g. 2 for `[1,{}]`, 1 for `{"a":1}`, none for `"hi"`.
abbrev pub length_of : Tree → Option ℕ
length_of null = None
length_of (boolean b) = None
length_of (number n) = None
length_of (string s) = None
length_of (array ts) = Some (items_len ts)
length_of (object ps) = Some (members_len ps)
