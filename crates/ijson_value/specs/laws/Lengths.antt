-- The tree of an array or an object has the same length as the array or object.
use Rattle.std.specs.Prelude.{◌≡◌, suc, List, [], ◌∷◌, length, Some, ℕ}
use Rattle.std.proofs.Common.{refl, sym, ap}
use Rattle.ijson_value.specs.Length.{items_len, length_of}
use Rattle.ijson_value.specs.Tree.{members_len}
use Rattle.ijson_value.specs.Values.{array_tree, object_tree}
use Rattle.ijson_value.specs.WellFormed.{WellFormed, item_trees, pair_trees}

-- The tree of an array has as many elements as the array.
pub items_len-items : (vs : List WellFormed) → items_len (item_trees vs) ≡ length vs
items_len-items [] = refl
items_len-items (v ∷ vs) = ap suc (items_len-items vs)

-- The tree of an object has as many members as the object has entries.
pub members_len-pairs : (ps : List (List ℕ × WellFormed)) → members_len (pair_trees ps) ≡ length ps
members_len-pairs [] = refl
members_len-pairs (p ∷ ps) = ap suc (members_len-pairs ps)

-- The length of an array is the length of its tree.
pub array_length : (vs : List WellFormed) → Some (length vs) ≡ length_of (array_tree vs)
array_length vs = ap Some (sym (items_len-items vs))

-- The length of an object is the length of its tree.
pub object_length : (ps : List (List ℕ × WellFormed)) → Some (length ps) ≡ length_of (object_tree ps)
object_length ps = ap Some (sym (members_len-pairs ps))
