-- For callers: lookups in the tree of an array or an object agree with lookups in the array or
-- object.
use Rattle.std.specs.Prelude.{◌≡◌, ◌<◌, ℕ, Bool, List, [], ◌∷◌, Option, Some, None, length, get_or, option_map}
use Rattle.std.specs.Option.{option_or}
use Rattle.std.proofs.Common.{refl, sym, ap, ◌∙◌}
use Rattle.std.proofs.lemmas.Option.{slice_get_read}
use Rattle.ijson_table.specs.Store.{Store, lookup}
use Rattle.ijson_value.specs.Step.{by_position, by_key, tree_at}
use Rattle.ijson_value.specs.Tree.{Tree, boolean, Items, no_items, item, items_of, items_list, members_of, members_list}
use Rattle.ijson_value.specs.Values.{array_value, boolean_value, object_tree, object_value}
use Rattle.ijson_value.specs.WellFormed.{WellFormed, tree_of}
use Rattle.ijson_value.specs.laws.Steps.{item_at, value_at}
use Rattle.ijson_value.specs.laws.WellFormedCode.{one_tree}

-- `members_list` undoes `members_of`.
pub members_list-of : (ps : List (List ℕ × Tree)) → members_list (members_of ps) ≡ ps
members_list-of [] = refl
members_list-of (p ∷ ps) = ap (λ qs. p ∷ qs) (members_list-of ps)

-- `items_list` undoes `items_of`.
pub items_list-of : (ts : List Tree) → items_list (items_of ts) ≡ ts
items_list-of [] = refl
items_list-of (t ∷ ts) = ap (λ us. t ∷ us) (items_list-of ts)

-- `items_of` undoes `items_list`.
pub items_of-list : (ts : Items) → items_of (items_list ts) ≡ ts
items_of-list no_items = refl
items_of-list (item t ts) = ap (item t) (items_of-list ts)

-- The tree of the element that a loop visits at index `i` is at index `i` of the array's tree.
pub item_of_loop : (v : WellFormed) (items : List WellFormed) (i : ℕ) (x : WellFormed) → v ≡ array_value items
    → i < length items → x ≡ get_or items i x → tree_at v.tree (by_position i) ≡ Some x.tree
item_of_loop v items i x e below is =
    ap (λ w. tree_at w.tree (by_position i)) e
    ∙ (sym (item_at items i) ∙ ap (option_map tree_of) (slice_get_read items (length items) i x refl below is))

-- A lookup of a key in an object's tree returns the tree of the value that the object has for the
-- key.
member_tree : (v : WellFormed) (object : Store WellFormed) (key : List ℕ) → v ≡ object_value object
    → tree_at v.tree (by_key key) ≡ option_map tree_of (lookup key object.pairs)
member_tree v object key is = ap (λ w. tree_at w.tree (by_key key)) is ∙ sym (value_at object.pairs key)

-- If an object has the value `found` for `key`, then `tree_at` returns the tree of `found` for
-- `key`.
pub member_found : (v : WellFormed) (key : List ℕ) (object : Store WellFormed) (found : WellFormed) → v ≡ object_value object
    → Some found ≡ lookup key object.pairs → tree_at v.tree (by_key key) ≡ Some found.tree
member_found v key object found is at = member_tree v object key is ∙ ap (option_map tree_of) (sym at)

-- If an object lacks `key`, then `tree_at` returns `None` for `key`.
pub member_missing : (v : WellFormed) (key : List ℕ) (object : Store WellFormed) → v ≡ object_value object
    → None ≡ lookup key object.pairs → tree_at v.tree (by_key key) ≡ None
member_missing v key object is none = member_tree v object key is ∙ ap (option_map tree_of) (sym none)

-- If the tree of the value found for `key` is the Boolean `b`, then the lookup returns `b` as a
-- value.
pub boolean_found : (pairs : List (List ℕ × WellFormed)) (key : List ℕ) (found : WellFormed) (b : Bool) → Some found ≡ lookup key pairs
    → found.tree ≡ boolean b → lookup key pairs ≡ Some (boolean_value b)
boolean_found pairs key found b at e = sym at ∙ ap Some (one_tree found (boolean_value b) e)

-- Mapping `f` over `option_or o p` equals `option_or` of the two mapped options.
map-or : {A B : Type 0} (f : A → B) (o p : Option A) → option_map f (option_or o p) ≡ option_or (option_map f o) (option_map f p)
map-or f None p = refl
map-or f (Some x) p = refl

-- If a lookup in `after` prefers the entries `over` to the entries `base`, then the lookup in the
-- tree of `after` prefers the tree of `over` to the tree of `base`.
pub at_key-over : (over base after : List (List ℕ × WellFormed)) (key : List ℕ)
    → lookup key after ≡ option_or (lookup key over) (lookup key base)
    → tree_at (object_tree after) (by_key key)
    ≡ option_or (tree_at (object_tree over) (by_key key)) (tree_at (object_tree base) (by_key key))
at_key-over over base after key e =
    sym (value_at after key)
    ∙ (ap (option_map tree_of) e
    ∙ (map-or tree_of (lookup key over) (lookup key base)
    ∙ (ap (λ o. option_or o (option_map tree_of (lookup key base))) (value_at over key)
    ∙ ap (λ o. option_or (tree_at (object_tree over) (by_key key)) o) (value_at base key))))
