-- `tree_at`, `tree_without` and `tree_with` agree with get, remove and set on the elements of an
-- array and on the entries of an object.
use Rattle.std.specs.Prelude.{◌≡◌, ℕ, zero, suc, ◌-◌, true, false, List, [], ◌∷◌, Some, None, map, length, take, set}
use Rattle.std.specs.Prelude.{swap, get_or, slice_get, option_map, IsSome, cond}
use Rattle.std.specs.List.{remove}
use Rattle.std.specs.Str.{bytes_eq}
use Rattle.std.proofs.Common.{refl, sym, ap, ◌∙◌}
use Rattle.std.proofs.lemmas.List.{map-set, take-map, length-map}
use Rattle.indexmap.proofs.SetLemmas.{map-remove}
use Rattle.ijson_table.specs.Store.{Store, at, lookup, put, swap_out}
use Rattle.ijson_table.proofs.pairs.PairsByKey.{lookup-absent, put-present}
use Rattle.ijson_value.specs.AtKey.{swap_out_key}
use Rattle.ijson_value.specs.Kind.{kind_of}
use Rattle.ijson_value.specs.LendsAtKey.{with_found, with_key}
use Rattle.ijson_value.specs.LendsStep.{with_step}
use Rattle.ijson_value.specs.NodeValue.{node_value}
use Rattle.ijson_value.specs.Step.{Step, by_position, by_key, kind_for, tree_at, tree_with, tree_without}
use Rattle.ijson_value.specs.Tree.{Tree, array, object, items_of, items_list, members_of, members_list}
use Rattle.ijson_value.specs.Values.{array_tree, object_tree}
use Rattle.ijson_value.specs.WellFormed.{WellFormed, tree_of, item_trees, pair_trees}
use Rattle.ijson_value.specs.laws.MemberTrees.{pair_tree, members_list-pairs, put-trees, out_key-trees}
use Rattle.ijson_value.specs.declared.value.Destructured.{Destructured}
use Rattle.ijson_value.specs.declared.value.Destructured.TheVariants.{Array, Object}

-- The elements of an array's tree are the trees of its values.
items_list-items : (vs : List WellFormed) → items_list (item_trees vs) ≡ map tree_of vs
items_list-items [] = refl
items_list-items (v ∷ vs) = ap (λ ts. v.tree ∷ ts) (items_list-items vs)

-- If a value exists at `step`, the outer tree has the kind that `step` requires.
pub kind_at : (t : Tree) (step : Step) → IsSome (tree_at t step) → kind_of t ≡ kind_for step
kind_at (array ts) (by_position i) h = refl
kind_at (object ps) (by_key key) h = refl
kind_at t step h = cc

-- The tree at an index of an array is the tree of the element at that index.
pub item_at : (vs : List WellFormed) (i : ℕ) → option_map tree_of (slice_get vs i) ≡ tree_at (array_tree vs) (by_position i)
item_at [] i = refl
item_at (v ∷ vs) zero = refl
item_at (v ∷ vs) (suc i) = item_at vs i

-- The tree at a key of an object is the tree of the value of that key.
pub value_at : (ps : List (List ℕ × WellFormed)) (key : List ℕ)
    → option_map tree_of (lookup key ps) ≡ tree_at (object_tree ps) (by_key key)
value_at [] key = refl
value_at (p ∷ ps) key = elim (bytes_eq key p.0) as (λ b. option_map tree_of (cond b (Some p.1) (lookup key ps))
    ≡ cond b (Some p.1.tree) (lookup key (members_list (pair_trees ps)))) [
      | true ↦ refl
      | false ↦ value_at ps key
    ]

-- Removing the element at index `i` of an array changes its tree to `tree_without`.
pub item_without : (vs : List WellFormed) (i : ℕ) → array_tree (remove vs i) ≡ tree_without (array_tree vs) (by_position i)
item_without vs i =
    ap (λ ts. array (items_of ts)) (map-remove tree_of vs i)
    ∙ ap (λ ts. array (items_of (remove ts i))) (sym (items_list-items vs))

-- Replacing values by their trees commutes with reading an entry.
get_or-trees : (ps : List (List ℕ × WellFormed)) (i : ℕ) (d : List ℕ × WellFormed)
    → pair_tree (get_or ps i d) ≡ get_or (map pair_tree ps) i (pair_tree d)
get_or-trees [] i d = refl
get_or-trees (p ∷ ps) zero d = refl
get_or-trees (p ∷ ps) (suc i) d = get_or-trees ps i d

-- Replacing values by their trees commutes with swapping two entries.
swap-trees : (ps : List (List ℕ × WellFormed)) (i j : ℕ) → map pair_tree (swap ps i j) ≡ swap (map pair_tree ps) i j
swap-trees [] i j = refl
swap-trees (d ∷ ps) i j =
    map-set pair_tree (set (d ∷ ps) i (get_or (d ∷ ps) j d)) j (get_or (d ∷ ps) i d)
    ∙ ap (λ x. set (map pair_tree (set (d ∷ ps) i (get_or (d ∷ ps) j d))) j x) (get_or-trees (d ∷ ps) i d)
    ∙ ap (λ xs. set xs j (get_or (map pair_tree (d ∷ ps)) i (pair_tree d)))
    (map-set pair_tree (d ∷ ps) i (get_or (d ∷ ps) j d)
    ∙ ap (λ x. set (map pair_tree (d ∷ ps)) i x) (get_or-trees (d ∷ ps) j d))

-- Replacing values by their trees commutes with `swap_out`.
swap_out-trees : (ps : List (List ℕ × WellFormed)) (i : ℕ) → map pair_tree (swap_out ps i) ≡ swap_out (map pair_tree ps) i
swap_out-trees ps i = rw (length-map ps pair_tree) (
    sym (take-map pair_tree (length ps - 1) (swap ps i (length ps - 1)))
    ∙ ap (take (length ps - 1)) (swap-trees ps i (length ps - 1)))

-- Removing a key of an object by `swap_out_key` changes its tree to `tree_without`.
pub value_without : (ps : List (List ℕ × WellFormed)) (key : List ℕ)
    → object_tree (swap_out_key key ps) ≡ tree_without (object_tree ps) (by_key key)
value_without ps key = ap (λ ms. object (members_of ms)) (out_key-trees swap_out swap_out ps (swap_out-trees ps) key)
    ∙ ap (λ ms. object (members_of (swap_out_key key ms))) (sym (members_list-pairs ps))

-- Setting the element at index `i` of an array to `w` changes its tree to `tree_with`.
item_with : (vs : List WellFormed) (i : ℕ) (w : WellFormed)
    → array_tree (set vs i w) ≡ tree_with (array_tree vs) (by_position i) w.tree
item_with vs i w = ap (λ ts. array (items_of ts)) (map-set tree_of vs i w)
    ∙ ap (λ ts. array (items_of (set ts i w.tree))) (sym (items_list-items vs))

-- If `key` exists in an object, setting its value to `w` changes the tree of the object to
-- `tree_with`.
value_with : (o : Store WellFormed) (key : List ℕ) (w : WellFormed) → IsSome (tree_at (object_tree o.pairs) (by_key key))
    → object_tree (with_key o key w).pairs ≡ tree_with (object_tree o.pairs) (by_key key) w.tree
value_with o key w h = elim (at o.pairs key) as (λ found. at o.pairs key ≡ found
    → object_tree (with_found o found w).pairs ≡ tree_with (object_tree o.pairs) (by_key key) w.tree) [
      | None ↦ λ e. let absent = lookup-absent o.pairs key e in let there = value_at o.pairs key in cc
      | Some i ↦ λ e. ap object_tree (sym (put-present o.pairs i key w e))
          ∙ ap (λ ms. object (members_of ms)) (put-trees o.pairs key w)
          ∙ ap (λ ms. object (members_of (put ms key w.tree))) (sym (members_list-pairs o.pairs))
    ] refl

-- If a value exists at `step`, writing `w` there changes the tree of the content to `tree_with`.
pub tree_with_step : (n : Destructured) (step : Step) (w : WellFormed) → IsSome (tree_at (node_value n).tree step)
    → (node_value (with_step n step w)).tree ≡ tree_with (node_value n).tree step w.tree
tree_with_step (Array a) (by_position i) w h = item_with a.items i w
tree_with_step (Object o) (by_key key) w h = value_with o key w h
tree_with_step n step w h = cc
