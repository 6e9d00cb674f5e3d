-- Elements and values have a smaller depth than the array or object that contains them, so
-- recursion over a value terminates.
use Rattle.std.proofs.Common.{◌≡◌, ℕ, zero, suc, ◌+◌, ◌*◌, ◌<◌, ◌≤◌, List, [], ◌∷◌, ◌∙◌, length, get_or, arith, ap, sym}
use denote.Param.Weighed.{most}
use Rattle.ijson_table.specs.Store.{Store}
use Rattle.ijson_value.specs.NodeValue.{node_value}
use Rattle.ijson_value.specs.Sequence.{Sequence}
use Rattle.ijson_value.specs.Sizes.{value_size}
use Rattle.ijson_value.specs.Tree.{depth, items_depth, members_depth}
use Rattle.ijson_value.specs.Values.{array_tree, object_tree}
use Rattle.ijson_value.specs.WellFormed.{WellFormed, tree_of, item_trees, pair_trees}
use Rattle.ijson_value.specs.declared.value.Destructured.{Destructured}
use Rattle.ijson_value.specs.declared.value.Destructured.TheVariants.{Array, Object}
use Rattle.ijson_value.proofs.WalkMeasures.{at_value, at_items, at_pairs}

-- The depth of the element at index `i` is at most the maximum depth of the elements.
pub item-items_depth : (vs : List WellFormed) (i : ℕ) (v : WellFormed) → i < length vs → v ≡ get_or vs i v
    → depth v.tree ≤ items_depth (item_trees vs)
item-items_depth [] i v h e = absurd (omega arith)
item-items_depth (w ∷ vs) zero v h e = omega (arith, ap (λ u. depth u.tree) e)
item-items_depth (w ∷ vs) (suc i) v h e = omega (arith, item-items_depth vs i v (omega arith) e)

-- The depth of the value at index `i` is at most the maximum depth of the values.
pub pair-members_depth : (ps : List (List ℕ × WellFormed)) (i : ℕ) (p : List ℕ × WellFormed)
    → i < length ps → p ≡ get_or ps i p → depth p.1.tree ≤ members_depth (pair_trees ps)
pair-members_depth [] i p h e = absurd (omega arith)
pair-members_depth (q ∷ ps) zero p h e = omega (arith, ap (λ u. depth u.1.tree) e)
pair-members_depth (q ∷ ps) (suc i) p h e = omega (arith, pair-members_depth ps i p (omega arith) e)

-- The size of each element is at most twice the maximum depth of the elements.
pub items_below : (vs : List WellFormed) → most value_size vs ≤ 2 * items_depth (item_trees vs)
items_below [] = omega arith
items_below (v ∷ vs) = omega (arith, items_below vs)

-- The size of each value is at most twice the maximum depth of the values.
pub pairs_below : (ps : List (List ℕ × WellFormed)) → most (λ p. value_size p.1) ps ≤ 2 * members_depth (pair_trees ps)
pairs_below [] = omega arith
pairs_below (p ∷ ps) = omega (arith, pairs_below ps)

module _ {n : Destructured} {v : WellFormed} where
  -- If `v` has the content `n`, an array with the elements `vs`, then the tree of an array with the
  -- elements `vs` is the tree of `v`.
  pub array_shown : {a : Sequence} {vs : List WellFormed} → vs ≡ a.items → n ≡ Array a → node_value n ≡ v → array_tree vs ≡ v.tree
  array_shown read is view = ap array_tree read ∙ sym (ap (λ m. (node_value m).tree) is) ∙ ap tree_of view

  -- If `v` has the content `n`, an array with the elements `vs`, then the measure of `vs` is less
  -- than the measure of `v`.
  pub items_fall : {a : Sequence} {vs : List WellFormed} → vs ≡ a.items → n ≡ Array a → node_value n ≡ v
      → at_items vs < at_value v
  items_fall {a} {vs} read is view = omega (arith, items_below vs, ap depth (array_shown read is view))

  -- If `v` has the content `n`, an object with the entries `ps`, then the tree of an object with
  -- the entries `ps` is the tree of `v`.
  pub object_shown : {s : Store WellFormed} {ps : List (List ℕ × WellFormed)} → ps ≡ s.pairs → n ≡ Object s → node_value n ≡ v
      → object_tree ps ≡ v.tree
  object_shown read is view = ap object_tree read ∙ sym (ap (λ m. (node_value m).tree) is) ∙ ap tree_of view

  -- If `v` has the content `n`, an object with the entries `ps`, then the measure of `ps` plus one
  -- is less than the measure of `v`.
  pub pairs_fall : {s : Store WellFormed} {ps : List (List ℕ × WellFormed)} → ps ≡ s.pairs → n ≡ Object s → node_value n ≡ v
      → at_pairs ps + 1 < at_value v
  pairs_fall {s} {ps} read is view = omega (arith, pairs_below ps, ap depth (object_shown read is view))
