-- Replacing a part of a tree by itself does not change the tree.
use Rattle.std.proofs.Common.{◌≡◌, inl, inr, ℕ, zero, suc, List, Option, Some, None, refl, sym, ap, ◌∙◌}
use Rattle.std.specs.Prelude.{option_and_then, slice_get, set}
use Rattle.std.specs.Cmp.Lexicographic.{bytes_decides}
use Rattle.std.proofs.lemmas.Option.{same_Some}
use Rattle.ijson_table.specs.Store.{lookup, put}
use Rattle.ijson_table.proofs.pairs.KeyPositions.{same_key}
use Rattle.ijson_value.proofs.comparing.SameSteps.{other_bytes}
use Rattle.ijson_value.specs.Step.{Step, by_position, by_key, tree_at, tree_with}
use Rattle.ijson_value.specs.Tree.{Tree, array, object, Items, no_items, item, items_of, items_list, Members}
use Rattle.ijson_value.specs.Tree.{no_members, member, members_of, members_list}
use Rattle.ijson_value.specs.laws.MemberTrees.{members_of-list}
use Rattle.ijson_value.specs.laws.TreeLookups.{items_of-list}
use Rattle.ijson_extra.specs.Pointer.{step_named, child_at, stepped_with}
use Rattle.ijson_extra.specs.private.Walked.{meant_with}
use Rattle.ijson_extra.proofs.tokens.Options.{not_both}

item_same : (ts : Items) (i : ℕ) (u : Tree) → slice_get (items_list ts) i ≡ Some u → items_of (set (items_list ts) i u) ≡ ts
item_same no_items i u e = not_both u e
item_same (item t ts) zero u e = ap (λ v. item v (items_of (items_list ts))) (sym (same_Some t u e)) ∙ ap (item t) (items_of-list ts)
item_same (item t ts) (suc i) u e = ap (item t) (item_same ts i u e)

member_same : (ps : Members) (key : List ℕ) (u : Tree) → lookup key (members_list ps) ≡ Some u
    → members_of (put (members_list ps) key u) ≡ ps
member_same no_members key u e = not_both u e
member_same (member k t ps) key u e = elim (same_key k key) [
  | inl s ↦ rw s.0 (ap (λ v. member k v (members_of (members_list ps)))
      (sym (same_Some t u (rw ((bytes_decides key k).1 (sym s.1)) at e))) ∙ ap (member k t) (members_of-list ps))
  | inr s ↦ rw s.0 (ap (member k t) (member_same ps key u (rw (other_bytes key k (λ f. s.1 (sym f))) at e)))
]

tree_same : (t : Tree) (step : Step) (u : Tree) → tree_at t step ≡ Some u → tree_with t step u ≡ t
tree_same (array ts) (by_position i) u e = ap array (item_same ts i u e)
tree_same (object ps) (by_key key) u e = ap object (member_same ps key u e)
tree_same t step u e = not_both u e

step_same : (t : Tree) (step : Option Step) (u : Tree) → option_and_then (tree_at t) step ≡ Some u → stepped_with t step u ≡ t
step_same t None u e = refl
step_same t (Some step) u e = tree_same t step u e

pub meant_same : (t : Tree) (token : Option (List ℕ)) (u : Tree) → option_and_then (child_at t) token ≡ Some u → meant_with t token u ≡ t
meant_same t None u e = refl
meant_same t (Some token) u e = step_same t (step_named t token) u e
