-- The tree of an object's content after a successful put, and after a failed put.
use Rattle.std.proofs.Common.{◌≡◌, ℕ, List, sym, ap, ◌∙◌}
use Rattle.ijson_table.specs.Store.{put}
use Rattle.ijson_value.specs.LendsAtKey.{IsPut}
use Rattle.ijson_value.specs.LendsStep.{InObject}
use Rattle.ijson_value.specs.NodeValue.{node_value}
use Rattle.ijson_value.specs.Step.{by_key, tree_with}
use Rattle.ijson_value.specs.Tree.{object, members_of}
use Rattle.ijson_value.specs.Values.{object_tree}
use Rattle.ijson_value.specs.WellFormed.{WellFormed}
use Rattle.ijson_value.specs.declared.value.Destructured.{Destructured}
use Rattle.ijson_value.specs.declared.value.Destructured.TheVariants.{Object}
use Rattle.ijson_value.specs.laws.MemberTrees.{members_of-list, put-members}
use Rattle.ijson_value.specs.WellFormed.{pair_trees}

pub is_put_inside : (n m : Destructured) (key : List ℕ) (w : WellFormed) → InObject (λ old. InObject (λ new. IsPut old key w new) m) n
    → (node_value m).tree ≡ tree_with (node_value n).tree (by_key key) w.tree
is_put_inside (Object o) (Object p) key w h =
    ap object_tree h.0 ∙ ap object (sym (members_of-list (pair_trees (put o.pairs key w))) ∙ ap members_of (put-members o.pairs key w))
is_put_inside n m key w h = absurd h

pub is_kept_inside : (n m : Destructured) → InObject (λ old. InObject (λ new. (new.pairs ≡ old.pairs) × (new.capacity ≡ old.capacity)) m) n
    → (node_value m).tree ≡ (node_value n).tree
is_kept_inside (Object o) (Object p) h = ap object_tree h.0
is_kept_inside n m h = absurd h
