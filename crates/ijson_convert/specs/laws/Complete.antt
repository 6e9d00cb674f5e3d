-- A rejected tree does not mean the same as the tree of any value of the Rust type.
use Rattle.std.specs.Prelude.{◌≡◌, ℕ, Bool, List, [], ◌∷◌, map, All, Option, None, Some, IfSome, ⊤, String}
use Rattle.std.specs.Map.{values_of}
use Rattle.std.proofs.Common.{inl, inr, subst}
use Rattle.std.proofs.lemmas.List.Elements.{All-head, All-tail}
use Rattle.std.specs.declared.alloc.Global.{Global}
use Rattle.ijson_value.specs.Same.{Same, SameEach, SameIn, Has}
use Rattle.ijson_value.specs.Tree.{Tree, null, boolean, string, array, object, Items, no_items, item, items_of, Members}
use Rattle.ijson_value.specs.Tree.{no_members, member, members_of}
use Rattle.ijson_value.specs.WellFormed.{IsWellFormed, AreWellFormed, HaveWellFormed}
use Rattle.ijson_value.specs.laws.SameLaws.{same_symm}
use Rattle.ijson_convert.specs.ListTree.{list_tree}
use Rattle.ijson_convert.specs.MapTree.{pair_tree, map_tree}
use Rattle.ijson_convert.specs.OptionTree.{option_tree}
use Rattle.ijson_convert.specs.Refused.{BoolRefused, TextRefused, OptionRefused, FirstRefused, ListRefused, MapRefused, member_values}
use Rattle.ijson_convert.specs.declared.convert_error.ConvertError.{ConvertError}

pub bool_complete : (b : Bool) (t : Tree) (e : ConvertError) → ⊤ → IsWellFormed (boolean b) → IsWellFormed t
    → Same (boolean b) t → BoolRefused t e → ⊥
bool_complete b (boolean c) e i w v s r = r
bool_complete b _ e i w v s r = absurd s

pub text_complete : (text : List ℕ) (t : Tree) (e : ConvertError) → ⊤ → IsWellFormed (string text) → IsWellFormed t
    → Same (string text) t → TextRefused t e → ⊥
text_complete b (string s) e i w v h r = r
text_complete b _ e i w v s r = absurd s

module _ {X : Type 0} (tree : X → Tree) (Refused : Tree → ConvertError → Type 0) (in_range : X → Type 0)
    (complete : (x : X) (t : Tree) (e : ConvertError) → in_range x → IsWellFormed (tree x) → IsWellFormed t
    → Same (tree x) t → Refused t e → ⊥) where
  refused_inside : (t : Tree) (e : ConvertError) → OptionRefused Refused t e → Refused t e
  refused_inside null e r = absurd r
  refused_inside _ e r = r

  none_complete : (t : Tree) (e : ConvertError) → Same null t → OptionRefused Refused t e → ⊥
  none_complete null e s r = r
  none_complete _ e s r = absurd s

  pub option_complete : (o : Option X) (t : Tree) (e : ConvertError) → IfSome o in_range
      → IsWellFormed (option_tree tree o) → IsWellFormed t → Same (option_tree tree o) t
      → OptionRefused Refused t e → ⊥
  option_complete None t e i w v s r = none_complete t e s r
  option_complete (Some x) t e i w v s r = complete x t e i w v s (refused_inside t e r)

  items_complete : (xs : List X) (ts : Items) (e : ConvertError) → All in_range xs
      → AreWellFormed (items_of (map tree xs)) → AreWellFormed ts → SameEach (items_of (map tree xs)) ts
      → FirstRefused Refused ts e → ⊥
  items_complete [] no_items e i w v s r = r
  items_complete [] (item t ts) e i w v s r = s
  items_complete (x ∷ xs) no_items e i w v s r = s
  items_complete (x ∷ xs) (item t ts) e i w v s r = elim r [
    | inl here ↦ complete x t e (All-head in_range x xs i) w.0 v.0 s.0 here
    | inr later ↦ items_complete xs ts e (All-tail in_range x xs i) w.1 v.1 s.1 later.1
  ]

  pub list_complete : (xs : List X) (t : Tree) (e : ConvertError) → All in_range xs
      → IsWellFormed (list_tree tree xs) → IsWellFormed t → Same (list_tree tree xs) t
      → ListRefused Refused t e → ⊥
  list_complete xs (array ts) e i w v s r = items_complete xs ts e i w v s r
  list_complete xs _ e i w v s r = absurd s

  -- If the tree of a map has a member with the tree `u`, then `u` is the well-formed tree of a
  -- value in the map.
  pair_of : (es : List (String Global × X)) → All in_range (values_of es) → HaveWellFormed (members_of (map (pair_tree tree) es))
      → (k : List ℕ) (u : Tree) → Has k u (members_of (map (pair_tree tree) es))
      → (x : X) × (u ≡ tree x) × in_range x × IsWellFormed (tree x)
  pair_of [] i w k u h = absurd h
  pair_of (e ∷ es) i w k u h = elim h [
    | inl here ↦ (e.1, here.1, All-head in_range e.1 (values_of es) i, w.0)
    | inr later ↦ pair_of es (All-tail in_range e.1 (values_of es) i) w.1 k u later
  ]

  members_complete : (es : List (String Global × X)) (ts : Members) (e : ConvertError) → All in_range (values_of es)
      → HaveWellFormed (members_of (map (pair_tree tree) es)) → HaveWellFormed ts
      → SameIn ts (members_of (map (pair_tree tree) es)) → FirstRefused Refused (member_values ts) e → ⊥
  members_complete es no_members e i w v s r = r
  members_complete es (member k t ts) e i w v s r = elim r [
    | inl here ↦
        let pair = pair_of es i w k s.0.0 s.0.1 in
        let same : Same t (tree pair.0) = subst (Same t) pair.1 s.0.2 in
        complete pair.0 t e pair.2 pair.3 v.0 (same_symm t (tree pair.0) v.0 pair.3 same) here
    | inr later ↦ members_complete es ts e i w v.1 s.1 later.1
  ]

  pub map_complete : (es : List (String Global × X)) (t : Tree) (e : ConvertError) → All in_range (values_of es)
      → IsWellFormed (map_tree tree es) → IsWellFormed t → Same (map_tree tree es) t
      → MapRefused Refused t e → ⊥
  map_complete es (object ts) e i w v s r =
      let turned = same_symm (map_tree tree es) (object ts) w v s in
      members_complete es ts e i w.1 v.1 turned.1 r
  map_complete es _ e i w v s r = absurd s
