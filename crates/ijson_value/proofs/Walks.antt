-- For callers: lemmas for recursions over a value.
use Rattle.std.proofs.Common.{◌≡◌, ℕ, ◌+◌, ◌<◌, max, List, [], ◌∷◌, map, length, get_or, drop, refl, sym, ap, ◌∙◌}
use Rattle.std.proofs.lemmas.List.{drop_more}
use Rattle.std.specs.Prelude.{ℤ}
use Rattle.ijson_number.proofs.storing.WholeValues.{value_one}
use Rattle.ijson_value.specs.Integers.{HasInteger}
use Rattle.ijson_value.specs.Tree.{Tree, number, depth, items_depth, members_depth}
use Rattle.ijson_value.specs.WellFormed.{WellFormed, IsWellFormed, item_trees, pair_trees}

-- The list from index `i` on is the element at `i`, followed by the list from index `i + 1` on.
pub front : (vs : List WellFormed) (i : ℕ) (v : WellFormed) → i < length vs → v ≡ get_or vs i v → drop i vs ≡ v ∷ drop (i + 1) vs
front vs i v below is = drop_more vs i v below ∙ ap (λ u. u ∷ drop (i + 1) vs) (sym is)

-- The maximum depth of the values of entries is the same in an array of the values and in an object
-- of the entries.
pub values_depth : (ps : List (List ℕ × WellFormed)) → items_depth (item_trees (map (λ p. p.1) ps)) ≡ members_depth (pair_trees ps)
values_depth [] = refl
values_depth (p ∷ ps) = ap (max (depth p.1.tree)) (values_depth ps)

-- A value is equal to at most one integer.
pub one_integer : (t : Tree) (x y : ℤ) → IsWellFormed t → HasInteger t x → HasInteger t y → x ≡ y
one_integer (number n) x y w h k = value_one n x y w.plain h k
one_integer _ x y w h k = absurd h
