-- Putting or removing a key of an object has the same effect on the members of the object's tree.
use Rattle.std.specs.Prelude.{◌≡◌, ℕ, true, false, List, [], ◌∷◌, Option, Some, None, map, cond}
use Rattle.std.specs.Str.{bytes_eq}
use Rattle.std.proofs.Common.{refl, sym, ap, ◌∙◌}
use Rattle.indexmap.proofs.SetLemmas.{map-remove}
use Rattle.ijson_table.specs.Store.{keys_of, position_of, at, put, shift_out}
use Rattle.ijson_value.specs.AtKey.{out_at, shift_out_key}
use Rattle.ijson_value.specs.Tree.{Tree, Members, no_members, member, members_of, members_list}
use Rattle.ijson_value.specs.WellFormed.{WellFormed, tree_of, pair_trees}

-- The entry with its value replaced by the value's tree.
abbrev pub pair_tree : List ℕ × WellFormed → List ℕ × Tree
pair_tree p = (p.0, tree_of p.1)

-- The members of an object's tree are its entries with the trees of their values.
pub members_list-pairs : (ps : List (List ℕ × WellFormed)) → members_list (pair_trees ps) ≡ map pair_tree ps
members_list-pairs [] = refl
members_list-pairs (p ∷ ps) = ap (λ ms. pair_tree p ∷ ms) (members_list-pairs ps)

-- Replacing values by their trees keeps the keys.
pub keys_of-trees : (ps : List (List ℕ × WellFormed)) → keys_of (map pair_tree ps) ≡ keys_of ps
keys_of-trees [] = refl
keys_of-trees (p ∷ ps) = ap (λ ks. p.0 ∷ ks) (keys_of-trees ps)

-- A key has the same index whether or not values are replaced by their trees.
pub at-trees : (ps : List (List ℕ × WellFormed)) (key : List ℕ) → at (map pair_tree ps) key ≡ at ps key
at-trees ps key = ap (λ ks. position_of ks key) (keys_of-trees ps)

-- `members_of` undoes `members_list`.
pub members_of-list : (ps : Members) → members_of (members_list ps) ≡ ps
members_of-list no_members = refl
members_of-list (member k t ps) = ap (member k t) (members_of-list ps)

-- Replacing values by their trees commutes with `put`.
pub put-trees : (ps : List (List ℕ × WellFormed)) (key : List ℕ) (w : WellFormed)
    → map pair_tree (put ps key w) ≡ put (map pair_tree ps) key w.tree
put-trees [] key w = refl
put-trees (p ∷ ps) key w = elim (bytes_eq p.0 key) as (λ b. map pair_tree (cond b ((p.0, w) ∷ ps) (p ∷ put ps key w))
    ≡ cond b ((p.0, w.tree) ∷ map pair_tree ps) (pair_tree p ∷ put (map pair_tree ps) key w.tree)) [
      | true ↦ refl
      | false ↦ ap (λ ms. pair_tree p ∷ ms) (put-trees ps key w)
    ]

-- Putting a value into an object puts its tree into the members of the object's tree.
pub put-members : (ps : List (List ℕ × WellFormed)) (key : List ℕ) (w : WellFormed)
    → members_list (pair_trees (put ps key w)) ≡ put (members_list (pair_trees ps)) key w.tree
put-members ps key w =
    members_list-pairs (put ps key w) ∙ put-trees ps key w ∙ ap (λ ms. put ms key w.tree) (sym (members_list-pairs ps))

-- If `out`, on entries, and `out_member`, on entries with the trees of their values, agree at each
-- index, then they agree for each key.
module _ (out : List (List ℕ × WellFormed) → ℕ → List (List ℕ × WellFormed))
    (out_member : List (List ℕ × Tree) → ℕ → List (List ℕ × Tree)) (ps : List (List ℕ × WellFormed))
    (each : (i : ℕ) → map pair_tree (out ps i) ≡ out_member (map pair_tree ps) i) where
  out_at-trees : (found : Option ℕ) → map pair_tree (out_at out found ps) ≡ out_at out_member found (map pair_tree ps)
  out_at-trees None = refl
  out_at-trees (Some i) = each i

  pub out_key-trees : (key : List ℕ)
      → map pair_tree (out_at out (at ps key) ps) ≡ out_at out_member (at (map pair_tree ps) key) (map pair_tree ps)
  out_key-trees key = out_at-trees (at ps key) ∙ ap (λ found. out_at out_member found (map pair_tree ps)) (sym (at-trees ps key))

-- Removing a key from an object by `shift_out_key` removes the key from the members of the object's
-- tree by `shift_out_key`.
pub shift_out-members : (ps : List (List ℕ × WellFormed)) (key : List ℕ)
    → members_list (pair_trees (shift_out_key key ps)) ≡ shift_out_key key (members_list (pair_trees ps))
shift_out-members ps key = members_list-pairs (shift_out_key key ps) ∙ out_key-trees shift_out shift_out ps (map-remove pair_tree ps) key
    ∙ ap (shift_out_key key) (sym (members_list-pairs ps))
