-- A list of entries `done ++ p ∷ left` has the key and the tree of `p`, and is at least as deep as
-- the value of `p`.
use Rattle.std.proofs.Common.{◌≡◌, ◌≤◌, ℕ, List, [], ◌∷◌, ◌++◌, suc, refl, ap, sym, subst, inl, inr, arith}
use Rattle.std.proofs.lemmas.List.{map-append}
use Rattle.ijson_table.specs.Store.{Lacks, IsDistinct, keys_of}
use Rattle.ijson_value.proofs.FromMaps.{lacks_before}
use Rattle.ijson_value.specs.Same.{Has}
use Rattle.ijson_value.specs.Tree.{Tree, depth, members_depth, members_len}
use Rattle.ijson_value.specs.WellFormed.{WellFormed, pair_trees}

-- An entry of `done` is an entry of `done ++ more`.
pub has_more : (done more : List (List ℕ × WellFormed)) (k : List ℕ) (u : Tree) → Has k u (pair_trees done)
    → Has k u (pair_trees (done ++ more))
has_more [] more k u h = absurd h
has_more (p ∷ done) more k u h = elim h [ inl here ↦ inl here | inr later ↦ inr (has_more done more k u later) ]

-- The list `done ++ p ∷ left` has the key and the tree of `p`.
pub has_middle : (done : List (List ℕ × WellFormed)) (p : List ℕ × WellFormed) (left : List (List ℕ × WellFormed))
    → Has p.0 p.1.tree (pair_trees (done ++ p ∷ left))
has_middle [] p left = inl (refl, refl)
has_middle (q ∷ done) p left = inr (has_middle done p left)

-- The value of an entry `p` is at most as deep as a list of entries that contains `p`.
pub deep_middle : (done : List (List ℕ × WellFormed)) (p : List ℕ × WellFormed) (left : List (List ℕ × WellFormed))
    → depth p.1.tree ≤ members_depth (pair_trees (done ++ p ∷ left))
deep_middle [] p left = omega arith
deep_middle (q ∷ done) p left = omega (arith, deep_middle done p left)

-- Appending one entry increases the number of members by 1.
pub len_last : (done : List (List ℕ × WellFormed)) (p : List ℕ × WellFormed)
    → members_len (pair_trees (done ++ p ∷ [])) ≡ suc (members_len (pair_trees done))
len_last [] p = refl
len_last (q ∷ done) p = ap suc (len_last done p)

-- If keys are distinct, the key of an entry differs from the keys of all entries before it.
pub key_is_new : (done : List (List ℕ × WellFormed)) (k : List ℕ) (v : WellFormed) (left pairs : List (List ℕ × WellFormed))
    → done ++ (k, v) ∷ left ≡ pairs → IsDistinct (keys_of pairs) → Lacks k (keys_of done)
key_is_new done k v left pairs is d =
    lacks_before (keys_of done) k (keys_of left) (subst IsDistinct (map-append (λ p. p.0) done ((k, v) ∷ left))
    (subst (λ l. IsDistinct (keys_of l)) (sym is) d))
