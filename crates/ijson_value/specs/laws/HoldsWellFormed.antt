-- Arrays and objects of well-formed values are well-formed.
use Rattle.std.specs.Prelude.{◌≡◌, ℕ, List, [], ◌∷◌}
use Rattle.std.proofs.Common.{refl, sym, ap, subst}
use Rattle.ijson_table.specs.Store.{Store, IsDistinct, keys_of}
use Rattle.ijson_value.specs.Tree.{object, member_keys}
use Rattle.ijson_value.specs.WellFormed.{WellFormed, IsWellFormed, AreWellFormed, HaveWellFormed, item_trees, pair_trees}

-- The trees of well-formed values are well-formed elements.
pub AreWellFormed-items : (vs : List WellFormed) → AreWellFormed (item_trees vs)
AreWellFormed-items [] = tt
AreWellFormed-items (v ∷ vs) = (v.well_formed, AreWellFormed-items vs)

-- The members of an object's tree have well-formed values.
HaveWellFormed-pairs : (ps : List (List ℕ × WellFormed)) → HaveWellFormed (pair_trees ps)
HaveWellFormed-pairs [] = tt
HaveWellFormed-pairs (p ∷ ps) = (p.1.well_formed, HaveWellFormed-pairs ps)

-- The members of an object's tree have the keys of its entries, in order.
pub member_keys-pairs : (ps : List (List ℕ × WellFormed)) → member_keys (pair_trees ps) ≡ keys_of ps
member_keys-pairs [] = refl
member_keys-pairs (p ∷ ps) = ap (λ l. p.0 ∷ l) (member_keys-pairs ps)

-- The tree of an object is well-formed.
pub IsWellFormed-object : (s : Store WellFormed) → IsWellFormed (object (pair_trees s.pairs))
IsWellFormed-object s = (
  subst IsDistinct (sym (member_keys-pairs s.pairs)) s.distinct,
  HaveWellFormed-pairs s.pairs,
)
