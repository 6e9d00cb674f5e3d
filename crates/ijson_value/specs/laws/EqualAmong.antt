-- For callers: a loop that moves elements from one list to another keeps the values that occur in
-- either list.
use Rattle.std.specs.Prelude.{◌≡◌, List, ◌∷◌, Bool, true, false, cond}
use Rattle.std.specs.List.{list_any}
use Rattle.std.proofs.Common.{◌||◌, ap}
use Rattle.ijson_value.specs.SameTest.{same}
use Rattle.ijson_value.specs.WellFormed.{WellFormed}
use Rattle.ijson_value.specs.laws.Equality.{equivalence}

-- Returns `true` if some element of `vs` is equal to `v`.
abbrev pub has_equal : WellFormed → List WellFormed → Bool
has_equal v vs = list_any (λ w. same v.tree w.tree) vs

moved : (a b c d e : Bool) → a ≡ b → d ≡ cond a true c → (d || e) ≡ (c || (b || e))
moved true true c d e h k = elim c as (λ x. (d || e) ≡ (x || (true || e))) [ true ↦ ap (λ y. y || e) k | false ↦ ap (λ y. y || e) k ]
moved true false c d e h k = cc
moved false true c d e h k = cc
moved false false c d e h k = ap (λ y. y || e) k

-- Moving the first remaining element `x` to the seen elements does not change whether a value equal
-- to `v` is seen or remains. The premise is the postcondition of an insertion into a set or a map.
pub has_equal-moved : (v x : WellFormed) (seen after rest : List WellFormed)
    → has_equal v after ≡ cond (same x.tree v.tree) true (has_equal v seen)
    → (has_equal v after || has_equal v rest) ≡ (has_equal v seen || has_equal v (x ∷ rest))
has_equal-moved v x seen after rest updates =
    moved (same x.tree v.tree) (same v.tree x.tree) (has_equal v seen) (has_equal v after) (has_equal v rest)
    ((equivalence (λ w. w)).symm x v) updates
