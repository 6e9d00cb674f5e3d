-- `==` is an equivalence, for any type whose values have well-formed trees.
use Rattle.std.proofs.Common.{◌≡◌, ℕ, List, Bool, IsTrue, ◌↔◌, sym, ◌∙◌}
use Rattle.std.specs.Bool.{one_answer}
use Rattle.std.specs.Cmp.{IsPartialEquivalence, IsEquivalence, equiv}
use Rattle.ijson_value.specs.Tree.{Tree}
use Rattle.ijson_value.specs.Same.{Same}
use Rattle.ijson_value.specs.SameTest.{same}
use Rattle.ijson_value.specs.laws.SameDecided.{decides}
use Rattle.ijson_value.specs.laws.SameLaws.{same_refl, same_symm, same_trans}
use Rattle.ijson_value.specs.Values.{array_tree, object_tree}
use Rattle.ijson_value.specs.WellFormed.{WellFormed}

module _ {K : Type 0} (f : K → WellFormed) where
  -- The test `same` is symmetric and transitive.
  pub partial_equivalence : IsPartialEquivalence (λ x y. same (f x).tree (f y).tree)
  partial_equivalence = record {
    symm = λ x y. one_answer (same (f x).tree (f y).tree) (same (f y).tree (f x).tree)
        (decides (f x).tree (f y).tree) (
          λ e. same_symm (f y).tree (f x).tree (f y).well_formed (f x).well_formed
              ((decides (f y).tree (f x).tree).0 e),
          λ h. (decides (f y).tree (f x).tree).1 (same_symm (f x).tree (f y).tree (f x).well_formed
              (f y).well_formed h),
        );
    trans = λ x y z p q. (decides (f x).tree (f z).tree).1
        (same_trans (f x).tree (f y).tree (f z).tree ((decides (f x).tree (f y).tree).0 p)
        ((decides (f y).tree (f z).tree).0 q));
  }

  -- The test `same` is reflexive, symmetric and transitive.
  pub equivalence : IsEquivalence (λ x y. same (f x).tree (f y).tree)
  equivalence = equiv partial_equivalence (λ x. (decides (f x).tree (f x).tree).1 (same_refl (f x).tree))

-- If `r` is the result of the test `same`, then `r` is true exactly if `Same` holds.
pub is_same : (t u : Tree) (r : Bool) → r ≡ same t u → IsTrue r ↔ Same t u
is_same t u r e = (λ h. (decides t u).0 (sym e ∙ h), λ s. e ∙ (decides t u).1 s)

-- If `r` is the result of `same` for two arrays, then `r` is true exactly if the arrays are the
-- same.
pub is_same_array : (xs ys : List WellFormed) (r : Bool) → r ≡ same (array_tree xs) (array_tree ys)
    → IsTrue r ↔ Same (array_tree xs) (array_tree ys)
is_same_array xs ys = is_same (array_tree xs) (array_tree ys)

-- If `r` is the result of `same` for two objects, then `r` is true exactly if the objects are the
-- same.
pub is_same_object : (ps qs : List (List ℕ × WellFormed)) (r : Bool) → r ≡ same (object_tree ps) (object_tree qs)
    → IsTrue r ↔ Same (object_tree ps) (object_tree qs)
is_same_object ps qs = is_same (object_tree ps) (object_tree qs)

-- If `r` is true exactly if `Same` holds, then `r` is the result of the test `same`.
pub same_is : (t u : Tree) (r : Bool) → IsTrue r ↔ Same t u → r ≡ same t u
same_is t u r h = one_answer r (same t u) h (decides t u)
