-- The postcondition of `index_or_insert` on an object implies the postcondition on the content that
-- contains the object.
use Rattle.std.proofs.Common.{◌≡◌, ℕ, List, Option, Some, None, Result, Ok, Err, MutBor, refl, sym, ap, subst, ◌∙◌}
use Rattle.std.specs.Prelude.{IfOk, IfErr, option_map, unwrap_or}
use Rattle.ijson_table.specs.Store.{Store, lookup}
use Rattle.ijson_value.specs.FindsEntry.{FindsNoRoom}
use Rattle.ijson_value.specs.LendsStep.{InObject}
use Rattle.ijson_value.specs.NodeValue.{node_value}
use Rattle.ijson_value.specs.Step.{by_key, tree_at}
use Rattle.ijson_value.specs.Tree.{null}
use Rattle.ijson_value.specs.Values.{null_value}
use Rattle.ijson_value.specs.WellFormed.{WellFormed, tree_of}
use Rattle.ijson_value.specs.laws.Steps.{value_at}
use Rattle.ijson_table.specs.declared.store.RefusedPair.{RefusedPair}
use Rattle.ijson_value.specs.declared.value.Destructured.{Destructured}
use Rattle.ijson_value.specs.declared.value.Destructured.TheVariants.{Object}

-- Replacing a missing value by null and then taking the tree equals taking the tree and then
-- replacing a missing tree by null.
or_null : (found : Option WellFormed) → tree_of (unwrap_or found null_value) ≡ unwrap_or (option_map tree_of found) null
or_null None = refl
or_null (Some v) = refl

-- If the returned value is the value of `key` in the object, or else null, then its tree is the
-- tree at `key` in the content, or else null.
pub put_value : (r : Result (MutBor WellFormed) (RefusedPair WellFormed)) (n : Destructured) (o : Store WellFormed) (key : List ℕ)
    → n ≡ Object o
    → IfOk r (λ v. v.now ≡ unwrap_or (lookup key o.pairs) null_value)
    → IfOk r (λ v. v.now.tree ≡ unwrap_or (tree_at (node_value n).tree (by_key key)) null)
put_value (Ok v) n o key is e =
    ap tree_of e ∙ or_null (lookup key o.pairs) ∙ ap (λ t. unwrap_or t null) (value_at o.pairs key)
    ∙ ap (λ m. unwrap_or (tree_at (node_value m).tree (by_key key)) null) (sym is)
put_value (Err x) n o key is e = tt

-- If the returned key and error are correct for the object, then they are correct for the content
-- that contains the object.
pub put_refused : (r : Result (MutBor WellFormed) (RefusedPair WellFormed)) (n : Destructured) (o : Store WellFormed) (key : List ℕ)
    → n ≡ Object o
    → IfErr r (λ x. (x.key ≡ key) × (x.value ≡ null_value) × FindsNoRoom o key x.why)
    → IfErr r (λ x. (x.key ≡ key) × (x.value ≡ null_value) × InObject (λ old. FindsNoRoom old key x.why) n)
put_refused r n o key is e =
    subst (λ m. IfErr r (λ x. (x.key ≡ key) × (x.value ≡ null_value) × InObject (λ old. FindsNoRoom old key x.why) m)) (sym is) e

-- If `R` relates the objects in two contents, then `InObject` relates the two contents by `R`.
pub both_inside : (R : Store WellFormed → Store WellFormed → Type 0) (n m : Destructured) (old new : Store WellFormed)
    → n ≡ Object old → m ≡ Object new → R old new → InObject (λ o. InObject (R o) m) n
both_inside R n m old new n_is m_is r =
    subst (λ k. InObject (λ o. InObject (R o) m) k) (sym n_is) (subst (λ k. InObject (R old) k) (sym m_is) r)
