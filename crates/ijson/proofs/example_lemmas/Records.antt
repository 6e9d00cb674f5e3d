-- Counting the elements without an id one at a time counts all of them.
use Rattle.std.proofs.Common.{◌≡◌, ℕ, suc, ◌+◌, ◌<◌, List, length, drop, get_or, refl, sym, subst, arith, inl, inr}
use Rattle.ijson_value.specs.WellFormed.{WellFormed, item_trees}
use Rattle.ijson.specs.examples.Records.{HasId, LackId}
use Rattle.ijson_value.proofs.Walks.{front}

module _ (vs : List WellFormed) (i count : ℕ) (v : WellFormed) (below : i < length vs) (is : v ≡ get_or vs i v)
    (so_far : (n : ℕ) → LackId (item_trees (drop i vs)) n → LackId (item_trees vs) (count + n)) where
  pub one_has : (next : ℕ) → next ≡ count → HasId v.tree
      → (n : ℕ) → LackId (item_trees (drop (i + 1) vs)) n → LackId (item_trees vs) (next + n)
  one_has next e h n rest =
      let left = subst (λ us. LackId (item_trees us) n) (sym (front vs i v below is)) (inl (h, rest)) in
      subst (λ k. LackId (item_trees vs) (k + n)) (sym e) (so_far n left)

  pub one_lacks : (next : ℕ) → next ≡ count + 1 → (HasId v.tree → ⊥)
      → (n : ℕ) → LackId (item_trees (drop (i + 1) vs)) n → LackId (item_trees vs) (next + n)
  one_lacks next e h n rest =
      let left = subst (λ us. LackId (item_trees us) (suc n)) (sym (front vs i v below is)) (inr (h, n, refl, rest)) in
      let sum : count + suc n ≡ next + n = omega (arith, e) in
      subst (LackId (item_trees vs)) sum (so_far (suc n) left)
