-- A successful insertion has the effect of `put`. Inserting `added` and then `pair` inserts
-- `added ++ pair ∷ []`.
use Rattle.std.proofs.Common.{◌≡◌, ◌++◌, ◌∷◌, [], List, ℕ, Option, Some, None, Result, Ok, Err, refl, subst}
use Rattle.std.specs.Prelude.{OnOk}
use Rattle.ijson_table.specs.Store.{put}
use Rattle.ijson_table.specs.declared.store.RefusedPair.{RefusedPair}
use Rattle.ijson_table.specs.Inserts.{Inserts}
use Rattle.ijson_value.specs.InsertsEach.{InsertsEach}

module _ {V : Type 0} where
  -- A successful insertion has the effect of `put`.
  pub put_where_ok : (pairs : List (List ℕ × V)) (c : ℕ) (key : List ℕ) (value : V) (answer : Result (Option V) (RefusedPair V))
      (pairs' : List (List ℕ × V)) (c' : ℕ)
      → Inserts pairs c key value answer pairs' c' → OnOk answer (pairs' ≡ put pairs key value)
  put_where_ok pairs c key value (Ok (Some old)) pairs' c' h = h.1
  put_where_ok pairs c key value (Ok None) pairs' c' h = h.1
  put_where_ok pairs c key value (Err refused) pairs' c' h = tt

  -- If the entries `added` are inserted and then `pair` is inserted, then the entries
  -- `added ++ pair ∷ []` are inserted.
  pub one_more : (pairs : List (List ℕ × V)) (c : ℕ) (added : List (List ℕ × V)) (mid : List (List ℕ × V)) (d : ℕ) (pair : List ℕ × V)
      (old : Option V) (pairs' : List (List ℕ × V)) (c' : ℕ)
      → InsertsEach pairs c added mid d → Inserts mid d pair.0 pair.1 (Ok old) pairs' c'
      → InsertsEach pairs c (added ++ pair ∷ []) pairs' c'
  one_more pairs c [] mid d pair old pairs' c' before now = (
    old,
    pairs',
    c',
    subst (λ (s : List (List ℕ × V) × ℕ). Inserts s.0 s.1 pair.0 pair.1 (Ok old) pairs' c') (λ i. (before.0 i, before.1 i)) now,
    (refl, refl),
  )
  one_more pairs c (p ∷ added) mid d pair old pairs' c' before now =
      (before.0, before.1, before.2, before.3, one_more before.1 before.2 added mid d pair old pairs' c' before.4 now)
