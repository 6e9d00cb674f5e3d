-- Lemmas for `overlay`, which puts the entries that one object yields into another object.
use Rattle.std.proofs.Common.{◌≡◌, ℕ, List, ◌∷◌, length, take, Result, Ok, Err, Some, refl, sym, subst, ◌∙◌}
use Rattle.std.specs.Prelude.{OnOk, IfErr, MatchResult, slice_get}
use Rattle.std.specs.Iterator.{YieldsFirst}
use Rattle.ijson_value.specs.Gives.{GivesAll, GivesThen, GivesList}
use Rattle.ijson_value.proofs.FromMaps.{all_given, then_given}
use Rattle.ijson_value.proofs.pairs.PutInTurn.{first_left}

module _ {X : Type 0} (all : List X) where
  -- Holds if the iterator `it` runs over the list `xs`.
  abbrev starts : List X → List X → Type 0
  starts xs it = it ≡ xs

  -- A source with the entries `all` can yield only the list `all`.
  pub gives_list : GivesList starts (YieldsFirst (λ (s : List X). s)) all all
  gives_list xs gives = sym (all_given gives.0 xs gives.2) ∙ gives.1

  -- If a successful result `r` implies `P` for each list that the source can yield, then it implies
  -- `P` for `all`.
  pub list_put : {A E : Type 0} (r : Result A E) (P : List X → Type 0)
      → ((xs : List X) → GivesList starts (YieldsFirst (λ (s : List X). s)) all xs → OnOk r (P xs)) → OnOk r (P all)
  list_put r P put = put all gives_list

  -- Holds if `P` holds for the entries put so far. These are all entries of the source if `r` is a
  -- success, and the entries before the entry in the error if `r` is an error.
  abbrev Put : {A E : Type 0} → Result A E → (E → X) → (E → Type 0) → (List X → Type 0) → Type 0
  Put r item F P =
      (added : List X) × P added
      × MatchResult r (λ _. GivesAll starts (YieldsFirst (λ (s : List X). s)) all added)
      (λ e. GivesThen starts (YieldsFirst (λ (s : List X). s)) all added (item e) × F e)

  -- If `r` is a success, then `P` holds for all entries of the source.
  pub all_put : {A E : Type 0} (r : Result A E) (item : E → X) (F : E → Type 0) (P : List X → Type 0) → Put r item F P → OnOk r (P all)
  all_put (Ok x) item F P (added, p, gives) = subst P (gives_list added gives) p
  all_put (Err e) item F P put = tt

  -- If `r` is an error, and the entry in the error is at index `n` of the source, then `P` holds
  -- for the entries before index `n`.
  pub some_put : {A E : Type 0} (r : Result A E) (item : E → X) (F : E → Type 0) (P : List X → Type 0) → Put r item F P
      → IfErr r (λ e. (n : ℕ) × (slice_get all n ≡ Some (item e)) × P (take n all) × F e)
  some_put (Ok x) item F P put = tt
  some_put (Err e) item F P (added, p, gives) =
      let given = gives.0 in
      let whole = sym given.2 ∙ then_given given.0 added (item e) given.1 given.3 in
      let at_item = first_left all added (item e ∷ given.1) (item e) given.1 whole refl in
      (length added, at_item.0, subst P (sym at_item.1) p, gives.1)
