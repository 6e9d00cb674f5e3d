-- Inserting entries in order has the effect of putting each entry in order.
use Rattle.std.proofs.Common.{◌≡◌, ◌++◌, ◌∷◌, ◌∙◌, [], List, ℕ, Some, Ok, append_assoc, length, take, refl, ap, sym}
use Rattle.std.specs.Prelude.{slice_get}
use Rattle.ijson_table.specs.Store.{put_each}
use Rattle.ijson_value.specs.InsertsEach.{InsertsEach}
use Rattle.ijson_value.proofs.pairs.Inserted.{put_where_ok}

module _ {V : Type 0} where
  -- Inserting the entries `added` in order has the effect of `put_each`.
  pub put_in_turn : (pairs : List (List ℕ × V)) (c : ℕ) (added pairs' : List (List ℕ × V)) (c' : ℕ)
      → InsertsEach pairs c added pairs' c' → pairs' ≡ put_each pairs added
  put_in_turn pairs c [] pairs' c' h = h.0
  put_in_turn pairs c (pair ∷ added) pairs' c' h =
      put_in_turn h.1 h.2 added pairs' c' h.4 ∙ ap (λ ps. put_each ps added) (put_where_ok pairs c pair.0 pair.1 (Ok h.0) h.1 h.2 h.3)

module _ {X : Type 0} where
  -- In the list `done ++ pair ∷ rest`, `pair` is at index `length done`.
  behind : (done : List X) (pair : X) (rest : List X)
      → slice_get (done ++ pair ∷ rest) (length done) ≡ Some pair
  behind [] pair rest = refl
  behind (p ∷ done) pair rest = behind done pair rest

  -- The first `length done` elements of `done ++ left` are `done`.
  before : (done left : List X) → take (length done) (done ++ left) ≡ done
  before [] left = refl
  before (p ∷ done) left = ap (λ l. p ∷ l) (before done left)

  -- If a list is `done` followed by `pair ∷ rest`, then `pair` is at index `length done`, and the
  -- list is `done` with `pair` appended, followed by `rest`.
  pub first_left : (all done left : List X) (pair : X) (rest : List X) → all ≡ done ++ left
      → left ≡ pair ∷ rest
      → (slice_get all (length done) ≡ Some pair) × (take (length done) all ≡ done) × (all ≡ (done ++ pair ∷ []) ++ rest)
  first_left all done left pair rest whole here =
      let is : all ≡ done ++ pair ∷ rest = whole ∙ ap (λ l. done ++ l) here in (
        ap (λ l. slice_get l (length done)) is ∙ behind done pair rest,
        ap (take (length done)) is ∙ before done (pair ∷ rest),
        is ∙ sym (append_assoc done (pair ∷ []) rest),
      )
