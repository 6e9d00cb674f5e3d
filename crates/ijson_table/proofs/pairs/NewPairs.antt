-- Appending a pair with a new key to a list of pairs. In an equal list, `seen`, the key was looked
-- up as `text`.
use Rattle.std.proofs.Common.{◌≡◌, ℕ, List, [], ◌∷◌, ◌++◌, None, ap, sym, subst, ◌∙◌}
use Rattle.ijson_table.specs.Store.{keys_of, at, put, IsDistinct}
use Rattle.ijson_table.proofs.pairs.PairsByKey.{distinct_pushed, put-absent}

module _ {V : Type 0} {old seen now : List (List ℕ × V)} {text : List ℕ} (key : List ℕ) (value : V) (same : old ≡ seen)
    (pushed : now ≡ old ++ (key, value) ∷ []) (is : text ≡ key) (missing : at seen text ≡ None) where
  -- Appending the pair keeps the keys distinct.
  pub still_distinct : IsDistinct (keys_of old) → IsDistinct (keys_of now)
  still_distinct d = subst (λ ps. IsDistinct (keys_of ps)) (sym pushed)
      (distinct_pushed old key value d (ap (λ ps. at ps key) same ∙ (ap (at seen) (sym is) ∙ missing)))

  -- Appending the pair equals inserting it into `seen`.
  pub put_last : now ≡ put seen key value
  put_last = pushed ∙ (ap (λ ps. ps ++ (key, value) ∷ []) same ∙ sym (put-absent seen key value (ap (at seen) (sym is) ∙ missing)))
