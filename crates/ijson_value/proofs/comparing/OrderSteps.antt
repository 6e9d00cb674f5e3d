-- Lemmas for the end of the loop that compares two lists of elements.
use Rattle.std.proofs.Common.{◌≡◌, ℕ, suc, ◌<◌, ◌≤◌, List, [], ◌∷◌, length, get_or, drop, Some, inl, inr, sym, ap, ◌∙◌, arith}
use Rattle.std.proofs.Common.{drop_of_length-le}
use Rattle.std.proofs.Math.Seq.{drop-cons}
use Rattle.std.proofs.lemmas.Bool.{cases_lt}
use Rattle.std.specs.Cmp.{nat_cmp_total, tied_itself}
use Rattle.std.specs.Ordering.{nat_cmp}
use Rattle.std.specs.declared.cmp.Ordering.TheVariants.{Less, Equal, Greater}
use Rattle.ijson_value.specs.Order.{items_cmp}
use Rattle.ijson_value.specs.Values.{null_value}
use Rattle.ijson_value.specs.WellFormed.{WellFormed, item_trees}
use Rattle.ijson_value.specs.laws.OrderLaws.{nat_less}

module _ (xs ys : List WellFormed) (i : ℕ) where
  -- If index `i` is out of bounds only in `ys`, the order of the elements from `i` on is `Greater`.
  pub second_ended : length ys ≤ i → i < length xs
      → items_cmp (item_trees (drop i xs)) (item_trees (drop i ys)) ≡ Some Greater
  second_ended h k =
      ap (λ l. items_cmp (item_trees l) (item_trees (drop i ys))) (drop-cons xs i null_value k)
      ∙ ap (λ l. items_cmp (item_trees (get_or xs i null_value ∷ drop (suc i) xs)) (item_trees l))
      (drop_of_length-le ys h)

  -- If index `i` is out of bounds only in `xs`, the order of the elements from `i` on is `Less`.
  first_shorter : length xs ≤ i → i < length ys
      → items_cmp (item_trees (drop i xs)) (item_trees (drop i ys)) ≡ Some Less
  first_shorter h k =
      ap (λ l. items_cmp (item_trees l) (item_trees (drop i ys))) (drop_of_length-le xs h)
      ∙ ap (λ l. items_cmp (item_trees []) (item_trees l)) (drop-cons ys i null_value k)

  -- If index `i` is out of bounds in both lists, the order of the elements from `i` on is `Equal`.
  both_ended : length xs ≤ i → length ys ≤ i
      → items_cmp (item_trees (drop i xs)) (item_trees (drop i ys)) ≡ Some Equal
  both_ended h k =
      ap (λ l. items_cmp (item_trees l) (item_trees (drop i ys))) (drop_of_length-le xs h)
      ∙ ap (λ l. items_cmp (item_trees []) (item_trees l)) (drop_of_length-le ys k)

  -- If `i` is the length of `xs` and at most the length of `ys`, the order of the elements from `i`
  -- on is the order of the lengths.
  pub first_ended : i ≤ length xs → length xs ≤ i → i ≤ length ys
      → items_cmp (item_trees (drop i xs)) (item_trees (drop i ys)) ≡ Some (nat_cmp (length xs) (length ys))
  first_ended a h b = elim (cases_lt (length xs) (length ys)) [
    | inl l ↦ first_shorter h (omega arith) ∙ sym (nat_less (length xs) (length ys) l)
    | inr g ↦
        let e : length xs ≡ length ys = omega arith in
        both_ended h (omega arith)
        ∙ sym (ap (λ n. Some (nat_cmp (length xs) n)) (sym e) ∙ ap Some (tied_itself nat_cmp_total (length xs)))
  ]
