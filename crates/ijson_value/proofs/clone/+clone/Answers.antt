use Rattle.std.proofs.Common.{◌≡◌, ℕ, ◌+◌, ◌<◌, List, [], ◌∷◌, ◌++◌, length, get_or, take, add-one, arith, rules, refl, sym, ap, subst, ◌∙◌}
use Rattle.std.proofs.Common.{take_all}
use Rattle.std.proofs.Math.Seq.{take-suc}
use Rattle.std.specs.Prelude.{IfOk}
use Rattle.ijson_value.specs.Values.{number_value, string_value, array_value}
use Rattle.ijson_value.specs.NodeValue.{node_value}
use Rattle.ijson_value.proofs.pairs.SamePairs.{same_pairs_value}
use Rattle.ijson_value.proofs.DepthLemmas.{items_fall, pairs_fall}
use Rattle.ijson_value.proofs.clone.+clone.Goals as goal
use Rattle.ijson_value.proofs.clone.+clone.Goals.{clone_value-in-Null, clone_value-in-Bool, clone_value-in-Number+in_ok-clone-in-Number}
use Rattle.ijson_value.proofs.clone.+clone.Goals.{clone_value-in-String+in_ok-clone-in-String}
use Rattle.ijson_value.proofs.clone.+clone.Goals.{clone_value-in-Array+in_ok-clone_items-in-Array}
use Rattle.ijson_value.proofs.clone.+clone.Goals.{clone_value-in-Object+in_ok-clone_object-in-Object}
use Rattle.ijson_value.proofs.WalkMeasures.{at_pairs}

pub clone_value-clone_items-requires : goal.clone_value-clone_items-requires
clone_value-clone_items-requires t c =
    (omega (arith, items_fall c.as_slice.ensures c.in-Array.is c.value.view_is, c.decreases), tt)

pub clone_value-clone_object-requires : goal.clone_value-clone_object-requires
clone_value-clone_object-requires t c = (omega (arith, pairs_fall refl c.in-Object.is c.value.view_is, c.decreases), tt)

pub clone_object-clone_pairs-requires : goal.clone_object-clone_pairs-requires
clone_object-clone_pairs-requires t c = (omega (arith, ap at_pairs c.as_slice.ensures, c.decreases), tt)

pub clone_value-returns : goal.clone_value-returns
clone_value-returns t c = elim c.match-value.branch [
  | clone_value-in-Null w ↦ ap node_value w.node-is ∙ sym (ap node_value w.in-Null.is) ∙ c.value.view_is
  | clone_value-in-Bool w ↦ ap node_value w.node-is ∙ sym (ap node_value w.in-Bool.is) ∙ c.value.view_is
  | clone_value-in-Number+in_ok-clone-in-Number w ↦
      ap node_value w.node-is ∙ ap number_value w.in_ok-clone-in-Number.ensures.cases
      ∙ sym (ap node_value w.in-Number.is) ∙ c.value.view_is
  | clone_value-in-String+in_ok-clone-in-String w ↦
      ap node_value w.node-is ∙ ap string_value w.in_ok-clone-in-String.ensures.cases
      ∙ sym (ap node_value w.in-String.is) ∙ c.value.view_is
  | clone_value-in-Array+in_ok-clone_items-in-Array w ↦
      ap node_value w.node-is ∙ ap array_value (w.in_ok-clone_items-in-Array.ensures.items ∙ w.as_slice.ensures)
      ∙ sym (ap node_value w.in-Array.is) ∙ c.value.view_is
  | clone_value-in-Object+in_ok-clone_object-in-Object w ↦
      ap node_value w.node-is ∙ same_pairs_value _ w.in-Object.object w.in_ok-clone_object-in-Object.ensures.pairs
      ∙ sym (ap node_value w.in-Object.is) ∙ c.value.view_is
]

-- If `old` has the first `i` elements of `xs`, and `y` is a copy of the element at index `i`, then
-- `old ++ y ∷ []` has the first `i + 1` elements.
one_more : {X : Type 0} (xs : List X) (i : ℕ) (x y : X) (old new : List X) → new ≡ old ++ y ∷ [] → old ≡ take i xs → y ≡ x
    → i < length xs → x ≡ get_or xs i x → new ≡ take (i + 1) xs
one_more xs i x y old new pushed before copied h is =
    pushed ∙ (λ j. before j ++ (copied ∙ is) j ∷ []) ∙ sym (rw add-one (take-suc xs i x h))

pub clone_items-loop-item-preserved : goal.clone_items-loop-item-preserved
clone_items-loop-item-preserved t c = (
  one_more c.args.items.now c.loop-item.item-index c.item-item.result c.in_ok-copy.copy c.loop-item.copies.items
      c.push_reserved.new.self.items c.push_reserved.ensures.items c.loop-item.invariant.0 (search rules)
      c.loop-item-test.true c.item-item.is,
  c.push_reserved.ensures.capacity ∙ c.loop-item.invariant.1,
)

pub clone_items-returns : goal.clone_items-returns
clone_items-returns t c =
    let all = c.loop-item.invariant.0 ∙ take_all c.loop-item.item-index c.args.items.now c.loop-item-test.false in record {
      items = subst (λ vs. IfOk c.of_list.result (λ copy. copy.items ≡ vs)) all c.of_list.ensures.items;
      room = subst (λ n. IfOk c.of_list.result (λ copy. copy.capacity ≡ n)) c.loop-item.invariant.1 c.of_list.ensures.room;
      none = λ e. c.of_list.ensures.none (c.loop-item.invariant.1 ∙ e);
    }

pub clone_pairs-loop-pair-preserved : goal.clone_pairs-loop-pair-preserved
clone_pairs-loop-pair-preserved t c =
    let key : c.in_ok-key.key ≡ c.pair-item.result.0 = c.in_ok-key.ensures.cases in
    let value : c.in-Ok.value ≡ c.pair-item.result.1 = search rules in (
      one_more c.args.pairs.now c.loop-pair.pair-index c.pair-item.result (c.in_ok-key.key, c.in-Ok.value)
          c.loop-pair.copies.items c.push_reserved.new.self.items c.push_reserved.ensures.items
          c.loop-pair.invariant.0 (λ i. (key i, value i)) c.loop-pair-test.true c.pair-item.is,
      c.push_reserved.ensures.capacity ∙ c.loop-pair.invariant.1,
    )

pub clone_pairs-returns : goal.clone_pairs-returns
clone_pairs-returns t c = record {
  pairs = c.loop-pair.invariant.0 ∙ take_all c.loop-pair.pair-index c.args.pairs.now c.loop-pair-test.false;
  none = λ _. refl;
}
