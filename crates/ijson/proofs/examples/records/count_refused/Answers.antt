use Rattle.std.proofs.Common.{◌≡◌, refl, sym, ap, subst, ◌∙◌, arith, add-zero, drop_of_length-le}
use Rattle.ijson_value.specs.Tree.{array}
use Rattle.ijson_value.specs.WellFormed.{item_trees, tree_of}
use Rattle.ijson.specs.examples.Records.{LackId, RefusesSoMany}
use Rattle.ijson.proofs.example_lemmas.Records.{one_has, one_lacks}
use Rattle.ijson.proofs.examples.records.count_refused.Goals.{then-not-has_id, else-not-has_id}
use Rattle.ijson.proofs.examples.records.count_refused.Goals as goal

pub loop-item-preserved : goal.loop-item-preserved
loop-item-preserved c =
    let vs = c.as_slice-items.result.now in
    let v = c.item-item.result in
    let loop = c.loop-item in
    let within = loop.invariant.within in
    elim c.if-not-has_id.branch [
      | then-not-has_id w ↦ record {
        within = let e = w.count-is in omega (arith, within, e);
        so_far = one_lacks vs loop.item-index loop.count v c.loop-item-test.true c.item-item.is loop.invariant.so_far _ w.count-is
            (λ h. let yes = c.has_id.ensures.1 h in let no = w.if-not-has_id.true in absurd (cc));
      }
      | else-not-has_id w ↦ record {
        within = let e = w.count-is in omega (arith, within, e);
        so_far = one_has vs loop.item-index loop.count v c.loop-item-test.true c.item-item.is loop.invariant.so_far _ w.count-is
            (c.has_id.ensures.0 w.if-not-has_id.false);
      }
    ]

pub returns-clause-some : goal.returns-clause-some
returns-clause-some c =
    let vs = c.as_slice-items.result.now in
    let count = c.loop-item.count in
    let whole : array (item_trees vs) ≡ c.args.value.now.tree =
    ap (λ us. array (item_trees us)) c.as_slice-items.ensures ∙ sym (ap tree_of c.in_ok-as_array.ensures.some) in
    let none_left = subst (λ us. LackId (item_trees us) 0) (sym (drop_of_length-le vs c.loop-item-test.false)) refl in
    subst (λ t. RefusesSoMany t count) whole (subst (LackId (item_trees vs)) (add-zero count) (c.loop-item.invariant.so_far 0 none_left))
