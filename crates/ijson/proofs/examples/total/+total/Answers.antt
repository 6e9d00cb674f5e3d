use Rattle.std.proofs.Common.{refl, sym, subst, ◌∙◌, arith, drop_of_length-le}
use Rattle.ijson_value.specs.Tree.{members_depth}
use Rattle.ijson_value.specs.WellFormed.{pair_trees}
use Rattle.ijson.specs.examples.Total.{ValuesSumTo}
use Rattle.ijson_value.proofs.Walks.{front, values_depth}
use Rattle.ijson.proofs.example_lemmas.Totals.{values_sum, IsLeft, all_left, none_left, first_below, none_first, none_more, one_more}
use Rattle.ijson.proofs.examples.total.+total.Goals as goal

-- ---- Answers about `total_of_items`
pub total_of_items-loop-item-init : goal.total_of_items-loop-item-init
total_of_items-loop-item-init t c = all_left c.args.items.now _ _ refl refl

pub total_of_items-total-requires : goal.total_of_items-total-requires
total_of_items-total-requires t c =
    let is = front c.args.items.now c.loop-item.item-index c.item-item.result c.loop-item-test.true c.item-item.is in
    let below = first_below _ _ _ _ c.loop-item.invariant _ _ is in
    (omega (arith, below, c.decreases), tt)

pub total_of_items-returns-in_err-total-clause-none : goal.total_of_items-returns-in_err-total-clause-none
total_of_items-returns-in_err-total-clause-none t c =
    let is = front c.args.items.now c.loop-item.item-index c.item-item.result c.loop-item-test.true c.item-item.is in
    rw c.from_residual.ensures (none_first _ _ _ _ c.loop-item.invariant _ _ is c.in_err-total.ensures.none)

pub total_of_items-returns-in_err-sum-clause-none : goal.total_of_items-returns-in_err-sum-clause-none
total_of_items-returns-in_err-sum-clause-none t c =
    let is = front c.args.items.now c.loop-item.item-index c.item-item.result c.loop-item-test.true c.item-item.is in
    rw c.from_residual-in_err-sum.ensures
    (none_more _ _ _ _ c.loop-item.invariant _ _ is _ 0 c.in_ok-total.ensures.some (c.in_err-sum.ensures {u = tt}))

pub total_of_items-loop-item-preserved : goal.total_of_items-loop-item-preserved
total_of_items-loop-item-preserved t c =
    let is = front c.args.items.now c.loop-item.item-index c.item-item.result c.loop-item-test.true c.item-item.is in
    one_more _ _ _ _ c.loop-item.invariant _ _ is _ _ c.in_ok-total.ensures.some (c.in_ok-sum.ensures {u = tt}).1

pub total_of_items-returns-clause-some : goal.total_of_items-returns-clause-some
total_of_items-returns-clause-some t c =
    none_left _ _ _ _ c.loop-item.invariant (drop_of_length-le c.args.items.now c.loop-item-test.false)

-- ---- Answers about `total_of_members`
pub total_of_members-loop-value-init : goal.total_of_members-loop-value-init
total_of_members-loop-value-init t c =
    let ps = c.args.object.now.pairs in
    let is = sym (c.into_iter-value-iterator.ensures.into_iter_gives ∙ c.values-value-items.ensures) in
    subst (λ vs. IsLeft (ValuesSumTo (pair_trees ps)) (members_depth (pair_trees ps)) vs 0) is
    (all_left _ _ _ (values_sum ps) (values_depth ps))

pub total_of_members-total-requires : goal.total_of_members-total-requires
total_of_members-total-requires t c =
    let below = first_below _ _ _ _ c.loop-value.invariant _ _ c.in-Some.ensures.steps in
    (omega (arith, below, c.decreases), tt)

pub total_of_members-returns-in_err-total-clause-none : goal.total_of_members-returns-in_err-total-clause-none
total_of_members-returns-in_err-total-clause-none t c =
    rw c.from_residual.ensures (none_first _ _ _ _ c.loop-value.invariant _ _ c.in-Some.ensures.steps c.in_err-total.ensures.none)

pub total_of_members-returns-in_err-sum-clause-none : goal.total_of_members-returns-in_err-sum-clause-none
total_of_members-returns-in_err-sum-clause-none t c =
    rw c.from_residual-in_err-sum.ensures
    (none_more _ _ _ _ c.loop-value.invariant _ _ c.in-Some.ensures.steps _ 0 c.in_ok-total.ensures.some (c.in_err-sum.ensures {u = tt}))

pub total_of_members-loop-value-preserved : goal.total_of_members-loop-value-preserved
total_of_members-loop-value-preserved t c =
    one_more _ _ _ _ c.loop-value.invariant _ _ c.in-Some.ensures.steps _ _ c.in_ok-total.ensures.some (c.in_ok-sum.ensures {u = tt}).1

pub total_of_members-returns-clause-some : goal.total_of_members-returns-clause-some
total_of_members-returns-clause-some t c = none_left _ _ _ _ c.loop-value.invariant c.in-None.ensures.steps.0
