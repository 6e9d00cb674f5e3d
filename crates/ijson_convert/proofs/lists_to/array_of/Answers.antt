use Rattle.std.proofs.Common.{refl}
use Rattle.ijson_convert.proofs.Interning.{wholly_interned}
use Rattle.ijson_convert.proofs.Pushing.{item_pushed, item_begun}
use Rattle.ijson_convert.proofs.Refusals.{passed_on}
use Rattle.ijson_convert.proofs.lists_to.array_of.Goals as goal

pub returns-in_err-item-clause-refused : goal.returns-in_err-item-clause-refused
returns-in_err-item-clause-refused g c =
    passed_on _ _ c.from_residual-in_err-item.ensures.1 (
      c.in_err-item.ensures.refused.0,
      item_begun g.T.ToIValue.tree _ _ _ c.loop-x-test.true c.x-item.is _ _ _ c.loop-x.invariant.1 c.in_err-item.ensures.refused.1,
    )

pub returns-in_err-push-clause-refused : goal.returns-in_err-push-clause-refused
returns-in_err-push-clause-refused g c =
    passed_on _ _ c.from_residual-in_err-push.ensures.1 (
      refl,
      item_begun g.T.ToIValue.tree _ _ _ c.loop-x-test.true c.x-item.is _ _ _ c.loop-x.invariant.1
          (wholly_interned _ _ _ c.in_ok-item.ensures.cache),
    )

pub loop-x-preserved : goal.loop-x-preserved
loop-x-preserved g c =
    item_pushed g.T.ToIValue.tree _ _ _ c.loop-x-test.true c.x-item.is _ _ _ c.loop-x.invariant.1 _ _ _ c.loop-x.invariant.0 c.in_ok-push.ensures.ok
    c.in_ok-item.ensures.tree c.in_ok-item.ensures.cache
