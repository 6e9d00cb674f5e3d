use Rattle.std.proofs.Common.{arith, rules, ap}
use Rattle.ijson_value.specs.Tree.{items_depth, members_depth}
use Rattle.ijson_value.specs.WellFormed.{item_trees, pair_trees}
use Rattle.ijson_value.proofs.DepthLemmas.{item-items_depth, pair-members_depth}
use Rattle.ijson_value.proofs.debug.+debug.Goals as goal

pub IArrayDebug::fmt-entry-requires : goal.IArrayDebug::fmt-entry-requires
IArrayDebug::fmt-entry-requires g t c κs within =
    let below = item-items_depth c.as_slice-item-items.result.now c.loop-item.item-index c.item-item.result
    c.loop-item-test.true c.item-item.is in
    let items = ap (λ vs. items_depth (item_trees vs)) c.as_slice-item-items.ensures in
    (((omega (arith, below, items, c.decreases), tt), tt), (within, search rules))

pub IObjectDebug::fmt-entry-requires : goal.IObjectDebug::fmt-entry-requires
IObjectDebug::fmt-entry-requires g t c κs within =
    let below = pair-members_depth c.as_slice-pair-items.result.now c.loop-pair.pair-index c.pair-item.result
    c.loop-pair-test.true c.pair-item.is in
    let pairs = ap (λ ps. members_depth (pair_trees ps)) c.as_slice-pair-items.ensures in
    (((omega (arith, below, pairs, c.decreases), tt), tt), (within, search rules))
