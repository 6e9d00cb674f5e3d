use Rattle.std.proofs.Common.{fold, add-one, arith, rules, sym, ap, ◌∙◌, drop_of_length-le}
use Rattle.ijson_value.specs.NodeValue.{node_value}
use Rattle.ijson_value.specs.WellFormed.{item_trees}
use Rattle.ijson_value.specs.Words.{words, item_words}
use Rattle.ijson_value.proofs.DepthLemmas.{items_fall}
use Rattle.ijson_value.proofs.hashing.Feeds.{feed, array_fed, item_fed}
use Rattle.ijson_value.proofs.hash.+hash.Goals as goal

pub hash_value-hash_items-requires : goal.hash_value-hash_items-requires
hash_value-hash_items-requires g t c κs within =
    (omega (arith, items_fall c.as_slice.ensures c.in-Array.is c.value.view_is, c.decreases), within)

pub hash_value-returns-in-Number : goal.hash_value-returns-in-Number
hash_value-returns-in-Number g t c =
    (search rules)
    ∙ ap (λ v. fold g.H.Hasher.write c.args.state.now (feed (words v.tree))) (ap node_value (sym c.in-Number.is) ∙ c.value.view_is)

pub hash_items-loop-item-preserved : goal.hash_items-loop-item-preserved
hash_items-loop-item-preserved g t c =
    rw add-one (c.loop-item.invariant
    ∙ item_fed g.H.Hasher.write c.loop-item.state c.hash_value.new.state c.args.items.now c.loop-item.item-index
    c.item-item.result c.loop-item-test.true c.item-item.is c.hash_value.ensures)

pub hash_items-returns : goal.hash_items-returns
hash_items-returns g t c =
    let vs = c.args.items.now in
    array_fed g.H.Hasher.write c.args.state.now c.write_u64.new.self c.write_u64-2.new.self c.loop-item.state vs
    c.write_u64.ensures (search rules)
    (c.loop-item.invariant
    ∙ ap (λ l. fold g.H.Hasher.write c.loop-item.state (feed (item_words (item_trees l))))
    (drop_of_length-le vs c.loop-item-test.false))
