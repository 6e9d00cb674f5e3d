use Rattle.std.proofs.Common.{fold, arith, sym, ap, ◌∙◌, drop_of_length-le}
use Rattle.ijson_table.specs.Fold.{fold_word}
use Rattle.ijson_value.specs.WellFormed.{item_trees}
use Rattle.ijson_value.specs.Words.{words, item_words}
use Rattle.ijson_value.proofs.DepthLemmas.{items_fall, object_shown, pairs_fall}
use Rattle.ijson_value.proofs.hashing.WordFolds.{array_folded, object_folded}
use Rattle.ijson_value.proofs.word_fold.+fold.Goals as goal

pub add_items-returns : goal.add_items-returns
add_items-returns t c =
    let vs = c.args.items.now in
    let all = c.loop-item.invariant
    ∙ ap (λ l. fold fold_word c.loop-item.state.0 (item_words (item_trees l)))
    (drop_of_length-le vs c.loop-item-test.false) in
    array_folded c.args.state.now.0 c.add_word.new.self.0 c.add_word-2.new.self.0 c.loop-item.state.0 vs
    c.add_word.ensures c.add_word-2.ensures (sym all)

pub add_value-add_items-requires : goal.add_value-add_items-requires
add_value-add_items-requires t c =
    (omega (arith, items_fall c.as_slice.ensures c.in-Array.is c.value.view_is, c.decreases), tt)

pub add_value-sum_of_pairs-requires : goal.add_value-sum_of_pairs-requires
add_value-sum_of_pairs-requires t c =
    (omega (arith, pairs_fall c.as_slice-pairs.ensures c.in-Object.is c.value.view_is, c.decreases), tt)

pub add_value-returns-in-Object : goal.add_value-returns-in-Object
add_value-returns-in-Object t c =
    object_folded c.args.state.now.0 c.add_word-in-Object.new.self.0 c.add_word-in-Object-2.new.self.0
    c.sum_of_pairs.result c.add_word-in-Object-3.new.self.0 c.as_slice-pairs.result.now c.add_word-in-Object.ensures
    c.add_word-in-Object-2.ensures c.sum_of_pairs.ensures c.add_word-in-Object-3.ensures
    ∙ ap (λ u. fold fold_word c.args.state.now.0 (words u)) (object_shown c.as_slice-pairs.ensures c.in-Object.is c.value.view_is)
