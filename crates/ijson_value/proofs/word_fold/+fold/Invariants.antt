use Rattle.std.proofs.Common.{◌≡◌, ◌+◌, ◌%◌, ◌^◌, drop, fold}
use Rattle.ijson_table.specs.Fold.{fold_word}
use Rattle.ijson_value.specs.WellFormed.{item_trees, pair_trees}
use Rattle.ijson_value.specs.Words.{item_words, pair_sum}
use Rattle.ijson_value.proofs.WalkMeasures.{at_value, at_items, at_pairs}
use Rattle.ijson_value.proofs.word_fold.+fold.Given as goal

abbrev pub invariant-add_items-loop-item : goal.invariant-add_items-loop-item
invariant-add_items-loop-item l =
    fold fold_word l.initial.state.0 (item_words (item_trees l.items))
    ≡ fold fold_word l.state.0 (item_words (item_trees (drop l.item-index l.items)))

abbrev pub invariant-sum_of_pairs-loop-pair : goal.invariant-sum_of_pairs-loop-pair
invariant-sum_of_pairs-loop-pair l =
    pair_sum (pair_trees l.pairs) % 2 ^ 64
    ≡ (l.sum + pair_sum (pair_trees (drop l.pair-index l.pairs))) % 2 ^ 64

abbrev pub decreases-add_value : goal.decreases-add_value
decreases-add_value l = at_value l.value.now

abbrev pub decreases-add_items : goal.decreases-add_items
decreases-add_items l = at_items l.items.now

abbrev pub decreases-sum_of_pairs : goal.decreases-sum_of_pairs
decreases-sum_of_pairs l = at_pairs l.pairs.now
