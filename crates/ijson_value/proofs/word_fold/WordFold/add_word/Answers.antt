use Rattle.std.proofs.Common.{arith}
use Rattle.ijson_table.specs.Fold.{fold_word}
use Rattle.ijson_value.proofs.word_fold.WordFold.add_word.Goals as goal

pub returns : goal.returns
unfolding fold_word
returns c = omega arith
