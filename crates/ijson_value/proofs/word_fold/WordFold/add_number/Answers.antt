use Rattle.ijson_number.specs.Words.{number_words}
use Rattle.ijson_value.proofs.hashing.WordFolds.{folded_words}
use Rattle.ijson_value.proofs.word_fold.WordFold.add_number.Goals as goal

pub returns : goal.returns
returns c = folded_words c.args.self.now c.hash.new.state (number_words c.args.number.now.decimal) c.hash.ensures
