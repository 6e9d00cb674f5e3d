use Rattle.ijson_string.specs.Words.{text_words}
use Rattle.ijson_value.proofs.hashing.WordFolds.{folded_words}
use Rattle.ijson_value.proofs.word_fold.WordFold.add_text.Goals as goal

pub returns : goal.returns
returns c = folded_words c.args.self.now c.hash.new.state (text_words c.args.text.now) c.hash.ensures
