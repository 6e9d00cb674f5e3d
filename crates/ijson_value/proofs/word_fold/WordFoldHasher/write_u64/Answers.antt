use Rattle.std.proofs.Common.{sym, ◌∙◌}
use Rattle.ijson_value.proofs.hashing.WordFolds.{folded_word}
use Rattle.ijson_value.proofs.word_fold.WordFoldHasher.write_u64.Goals as goal

pub returns : goal.returns
returns c = λ i. record { 0 = (c.add_word.ensures ∙ sym (folded_word c.args.self.now.0 c.args.word)) i }
