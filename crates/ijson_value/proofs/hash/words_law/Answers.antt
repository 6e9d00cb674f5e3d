use Rattle.ijson_value.specs.laws.SameWords.{same_words}
use Rattle.ijson_value.specs.laws.WordsEnd.{words_end}
use Rattle.ijson_value.proofs.hash.words_law.Goals as goal

pub returns-clause-same : goal.returns-clause-same
returns-clause-same c = same_words

pub returns-clause-ends : goal.returns-clause-ends
returns-clause-ends c = λ t u x y d e h. (words_end t u x y d e h).0

pub returns-clause-without_objects : goal.returns-clause-without_objects
returns-clause-without_objects c = λ t u x y d e k h. (words_end t u x y d e h).1 k
