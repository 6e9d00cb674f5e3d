use Rattle.std.proofs.Common.{◌≡◌, drop, fold}
use Rattle.ijson_table.specs.Fold.{fold_word}
use Rattle.ijson_table.proofs.hash.add_each.Given as goal

-- Folding the remaining words into the current hash yields the fold of all words.
abbrev pub invariant-loop-word : goal.invariant-loop-word
invariant-loop-word l = fold fold_word l.fn.hash l.words ≡ fold fold_word l.hash (drop l.word-index l.words)
