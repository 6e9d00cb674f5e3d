use Rattle.std.proofs.Common.{◌≡◌, length, fold}
use Rattle.ijson_table.specs.Fold.{fold_word, fold_words}
use Rattle.ijson_table.proofs.hash.FixedHashKeyHash.hash.Given as goal

-- Folding the remaining bytes into the current hash yields the hash of the string.
abbrev pub invariant-loop-left : goal.invariant-loop-left
invariant-loop-left l = fold_words l.fn.text ≡ fold fold_word l.hash l.left

abbrev pub decreases-loop-left : goal.decreases-loop-left
decreases-loop-left l = length l.left
