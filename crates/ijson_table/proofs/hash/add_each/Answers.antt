use Rattle.std.proofs.Common.{arith}
use Rattle.std.proofs.Math.Nat.{mod-add-mod}
use Rattle.std.proofs.lemmas.Grind.{common_steps}
use Rattle.ijson_table.specs.Fold.{fold_word}
use Rattle.ijson_table.proofs.hash.add_each.Goals as goal

pub loop-word-preserved : goal.loop-word-preserved
unfolding fold_word
loop-word-preserved c = grind (arith, common_steps, mod-add-mod)
