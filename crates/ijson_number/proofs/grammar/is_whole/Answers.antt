use Rattle.ijson_number.proofs.Common.{arith, common_steps}
use Rattle.ijson_number.proofs.grammar.is_whole.Goals as goal

-- This proof is written out because the default tactics take longer to find it.
pub returns-then-digits-eq1 : goal.returns-then-digits-eq1
returns-then-digits-eq1 c = grind (arith, common_steps)
