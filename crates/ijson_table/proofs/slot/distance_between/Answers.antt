use Rattle.std.proofs.Common.{arith}
use Rattle.std.proofs.lemmas.Bool.Decides.{nat_tests}
use Rattle.ijson_table.specs.Crowd.{distance}
use Rattle.ijson_table.proofs.slot.distance_between.Goals as goal

pub returns-then-from-to : goal.returns-then-from-to
unfolding distance
returns-then-from-to c = grind (arith, nat_tests, c.if-from-to.true)

pub returns-else-from-to : goal.returns-else-from-to
unfolding distance
returns-else-from-to c = grind (arith, nat_tests, c.if-from-to.false, c.requires.from)
