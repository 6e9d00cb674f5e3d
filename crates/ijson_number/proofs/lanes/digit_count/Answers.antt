use Rattle.ijson_number.proofs.Common.{arith}
use Rattle.ijson_number.proofs.parsing.ReadLanes.{count_of_all, count_of_some}
use Rattle.ijson_number.proofs.lanes.digit_count.Goals as goal

pub returns-then-others-eq0 : goal.returns-then-others-eq0
returns-then-others-eq0 c = count_of_all c.args.bytes c.requires c.if-others-eq0.true

pub returns : goal.returns
returns c = count_of_some c.args.bytes c.requires (omega (arith, c.if-others-eq0.false))
