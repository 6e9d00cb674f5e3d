use Rattle.ijson_number.proofs.parsing.ReadLanes.{power_is}
use Rattle.ijson_number.proofs.lanes.power_of_ten.Goals as goal

pub returns : goal.returns
returns c = power_is c.args.count c.requires
