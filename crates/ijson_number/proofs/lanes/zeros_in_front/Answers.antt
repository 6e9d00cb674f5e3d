use Rattle.ijson_number.proofs.writing.WrittenLanes.{zeros_counted}
use Rattle.ijson_number.proofs.lanes.zeros_in_front.Goals as goal

pub returns : goal.returns
returns c = zeros_counted c.args.lanes c.requires c.min.result c.min.ensures
