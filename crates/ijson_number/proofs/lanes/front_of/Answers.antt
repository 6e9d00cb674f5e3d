use Rattle.ijson_number.proofs.parsing.ReadLanes.{moved_to_front}
use Rattle.ijson_number.proofs.lanes.front_of.Goals as goal

pub swizzle : goal.swizzle
swizzle c = (moved_to_front c.args.start c.requires.within c.args.lanes c.requires.all).0

pub returns : goal.returns
returns c = (moved_to_front c.args.start c.requires.within c.args.lanes c.requires.all).1
