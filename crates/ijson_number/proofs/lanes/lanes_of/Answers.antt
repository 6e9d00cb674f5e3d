use Rattle.ijson_number.proofs.Common.{◌∙◌}
use Rattle.ijson_number.proofs.writing.WrittenLanes.{lanes_text, pairs, pairs_below, row_text_is}
use Rattle.ijson_number.proofs.lanes.lanes_of.Goals as goal

pub returns : goal.returns
returns c = rw c.pairs_of-pairs.ensures
    (lanes_text (pairs c.args.number) (pairs_below c.args.number c.requires) ∙ row_text_is c.args.number c.requires)
