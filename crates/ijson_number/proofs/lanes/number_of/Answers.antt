use Rattle.ijson_number.proofs.Common.{ap, ◌∙◌, number_from_digits}
use Rattle.ijson_number.proofs.parsing.ReadLanes.{moved_to_end, digit_lanes, length-digit_lanes, moved_below, moved_value}
use Rattle.ijson_number.proofs.lanes.number_of.Goals as goal

pub swizzle : goal.swizzle
swizzle c =
    let long = length-digit_lanes c.args.bytes c.requires.all in
    (moved_to_end c.args.count c.requires.few (digit_lanes c.args.bytes) long).0

pub number_of_lanes-requires-clause-digits : goal.number_of_lanes-requires-clause-digits
number_of_lanes-requires-clause-digits c =
    let long = length-digit_lanes c.args.bytes c.requires.all in
    rw (moved_to_end c.args.count c.requires.few (digit_lanes c.args.bytes) long).1
    (moved_below c.args.bytes c.requires.all c.args.count c.requires.digits)

pub returns : goal.returns
returns c =
    let long = length-digit_lanes c.args.bytes c.requires.all in
    c.number_of_lanes.ensures ∙ ap (number_from_digits 10) (moved_to_end c.args.count c.requires.few (digit_lanes c.args.bytes) long).1
    ∙ moved_value c.args.bytes c.requires.all c.args.count c.requires.digits
