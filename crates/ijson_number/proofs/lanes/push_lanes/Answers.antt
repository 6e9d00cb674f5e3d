use Rattle.ijson_number.proofs.writing.WrittenLanes.{front_is}
use Rattle.ijson_number.proofs.lanes.push_lanes.Goals as goal

pub push_front-requires : goal.push_front-requires
push_front-requires c =
    let r = c.requires in
    let front = front_is c.args.lanes r.all c.args.start c.args.count r.within r.ascii in
    rw c.front_of.ensures (record { ascii = front.ascii; within = front.within })

pub returns-clause-written : goal.returns-clause-written
returns-clause-written c =
    let r = c.requires in
    rw (← (front_is c.args.lanes r.all c.args.start c.args.count r.within r.ascii).shown, ← c.front_of.ensures) c.push_front.ensures.written
