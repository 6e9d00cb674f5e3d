use Rattle.ijson_number.proofs.Common.{◌≡◌, ◌-◌, length, length-drop, arith, rules}
use Rattle.ijson_number.specs.private.ShortDigits.{short_digits}
use Rattle.ijson_number.proofs.writing.WrittenLanes.{last_long, room_text}
use Rattle.ijson_number.proofs.repr.stored.ShortDigits.lanes.Goals as goal

pub returns-clause-all : goal.returns-clause-all
returns-clause-all c = last_long c.args.self.now.buffer (search rules)

pub returns-clause-lanes : goal.returns-clause-lanes
returns-clause-lanes c = λ below few.
    let d = c.args.self.now in
    let most = d.few in
    let long : length d.buffer ≡ 19 = search rules in
    let count : length (short_digits d) ≡ d.count = omega (arith, length-drop (19 - d.count) d.buffer) in
    rw count (room_text d.buffer long d.count (omega arith) below)
