use Rattle.ijson_number.proofs.Common.{rules, string_bytes, IsUtf8-from_ascii}
use Rattle.ijson_number.proofs.writing.WrittenLanes.{cut, cut_point}
use Rattle.ijson_number.proofs.lanes.push_front.Goals as goal

pub from_utf8_unchecked-requires : goal.from_utf8_unchecked-requires
from_utf8_unchecked-requires c = IsUtf8-from_ascii _ c.requires.ascii

pub truncate-requires : goal.truncate-requires
truncate-requires c = λ l.
    rw (c.in_ok-push_str.ensures.bytes, c.from_utf8_unchecked.ensures)
    (cut_point (string_bytes c.args.out.now) c.args.bytes.now c.requires.ascii c.args.count _ c.requires.within (search rules))

pub returns-clause-written : goal.returns-clause-written
returns-clause-written c =
    rw (c.truncate.ensures.bytes, c.in_ok-push_str.ensures.bytes, c.from_utf8_unchecked.ensures)
    (cut (string_bytes c.args.out.now) c.args.bytes.now c.requires.ascii c.args.count _ c.requires.within (search rules))
