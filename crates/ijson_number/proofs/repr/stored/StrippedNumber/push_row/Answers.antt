use Rattle.ijson_number.proofs.Common.{◌≤◌, length, arith, string_bytes}
use Rattle.ijson_number.proofs.AnyAnswer.{where_refused}
use Rattle.ijson_number.proofs.writing.WrittenLanes.{digits_text_ascii}
use Rattle.ijson_number.proofs.writing.Beginnings.{none_begun}
use Rattle.ijson_number.proofs.repr.stored.StrippedNumber.push_row.Goals as goal

pub push_lanes-requires-clause-ascii : goal.push_lanes-requires-clause-ascii
push_lanes-requires-clause-ascii c =
    let n = c.args.self.now in
    let few : length n.digits.now ≤ 16 = omega (arith, c.if-count-gt-LANES.false) in
    rw (c.requires.lanes few) (digits_text_ascii n.digits.now n.stripped.stripped.below_ten)

pub returns-in_err-push_lanes-clause-refused : goal.returns-in_err-push_lanes-clause-refused
returns-in_err-push_lanes-clause-refused c =
    where_refused _ (none_begun (string_bytes c.args.out.now) (string_bytes c.push_lanes.new.out) _ c.in_err-push_lanes.ensures.refused)
