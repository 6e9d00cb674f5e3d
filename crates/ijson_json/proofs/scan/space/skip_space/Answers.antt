use Rattle.ijson_json.proofs.scanning.WhiteSpace.{none_skipped, one_skipped}
use Rattle.ijson_json.proofs.scan.space.skip_space.Goals as goal

pub returns-in_default : goal.returns-in_default
returns-in_default c = none_skipped c.args.text.now c.in_default.ensures

pub returns-in-Some-strip_white : goal.returns-in-Some-strip_white
returns-in-Some-strip_white c = one_skipped c.args.text.now c.in-Some.more.now c.skip_indent.result.now c.in-Some.ensures
    (one_skipped c.in-Some.more.now c.in-Some-strip_white.indent.now c.skip_indent.result.now c.in-Some-strip_white.ensures
    c.skip_indent.ensures)

pub returns-in-None : goal.returns-in-None
returns-in-None c = one_skipped c.args.text.now c.in-Some.more.now c.in-Some.more.now c.in-Some.ensures
    (none_skipped c.in-Some.more.now c.in-None.ensures)
