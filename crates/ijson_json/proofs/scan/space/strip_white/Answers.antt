use Rattle.std.proofs.Common.{◌∙◌, sym}
use Rattle.ijson_json.proofs.scanning.CharBoundaries.{after_first}
use Rattle.ijson_json.proofs.scanning.WhiteSpace.{space_ascii}
use Rattle.ijson_json.proofs.scan.space.strip_white.Goals as goal

pub range_from-requires : goal.range_from-requires
range_from-requires c _ = after_first c.args.text.now c.as_bytes.result.now c.in_ok-byte.byte.now c.in_ok-byte.field-0-1.now c.utf8.text
    c.as_bytes.ensures.value c.in_ok-byte.ensures.cases.0
    (space_ascii c.in_ok-byte.byte.now (sym c.is_white.ensures ∙ c.if-is_white.true))
