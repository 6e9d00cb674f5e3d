use Rattle.std.proofs.Common.{arith}
use Rattle.std.proofs.lemmas.Str.{IsCharBoundary-after_ascii}
use Rattle.ijson_json.proofs.reading.Escapes.{code_digit, digit_small, hex_at, no_hex}
use Rattle.ijson_json.proofs.read.escape.take_unit.Goals as goal

pub returns-then-unit-ge-NO_DIGIT-clause-found : goal.returns-then-unit-ge-NO_DIGIT-clause-found
returns-then-unit-ge-NO_DIGIT-clause-found c = no_hex c.args.text.now c.as_bytes.result.now _ _ _ _ c.as_bytes.ensures.value
    c.hex_value-first.ensures.value c.hex_value-second.ensures.value c.hex_value-third.ensures.value c.hex_value-fourth.ensures.value
    (omega (arith, c.if-unit-ge-NO_DIGIT.true))

pub range_from-requires : goal.range_from-requires
range_from-requires c _ =
    let fourth = code_digit _ _ c.hex_value-fourth.ensures.value (omega (arith, c.if-unit-ge-NO_DIGIT.false)) in
    IsCharBoundary-after_ascii c.args.text.now 3 c.utf8.text (omega arith) (rw c.as_bytes.ensures.value at (digit_small _ _ fourth).1)

pub returns-clause-found : goal.returns-clause-found
returns-clause-found c = hex_at c.args.text.now c.as_bytes.result.now c.range_from.result.now _ _ _ _ c.as_bytes.ensures.value
    (omega arith) c.range_from.ensures.value c.hex_value-first.ensures.value c.hex_value-second.ensures.value
    c.hex_value-third.ensures.value c.hex_value-fourth.ensures.value (omega (arith, c.if-unit-ge-NO_DIGIT.false))
