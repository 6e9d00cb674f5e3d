use Rattle.std.proofs.Common.{◌∷◌, []}
use Rattle.ijson_json.proofs.reading.Escapes.{no_low_hex, strips_text}
use Rattle.ijson_json.proofs.read.escape.take_low.Goals as goal

pub returns-in_err-low : goal.returns-in_err-low
returns-in_err-low c = rw c.from_residual-in_err-low.ensures
    (no_low_hex c.args.text.now c.in_ok-digits.digits.now
    (strips_text (92 ∷ 117 ∷ []) c.args.text.now c.in_ok-digits.digits.now c.in_ok-digits.ensures.cases) c.in_err-low.ensures.found)
