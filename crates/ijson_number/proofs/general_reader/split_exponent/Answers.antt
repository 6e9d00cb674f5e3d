use Rattle.ijson_number.proofs.Common.{◌≡◌, ◌⊎◌, get_or, arith, common_steps, take_rest}
use Rattle.ijson_number.proofs.parsing.DigitRuns.{IsDigits_from}
use Rattle.ijson_number.proofs.parsing.NumberFronts.{exponent_cut, exponent_read}
use Rattle.ijson_number.proofs.general_reader.split_exponent.Goals as goal

pub returns-then-is_empty-clause-err : goal.returns-then-is_empty-clause-err
returns-then-is_empty-clause-err c =
    let bytes = c.args.bytes.now in
    let signed = c.split_exponent_sign-negative in
    let split = c.split_digits.ensures in
    let first : get_or bytes 0 0 ≡ 101 ⊎ get_or bytes 0 0 ≡ 69 = grind (arith, common_steps) in
    exponent_cut bytes signed.result.1.now c.split_digits.result.0.now c.split_digits.result.1.now signed.result.0 (grind arith) first
    (rw (take_rest bytes 1) at signed.ensures) split.text split.rest (grind arith)

pub returns-clause-ok : goal.returns-clause-ok
returns-clause-ok c =
    let bytes = c.args.bytes.now in
    let signed = c.split_exponent_sign-negative in
    let split = c.split_digits.ensures in
    let first : get_or bytes 0 0 ≡ 101 ⊎ get_or bytes 0 0 ≡ 69 = grind (arith, common_steps) in
    exponent_read bytes signed.result.1.now c.split_digits.result.0.now c.split_digits.result.1.now signed.result.0 (grind arith) first
    (rw (take_rest bytes 1) at signed.ensures) split.text split.rest
    (IsDigits_from c.split_digits.result.0.now (grind arith) split.digits)
