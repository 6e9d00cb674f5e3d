use Rattle.ijson_number.proofs.Common.{◌≡◌, ◌<◌, ◌∷◌, length, get_or, refl, true, arith}
use Rattle.ijson_number.proofs.parsing.DigitRuns.{IsDigits_from}
use Rattle.ijson_number.proofs.parsing.CommonFronts.{point_first}
use Rattle.ijson_number.proofs.general_reader.split_fraction.Goals as goal

pub returns-clause-ok : goal.returns-clause-ok
returns-clause-ok c =
    let bytes = c.args.bytes.now in
    let split = c.split_digits.ensures in
    let some : 0 < length bytes = grind arith in
    let first : get_or bytes 0 0 ≡ 46 = grind arith in
    let one : 0 < length c.split_digits.result.0.now = grind arith in
    record {
      front = 46 ∷ c.split_digits.result.0.now;
      has_point = true;
      text_is = point_first bytes c.split_digits.result.0.now c.split_digits.result.1.now some first split.text;
      fraction = (refl, IsDigits_from c.split_digits.result.0.now one split.digits, refl, refl);
      ends = split.rest;
    }
