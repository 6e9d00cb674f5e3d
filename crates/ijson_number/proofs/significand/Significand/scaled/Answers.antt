use Rattle.ijson_number.proofs.Common.{◌*◌, ◌^◌, ◌≤◌, arith, mul-le-mul_right, power_le}
use Rattle.ijson_number.proofs.significand.Significand.scaled.Goals as goal

pub returns-then-zeros-gt19-clause-none : goal.returns-then-zeros-gt19-clause-none
returns-then-zeros-gt19-clause-none c =
    let z = c.args.zeros in
    let twenty : 10 ^ 20 ≤ 10 ^ z = power_le 20 z (omega arith) in
    let more : 1 * 10 ^ z ≤ c.args.self.magnitude * 10 ^ z = mul-le-mul_right (10 ^ z) (omega arith) in
    omega arith
