use Rattle.ijson_number.proofs.Common.{◌<◌, ◌^◌, length, ap, arith, rules}
use Rattle.ijson_number.proofs.comparing.NumberOrder.{row_is}
use Rattle.ijson_number.proofs.number.INumberOrd.cmp.Goals as goal

-- The count of inspections does not overflow, because the number of digits is below `2 ^ 64`.
pub compare-requires : goal.compare-requires
compare-requires c =
    let n = c.stripped-a.result in
    let count : length n.digits.now < 2 ^ 64 = search rules in
    let same = ap length (row_is n) in
    let none = c.new.ensures in
    record { fits = λ _. omega arith }
