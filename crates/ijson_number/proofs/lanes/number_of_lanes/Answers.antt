use Rattle.ijson_number.proofs.Common.{◌≡◌, ℕ, ◌+◌, ◌*◌, ◌^◌, ◌<◌, List, length, arith, AllBelowBase, number_from_digits}
use Rattle.ijson_number.proofs.parsing.ReadLanes.{lane, pairs_fit, row_is}
use Rattle.ijson_number.proofs.lanes.number_of_lanes.Goals as goal

pub dot4 : goal.dot4
dot4 c = (pairs_fit c.args.digits c.requires.all c.requires.digits, tt)

-- The four numbers extracted from the vector combine to the value of its 16 digits.
lanes : (xs : List ℕ) (a b c d : ℕ) → length xs ≡ 16 → AllBelowBase 10 xs → a ≡ lane xs 0 → b ≡ lane xs 1 → c ≡ lane xs 2 → d ≡ lane xs 3
    → ((a * 10000 + b) * 100000000 + (c * 10000 + d) < 10 ^ 16) × ((a * 10000 + b) * 100000000 + (c * 10000 + d) ≡ number_from_digits 10 xs)
lanes xs a b c d long digits la lb lc ld =
    let r = row_is xs long digits in
    let below : (a * 10000 + b) * 100000000 + (c * 10000 + d) < 10 ^ 16 = omega (arith, r.0, r.1, r.2, r.3, la, lb, lc, ld) in
    (below, rw (la, lb, lc, ld) r.4)

pub overflow_mul-result : goal.overflow_mul-result
overflow_mul-result c =
    let r = lanes c.args.digits _ _ _ _ c.requires.all c.requires.digits c.from.ensures c.from-2.ensures c.from-3.ensures c.from-4.ensures in
    omega (arith, r.0)

pub overflow_add-result : goal.overflow_add-result
overflow_add-result c =
    let r = lanes c.args.digits _ _ _ _ c.requires.all c.requires.digits c.from.ensures c.from-2.ensures c.from-3.ensures c.from-4.ensures in
    omega (arith, r.0)

pub returns : goal.returns
returns c = (lanes c.args.digits _ _ _ _ c.requires.all c.requires.digits c.from.ensures c.from-2.ensures c.from-3.ensures c.from-4.ensures).1
