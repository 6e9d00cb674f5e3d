use Rattle.ijson_number.proofs.Common.{◌≡◌, ◌+◌, ◌-◌, ◌≤◌, ◌∷◌, ◌++◌, ℕ, suc, Bool, true, false, ap, drop, replicate, take, arith, take-replicate}
use Rattle.ijson_number.proofs.Common.{bool_byte, minus_text, zeros_text}
use Rattle.ijson_number.proofs.lanes.push_leading_zeros.Goals as goal

shown : (negative : Bool) (minus zeros : ℕ) → minus ≡ bool_byte negative → zeros ≤ 13
    → take (minus + 2 + zeros) (drop (1 - minus) (45 ∷ 48 ∷ 46 ∷ replicate 13 48)) ≡ minus_text negative ++ 48 ∷ 46 ∷ zeros_text zeros
shown true minus zeros is few =
    let count : minus + 2 + zeros ≡ suc (suc (suc zeros)) = omega (arith, is) in
    let start : 1 - minus ≡ 0 = omega (arith, is) in
    rw (count, start) (ap (λ l. 45 ∷ 48 ∷ 46 ∷ l) (take-replicate zeros 13 48 few))
shown false minus zeros is few =
    let count : minus + 2 + zeros ≡ suc (suc zeros) = omega (arith, is) in
    let start : 1 - minus ≡ 1 = omega (arith, is) in
    rw (count, start) (ap (λ l. 48 ∷ 46 ∷ l) (take-replicate zeros 13 48 few))

pub returns-clause-written : goal.returns-clause-written
returns-clause-written c =
    let a = c.args in
    rw (← shown a.negative c.from-minus.result a.zeros c.from-minus.ensures c.requires) c.push_lanes.ensures.written
