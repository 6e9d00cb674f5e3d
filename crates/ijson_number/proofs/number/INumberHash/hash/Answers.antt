use Rattle.ijson_number.proofs.Common.{◌≡◌, ◌<◌, ◌+◌, Bool, length, arith, rules, ℤ, pos, nat_abs, ◌+ℤ◌, FitsSigned, if◌then◌else◌, common_steps}
use Rattle.ijson_number.proofs.Common.{flat_map-append, fold-append, take_all, ints, w32, w64, bool_byte, of_z, to_z}
use Rattle.ijson_number.proofs.storing.FormCases.{zero_words, stored_words}
use Rattle.ijson_number.proofs.number.INumberHash.hash.Goals as goal

sign_word : (negative : Bool) → 1 + bool_byte negative ≡ (if negative then 2 else 1)
sign_word negative = grind arith

exponent_word : (e f : ℤ) → f ≡ to_z w32 (of_z w32 e) → FitsSigned w32 e
    → nat_abs (to_z w64 (of_z w64 (to_z w64 (of_z w64 f) +ℤ pos 2147483648))) ≡ nat_abs (e +ℤ pos 2147483648)
exponent_word e f is fits = omega (arith, ints)

pub loop-digit-preserved : goal.loop-digit-preserved
loop-digit-preserved g c = grind (arith, common_steps, flat_map-append, fold-append)

pub returns-then-is_empty : goal.returns-then-is_empty
returns-then-is_empty g c =
    let n = c.stripped-number.result in
    let none : length n.digits.now ≡ 0 = grind arith in
    rw (zero_words n _ c.stripped-number.ensures none)
    (grind (arith, common_steps))

pub returns : goal.returns
returns g c =
    let n = c.stripped-number.result in
    let some : 0 < length n.digits.now = grind arith in
    let all = take_all c.loop-digit.digit-index n.digits.now c.loop-digit-test.false in
    let fits : FitsSigned w32 n.exponent = search rules in
    rw (
      stored_words n _ c.stripped-number.ensures some,
      ← sign_word n.negative,
      ← exponent_word n.exponent c.from-2.result c.from-2.ensures fits,
    ) (cc)
