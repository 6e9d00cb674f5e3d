use Rattle.ijson_number.proofs.Common.{◌≡◌, ◌∙◌, ◌<◌, ◌^◌, true, sym, rules, arith, FitsSigned, ◌≤ℤ◌, negsuc, pos, ints, to_z-of_z, w8, w32, w64}
use Rattle.ijson_number.proofs.Common.{w128, signed, word_exponent, word_mantissa, word_point}
use Rattle.ijson_number.proofs.storing.FormCases.{packed_is}
use Rattle.ijson_number.proofs.storing.Significands.{common_packed, signed_word}
use Rattle.ijson_number.proofs.significand.Significand.common_word.Goals as goal

pub returns-clause-word : goal.returns-clause-word
returns-clause-word c =
    let s = c.args.self in
    let small : s.magnitude < 2 ^ 55 = omega (arith, ints, c.if-self.false) in
    let exact = to_z-of_z w32 s.exponent (search rules) in
    let low : negsuc 6 ≤ℤ s.exponent = omega (arith, ints, exact, c.if-self-ltminus7.false) in
    let high : s.exponent ≤ℤ pos 0 = omega (arith, ints, exact, c.if-self-gt0.false) in
    let bits = c.pointed.result.bits in
    let e = c.pointed.ensures in
    let value = c.with_sign-mantissa.result in
    let signed_is = c.with_sign-mantissa.ensures in
    let wide : FitsSigned w128 value = search rules in
    let mantissa : word_mantissa bits ≡ signed s.negative s.magnitude = rw (to_z-of_z w128 value wide, signed_is) at e.mantissa
    ∙ to_z-of_z w64 (signed s.negative s.magnitude) (signed_word s.negative s.magnitude (omega (arith, small))) in
    let exponent : word_exponent bits ≡ s.exponent = rw exact at e.exponent ∙ to_z-of_z w8 s.exponent (omega (arith, ints, low, high)) in
    packed_is (word_mantissa bits) (signed s.negative s.magnitude) (word_exponent bits) s.exponent (word_point bits) true mantissa exponent
    e.point ∙ sym (common_packed s c.requires.point small low high c.requires.stripped)
