use Rattle.ijson_number.proofs.Common.{◌∙◌, ap, sym, rules, pos, FitsSigned, int_cmp, to_z-of_z, w64, Decimal, Num, stored_decimal, word_exponent}
use Rattle.ijson_number.proofs.Common.{word_mantissa, word_point}
use Rattle.ijson_number.proofs.comparing.NumberOrder.{stripped_sign}
use Rattle.ijson_number.proofs.storing.IntegerWords.{signed_small}
use Rattle.ijson_number.proofs.comparison.INumberDigitRow.sign.Goals as goal

pub returns-in-Packed : goal.returns-in-Packed
returns-in-Packed c =
    let m = c.mantissa in
    let bits = c.in-Packed.word.bits in
    let fits : FitsSigned w64 m.result = search rules in
    let number = sym (ap (λ (x : Num). x.decimal) c.self.view_is) ∙ ap stored_decimal c.in-Packed.is in
    c.cmp.ensures ∙ ap (λ z. int_cmp z (pos 0)) (to_z-of_z w64 m.result fits ∙ m.ensures.value)
    ∙ sym (ap (λ (n : Decimal). int_cmp n.mantissa (pos 0)) number
    ∙ stripped_sign (word_mantissa bits) (word_exponent bits) (word_point bits) (rw m.ensures.value at (signed_small m.result fits)))
