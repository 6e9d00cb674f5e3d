use Rattle.ijson_number.proofs.Common.{◌≡◌, ◌∙◌, refl, sym, ap, subst, rules, pos, to_z-of_z, to_z, of_z, w8, w64, w128, stripped_number, HasValue}
use Rattle.ijson_number.specs.laws.IntegerValues.{integer_value}
use Rattle.ijson_number.specs.private.Stored.{stored_decimal}
use Rattle.ijson_number.specs.private.Word.{word_point}
use Rattle.ijson_number.proofs.repr.INumber.whole.Goals as goal

pub returns-in-Packed-clause-some : goal.returns-in-Packed-clause-some
returns-in-Packed-clause-some c =
    let m = c.mantissa.result in
    let e = c.exponent.result in
    let p = word_point c.in-Packed.word.bits in
    let mantissa : to_z w128 (of_z w128 c.from-in-Packed.result) ≡ m =
    to_z-of_z w128 c.from-in-Packed.result (search rules) ∙ c.from-in-Packed.ensures ∙ to_z-of_z w64 m (search rules) in
    let zero : e ≡ pos 0 = sym (to_z-of_z w8 e (search rules)) ∙ ap (to_z w8) c.if-exponent-eq0.true in
    let number : stripped_number m (pos 0) p ≡ c.args.self.now.decimal =
    ap (λ e. stripped_number m e p) (sym zero) ∙ rw (c.mantissa.ensures.value, c.exponent.ensures) refl
    ∙ sym (ap stored_decimal c.in-Packed.is) ∙ ap (λ n. n.decimal) c.self.view_is in
    rw mantissa (subst (λ n. HasValue n m) number (integer_value m))
