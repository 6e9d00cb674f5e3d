use Rattle.ijson_number.proofs.Common.{◌∙◌, ap, sym, rules, arith, to_z-of_z, number_digits_of, digits_of, w16, Decimal, digits_form, signed}
use Rattle.ijson_number.proofs.Common.{short_form}
use Rattle.ijson_number.proofs.storing.FormCases.{stored_form}
use Rattle.ijson_number.proofs.storing.IntegerWords.{some_stored}
use Rattle.ijson_number.proofs.significand.Significand.block.Goals as goal

pub invariant_of-short : goal.invariant_of-short
invariant_of-short c = record { stripped = rw c.of_number.ensures (some_stored c.args.self.magnitude c.requires.canonical c.args.self.negative) }

pub returns : goal.returns
returns c =
    let s = c.args.self in
    let e = c.args.exponent in
    let digits = stored_form s.negative (digits_of 10 s.magnitude) s.exponent s.point (some_stored s.magnitude c.requires.canonical s.negative) in
    let whole = number_digits_of 10 s.magnitude (omega arith) in
    ap short_form c.in_ok-short.ensures.ok ∙ rw (to_z-of_z w16 e (search rules), c.of_number.ensures, c.requires.exponent)
    (sym digits ∙ ap (λ v. digits_form (let n : Decimal = record { mantissa = signed s.negative v; exponent = s.exponent; point = s.point } in n)) whole)
