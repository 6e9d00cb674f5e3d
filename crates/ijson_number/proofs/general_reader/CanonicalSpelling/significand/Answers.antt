use Rattle.ijson_number.proofs.Common.{◌≡◌, ◌∙◌, ap, refl, rules, arith, number_from_digits, number_from_digits_after, to_z-of_z, w32, value}
use Rattle.ijson_number.proofs.Common.{abs_signed, spelled_digits, digits_from_text}
use Rattle.ijson_number.proofs.parsing.DigitValues.{joined_value, no_less}
use Rattle.ijson_number.proofs.general_reader.CanonicalSpelling.significand.Goals as goal

pub returns-in_err-front-clause-none : goal.returns-in_err-front-clause-none
returns-in_err-front-clause-none c =
    let s = c.args.self.now in
    let more = no_less (value s.front.now) (digits_from_text s.back.now) in
    rw (c.from_residual.ensures, abs_signed) (omega (arith, c.in_err-front.ensures.none, more, joined_value s.front.now s.back.now))

pub returns-in_err-magnitude-clause-none : goal.returns-in_err-magnitude-clause-none
returns-in_err-magnitude-clause-none c =
    let s = c.args.self.now in
    let whole = ap (λ n. number_from_digits_after 10 n (digits_from_text s.back.now)) c.in_ok-front.ensures.some
    ∙ joined_value s.front.now s.back.now in
    rw (c.from_residual-in_err-magnitude.ensures, abs_signed) (omega (arith, c.in_err-magnitude.ensures.none, whole))

pub returns-clause-some : goal.returns-clause-some
returns-clause-some c =
    let s = c.args.self.now in
    let made : c.in_ok-magnitude.magnitude ≡ number_from_digits 10 (spelled_digits s) = c.in_ok-magnitude.ensures.some
    ∙ ap (λ n. number_from_digits_after 10 n (digits_from_text s.back.now)) c.in_ok-front.ensures.some ∙ joined_value s.front.now s.back.now in
    rw (to_z-of_z w32 s.exponent (search rules), made) refl
