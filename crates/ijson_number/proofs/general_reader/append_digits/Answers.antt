use Rattle.ijson_number.proofs.Common.{◌≡◌, ◌∙◌, ◌*◌, ◌+◌, ◌^◌, inl, inr, take, arith, number_from_digits_after, cases_lt, digits_from_text}
use Rattle.ijson_number.proofs.parsing.DigitValues.{append_step, digits_after}
use Rattle.ijson_number.proofs.general_reader.append_digits.Goals as goal

pub returns-in_err-checked_mul-clause-none : goal.returns-in_err-checked_mul-clause-none
returns-in_err-checked_mul-clause-none c =
    let l = c.loop-digit in
    let all = digits_after c.args.number c.args.digits.now l.digit-index c.loop-digit-test.true in
    rw c.from_residual.ensures (elim (cases_lt (l.longer * 10) (2 ^ 64)) [
      | inl less ↦ absurd (c.in_err-checked_mul.ensures less)
      | inr more ↦ omega (arith, more, all, l.invariant)
    ])

pub returns-in_err-longer-clause-none : goal.returns-in_err-longer-clause-none
returns-in_err-longer-clause-none c =
    let l = c.loop-digit in
    let all = digits_after c.args.number c.args.digits.now l.digit-index c.loop-digit-test.true in
    rw c.from_residual-in_err-longer.ensures (elim (cases_lt (c.in_ok-checked_mul.field-0 + c.from.result) (2 ^ 64)) [
      | inl less ↦ absurd (c.in_err-longer.ensures less)
      | inr more ↦ omega (arith, more, all, l.invariant, c.in_ok-checked_mul.ensures.1, c.from.ensures)
    ])

pub loop-digit-preserved : goal.loop-digit-preserved
loop-digit-preserved c =
    let l = c.loop-digit in
    let step : c.in_ok-checked_mul.field-0 + c.from.result
    ≡ number_from_digits_after 10 c.args.number (digits_from_text (take (l.digit-index + 1) c.args.digits.now)) =
    rw (c.in_ok-checked_mul.ensures.1, l.invariant, c.from.ensures)
    (append_step c.args.number c.args.digits.now l.digit-index c.loop-digit-test.true) in
    c.in_ok-longer.ensures.1 ∙ step
