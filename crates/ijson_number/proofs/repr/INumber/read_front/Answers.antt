use Rattle.ijson_number.proofs.Common.{sym, subst, take, drop, Decimal, HasNoPoint, IsFront, IsNumberFront, Spells, significand_number}
use Rattle.std.proofs.lemmas.Result.{err_from_is_err_and}
use Rattle.ijson_number.proofs.storing.FormNumbers.{form_has, stored_num, stored_form_of}
use Rattle.ijson_number.proofs.parsing.NumberFronts.{common_front, no_point_of}
use Rattle.ijson_number.proofs.repr.INumber.read_front.Goals.{In-Some}
use Rattle.ijson_number.proofs.repr.INumber.read_front.Goals as goal

front : (c : In-Some) → IsFront c.args.text.now c.in-Some.front
front c = rw c.as_bytes-bytes.ensures.value at c.in-Some.ensures.found

longest : (c : In-Some) → IsNumberFront c.args.text.now c.in-Some.front.length
longest c = let f = front c in common_front c.args.text.now c.in-Some.front.length _ f.within f.spelled f.ends f.digits_end

pub returns-in_default-clause-err : goal.returns-in_default-clause-err
returns-in_default-clause-err c = rw c.as_bytes-bytes.ensures.value at c.read_other.ensures.err

pub returns-in_err-stored-clause-err : goal.returns-in_err-stored-clause-err
returns-in_err-stored-clause-err c =
    let at = (goal.at.returns-in_err-stored-clause-err c).In-Some in
    let r = c.from_residual in
    let p = err_from_is_err_and r.result r.ensures.1 in
    let f = front at in
    rw (p.1, p.2)
    (c.in-Some.front.length, longest at, (significand_number c.in-Some.front.significand, f.spelled, f.small.num, c.in_err-stored.ensures.refused))

pub invariant_of-result : goal.invariant_of-result
invariant_of-result c =
    (stored_num (significand_number c.in-Some.front.significand) _ c.in-Some.ensures.found.small.num c.in_ok-stored.ensures.form, tt)

pub invariant_of-result-2 : goal.invariant_of-result-2
invariant_of-result-2 c =
    stored_form_of (significand_number c.in-Some.front.significand) _ c.in-Some.ensures.found.small.num c.in_ok-stored.ensures.form

pub returns-clause-front : goal.returns-clause-front
returns-clause-front c = longest (goal.at.returns-clause-front c).In-Some

pub returns-clause-spelled : goal.returns-clause-spelled
returns-clause-spelled c =
    let f = front (goal.at.returns-clause-spelled c).In-Some in
    let number = form_has (significand_number c.in-Some.front.significand) _ f.small.num.plain c.in_ok-stored.ensures.form in
    subst (Spells (take c.in-Some.front.length c.args.text.now)) (sym number) f.spelled

pub returns-clause-point : goal.returns-clause-point
returns-clause-point c =
    let f = front (goal.at.returns-clause-point c).In-Some in
    let number = form_has (significand_number c.in-Some.front.significand) _ f.small.num.plain c.in_ok-stored.ensures.form in
    subst (λ (n : Decimal). HasNoPoint n.point (drop c.in-Some.front.length c.args.text.now)) (sym number) (no_point_of _ _ f.digits_end)
