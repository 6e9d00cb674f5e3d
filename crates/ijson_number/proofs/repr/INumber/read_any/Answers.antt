use Rattle.ijson_number.proofs.Common.{sym, subst, take, drop, length, ◌-◌, Decimal, Spells, HasNoPoint, spelled_number}
use Rattle.std.proofs.lemmas.Result.{err_from_is_err_and}
use Rattle.ijson_number.proofs.storing.FormNumbers.{form_has, stored_num, stored_form_of}
use Rattle.ijson_number.proofs.parsing.NumberFronts.{cut_unread, spelling_front, spelling_past, spelling_spells}
use Rattle.ijson_number.proofs.repr.INumber.read_any.Goals as goal

pub returns-in-Err-clause-err : goal.returns-in-Err-clause-err
returns-in-Err-clause-err c = cut_unread c.args.text.now c.in-Err.rest.now c.in-Err.ensures.err

pub returns-in_default-clause-err : goal.returns-in_default-clause-err
returns-in_default-clause-err c =
    let read = c.in-Ok.read in
    let ok = c.in-Ok.ensures.ok in (
      length c.args.text.now - length read.1.now,
      spelling_front c.args.text.now read.1.now read.0 ok,
      spelling_past c.args.text.now read.1.now read.0 ok c.in_default.ensures.none,
    )

pub returns-in_err-stored-clause-err : goal.returns-in_err-stored-clause-err
returns-in_err-stored-clause-err c =
    let read = c.in-Ok.read in
    let ok = c.in-Ok.ensures.ok in
    let number = c.in-Some.ensures in
    let p = err_from_is_err_and c.from_residual.result c.from_residual.ensures.1 in
    rw (p.1, p.2) (
      length c.args.text.now - length read.1.now,
      spelling_front c.args.text.now read.1.now read.0 ok,
      (
        spelled_number c.in-Some.canonical,
        (spelling_spells c.args.text.now read.1.now read.0 ok (spelled_number c.in-Some.canonical) number.denoted).0,
        number.canonical.num,
        c.in_err-stored.ensures.refused,
      ),
    )

pub invariant_of-result : goal.invariant_of-result
invariant_of-result c = (stored_num (spelled_number c.in-Some.canonical) _ c.in-Some.ensures.canonical.num c.in_ok-stored.ensures.form, tt)

pub invariant_of-result-2 : goal.invariant_of-result-2
invariant_of-result-2 c = stored_form_of (spelled_number c.in-Some.canonical) _ c.in-Some.ensures.canonical.num c.in_ok-stored.ensures.form

pub returns-clause-front : goal.returns-clause-front
returns-clause-front c = spelling_front c.args.text.now c.in-Ok.read.1.now c.in-Ok.read.0 c.in-Ok.ensures.ok

pub returns-clause-spelled : goal.returns-clause-spelled
returns-clause-spelled c =
    let canonical = c.in-Some in
    let n = spelled_number canonical.canonical in
    let same = form_has n _ canonical.ensures.canonical.num.plain c.in_ok-stored.ensures.form in
    subst (Spells (take (length c.args.text.now - length c.in-Ok.read.1.now) c.args.text.now)) (sym same)
    (spelling_spells c.args.text.now c.in-Ok.read.1.now c.in-Ok.read.0 c.in-Ok.ensures.ok n canonical.ensures.denoted).0

pub returns-clause-point : goal.returns-clause-point
returns-clause-point c =
    let canonical = c.in-Some in
    let n = spelled_number canonical.canonical in
    let same = form_has n _ canonical.ensures.canonical.num.plain c.in_ok-stored.ensures.form in
    subst (λ (m : Decimal). HasNoPoint m.point (drop (length c.args.text.now - length c.in-Ok.read.1.now) c.args.text.now)) (sym same)
    (spelling_spells c.args.text.now c.in-Ok.read.1.now c.in-Ok.read.0 c.in-Ok.ensures.ok n canonical.ensures.denoted).1
