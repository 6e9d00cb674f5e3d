use Rattle.ijson_number.proofs.Common.{refl}
use Rattle.std.proofs.lemmas.Result.{err_from_is_err_and}
use Rattle.ijson_number.proofs.parsing.NumberFronts.{cut_exponent, cut_point, tail_read}
use Rattle.ijson_number.proofs.general_reader.read_tail.Goals as goal

pub returns-in_err-fraction-clause-err : goal.returns-in_err-fraction-clause-err
returns-in_err-fraction-clause-err c =
    let p = err_from_is_err_and c.from_residual.result c.from_residual.ensures.1 in
    let e = c.in_err-fraction.ensures.err in
    rw (p.1, p.2) (cut_point c.args.bytes.now c.in_err-fraction.field-0.0.now e.0 e.1)

pub returns-in_err-negative-clause-err : goal.returns-in_err-negative-clause-err
returns-in_err-negative-clause-err c =
    let r = c.from_residual-in_err-negative in
    let p = err_from_is_err_and r.result r.ensures.1 in
    rw (p.1, p.2)
    (cut_exponent c.args.bytes.now c.in_ok-fraction.fraction.now c.in_ok-fraction.behind.now c.in_err-negative.field-0.0.now
    c.in_ok-fraction.ensures.ok c.in_err-negative.ensures.err)

pub returns-clause-ok : goal.returns-clause-ok
returns-clause-ok c =
    tail_read c.args.bytes.now c.in_ok-fraction.behind.now c.in_ok-negative.rest.now _ c.in_ok-fraction.ensures.ok c.in_ok-negative.ensures.ok refl
