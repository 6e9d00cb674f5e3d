use Rattle.std.proofs.lemmas.Result.{err_from_is_err_and}
use Rattle.ijson_number.proofs.parsing.NumberFronts.{cut_tail, cut_whole, spelling_read}
use Rattle.ijson_number.proofs.general_reader.read_spelling.Goals as goal

pub returns-in_default-clause-err : goal.returns-in_default-clause-err
returns-in_default-clause-err c =
    let sign = c.split_sign-negative in
    cut_whole c.args.text.now sign.result.1.now sign.result.0 sign.ensures c.in_default.ensures.none

pub returns-in_err-tail-clause-err : goal.returns-in_err-tail-clause-err
returns-in_err-tail-clause-err c =
    let sign = c.split_sign-negative in
    let p = err_from_is_err_and c.from_residual.result c.from_residual.ensures.1 in
    rw (p.1, p.2)
    (cut_tail c.args.text.now sign.result.1.now c.in-Some.whole.now c.in-Some.behind.now c.in_err-tail.field-0.0.now sign.result.0 sign.ensures
    c.in-Some.ensures.some c.in_err-tail.ensures.err)

pub returns-clause-ok : goal.returns-clause-ok
returns-clause-ok c =
    let sign = c.split_sign-negative in
    spelling_read c.args.text.now sign.result.1.now c.in-Some.behind.now c.in_ok-tail.rest.now _ sign.ensures c.in-Some.ensures.some
    c.in_ok-tail.ensures.ok
