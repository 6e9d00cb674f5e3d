use Rattle.std.proofs.Common.{arith, inl}
use Rattle.std.proofs.lemmas.Result.{err_from_is_err_and}
use Rattle.ijson_json.proofs.reading.StringContent.{string_found, no_string}
use Rattle.ijson_json.proofs.read.string.read_string.Goals as goal

pub returns-in_default-clause-read : goal.returns-in_default-clause-read
returns-in_default-clause-read g c = inl (omega arith, c.in_default.ensures)

pub returns-in_err-text-clause-read : goal.returns-in_err-text-clause-read
returns-in_err-text-clause-read g c =
    let error = err_from_is_err_and c.from_residual.result c.from_residual.ensures.1 in
    rw (error.1, error.2) (no_string c.args.text.now c.in-Some.inside.now c.in-Some.ensures c.in_err-text.field-0.0 c.in_err-text.ensures)

pub returns-clause-read : goal.returns-clause-read
returns-clause-read g c =
    string_found c.args.text.now c.in-Some.inside.now c.in_ok-text.text.now c.in_ok-string.string c.in_ok-text.rest.now c.in-Some.ensures
    c.in_ok-text.ensures c.in_ok-string.ensures.text
