use Rattle.std.proofs.lemmas.Result.{err_from_is_err_and}
use Rattle.std.proofs.lemmas.Str.{IsCharBoundary-start}
use Rattle.ijson_json.proofs.scanning.Prefixes.{past_byte}
use Rattle.ijson_json.proofs.reading.StringContent.{reached_start, reached_run, reached_quote, reached_content, reached_fault}
use Rattle.ijson_json.proofs.read.string.read_content.Goals as goal

pub split_run-requires : goal.split_run-requires
split_run-requires c = IsCharBoundary-start c.args.inside.now c.utf8.inside

pub returns-in-Some : goal.returns-in-Some
returns-in-Some c = reached_quote (reached_run c.split_run.result.0.now (reached_start c.args.inside.now) c.split_run.ensures.run
    c.split_run.ensures.whole) c.in-Some.ensures

pub push_content-requires-clause-unclosed : goal.push_content-requires-clause-unclosed
push_content-requires-clause-unclosed c = λ behind e. past_byte 34 c.split_run.result.1.now behind c.in_default.ensures e

pub returns-in_err-rest : goal.returns-in_err-rest
returns-in_err-rest c =
    let error = err_from_is_err_and c.from_residual-in_err-rest.result c.from_residual-in_err-rest.ensures.1 in
    rw (error.1, error.2) (reached_fault (reached_run c.split_run.result.0.now (reached_start c.args.inside.now) c.split_run.ensures.run
    c.split_run.ensures.whole) c.in_err-rest.field-0.0 c.in_err-rest.ensures.fault)

pub returns : goal.returns
returns c =
    let content = c.in_ok-rest.ensures.read in
    rw (c.as_str.ensures.value, content.2, c.in_ok-push_str.ensures.bytes, c.clear.ensures.bytes)
    (reached_content (reached_run c.split_run.result.0.now (reached_start c.args.inside.now) c.split_run.ensures.run
    c.split_run.ensures.whole) content.1)
