use Rattle.std.proofs.Common.{drop, arith}
use Rattle.std.proofs.lemmas.List.Folds.{drop_split}
use Rattle.std.proofs.lemmas.Str.{IsCharBoundary-from_rest}
use Rattle.ijson_json.specs.Strings.{is_unescaped}
use Rattle.ijson_json.proofs.scanning.UnescapedRuns.{run_from, run_boundary}
use Rattle.ijson_json.proofs.scan.run.split_run.Goals as goal

pub range-requires-clause-end_boundary : goal.range-requires-clause-end_boundary
range-requires-clause-end_boundary c =
    rw (c.run_end-end.ensures, c.as_bytes.ensures.value)
    (IsCharBoundary-from_rest c.args.text.now c.args.start _ c.requires.0 (run_boundary (drop c.args.start c.args.text.now)))

pub range_from-requires : goal.range_from-requires
range_from-requires c _ =
    rw (c.run_end-end.ensures, c.as_bytes.ensures.value)
    (IsCharBoundary-from_rest c.args.text.now c.args.start _ c.requires.0 (run_boundary (drop c.args.start c.args.text.now)))

pub returns-clause-whole : goal.returns-clause-whole
returns-clause-whole c =
    rw (c.range.ensures.value, c.range_from.ensures.value)
    (drop_split c.args.text.now c.args.start c.run_end-end.result (omega (arith, c.run_end-end.ensures)))

pub returns-clause-run : goal.returns-clause-run
returns-clause-run c = rw c.range.ensures.value (run_from is_unescaped c.args.text.now c.args.start c.run_end-end.result
    (rw c.as_bytes.ensures.value at c.run_end-end.ensures)).0

pub returns-clause-stops : goal.returns-clause-stops
returns-clause-stops c = rw c.range_from.ensures.value (run_from is_unescaped c.args.text.now c.args.start c.run_end-end.result
    (rw c.as_bytes.ensures.value at c.run_end-end.ensures)).1
