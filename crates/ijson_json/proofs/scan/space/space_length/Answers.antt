use Rattle.std.proofs.Common.{length-drop, drop, arith}
use Rattle.std.proofs.lemmas.List.{take_rest}
use Rattle.std.proofs.lemmas.List.Sums.{prefix_len-le-length}
use Rattle.ijson_json.specs.Grammar.{is_space}
use Rattle.ijson_json.proofs.scan.space.space_length.Goals as goal
use Rattle.ijson_json.proofs.scanning.MaskedRuns.{run_through, run_within}

pub returns-then-found-ne0 : goal.returns-then-found-ne0
returns-then-found-ne0 c =
    let found = c.others-found in
    let run = run_within is_space c.args.bytes.now c.loop-at.at 16 found.result (omega arith) (omega arith) found.ensures (omega arith) in
    omega (arith, run, c.loop-at.invariant.0)

pub loop-at-preserved : goal.loop-at-preserved
loop-at-preserved c =
    let run = run_through is_space c.args.bytes.now c.loop-at.at 16 (omega arith) (omega (arith, c.others-found.ensures)) in
    (omega (arith, run, c.loop-at.invariant.0), omega arith)

pub overflow_add-result-2 : goal.overflow_add-result-2
overflow_add-result-2 c =
    let left = drop c.loop-at.at c.args.bytes.now in
    omega (
      arith,
      rw (take_rest c.args.bytes.now c.loop-at.at) at c.space_by_bytes.ensures,
      prefix_len-le-length is_space left,
      length-drop c.loop-at.at c.args.bytes.now,
    )

pub returns : goal.returns
returns c = omega (arith, rw (take_rest c.args.bytes.now c.loop-at.at) at c.space_by_bytes.ensures, c.loop-at.invariant.0)
