use Rattle.std.proofs.Common.{arith}
use Rattle.ijson_json.specs.Strings.{is_unescaped}
use Rattle.ijson_json.proofs.scan.run.run_end.Goals as goal
use Rattle.ijson_json.proofs.scanning.MaskedRuns.{run_through, run_within}

pub returns-then-found-ne0 : goal.returns-then-found-ne0
returns-then-found-ne0 c =
    let found = c.specials-found in
    let run = run_within is_unescaped c.args.bytes.now c.loop-at.at 16 found.result (omega arith) (omega arith) found.ensures
    (omega arith) in
    omega (arith, run, c.loop-at.invariant.0)

pub loop-at-preserved : goal.loop-at-preserved
loop-at-preserved c =
    let run = run_through is_unescaped c.args.bytes.now c.loop-at.at 16 (omega arith) (omega (arith, c.specials-found.ensures)) in
    (omega (arith, run, c.loop-at.invariant.0), omega arith)
