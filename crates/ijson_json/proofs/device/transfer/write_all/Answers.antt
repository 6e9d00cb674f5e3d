use Rattle.std.proofs.Common.{ℕ, List, ◌∙◌, subst, arith}
use Rattle.std.specs.Io.KnownBytes.{Appends}
use Rattle.std.proofs.lemmas.List.{take_all}
use Rattle.std.proofs.lemmas.Grind.{common_steps}
use Rattle.ijson_number.proofs.AnyAnswer.{where_refused}
use Rattle.ijson_json.proofs.devices.TransferredBytes.{appends_rest, begun}
use Rattle.ijson_json.proofs.device.transfer.write_all.Goals as goal

pub returns-in_err-at-clause-beginning : goal.returns-in_err-at-clause-beginning
returns-in_err-at-clause-beginning g c =
    where_refused _ (begun _ _ _ c.loop-at.at c.args.text.now c.loop-at-test.true c.loop-at.invariant.taken c.in_err-at.ensures.bytes)

pub loop-at-preserved : goal.loop-at-preserved
loop-at-preserved g c =
    let written = c.in_ok-at.ensures in
    record {
      taken = appends_rest _ _ _ c.loop-at.at c.in_ok-at.field-0 c.args.text.now c.loop-at.invariant.taken written.bytes;
      steady = written.count ∙ c.loop-at.invariant.steady;
      within = grind (arith, common_steps, written.bound);
    }

pub returns-clause-bytes : goal.returns-clause-bytes
returns-clause-bytes g c =
    let text = c.args.text.now in
    subst (λ (l : List ℕ). Appends (g.W.Sink.got c.args.output.now) (g.W.Sink.got c.loop-at.output) l)
    (take_all c.loop-at.at text c.loop-at-test.false) c.loop-at.invariant.taken
