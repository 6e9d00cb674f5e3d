use Rattle.std.proofs.Common.{◌≡◌, ◌≤◌, ◌-◌, length, take}
use Rattle.std.specs.Io.KnownBytes.{Appends}
use Rattle.ijson_json.proofs.device.transfer.write_all.Given as goal

-- The first `at` bytes of the text were written, and no write failed.
abbrev pub invariant-loop-at : goal.invariant-loop-at
invariant-loop-at g l = record {
  taken : Appends (g.W.Sink.got l.initial.output) (g.W.Sink.got l.output) (take l.at l.text);
  steady : g.W.Sink.failed l.output ≡ g.W.Sink.failed l.initial.output;
  within : l.at ≤ length l.text;
}

abbrev pub decreases-loop-at : goal.decreases-loop-at
decreases-loop-at g l = length l.text - l.at
