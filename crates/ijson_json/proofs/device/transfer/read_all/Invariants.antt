use Rattle.std.proofs.Common.{◌≡◌, ◌≤◌, take, vec_len}
use Rattle.std.specs.Io.KnownBytes.{Consumes}
use Rattle.ijson_json.proofs.device.transfer.read_all.Given as goal

-- The first `filled` bytes of the buffer were read from the source, at least one in each iteration.
abbrev pub invariant-loop : goal.invariant-loop
invariant-loop g l = record {
  given : Consumes (g.R.Source.left l.initial.input) (g.R.Source.left l.input) (take l.filled l.bytes.items);
  steady : g.R.Source.failed l.input ≡ g.R.Source.failed l.initial.input;
  within : l.filled ≤ vec_len l.bytes;
  turns : l.counter ≤ l.filled;
}
