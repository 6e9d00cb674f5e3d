use Rattle.std.proofs.Common.{◌-◌, length, drop}
use Rattle.std.specs.Str.{IsCharBoundary}
use Rattle.std.specs.String.{string_bytes}
use Rattle.ijson_json.proofs.writing.Quoting.{Escaping}
use Rattle.ijson_json.proofs.write.quote.push_escaped.Given as goal

-- The text before `start` was written with its escapes, and `start` is a character boundary.
abbrev pub invariant-loop-byte : goal.invariant-loop-byte
invariant-loop-byte l = record {
  boundary : IsCharBoundary l.text l.start;
  written : Escaping (string_bytes l.fn.out) (string_bytes l.out) l.text (drop l.start l.text);
}

abbrev pub decreases-loop-byte : goal.decreases-loop-byte
decreases-loop-byte l = length l.text - l.start
