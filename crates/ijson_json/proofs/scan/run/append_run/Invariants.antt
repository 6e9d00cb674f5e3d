use Rattle.std.proofs.Common.{◌≡◌, ◌+◌, ◌-◌, ◌≤◌, ◌++◌, length, take, drop}
use Rattle.std.specs.List.{prefix_len}
use Rattle.ijson_json.specs.Strings.{is_unescaped}
use Rattle.ijson_json.proofs.scan.run.append_run.Given as goal

-- All bytes before `at` are unescaped and were appended.
abbrev pub invariant-loop-at : goal.invariant-loop-at
invariant-loop-at l = record {
  unescaped : prefix_len is_unescaped l.bytes ≡ l.at + prefix_len is_unescaped (drop l.at l.bytes);
  within : l.at ≤ length l.bytes;
  appended : l.content.items ≡ l.fn.content.items ++ take l.at l.bytes;
}

abbrev pub decreases-loop-at : goal.decreases-loop-at
decreases-loop-at l = length l.bytes - l.at
