use Rattle.std.proofs.Common.{◌≡◌, ◌+◌, ◌-◌, ◌≤◌, length, drop}
use Rattle.std.specs.List.{prefix_len}
use Rattle.ijson_json.specs.Strings.{is_unescaped}
use Rattle.ijson_json.proofs.scan.run.run_end.Given as goal

-- All bytes from `start` to `at` are unescaped.
abbrev pub invariant-loop-at : goal.invariant-loop-at
invariant-loop-at l =
    (l.start + prefix_len is_unescaped (drop l.start l.bytes) ≡ l.at + prefix_len is_unescaped (drop l.at l.bytes))
    × (l.at ≤ length l.bytes)

abbrev pub decreases-loop-at : goal.decreases-loop-at
decreases-loop-at l = length l.bytes - l.at
