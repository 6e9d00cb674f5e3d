use Rattle.std.proofs.Common.{◌≡◌, ◌+◌, ◌-◌, ◌≤◌, length, drop}
use Rattle.std.specs.List.{prefix_len}
use Rattle.ijson_json.specs.Grammar.{is_space}
use Rattle.ijson_json.proofs.scan.space.space_length.Given as goal

-- All bytes before `at` are white space.
abbrev pub invariant-loop-at : goal.invariant-loop-at
invariant-loop-at l = (prefix_len is_space l.bytes ≡ l.at + prefix_len is_space (drop l.at l.bytes)) × (l.at ≤ length l.bytes)

abbrev pub decreases-loop-at : goal.decreases-loop-at
decreases-loop-at l = length l.bytes - l.at
