use Rattle.ijson_number.proofs.Common.{◌≤◌, ◌-◌, length, take, AllDigits}
use Rattle.ijson_number.proofs.grammar.split_digits.Given as goal

abbrev pub invariant-loop-count : goal.invariant-loop-count
invariant-loop-count l = record { inside : l.count ≤ length l.bytes; digits : AllDigits (take l.count l.bytes) }

abbrev pub decreases-loop-count : goal.decreases-loop-count
decreases-loop-count l = length l.bytes - l.count
