use Rattle.ijson_number.proofs.Common.{◌≡◌, ◌≤◌, ◌-◌, length, take, replicate}
use Rattle.ijson_number.proofs.general_reader.trim_leading_zeros.Given as goal

abbrev pub invariant-loop-count : goal.invariant-loop-count
invariant-loop-count l = record { inside : l.count ≤ length l.digits; zeros : take l.count l.digits ≡ replicate l.count 48 }

abbrev pub decreases-loop-count : goal.decreases-loop-count
decreases-loop-count l = length l.digits - l.count
