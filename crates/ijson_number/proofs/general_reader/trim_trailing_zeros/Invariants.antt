use Rattle.ijson_number.proofs.Common.{◌≡◌, ◌≤◌, ◌-◌, length, drop, replicate}
use Rattle.ijson_number.proofs.general_reader.trim_trailing_zeros.Given as goal

abbrev pub invariant-loop-end : goal.invariant-loop-end
invariant-loop-end l = record { inside : l.end ≤ length l.digits; zeros : drop l.end l.digits ≡ replicate (length l.digits - l.end) 48 }

abbrev pub decreases-loop-end : goal.decreases-loop-end
decreases-loop-end l = l.end
