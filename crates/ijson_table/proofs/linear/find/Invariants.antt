use Rattle.std.proofs.Common.{◌≢◌, ℕ, ◌<◌, [], get_or}
use Rattle.ijson_table.specs.Store.{keys_of}
use Rattle.ijson_table.proofs.linear.find.Given as goal

-- Each key before index `i` differs from `key`.
abbrev pub invariant-loop-i : goal.invariant-loop-i
invariant-loop-i g l = (j : ℕ) → j < l.i → get_or (keys_of l.pairs) j [] ≢ l.key
