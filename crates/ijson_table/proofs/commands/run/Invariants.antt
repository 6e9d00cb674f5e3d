use Rattle.std.proofs.Common.{◌≡◌, ◌≤◌, length, vec_len, vec_capacity}
use Rattle.ijson_table.specs.Steps.{Run}
use Rattle.ijson_table.proofs.commands.run.Given as goal

-- `Run` relates the commands run so far to the replies so far.
abbrev pub invariant-loop-command : goal.invariant-loop-command
invariant-loop-command g l =
    (goal.iterator-loop-command g).can_next l.command-iterator ×
    (goal.iterator-loop-command g).is_finite l.command-iterator ×
    Run (g.P.PairStore.pairs l.fn.store) (g.P.PairStore.room l.fn.store) l.yielded l.replies.items (g.P.PairStore.pairs l.store)
    (g.P.PairStore.room l.store) ×
    (length l.yielded ≡ vec_len l.replies) × (length l.fn.commands.items ≤ vec_capacity l.replies)
