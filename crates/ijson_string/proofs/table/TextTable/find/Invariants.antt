use Rattle.std.proofs.Common.{length}
use Rattle.ijson_string.specs.private.IsTable.{hashes_of, heads_of}
use Rattle.ijson_string.specs.private.Keys.{keys_of}
use Rattle.ijson_string.proofs.ChainLookup.{IsAhead}
use Rattle.ijson_string.proofs.table.TextTable.find.Given as goal

-- Loop invariant: the string, if present, is in the rest of the chain.
abbrev pub invariant-loop-at : goal.invariant-loop-at
invariant-loop-at l = IsAhead (length (heads_of l.self-inside.buckets.items)) l.hash l.text
    (keys_of (hashes_of l.self-inside.links.items) l.self-inside.texts.items) l.at

abbrev pub decreases-loop-at : goal.decreases-loop-at
decreases-loop-at l = l.at
