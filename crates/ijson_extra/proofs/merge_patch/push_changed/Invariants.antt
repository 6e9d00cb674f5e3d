use Rattle.std.proofs.Common.{◌≡◌, ◌++◌, ◌+◌, ◌≤◌, length, map}
use Rattle.std.specs.Prelude.{vec_capacity}
use Rattle.ijson_extra.specs.private.Joined.{shown, all_changed}
use Rattle.ijson_extra.proofs.merge_patch.push_changed.Given as goal

-- The listed keys, followed by the remaining keys of the patch, are all keys. The list has capacity
-- for them.
abbrev pub invariant-loop-key : goal.invariant-loop-key
invariant-loop-key l = record {
  all : map shown l.keys.items ++ all_changed l.key-iterator ≡ map shown l.initial.keys.items ++ all_changed l.changes.pairs;
  fits : length l.keys.items + length l.key-iterator ≤ vec_capacity l.keys;
}
