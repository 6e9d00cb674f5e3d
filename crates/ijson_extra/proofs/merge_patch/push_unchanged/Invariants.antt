use Rattle.std.proofs.Common.{◌≡◌, ◌++◌, ◌+◌, ◌≤◌, length, map}
use Rattle.std.specs.Prelude.{vec_capacity}
use Rattle.ijson_table.specs.Store.{keys_of}
use Rattle.ijson_extra.specs.private.Joined.{shown, unchanged}
use Rattle.ijson_extra.proofs.merge_patch.push_unchanged.Given as goal

-- The listed keys, followed by the remaining keys of the object, are all keys. The list has
-- capacity for them.
abbrev pub invariant-loop-key : goal.invariant-loop-key
invariant-loop-key l = record {
  all : map shown l.keys.items ++ unchanged l.key-iterator ≡ map shown l.initial.keys.items ++ unchanged (keys_of l.object.pairs);
  fits : length l.keys.items + length l.key-iterator ≤ vec_capacity l.keys;
  room : vec_capacity l.keys ≡ vec_capacity l.initial.keys;
}
