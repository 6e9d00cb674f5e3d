use Rattle.std.proofs.Common.{◌≡◌, ◌+◌, ◌<◌, ℕ, List, Some, option_map, length}
use Prim.Native.Nat.{◌^◌}
use Rattle.ijson_table.specs.Store.{at, lookup}
use Rattle.ijson_extra.specs.Pointer.{meant}
use Rattle.ijson_extra.proofs.pointer.find_member.Given as goal

-- The first `position` entries lack the key that the token means.
abbrev pub invariant-loop-position : goal.invariant-loop-position
invariant-loop-position l = record {
  fits : l.position + length l.key-iterator < 2 ^ 64;
  position : (m : List ℕ) → meant l.fn.token ≡ Some m → at l.fn.object.pairs m ≡ option_map (λ i. l.position + i) (at l.key-iterator m);
  value : (m : List ℕ) → meant l.fn.token ≡ Some m → lookup m l.fn.object.pairs ≡ lookup m l.key-iterator;
}
