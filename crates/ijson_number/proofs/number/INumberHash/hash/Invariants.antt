use Rattle.ijson_number.proofs.Common.{◌≡◌, take, fold, flat_map}
use Rattle.std.specs.Hash as fed
use Rattle.ijson_number.proofs.number.INumberHash.hash.Given as goal

-- Loop invariant: the digits before the current digit have been fed to the hasher.
abbrev pub invariant-loop-digit : goal.invariant-loop-digit
invariant-loop-digit g l = l.state ≡ fold g.H.Hasher.write l.initial.state (flat_map fed.u64 (take l.digit-index l.digits))
