use Rattle.std.proofs.Common.{◌≡◌, ℕ, List, length, ◌-◌, ◌≤◌}
use Rattle.std.specs.Map.Calls.{CalledAtPair, TakesPair}
use Rattle.ijson_value.specs.MayAsk.{MayAskFrom}
use Rattle.ijson_value.specs.Retains.{RetainsFrom}
use Rattle.ijson_value.specs.WellFormed.{WellFormed}
use Rattle.ijson_value.proofs.object.map.IObject.retain.Given as goal

-- The closure may be called on the remaining entries. If the remaining calls can leave the entries
-- `qs`, then all calls can leave `qs`.
abbrev pub invariant-loop-index : goal.invariant-loop-index
invariant-loop-index g l =
    MayAskFrom (CalledAtPair g.F.FnMut) (TakesPair g.F.FnMut) l.keep l.index l.self.pairs × (l.self.capacity ≡ l.fn.self.capacity)
    × (l.index ≤ length l.self.pairs)
    × ((qs : List (List ℕ × WellFormed)) → RetainsFrom (CalledAtPair g.F.FnMut) (length l.self.pairs - l.index) l.keep l.index l.self.pairs
    qs → RetainsFrom (CalledAtPair g.F.FnMut) (length l.fn.self.pairs) l.fn.keep 0 l.fn.self.pairs qs)

abbrev pub decreases-loop-index : goal.decreases-loop-index
decreases-loop-index g l = length l.self.pairs - l.index
