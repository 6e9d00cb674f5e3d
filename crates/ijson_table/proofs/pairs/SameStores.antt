-- Stores with equal entries and equal capacities are equal, and so are tables that also have equal
-- slots.
use Rattle.std.proofs.Common.{◌≡◌}
use mathlib.Core.HLevel.{is_prop→PathP}
use Rattle.ijson_table.specs.Store.{Store, IsDistinct, keys_of}
use Rattle.ijson_table.specs.laws.Store.{IsDistinct-prop}
use Rattle.ijson_table.specs.Placed.{Placed}

-- Two stores with the same entries and the same capacity are equal.
pub store_path : {V : Type 0} (s t : Store V) → s.pairs ≡ t.pairs → s.capacity ≡ t.capacity → s ≡ t
store_path s t e f = λ j. record {
  pairs = e j;
  capacity = f j;
  distinct = is_prop→PathP (λ k. IsDistinct (keys_of (e k))) (λ k. IsDistinct-prop (keys_of (e k))) s.distinct t.distinct j;
}

-- Two tables with the same entries, the same capacity and the same slots are equal.
pub placed_path : {V : Type 0} (s t : Placed V) → s.store.pairs ≡ t.store.pairs → s.store.capacity ≡ t.store.capacity → s.slots ≡ t.slots
    → s ≡ t
placed_path s t e f g = λ j. record { store = store_path s.store t.store e f j; slots = g j }
