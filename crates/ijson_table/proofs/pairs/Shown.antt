-- A table and its view have the same entries, the same length and the same capacity.
use Rattle.std.proofs.Common.{◌≡◌, length, ap}
use Rattle.ijson_table.specs.Placed.{Placed}

module _ {V : Type 0} {inside shown : Placed V} (same : inside ≡ shown) where
  pub pairs_shown : inside.store.pairs ≡ shown.store.pairs
  pairs_shown = ap (λ t. t.store.pairs) same

  pub count_shown : length inside.store.pairs ≡ length shown.store.pairs
  count_shown = ap length pairs_shown

  pub room_shown : inside.store.capacity ≡ shown.store.capacity
  room_shown = ap (λ t. t.store.capacity) same
