-- The contents of slots of three bytes each, in a table of up to `narrow_slots` slots.
use Rattle.std.specs.Prelude.{ℕ, ◌+◌, ◌*◌, ◌<◌, ◌≤◌}
use Rattle.ijson_table.specs.declared.slot.Slot.{Slot}
use Rattle.ijson_table.specs.declared.slot.narrow.NarrowSlot.{NarrowSlot}
use Rattle.ijson_table.specs.private.KeptHash.{narrow_slots}

-- Holds if `slot` fits a table of `n` slots. If `n` is at most `narrow_slots`, the code is below
-- 256 and the hash is below 2 ^ 16.
abbrev pub Fits : ℕ → Slot → Type 0
Fits n slot = n ≤ narrow_slots → (slot.code < 256) × (slot.hash < 65536)

-- Holds if a slot with this index and this hash fits a table of `n` slots.
abbrev pub MayHold : ℕ → ℕ → ℕ → Type 0
MayHold n position hash = n ≤ narrow_slots → (position + 1 < 256) × (hash < 65536)

-- The slot that a three-byte slot represents.
abbrev pub widened : NarrowSlot → Slot
widened slot = record { code = slot.code; hash = slot.low + 256 * slot.high }
