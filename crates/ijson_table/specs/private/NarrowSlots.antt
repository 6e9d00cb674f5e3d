-- The representation of `Slots`, viewed as a list of slots.
use Rattle.std.specs.Prelude.{◌≡◌, ◌<◌, ◌≤◌, List, map, take, length}
use Rattle.ijson_table.specs.declared.slot.Slot.{Slot}
use Rattle.ijson_table.specs.declared.index.slots.Stored.{Stored}
use Rattle.ijson_table.specs.declared.index.slots.Stored.TheVariants.{Few, Narrow, Wide}
use Rattle.ijson_table.specs.declared.index.slots.TheConstants.{FEW_SLOTS}
use Rattle.ijson_table.specs.private.KeptHash.{narrow_slots}
use Rattle.ijson_table.specs.private.Narrow.{widened}

-- The list of slots that a representation stores.
abbrev pub stored_slots : Stored → List Slot
stored_slots (Few few) = map widened (take few.count few.slots)
stored_slots (Narrow slots) = map widened slots.items
stored_slots (Wide slots) = slots.items

-- Holds if the representation follows from the number of slots: up to `FEW_SLOTS` are inline, up to
-- 158 have three bytes each, and more have 16 bytes each.
abbrev pub IsStoredByCount : Stored → Type 0
IsStoredByCount (Few few) = (few.count ≤ FEW_SLOTS) × (length few.slots ≡ FEW_SLOTS)
IsStoredByCount (Narrow slots) = (FEW_SLOTS < length slots.items) × (length slots.items ≤ narrow_slots)
IsStoredByCount (Wide slots) = narrow_slots < length slots.items
