-- Slots before and after the insertion of an index.
use Rattle.std.specs.Prelude.{◌≡◌, ℕ, ◌+◌, ◌<◌, ◌≤◌, ◌^◌, List, length, get_or, Some, None}
use Rattle.ijson_table.specs.declared.slot.Slot.{Slot}
use Rattle.ijson_table.specs.Crowd.{distance}
use Rattle.ijson_table.specs.Slots.{below, resident, IsOrdered, IsTable}
use Rattle.ijson_table.specs.private.Changes.{changes}
use Rattle.ijson_table.specs.private.Holds.{with_one, Holds, HasEmpty, MayStand}
use Rattle.ijson_table.specs.private.KeptHash.{kept}
use Rattle.ijson_table.specs.private.Probe.{AreFull}
use Rattle.ijson_table.specs.private.SlotHashes.{positions, HaveHashes}

-- Holds if index `position` may be inserted into `slots`, one of which is empty. `hash` is the part
-- of its key's hash that the slots keep.
pub record Accepts (hashes : List ℕ) (slots : List Slot) (position hash : ℕ) : Type 0 where
  pub fits : position + 1 < 2 ^ 64
  pub hash_is : hash ≡ kept (length slots) (get_or hashes position 0)
  pub hashes_are : HaveHashes (length slots) hashes slots
  pub ordered : IsOrdered hashes (positions slots)
  pub empty : HasEmpty (positions slots)

-- Holds if index `position` may be inserted at slot `from`.
abbrev pub MayPut : List ℕ → List Slot → ℕ → ℕ → ℕ → Type 0
MayPut hashes slots position hash from = Accepts hashes slots position hash × MayStand hashes (positions slots) position from

-- Holds if `new` has the slots of `old` after index `position` is inserted at slot `from`. `last`
-- is the last slot written: the first empty slot from `from` on.
pub record IsPut (hashes : List ℕ) (old : List Slot) (position from last : ℕ) (new : List Slot) : Type 0 where
  pub holds : Holds hashes (with_one (positions old) position) None (positions new)
  pub hashes_are : HaveHashes (length old) hashes new
  pub count : length new ≡ length old
  pub within : last < length old
  pub empty : resident (positions old) last ≡ None
  pub passed : AreFull (positions old) from (distance (length old) from last)
  pub changes : changes (positions old) (positions new) ≤ distance (length old) from last + 1

-- Holds if index `position` is in one of the slots, and `hash` is the hash of its key.
pub record Stands (hashes : List ℕ) (slots : List Slot) (position hash : ℕ) : Type 0 where
  pub hash_is : hash ≡ get_or hashes position 0
  pub hashes_are : HaveHashes (length slots) hashes slots
  pub ordered : IsOrdered hashes (positions slots)
  pub stands : (p : ℕ) × (p < length (positions slots)) × (resident (positions slots) p ≡ Some position)

-- Holds if the slots are a table of keys with these hashes, and each slot has the kept part of its
-- key's hash.
pub record IsTableOf (hashes : List ℕ) (slots : List Slot) : Type 0 where
  pub table : IsTable hashes (positions slots)
  pub hashes_are : HaveHashes (length slots) hashes slots

-- Holds if the slots are a table of keys with these hashes, without index `gone`.
pub record IsTableBut (hashes : List ℕ) (gone : ℕ) (slots : List Slot) : Type 0 where
  pub holds : Holds hashes (below (length hashes)) (Some gone) (positions slots)
  pub hashes_are : HaveHashes (length slots) hashes slots
