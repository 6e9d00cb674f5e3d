use Rattle.std.proofs.Common.{◌≡◌, ◌<◌, ◌≤◌, ◌-◌, ℕ, List, length, map, Some}
use Rattle.ijson_table.specs.declared.slot.Slot.{Slot}
use Rattle.ijson_table.specs.Crowd.{distance}
use Rattle.ijson_table.specs.Slots.{resident}
use Rattle.ijson_table.specs.private.Changes.{changes}
use Rattle.ijson_table.specs.private.Holds.{with_one, HasEmpty, Holds, MayStand}
use Rattle.ijson_table.specs.private.Insertion.{MayPut}
use Rattle.ijson_table.specs.private.Probe.{AreFull}
use Rattle.ijson_table.specs.private.SlotHashes.{position_in, positions, HasHash, HaveHashes}
use Rattle.ijson_table.proofs.index.forward.shift_forward.Given as goal

-- Holds during the insertion of index `position` at slot `from`. The slots from `from` to before
-- `slot` are written, and the later slots are unchanged. `entry` holds the next index to write,
-- which may be inserted at `slot`.
pub record IsOnTheWay (hashes : List ℕ) (old : List Slot) (position from : ℕ) (slots : List Slot) (entry : Slot) (slot : ℕ) : Type 0 where
  pub starts : from < length old
  pub some_empty : HasEmpty (positions old)
  pub held : (i : ℕ) × (position_in entry ≡ Some i)
      × Holds hashes (with_one (positions old) position) (Some i) (positions slots) × MayStand hashes (positions slots) i slot
  pub changes : changes (positions old) (positions slots) ≤ distance (length old) from slot
  pub has_hash : HasHash (length old) hashes entry
  pub have_hashes : HaveHashes (length old) hashes slots
  pub passed : AreFull (positions old) from (distance (length old) from slot)
  pub left : (p : ℕ) → p < length old → distance (length old) from slot ≤ distance (length old) from p
      → resident (positions slots) p ≡ resident (positions old) p
  pub size : length slots ≡ length old

abbrev pub invariant-loop-was : goal.invariant-loop-was
invariant-loop-was g l = record {
  inside : l.slot < length l.slots;
  way : (hashes : List ℕ) → MayPut hashes (map g.S.StoredSlot.stands_for l.fn.slots) l.fn.position l.fn.hash l.fn.from
      → IsOnTheWay hashes (map g.S.StoredSlot.stands_for l.fn.slots) l.fn.position l.fn.from
      (map g.S.StoredSlot.stands_for l.slots) (g.S.StoredSlot.stands_for l.entry) l.slot;
}

abbrev pub decreases-loop-was : goal.decreases-loop-was
decreases-loop-was g l = let n = length (map g.S.StoredSlot.stands_for l.fn.slots) in n - distance n l.fn.from l.slot
