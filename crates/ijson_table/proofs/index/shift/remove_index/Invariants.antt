use Rattle.std.proofs.Common.{◌≡◌, ℕ, ◌+◌, List, Some, length, map}
use Rattle.ijson_table.specs.declared.slot.Slot.{Slot}
use Rattle.ijson_table.specs.Slots.{below, times}
use Rattle.ijson_table.specs.Store.{keys_of}
use Rattle.ijson_table.specs.private.Holds.{one_if}
use Rattle.ijson_table.specs.private.SlotHashes.{positions, HaveHashes}
use Rattle.ijson_table.proofs.shifting.BackwardShift.{all_displacements, HasGap}
use Rattle.ijson_table.proofs.index.shift.remove_index.Given as goal

-- Holds if the slots have a gap at slot `gap`, and hold each index except `gone` exactly once.
pub record HasGapAt (hashes : List ℕ) (gone count : ℕ) (slots : List Slot) (gap : ℕ) : Type 0 where
  pub gap_is : HasGap hashes (positions slots) gap
  pub placed : (i : ℕ) → times i (positions slots) + one_if i (Some gone) ≡ below (length hashes) i
  pub hashes_are : HaveHashes (length slots) hashes slots
  pub size : length slots ≡ count

abbrev pub invariant-loop-behind : goal.invariant-loop-behind
invariant-loop-behind g l = HasGapAt (map g.H.KeyHash.hash_of (keys_of l.fn.pairs)) l.fn.position l.modulus.count l.slots l.gap

abbrev pub decreases-loop-behind : goal.decreases-loop-behind
decreases-loop-behind g l = all_displacements (map g.H.KeyHash.hash_of (keys_of l.fn.pairs)) (positions l.slots)
