use Rattle.std.proofs.Common.{refl, replicate, sym, subst}
use Rattle.ijson_table.specs.declared.index.slots.Stored.{Stored}
use Rattle.ijson_table.specs.declared.index.slots.TheConstants.{FEW_SLOTS}
use Rattle.ijson_table.specs.private.NarrowSlots.{stored_slots}
use Rattle.ijson_table.proofs.slots.SlotTables.{empty_table}
use Rattle.ijson_table.proofs.slots.StoredSlots.{few-empty, narrow-empty, wide-empty, IsEmpty}
use Rattle.ijson_table.proofs.index.slots.Slots.with_count.Goals.{Joined-count-le-FEW_SLOTS, then-count-le-FEW_SLOTS}
use Rattle.ijson_table.proofs.index.slots.Slots.with_count.Goals.{else-count-le-FEW_SLOTS+then-count-le-NARROW_SLOTS+in_ok-vec}
use Rattle.ijson_table.proofs.index.slots.Slots.with_count.Goals.{else-count-le-FEW_SLOTS+else-count-le-NARROW_SLOTS+in_ok-vec-2}
use Rattle.ijson_table.proofs.index.slots.Slots.with_count.Goals as goal

-- In each representation, all new slots are empty.
none : (c : Joined-count-le-FEW_SLOTS) → IsEmpty (stored_slots c.if-count-le-FEW_SLOTS.stored)
none c = elim c.if-count-le-FEW_SLOTS.branch [
  | then-count-le-FEW_SLOTS w ↦
      subst (λ (s : Stored). IsEmpty (stored_slots s)) (sym w.stored-is) (few-empty c.args.count (replicate FEW_SLOTS _) FEW_SLOTS _ refl refl)
  | else-count-le-FEW_SLOTS+then-count-le-NARROW_SLOTS+in_ok-vec w ↦
      subst (λ (s : Stored). IsEmpty (stored_slots s)) (sym w.stored-is)
      (narrow-empty _ c.args.count _ (w.in_ok-vec.ensures.items_if_clones_equal (λ _ e. e)) refl)
  | else-count-le-FEW_SLOTS+else-count-le-NARROW_SLOTS+in_ok-vec-2 w ↦
      subst (λ (s : Stored). IsEmpty (stored_slots s)) (sym w.stored-is)
      (wide-empty _ c.args.count _ (w.in_ok-vec-2.ensures.items_if_clones_equal (λ _ e. e)) refl)
]

pub returns-clause-table : goal.returns-clause-table
returns-clause-table c = empty_table _ (none (goal.at.returns-clause-table c).Joined-count-le-FEW_SLOTS)
