use Rattle.std.proofs.Common.{refl, subst, sym}
use Rattle.ijson_table.specs.declared.index.slots.Slots.TheInside.{Inside}
use Rattle.ijson_table.specs.private.NarrowSlots.{stored_slots}
use Rattle.ijson_table.proofs.slots.SlotTables.{empty_table}
use Rattle.ijson_table.proofs.slots.StoredSlots.{few-empty, narrow-empty, wide-empty, IsEmpty}
use Rattle.ijson_table.proofs.index.slots.Slots.clear.Goals.{in-Few, in-Narrow, in-Wide}
use Rattle.ijson_table.proofs.index.slots.Slots.clear.Goals as goal

pub returns-clause-table : goal.returns-clause-table
returns-clause-table c = empty_table _ (elim c.match-self.branch [
  | in-Few w ↦ subst (λ (l : Inside). IsEmpty (stored_slots l.stored)) (sym w.self-inside-is)
      (few-empty w.in-Few.few.count w.fill.new.self _ _ (w.fill.ensures.after (λ _ e. e)) refl)
  | in-Narrow w ↦ subst (λ (l : Inside). IsEmpty (stored_slots l.stored)) (sym w.self-inside-is)
      (narrow-empty _ _ _ (w.fill-in-Narrow.ensures.items (λ _ e. e)) refl)
  | in-Wide w ↦ subst (λ (l : Inside). IsEmpty (stored_slots l.stored)) (sym w.self-inside-is)
      (wide-empty _ _ _ (w.fill-in-Wide.ensures.items (λ _ e. e)) refl)
])
