use Rattle.std.proofs.Common.{◌∙◌, drop, map, take, ap, arith, sym, subst}
use Rattle.std.proofs.lemmas.List.{length-take, map-id, take_at, with_items_is}
use Rattle.ijson_table.specs.declared.index.slots.Slots.TheInside.{Inside}
use Rattle.ijson_table.specs.private.Moving.{renumbered}
use Rattle.ijson_table.specs.private.Narrow.{widened}
use Rattle.ijson_table.specs.private.NarrowSlots.{stored_slots, IsStoredByCount}
use Rattle.ijson_table.proofs.shifting.MovedIndices.{not_moved}
use Rattle.ijson_table.proofs.index.slots.Slots.renumber.Goals.{in-Few, in-Narrow, in-Wide}
use Rattle.ijson_table.proofs.index.slots.Slots.renumber.Goals as goal

pub returns-then-from-to : goal.returns-then-from-to
returns-then-from-to c = not_moved c.args.from c.args.to c.args.self.now c.if-from-to.true

pub returns : goal.returns
returns c = elim c.match-self.branch [
  | in-Few w ↦
      let few = w.in-Few.few in
      let left = w.renumber.new.slots in
      let within = subst IsStoredByCount w.in-Few.is c.self.invariant in
      let same = take_at left (drop w.from.result few.slots) few.count
      (omega (arith, w.renumber.auto.slots, length-take w.from.result few.slots, within, w.from.ensures)) in
      ap (λ (l : Inside). stored_slots l.stored) w.self-inside-is ∙ ap (map widened) same ∙ w.renumber.ensures
      ∙ ap (map (renumbered c.args.from c.args.to))
      (ap (λ n. map widened (take n few.slots)) w.from.ensures ∙ (ap stored_slots (sym w.in-Few.is) ∙ c.self.view_is))
  | in-Narrow w ↦
      let left = w.renumber-in-Narrow.new.slots in
      let same = with_items_is w.in-Narrow.slots left (omega (arith, w.renumber-in-Narrow.auto.slots, w.deref_mut.ensures.len)) in
      ap (λ (l : Inside). stored_slots l.stored) w.self-inside-is ∙ ap (map widened) same ∙ w.renumber-in-Narrow.ensures
      ∙ ap (map (renumbered c.args.from c.args.to)) (ap (map widened) w.deref_mut.ensures.value ∙ (ap stored_slots (sym w.in-Narrow.is) ∙ c.self.view_is))
  | in-Wide w ↦
      let slots = w.deref_mut-in-Wide.result.now in
      let left = w.renumber-in-Wide.new.slots in
      let same = with_items_is w.in-Wide.slots left (omega (arith, w.renumber-in-Wide.auto.slots, w.deref_mut-in-Wide.ensures.len)) in
      ap (λ (l : Inside). stored_slots l.stored) w.self-inside-is ∙ same ∙ sym (map-id left) ∙ w.renumber-in-Wide.ensures
      ∙ ap (map (renumbered c.args.from c.args.to)) (map-id slots ∙ (w.deref_mut-in-Wide.ensures.value ∙ (ap stored_slots (sym w.in-Wide.is) ∙ c.self.view_is)))
]
