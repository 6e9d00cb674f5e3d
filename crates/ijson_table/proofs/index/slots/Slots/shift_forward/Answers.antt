use Rattle.std.proofs.Common.{◌≡◌, ◌∙◌, ℕ, List, drop, map, take, ap, arith, sym, subst}
use Rattle.std.proofs.lemmas.List.{length-take, map-id, take_at, with_items_is}
use Rattle.ijson_table.specs.declared.slot.Slot.{Slot}
use Rattle.ijson_table.specs.declared.index.slots.Slots.TheInside.{Inside}
use Rattle.ijson_table.specs.private.Insertion.{IsPut, MayPut}
use Rattle.ijson_table.specs.private.Narrow.{widened}
use Rattle.ijson_table.specs.private.NarrowSlots.{stored_slots, IsStoredByCount}
use Rattle.ijson_table.proofs.index.slots.Slots.shift_forward.Goals.{in-Few, in-Narrow, in-Wide}
use Rattle.ijson_table.proofs.index.slots.Slots.shift_forward.Goals as goal

-- If `IsPut` holds for `old` and `new`, it holds for lists of slots that are equal to them.
put_as : (hashes : List ℕ) (position hash from : ℕ) (old old' new new' : List Slot) (last last' : ℕ)
    → ((hashes : List ℕ) → MayPut hashes old position hash from → IsPut hashes old position from last new)
    → old ≡ old' → new ≡ new' → last ≡ last' → MayPut hashes old' position hash from → IsPut hashes old' position from last' new'
put_as hashes position hash from old old' new new' last last' put before after same may =
    subst (λ ps. IsPut hashes ps position from last' new') before
    (subst (λ ps. IsPut hashes old position from last' ps) after (subst (λ p. IsPut hashes old position from p new) same
    (put hashes (subst (λ ps. MayPut hashes ps position hash from) (sym before) may))))

pub shift_forward-requires-in-Wide-clause-may : goal.shift_forward-requires-in-Wide-clause-may
shift_forward-requires-in-Wide-clause-may c = (
  c.requires.may.0,
  subst (λ ps. MayPut c.requires.may.0 ps c.args.position c.args.hash c.args.from)
      (sym (map-id c.deref_mut-in-Wide.result.now ∙ (c.deref_mut-in-Wide.ensures.value ∙ (ap stored_slots (sym c.in-Wide.is) ∙ c.self.view_is))))
      c.requires.may.1,
)

pub returns : goal.returns
returns c hashes may = elim c.match-self.branch [
  | in-Few w ↦
      let few = w.in-Few.few in
      let left = w.shift_forward.new.slots in
      let within = subst IsStoredByCount w.in-Few.is c.self.invariant in
      let same = take_at left (drop w.from.result few.slots) few.count
      (omega (arith, w.shift_forward.auto.slots, length-take w.from.result few.slots, within, w.from.ensures)) in
      put_as hashes c.args.position c.args.hash c.args.from _ _ _ _ _ _ w.shift_forward.ensures
      (ap (λ n. map widened (take n few.slots)) w.from.ensures ∙ (ap stored_slots (sym w.in-Few.is) ∙ c.self.view_is))
      (sym (ap (map widened) same) ∙ sym (ap (λ (l : Inside). stored_slots l.stored) w.self-inside-is)) (sym w.result-is) may
  | in-Narrow w ↦
      let left = w.shift_forward-in-Narrow.new.slots in
      let same = with_items_is w.in-Narrow.slots left (omega (arith, w.shift_forward-in-Narrow.auto.slots, w.deref_mut.ensures.len)) in
      put_as hashes c.args.position c.args.hash c.args.from _ _ _ _ _ _ w.shift_forward-in-Narrow.ensures
      (ap (map widened) w.deref_mut.ensures.value ∙ (ap stored_slots (sym w.in-Narrow.is) ∙ c.self.view_is))
      (sym (ap (map widened) same) ∙ sym (ap (λ (l : Inside). stored_slots l.stored) w.self-inside-is)) (sym w.result-is) may
  | in-Wide w ↦
      let slots = w.deref_mut-in-Wide.result.now in
      let left = w.shift_forward-in-Wide.new.slots in
      let same = with_items_is w.in-Wide.slots left
      (omega (arith, w.shift_forward-in-Wide.auto.slots, w.deref_mut-in-Wide.ensures.len)) in
      put_as hashes c.args.position c.args.hash c.args.from _ _ _ _ _ _ w.shift_forward-in-Wide.ensures
      (map-id slots ∙ (w.deref_mut-in-Wide.ensures.value ∙ (ap stored_slots (sym w.in-Wide.is) ∙ c.self.view_is)))
      (map-id left ∙ (sym same ∙ sym (ap (λ (l : Inside). stored_slots l.stored) w.self-inside-is))) (sym w.result-is) may
]
