use Rattle.std.proofs.Common.{◌≡◌, ◌∙◌, ◌<◌, ℕ, List, length, ap, arith, rules, get_or, set, map}
use Rattle.std.proofs.lemmas.List.Edits.{map_over_more}
use Rattle.std.proofs.lemmas.List.{get_or_default, length-map, map-set}
use Rattle.ijson_table.specs.declared.slot.Slot.{Slot}
use Rattle.ijson_table.specs.private.Moving.{renumbered}
use Rattle.ijson_table.specs.private.SlotHashes.{blank}
use Rattle.ijson_table.proofs.slots.HashesInSlots.{seen_at}
use Rattle.ijson_table.proofs.index.forward.renumber.Goals as goal

pub loop-slot-preserved : goal.loop-slot-preserved
loop-slot-preserved g c =
    let f = g.S.StoredSlot.stands_for in
    let r = renumbered c.args.from c.args.to in
    let old : List Slot = map f c.args.slots.now in
    let slots : List Slot = map f c.loop-slot.slots in
    let i : ℕ = c.loop-slot.slot in
    let there : i < length old = omega (arith, c.loop-slot-test.true, length-map c.args.slots.now f) in
    let here : i < length slots = omega (arith, c.loop-slot-test.true, c.loop-slot.auto.slots, length-map c.loop-slot.slots f) in
    let read : Slot = get_or slots i blank in
    let new : c.renumbered.result ≡ r c.widened.result = search (rules, c.renumbered.ensures) in
    let is : f c.stored.result ≡ r read = c.stored.ensures ∙ new
    ∙ ap r (c.widened.ensures.value ∙ seen_at f c.loop-slot.slots i c.index-slots-slot.result here c.index-slots-slot.is) in
    map-set f c.loop-slot.slots i c.stored.result ∙ ap (set slots i) is
    ∙ map_over_more r old slots i read there c.loop-slot.invariant (get_or_default slots i blank read here)
