use Rattle.std.proofs.Common.{◌≡◌, List, get_or, arith, Some, ap, eqb, subst, ◌∙◌}
use Rattle.std.specs.Option.{option_eq}
use Rattle.ijson_table.specs.declared.slot.Slot.{Slot}
use Rattle.ijson_table.specs.private.SlotHashes.{blank, position_in, SeenAs}
use Rattle.ijson_table.proofs.slots.HashesInSlots.{looks_at, positions-length}
use Rattle.ijson_table.proofs.index.shift.HashProbeProbeTarget.look.Goals as goal

pub returns-clause-sees : goal.returns-clause-sees
returns-clause-sees c =
    let probe = c.args.self.now in
    let slots : List Slot = probe.slots.now in
    let read : c.at-there.result ≡ get_or slots c.args.slot blank = c.at-there.ensures.value in
    looks_at slots c.args.slot c.eq-same.result (λ i. option_eq eqb (Some i) probe.position) c.seen.result
    (omega (arith, c.requires.within, positions-length slots))
    (subst (λ n. SeenAs (get_or slots c.args.slot blank) n c.args.slot c.eq-same.result c.seen.result) probe.counted
    (subst (λ s. SeenAs s probe.modulus.count c.args.slot c.eq-same.result c.seen.result) read c.seen.ensures))
    (λ i e. c.eq-same.ensures ∙ ap (λ o. option_eq eqb o probe.position) (c.position.ensures ∙ (ap position_in read ∙ e)))
