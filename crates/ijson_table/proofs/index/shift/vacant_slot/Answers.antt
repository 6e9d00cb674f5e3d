use Rattle.std.proofs.Common.{◌≡◌, ◌⊎◌, ℕ, ◌-◌, ◌<◌, List, false, length, arith, inl, inr}
use Rattle.ijson_table.specs.declared.slot.Slot.{Slot}
use Rattle.ijson_table.specs.declared.index.probe.Probed.{Probed}
use Rattle.ijson_table.specs.declared.index.probe.Probed.TheVariants.{Found, Vacant, Full}
use Rattle.ijson_table.specs.private.Holds.{HasEmpty}
use Rattle.ijson_table.specs.private.SlotHashes.{displacement_in, positions}
use Rattle.ijson_table.specs.private.Probe.{Ends}
use Rattle.ijson_table.proofs.shifting.Insertion.{not_round}
use Rattle.ijson_table.proofs.slots.HashesInSlots.{positions-length, displacement_in-none}
use Rattle.ijson_table.proofs.index.shift.vacant_slot.Goals as goal

-- If a slot is empty, a probe without a target ends as `Vacant`.
no_other : (slots : List Slot) (home looks : ℕ) → home < length slots → HasEmpty (positions slots)
    → (end : Probed) → Ends (positions slots) (displacement_in slots) home (λ i. false) looks end
    → ((x : ℕ) × (x' : ℕ) × (end ≡ Found x x')) ⊎ (end ≡ Full) → ⊥
no_other slots home looks lh e (Found i p) ends is = let bad = ends.3 in cc
no_other slots home looks lh e (Vacant p) ends (inl is) = let bad = is.2 in cc
no_other slots home looks lh e (Vacant p) ends (inr is) = cc
no_other slots home looks lh e Full ends is =
    let size : length (positions slots) ≡ length slots = positions-length slots in
    let le : e.0 < length slots = omega (arith, e.1, size) in
    not_round (displacement_in slots) (length (positions slots)) home e.0 (omega (arith, lh, size)) e.1 (displacement_in-none slots e.0 le e.2) ends.0

pub unreachable-requires : goal.unreachable-requires
unreachable-requires c = no_other c.args.slots.now c.args.home
    (c.probe.new.looks - c.new.result) c.requires.home c.requires.empty c.probe.result
    c.probe.ensures.ends c.in-Found.is
