use Rattle.std.proofs.Common.{◌≡◌, ◌-◌, ◌∙◌, ℕ, List, length, map, take, arith, ap, sym, subst, Bor}
use Rattle.std.proofs.lemmas.List.{length-map, map-id}
use Rattle.ijson_table.specs.declared.index.probe.Probed.{Probed}
use Rattle.ijson_table.specs.declared.slot.Slot.{Slot}
use Rattle.ijson_table.specs.declared.slot.narrow.NarrowSlot.{NarrowSlot}
use Rattle.ijson_table.specs.Crowd.{home_of}
use Rattle.ijson_table.specs.Slots.{displacement}
use Rattle.ijson_table.specs.Store.{keys_of}
use Rattle.ijson_table.specs.private.CountedSteps.{Walks}
use Rattle.ijson_table.specs.private.Insertion.{IsTableOf}
use Rattle.ijson_table.specs.private.Lookup.{is_key}
use Rattle.ijson_table.specs.private.Narrow.{widened}
use Rattle.ijson_table.specs.private.NarrowSlots.{stored_slots}
use Rattle.ijson_table.specs.private.Probe.{Ends}
use Rattle.ijson_table.specs.private.SlotHashes.{positions}
use Rattle.ijson_table.proofs.slots.HashesInSlots.{positions-length}
use Rattle.ijson_table.proofs.index.slots.Slots.probe_for.Goals.{Joined-self, in-Few, in-Narrow}
use Rattle.ijson_table.proofs.index.slots.Slots.probe_for.Goals as goal

-- A probe that satisfies `Ends` on the stored slots satisfies `Walks` on the slots that they
-- represent.
walks : (hash : List ℕ → ℕ) (stored seen : List Slot) (keys : List (List ℕ)) (home count : ℕ) (key : List ℕ) (looks : ℕ) (end : Probed)
    → stored ≡ seen → home ≡ home_of hash count key → count ≡ length seen
    → Ends (positions stored) (displacement (map hash keys) (positions stored)) home (is_key keys key) looks end
    → Walks hash keys (positions seen) key looks end
walks hash stored seen keys home count key looks end is homed counted ends =
    subst (λ h. Ends (positions seen) (displacement (map hash keys) (positions seen)) h (is_key keys key) looks end)
    (homed ∙ ap (λ n. home_of hash n key) (counted ∙ sym (positions-length seen)))
    (subst (λ (l : List Slot). Ends (positions l) (displacement (map hash keys) (positions l)) home (is_key keys key) looks end) is ends)

pub returns-in-Wide-clause-ends : goal.returns-in-Wide-clause-ends
returns-in-Wide-clause-ends g c = walks g.H.KeyHash.hash_of (map (λ s. s) c.deref.result.now) c.args.self.now (keys_of c.args.pairs.now)
    c.args.home c.args.modulus.count c.args.key.now (c.probe.new.looks - c.args.looks.now) c.probe.result
    (map-id c.deref.result.now ∙ (c.deref.ensures.value ∙ (ap stored_slots (sym c.in-Wide.is) ∙ c.self.view_is)))
    c.requires.home c.requires.counted c.probe.ensures.ends

-- The three-byte slots represent the slots of `self`.
narrow_is : (g : _) (c : Joined-self g) → map widened c.match-self.narrow.now ≡ c.args.self.now
narrow_is g c = elim c.match-self.branch [
  | in-Few w ↦ ap (λ (s : Bor (List NarrowSlot)). map widened s.now) w.narrow-is
      ∙ (ap (λ n. map widened (take n w.in-Few.few.slots)) w.from.ensures ∙ (ap stored_slots (sym w.in-Few.is) ∙ c.self.view_is))
  | in-Narrow w ↦ ap (λ (s : Bor (List NarrowSlot)). map widened s.now) w.narrow-is
      ∙ (ap (map widened) w.deref-narrow.ensures.value ∙ (ap stored_slots (sym w.in-Narrow.is) ∙ c.self.view_is))
]

pub invariant_of-lookup-2 : goal.invariant_of-lookup-2
invariant_of-lookup-2 g c =
    let is = narrow_is g (goal.at.invariant_of-lookup-2 g c).Joined-self in
    record {
      table = subst (IsTableOf (map g.H.KeyHash.hash_of (keys_of c.args.pairs.now))) (sym is) c.requires.table;
      counted = omega (arith, c.requires.counted, ap length is, length-map c.match-self.narrow.now widened);
      hashed = c.requires.hash;
    }

pub returns-clause-ends : goal.returns-clause-ends
returns-clause-ends g c = walks g.H.KeyHash.hash_of (map widened c.match-self.narrow.now) c.args.self.now (keys_of c.args.pairs.now)
    c.args.home c.args.modulus.count c.args.key.now (c.probe-2.new.looks - c.args.looks.now) c.probe-2.result
    (narrow_is g (goal.at.returns-clause-ends g c).Joined-self) c.requires.home c.requires.counted c.probe-2.ensures.ends
