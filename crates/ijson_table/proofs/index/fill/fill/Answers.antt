use Rattle.std.proofs.Common.{◌≡◌, ◌+◌, ℕ, get_or, set, arith, ap, sym, ◌∙◌, subst}
use Rattle.std.proofs.lemmas.Bool.Decides.{nat_tests}
use Rattle.ijson_table.specs.private.Narrow.{Fits}
use Rattle.ijson_table.specs.private.Entries.{slot_for}
use Rattle.ijson_table.specs.private.Sorting.{past_last}
use Rattle.ijson_table.proofs.building.EntriesInOrder.{entry_fits, entry_within}
use Rattle.ijson_table.proofs.filling.FilledSlots.{Filled, filled_all, filled_more, filled_none}
use Rattle.ijson_table.proofs.filling.Spots.{place, places, wrapped, ArePlaces}
use Rattle.ijson_table.proofs.slots.SlotTables.{each_empty}
use Rattle.ijson_table.proofs.index.fill.fill.Goals as goal
use Rattle.ijson_table.proofs.index.fill.fill.Goals.{Start, Joined-spot-count, then-spot-count, else-spot-count}

pub loop-index-init : goal.loop-index-init
loop-index-init c = record {
  next = c.wrapped_count-next.ensures;
  filled = filled_none c.args.modulus.count (place c.args.modulus.count c.args.sorted.now) c.args.sorted.now c.args.slots.now
      (sym c.requires.counted) (each_empty c.args.slots.now c.requires.empty);
}

are_places : (c : Start) → ArePlaces c.args.modulus.count c.args.sorted.now (place c.args.modulus.count c.args.sorted.now)
are_places c = places c.args.modulus.count c.args.sorted.now (omega (arith, c.requires.room, c.requires.counted))
    c.requires.sorted.0 c.requires.sorted.1

-- The slot that the code computes for the next hashed index is its `place`.
place_is : (c : Joined-spot-count) → c.if-spot-count.slot ≡ place c.args.modulus.count c.args.sorted.now c.loop-index.index
unfolding wrapped
place_is c =
    let next = c.loop-index.invariant.next in
    let home = c.home_of_hash.ensures.value in
    elim c.if-spot-count.branch [
      | then-spot-count w ↦ grind (arith, nat_tests, c.max-spot.ensures, next, home, w.slot-is, w.if-spot-count.true)
      | else-spot-count w ↦ grind (arith, nat_tests, c.max-spot.ensures, next, home, w.slot-is, w.if-spot-count.false)
    ]

pub slot-requires : goal.slot-requires
slot-requires c =
    let are = c.requires.entries.1 in
    let within = entry_within c.args.modulus.count c.requires.entries.0 c.args.sorted.now are c.loop-index.index c.loop-index-test.true in
    omega (arith, within, are.count, c.requires.room, c.requires.few)

pub set-requires-clause-within : goal.set-requires-clause-within
set-requires-clause-within c =
    let before = goal.at.set-requires-clause-within c in
    let inside = (are_places before.Start).below c.loop-index.index c.loop-index-test.true in
    omega (arith, place_is before.Joined-spot-count, inside, c.loop-index.invariant.filled.count)

pub set-requires-clause-fits : goal.set-requires-clause-fits
set-requires-clause-fits c = subst (λ n. Fits n c.slot.result) (sym c.loop-index.invariant.filled.count)
    (subst (Fits c.args.modulus.count) (sym c.slot.ensures) (entry_fits c.args.modulus.count c.requires.entries.0 c.args.sorted.now c.requires.entries.1 c.loop-index.index c.loop-index-test.true
    (omega (arith, c.requires.room, c.requires.counted))))

pub overflow_add-next : goal.overflow_add-next
unfolding wrapped
overflow_add-next c =
    let next = c.loop-index.invariant.next in
    let inside = (are_places (goal.at.overflow_add-next c).Start).below c.loop-index.index c.loop-index-test.true in
    grind (arith, nat_tests, c.max-spot.ensures, next, c.home_of_hash.ensures.value, inside, c.requires.counted, c.requires.few)

pub loop-index-preserved : goal.loop-index-preserved
loop-index-preserved c =
    let before = goal.at.loop-index-preserved c in
    let sorted = c.args.sorted.now in
    let k : ℕ = c.loop-index.index in
    record {
      next = grind (arith, nat_tests, c.max-spot.ensures, c.loop-index.invariant.next, c.home_of_hash.ensures.value);
      filled = subst (Filled c.args.modulus.count (place c.args.modulus.count sorted) sorted (k + 1))
          (ap (λ p. set c.loop-index.slots p (slot_for (get_or sorted k past_last))) (sym (place_is before.Joined-spot-count))
          ∙ ap (set c.loop-index.slots c.if-spot-count.slot) (sym c.slot.ensures) ∙ sym c.set.ensures)
          (filled_more c.args.modulus.count (place c.args.modulus.count sorted) sorted (are_places before.Start) k c.loop-index.slots
          c.loop-index-test.true c.loop-index.invariant.filled);
    }

pub returns-clause-table : goal.returns-clause-table
returns-clause-table c = filled_all c.args.modulus.count c.loop-index.index (place c.args.modulus.count c.args.sorted.now) c.args.sorted.now
    c.loop-index.slots (are_places (goal.at.returns-clause-table c).Start) (omega (arith, c.loop-index-test.false, c.loop-index.auto.index-end))
    c.loop-index.invariant.filled
