use Rattle.std.proofs.Common.{◌≡◌, ◌≢◌, ◌<◌, ◌+◌, ◌-◌, ℕ, length, Some, arith, ap, ◌∙◌}
use Rattle.ijson_table.specs.declared.slot.Slot.{Slot}
use Rattle.ijson_table.specs.Slots.{resident}
use Rattle.ijson_table.specs.private.SlotHashes.{positions}
use Rattle.ijson_table.proofs.probing.KeyHashes.{hash_at, hashes, length-hashes}
use Rattle.ijson_table.proofs.shifting.ListSwapRemove.{swap_remove-last}
use Rattle.ijson_table.proofs.shifting.Removal.{last_out, stands_still, renamed}
use Rattle.ijson_table.proofs.index.slots.Slots.swap_remove.Given.{Over}
use Rattle.ijson_table.proofs.index.slots.Slots.swap_remove.Goals.{After-remove_index-modulus}
use Rattle.ijson_table.proofs.index.slots.Slots.swap_remove.Goals as goal

pub returns-then-position-last-clause-table : goal.returns-then-position-last-clause-table
returns-then-position-last-clause-table g c =
    let hs = hashes g.H.KeyHash.hash_of c.args.pairs.now in
    let is_last : c.args.position + 1 ≡ length hs =
    omega (arith, c.if-position-last.true, c.requires.within, length-hashes g.H.KeyHash.hash_of c.args.pairs.now) in
    rw (swap_remove-last hs c.args.position is_last) (last_out _ _ _ c.remove_index-modulus.ensures.left is_last)

-- If `position` is not the last index, the last index is still in a slot after the removal.
still : (g : Over) (c : After-remove_index-modulus g) → c.args.position ≢ length c.args.pairs.now - 1 → (p : ℕ) × (p < length (positions c.remove_index-modulus.new.slots))
    × (resident (positions c.remove_index-modulus.new.slots) p ≡ Some (length c.args.pairs.now - 1))
still g c other = stands_still _ _ _ c.remove_index-modulus.ensures.left (length c.args.pairs.now - 1)
    (omega (arith, c.requires.within, length-hashes g.H.KeyHash.hash_of c.args.pairs.now)) (λ e. other (omega (arith, e)))

pub slot_of-there-requires-clause-stands : goal.slot_of-there-requires-clause-stands
slot_of-there-requires-clause-stands g c = (
  hashes g.H.KeyHash.hash_of c.args.pairs.now,
  record {
    hash_is = hash_at g.H.KeyHash.hash_of c.args.pairs.now (length c.args.pairs.now - 1) c.index-pairs-last.result c.hash.result
        (omega (arith, c.requires.within)) (c.hash.ensures ∙ ap g.H.KeyHash.hash_of c.as_str.ensures);
    hashes_are = c.remove_index-modulus.ensures.left.hashes_are;
    ordered = c.remove_index-modulus.ensures.left.holds.ordered;
    stands = still g (goal.at.slot_of-there-requires-clause-stands g c).After-remove_index-modulus c.if-position-last.false;
  },
)

pub returns-clause-table : goal.returns-clause-table
returns-clause-table g c =
    let size = length-hashes g.H.KeyHash.hash_of c.args.pairs.now in
    rw (c.set.ensures) (renamed _ _ _ c.remove_index-modulus.ensures.left c.slot_of-there.result (length c.args.pairs.now - 1)
    (omega (arith, c.requires.within, size)) (omega (arith, c.requires.within, c.if-position-last.false)) c.slot_of-there.ensures.within c.slot_of-there.ensures.there
    c.of.result c.of.ensures.position (c.of.ensures.hash ∙ ap (λ (s : Slot). s.hash) c.at-moved.ensures.value))
