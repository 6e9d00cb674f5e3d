use Rattle.std.proofs.Common.{◌≡◌, ◌≢◌, ◌<◌, ◌≤◌, ◌%◌, ℕ, length, get_or, set, arith, ap, sym, get_or-set_other, get_or-set_same, subst, ◌∙◌}
use Rattle.std.proofs.lemmas.Bool.Decides.{nat_tests}
use Rattle.std.proofs.lemmas.List.{length-set}
use Rattle.ijson_table.specs.Slots.{below}
use Rattle.ijson_table.specs.private.Holds.{HasEmpty}
use Rattle.ijson_table.specs.private.Insertion.{MayPut}
use Rattle.ijson_table.specs.private.KeptHash.{kept}
use Rattle.ijson_table.specs.private.Probe.{IsVacancy}
use Rattle.ijson_table.specs.private.SlotHashes.{displacement_in, positions, HaveHashes}
use Rattle.ijson_table.proofs.probing.KeyHashes.{hashes, length-hashes}
use Rattle.ijson_table.proofs.shifting.Insertion.{some_empty}
use Rattle.ijson_table.proofs.shifting.Removal.{but_hashes, but_ordered}
use Rattle.ijson_table.proofs.shifting.Vacancy.{may_stand}
use Rattle.ijson_table.proofs.slots.HashesInSlots.{positions-length}
use Rattle.ijson_table.proofs.slots.NarrowSlots.{may_hold}
use Rattle.ijson_table.proofs.slots.Residents.{one_if-same}
use Rattle.ijson_table.proofs.index.slots.Slots.rehash_one.Given.{Over}
use Rattle.ijson_table.proofs.index.slots.Slots.rehash_one.Goals.{After-vacant_slot-slot, After-remove_index-modulus}
use Rattle.ijson_table.proofs.index.slots.Slots.rehash_one.Goals as goal

-- The number of indices is at most the number of slots.
room : (g : Over) (c : After-remove_index-modulus g) → length (hashes g.H.KeyHash.hash_of c.args.pairs.now) ≤ length c.remove_index-modulus.new.slots
room g c = omega (arith, c.requires.room, c.remove_index-modulus.ensures.count, length-hashes g.H.KeyHash.hash_of c.args.pairs.now)

-- Index `position` is below the number of keys.
inside : (g : Over) (c : After-remove_index-modulus g) → c.args.position < length (hashes g.H.KeyHash.hash_of c.args.pairs.now)
inside g c = omega (arith, c.requires.within, length-hashes g.H.KeyHash.hash_of c.args.pairs.now)

-- After index `position` is removed, a slot is empty.
empty : (g : Over) (c : After-remove_index-modulus g) → HasEmpty (positions c.remove_index-modulus.new.slots)
empty g c =
    let held = c.remove_index-modulus.ensures.left.holds in
    some_empty (positions c.remove_index-modulus.new.slots) (length (hashes g.H.KeyHash.hash_of c.args.pairs.now)) c.args.position
    (λ i. omega (arith, held.placed i)) (inside g c)
    (grind (arith, nat_tests, held.placed c.args.position, one_if-same c.args.position, inside g c))
    (omega (arith, room g c, positions-length c.remove_index-modulus.new.slots))

pub vacant_slot-slot-requires-clause-empty : goal.vacant_slot-slot-requires-clause-empty
vacant_slot-slot-requires-clause-empty g c = empty g (goal.at.vacant_slot-slot-requires-clause-empty g c).After-remove_index-modulus

-- Index `position` may be inserted again, by its new hash, at the slot at which the probe ended.
may : (g : Over) (c : After-vacant_slot-slot g) → MayPut (set (hashes g.H.KeyHash.hash_of c.args.pairs.now) c.args.position c.args.hash)
    c.remove_index-modulus.new.slots c.args.position c.split-home.result.1 c.vacant_slot-slot.result
may g c =
    let was = hashes g.H.KeyHash.hash_of c.args.pairs.now in
    let at = c.before.before in
    let own = get_or-set_same was c.args.position c.args.hash 0 (inside g at) in
    let same : (k : ℕ) → k < length was → k ≢ c.args.position → get_or (set was c.args.position c.args.hash) k 0 ≡ get_or was k 0 =
    λ k lk other. get_or-set_other was c.args.position k c.args.hash 0 other in
    let have = but_hashes _ _ _ c.remove_index-modulus.ensures.left (set was c.args.position c.args.hash) same in (
      record {
        fits = omega (arith, room g at, inside g at, c.remove_index-modulus.type_inv, c.remove_index-modulus.ensures.modulus);
        hash_is = c.split-home.ensures.kept ∙ (ap (λ n. kept n c.args.hash) (c.remove_index-modulus.ensures.modulus)
            ∙ ap (kept (length c.remove_index-modulus.new.slots)) (sym own));
        hashes_are = have;
        ordered = but_ordered _ _ _ c.remove_index-modulus.ensures.left (set was c.args.position c.args.hash) same;
        empty = empty g at;
      },
      may_stand (set was c.args.position c.args.hash) c.remove_index-modulus.new.slots c.args.position c.args.hash c.vacant_slot-slot.result (sym own) have
          (subst (λ h. IsVacancy (displacement_in c.remove_index-modulus.new.slots) (length c.remove_index-modulus.new.slots) h c.vacant_slot-slot.result)
          (c.split-home.ensures.home ∙ ap (λ n. c.args.hash % n) (c.remove_index-modulus.ensures.modulus)) c.vacant_slot-slot.ensures),
    )

pub shift_forward-requires-clause-may : goal.shift_forward-requires-clause-may
shift_forward-requires-clause-may g c = (
  set (hashes g.H.KeyHash.hash_of c.args.pairs.now) c.args.position c.args.hash,
  may g (goal.at.shift_forward-requires-clause-may g c).After-vacant_slot-slot,
)

pub shift_forward-requires-clause-narrow : goal.shift_forward-requires-clause-narrow
shift_forward-requires-clause-narrow g c = may_hold (length c.remove_index-modulus.new.slots) c.args.position c.split-home.result.1 c.args.hash
    (c.split-home.ensures.kept ∙ ap (λ n. kept n c.args.hash) (c.remove_index-modulus.ensures.modulus))
    (omega (arith, c.requires.within, c.requires.room, c.remove_index-modulus.ensures.count))

pub returns-clause-table : goal.returns-clause-table
returns-clause-table g c =
    let was = hashes g.H.KeyHash.hash_of c.args.pairs.now in
    let put = c.shift_forward.ensures (set was c.args.position c.args.hash) (may g (goal.at.returns-clause-table g c).After-vacant_slot-slot) in
    record {
      table = record {
        ordered = put.holds.ordered;
        placed = λ i. omega (
          arith,
          put.holds.placed i,
          c.remove_index-modulus.ensures.left.holds.placed i,
          ap (λ n. below n i) (length-set was c.args.position c.args.hash),
        );
      };
      hashes_are = subst (λ n. HaveHashes n (set was c.args.position c.args.hash) c.shift_forward.new.self) (sym put.count) put.hashes_are;
    }

pub returns-clause-count : goal.returns-clause-count
returns-clause-count g c = (c.shift_forward.ensures _ (may g (goal.at.returns-clause-count g c).After-vacant_slot-slot)).count ∙ c.remove_index-modulus.ensures.count
