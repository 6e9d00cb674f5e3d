use Rattle.std.proofs.Common.{◌≡◌, ℕ, ◌-◌, ◌<◌, length, map, arith, ap, subst, sym, ◌∙◌}
use Rattle.std.specs.Prelude.{vec_capacity}
use Rattle.ijson_table.specs.Slots.{IsBounded, IsTable}
use Rattle.ijson_table.specs.Placed.{Placed}
use Rattle.ijson_table.specs.Store.{keys_of}
use Rattle.ijson_table.specs.private.CountedSteps.{Walks}
use Rattle.ijson_table.specs.private.Holds.{HasEmpty}
use Rattle.ijson_table.specs.private.Lookup.{LookUpEnds}
use Rattle.ijson_table.specs.private.SlotHashes.{positions}
use Rattle.ijson_table.proofs.probing.KeyHashes.{length-hashes}
use Rattle.ijson_table.proofs.probing.LookCount.{within_list}
use Rattle.ijson_table.proofs.probing.ProbeEnds.{look_up_ends, bounded}
use Rattle.ijson_table.proofs.slots.HashesInSlots.{positions-length}
use Rattle.ijson_table.proofs.slots.SlotTables.{left_empty}
use Rattle.ijson_table.proofs.table.Table.find.Goals.{After-len-count, After-probe_for-probed}
use Rattle.ijson_table.proofs.table.Table.find.Goals as goal

-- If the length is below the capacity, a slot is empty.
spare : (g : _) (c : After-len-count g) → length c.args.self.now.store.pairs < c.args.self.now.store.capacity → HasEmpty c.args.self.now.slots
spare g c = subst (λ (t : Placed g.row.V.Denot). length t.store.pairs < t.store.capacity → HasEmpty t.slots) c.self.view_is
    (λ room. left_empty _ (positions c.self.inside.slots) c.self.invariant.table.table (omega (
      arith,
      room,
      length-hashes g.H.KeyHash.hash_of c.self.inside.pairs.items,
      c.self.invariant.size,
      positions-length c.self.inside.slots,
    )))

pub returns-clause-empty : goal.returns-clause-empty
returns-clause-empty g c = spare g (goal.at.returns-clause-empty g c).After-len-count

pub probe_for-probed-requires-clause-fits : goal.probe_for-probed-requires-clause-fits
probe_for-probed-requires-clause-fits g c = λ m lm passed.
    let slots = positions c.self.inside.slots in
    let size : length slots ≡ length c.self.inside.slots = positions-length c.self.inside.slots in
    let few = within_list (map g.H.KeyHash.hash_of (keys_of c.deref.result.now)) slots
    (subst (λ ps. IsTable (map g.H.KeyHash.hash_of (keys_of ps)) slots) (sym c.deref.ensures.value) c.self.invariant.table.table)
    c.split-home.result.0 m (omega (arith, c.split-home.ensures.within, c.new-modulus.ensures, c.len-count.ensures, size))
    (omega (arith, lm)) passed in
    omega (
      arith,
      few,
      c.requires.fits,
      c.self.invariant.room.within,
      c.self.invariant.room.limited,
      length-hashes g.H.KeyHash.hash_of c.deref.result.now,
      ap length c.deref.ensures.value,
    )

-- The probe satisfies `Walks` for the keys of the table.
walks : (g : _) (c : After-probe_for-probed g) → Walks g.H.KeyHash.hash_of (keys_of c.self.inside.pairs.items) (positions c.self.inside.slots)
    c.args.key.now (c.probe_for-probed.new.looks - c.args.looks.now) c.probe_for-probed.result
walks g c = subst (λ ps. Walks g.H.KeyHash.hash_of (keys_of ps) (positions c.self.inside.slots) c.args.key.now
    (c.probe_for-probed.new.looks - c.args.looks.now) c.probe_for-probed.result) c.deref.ensures.value c.probe_for-probed.ensures.ends

pub returns-clause-ends : goal.returns-clause-ends
returns-clause-ends g c =
    let hash = g.H.KeyHash.hash_of in
    let slots = positions c.self.inside.slots in
    subst (λ (t : Placed g.row.V.Denot). LookUpEnds (map hash (keys_of t.store.pairs)) (keys_of t.store.pairs) t.slots
    (hash c.args.key.now) c.args.key.now c.probe_for-probed.result) c.self.view_is
    (look_up_ends hash (keys_of c.self.inside.pairs.items) slots c.self.invariant.table.table c.args.key.now c.self.inside.distinct
    (omega (arith, c.if-count-eq0.false, c.len-count.ensures, positions-length c.self.inside.slots)) c.probe_for-probed.result
    (c.probe_for-probed.new.looks - c.args.looks.now) (walks g (goal.at.returns-clause-ends g c).After-probe_for-probed))

pub returns-clause-bounded : goal.returns-clause-bounded
returns-clause-bounded g c =
    let hash = g.H.KeyHash.hash_of in
    let looks : ℕ = c.probe_for-probed.new.looks - c.args.looks.now in
    subst (λ (t : Placed g.row.V.Denot). IsBounded hash (keys_of t.store.pairs) t.slots t.store.capacity c.args.key.now looks)
    c.self.view_is
    (bounded hash (keys_of c.self.inside.pairs.items) (positions c.self.inside.slots) c.self.invariant.table.table c.args.key.now
    (vec_capacity c.self.inside.pairs) (positions-length c.self.inside.slots ∙ c.self.invariant.size) c.probe_for-probed.result looks
    (walks g (goal.at.returns-clause-bounded g c).After-probe_for-probed))
