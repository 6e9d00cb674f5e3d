use Rattle.std.proofs.Common.{◌≡◌, ◌++◌, map, take, drop}
use Rattle.ijson_table.specs.private.Moving.{renumbered}
use Rattle.ijson_table.proofs.index.forward.renumber.Given as goal

-- The slots before slot `slot` are renumbered, and the later slots are unchanged.
abbrev pub invariant-loop-slot : goal.invariant-loop-slot
invariant-loop-slot g l =
    let old = map g.S.StoredSlot.stands_for l.fn.slots in
    map g.S.StoredSlot.stands_for l.slots ≡ map (renumbered l.from l.to) (take l.slot old) ++ drop l.slot old
