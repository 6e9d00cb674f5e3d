use Rattle.std.proofs.Common.{◌≡◌, ℕ, ◌+◌, ◌-◌, ◌<◌, length, get_or, map, arith, subst}
use Rattle.ijson_table.specs.private.Insertion.{IsTableOf}
use Rattle.ijson_table.specs.private.Moving.{renumbered}
use Rattle.ijson_table.proofs.probing.KeyHashes.{hashes, length-hashes}
use Rattle.ijson_table.proofs.shifting.MovedIndices.{last_removed, length-relocated, moved_but}
use Rattle.ijson_table.proofs.shifting.Removal.{last_out}
use Rattle.ijson_table.proofs.index.slots.Slots.shift_remove.Goals as goal

pub returns-clause-table : goal.returns-clause-table
returns-clause-table g c =
    let was = hashes g.H.KeyHash.hash_of c.args.pairs.now in
    let at : ℕ = c.args.position in
    let last : ℕ = length c.args.pairs.now - 1 in
    let count = length-hashes g.H.KeyHash.hash_of c.args.pairs.now in
    let within : at < length was = omega (arith, c.requires.within, count) in
    let end : last + 1 ≡ length was = omega (arith, c.requires.within, count) in
    let size = length-relocated was at last (get_or was at 0) within (omega (arith, end)) in
    rw (c.renumber.ensures)
    (subst (λ hs. IsTableOf hs (map (renumbered at last) c.remove_index.new.slots)) (last_removed was at last (get_or was at 0) within (omega (arith, end)) end)
    (last_out _ last _ (moved_but was at last within (omega (arith, end)) _ c.remove_index.ensures.left) (omega (arith, end, size))))
