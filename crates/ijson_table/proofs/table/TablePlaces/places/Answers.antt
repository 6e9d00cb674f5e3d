use Rattle.std.proofs.Common.{map, subst}
use Rattle.ijson_table.specs.Placed.{Placed}
use Rattle.ijson_table.specs.Slots.{IsTable}
use Rattle.ijson_table.specs.Store.{keys_of}
use Rattle.ijson_table.proofs.table.TablePlaces.places.Goals as goal

pub returns-clause-table : goal.returns-clause-table
returns-clause-table g c =
    subst (λ (t : Placed g.row.V.Denot). IsTable (map g.H.KeyHash.hash_of (keys_of t.store.pairs)) t.slots) c.self.view_is
    c.self.invariant.table.table
