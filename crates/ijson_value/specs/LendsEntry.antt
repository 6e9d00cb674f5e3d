-- Clauses for functions that return a mutable reference to the value of an `Entry`.
use Rattle.std.specs.Prelude.{◌≡◌, [], Result}
use Rattle.std.specs.Borrow.{follows, RestsIfErr, MutBor, Fml}
use mir.Syntax.{named}
use Rattle.ijson_table.specs.Store.{Store}
use Rattle.ijson_value.specs.EntryParts.{entry_object}
use Rattle.ijson_value.specs.WellFormed.{WellFormed}
use Rattle.ijson_value.specs.WithEntry.{with_entry, with_entry_value}
use Rattle.ijson_value.specs.contracts.object.map.IObject as object
use Rattle.ijson_value.specs.contracts.object.entry.OccupiedEntry as occupied
use Rattle.ijson_value.specs.contracts.value.IValue as value
use Rattle.ijson_value.specs.declared.object.entry.Entry.{Entry}
use Rattle.ijson_value.specs.declared.object.entry.OccupiedEntry.{OccupiedEntry}

-- Holds if writing through `r` sets the value of the key in the object of `e`. The borrow consumes
-- the `Entry` `e`.
abbrev pub EntryLends : Entry → MutBor WellFormed → Fml
EntryLends e r = follows object.the_row value.the_row (entry_object e).ghost_name r.ghost_name (with_entry e)

-- Holds if writing through `r` sets the value of the occupied entry `o`, which remains usable.
abbrev pub OccupiedLends : MutBor OccupiedEntry → MutBor WellFormed → Fml
OccupiedLends o r =
    follows (occupied.the_row (record { mir = named 1; lft = [] })) value.the_row
    o.ghost_name r.ghost_name (with_entry_value o.now)

-- Holds if `r` is an `Entry` of the object `s`, or if `r` is an error and `s` is unchanged.
-- e.g. 7 written through `into_mut` of b's entry in a:1, b:2 leaves a:1, b:7.
abbrev pub RestsIfNoEntry : {E : Type 0} → MutBor (Store WellFormed) → Result Entry E → Fml
RestsIfNoEntry s r = RestsIfErr object.the_row s (λ e. (entry_object e).ghost_name) r (λ o. o ≡ s.now)
