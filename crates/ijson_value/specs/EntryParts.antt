-- The parts of an `Entry`: the borrowed object, the key, and the value of the key.
use Rattle.std.specs.Prelude.{ℕ, List, [], Option, None, get_or, slice_get, option_map}
use Rattle.std.specs.Borrow.{MutBor}
use Rattle.ijson_table.specs.Store.{Store, keys_of}
use Rattle.ijson_value.specs.WellFormed.{WellFormed}
use Rattle.ijson_value.specs.declared.object.entry.Entry.{Entry}
use Rattle.ijson_value.specs.declared.object.entry.Entry.TheVariants.{Occupied, Vacant}

-- The reference to the object that the `Entry` borrows.
abbrev pub entry_object : Entry → MutBor (Store WellFormed)
entry_object (Occupied o) = o.object
entry_object (Vacant v) = v.object

-- The key of the `Entry`. The object lacks this key if the `Entry` is vacant.
abbrev pub entry_key : Entry → List ℕ
entry_key (Occupied o) = get_or (keys_of o.object.now.pairs) o.index []
entry_key (Vacant v) = v.key

-- The value of the key, or `None` if the `Entry` is vacant.
-- e.g. of the entry of b in a:1, b:2: that object, b, and 2; of c: that object, c, and none.
abbrev pub entry_value : Entry → Option WellFormed
entry_value (Occupied o) = option_map (λ pair. pair.1) (slice_get o.object.now.pairs o.index)
entry_value (Vacant v) = None
