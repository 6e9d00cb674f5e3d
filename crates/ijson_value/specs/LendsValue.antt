-- Clauses for functions that return a mutable reference to the value at an index of an object.
use Rattle.std.specs.Prelude.{ℕ, Option}
use Rattle.std.specs.Borrow.{Lends, LendsIf, MutBor, Fml}
use Rattle.ijson_table.specs.Store.{Store}
use Rattle.ijson_table.specs.StoreWithValue.{store_with_value}
use Rattle.ijson_value.specs.WellFormed.{WellFormed}
use Rattle.ijson_value.specs.contracts.object.map.IObject as object
use Rattle.ijson_value.specs.contracts.value.IValue as value

-- Holds if writing through `r` sets the value at index `i` of `s` and changes nothing else.
abbrev pub LendsValue : MutBor (Store WellFormed) → ℕ → MutBor WellFormed → Fml
LendsValue s i r = Lends object.the_row value.the_row s r (store_with_value s.now i)

-- Holds if writing through `r` sets the value at index `i` of `s`, or if `r` is `None` and `s` is
-- unchanged.
-- e.g. 5 written at index 0 of a:1, b:2 leaves a:5, b:2; at index 2 nothing is lent.
abbrev pub LendsValueIf : MutBor (Store WellFormed) → ℕ → Option (MutBor WellFormed) → Fml
LendsValueIf s i r = LendsIf object.the_row value.the_row s r (store_with_value s.now i) s.now
