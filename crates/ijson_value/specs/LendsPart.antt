-- Clauses for functions that return a mutable reference to the content of a value, if the value is
-- of the right kind.
use Rattle.std.specs.Prelude.{ℕ, Bool, List, Option}
use Rattle.std.specs.Borrow.{Lends, LendsIf, MutBor, Fml, bool}
use Rattle.ijson_number.specs.Num.{Num}
use Rattle.ijson_number.specs.contracts.repr.INumber as numbers
use Rattle.ijson_string.specs.contracts.text.IString as strings
use Rattle.ijson_table.specs.Store.{Store}
use Rattle.ijson_value.specs.NodeValue.{node_value}
use Rattle.ijson_value.specs.Sequence.{Sequence}
use Rattle.ijson_value.specs.Values.{boolean_value, number_value, string_value, array_value, object_value}
use Rattle.ijson_value.specs.WellFormed.{WellFormed}
use Rattle.ijson_value.specs.contracts.array.IArray as arrays
use Rattle.ijson_value.specs.contracts.object.map.IObject as objects
use Rattle.ijson_value.specs.contracts.value.Destructured as node
use Rattle.ijson_value.specs.contracts.value.IValue as value
use Rattle.ijson_value.specs.declared.value.Destructured.{Destructured}

-- Holds if writing through `r` sets the Boolean in the value `s`, or if `r` is `None` and `s` is
-- unchanged.
abbrev pub LendsBool : MutBor WellFormed → Option (MutBor Bool) → Fml
LendsBool s r = LendsIf value.the_row bool s r boolean_value s.now

-- Holds if writing through `r` sets the number in the value `s`, or if `r` is `None` and `s` is
-- unchanged.
abbrev pub LendsNumber : MutBor WellFormed → Option (MutBor Num) → Fml
LendsNumber s r = LendsIf value.the_row numbers.the_row s r number_value s.now

-- Holds if writing through `r` sets the string in the value `s`, or if `r` is `None` and `s` is
-- unchanged.
abbrev pub LendsString : MutBor WellFormed → Option (MutBor (List ℕ)) → Fml
LendsString s r = LendsIf value.the_row strings.the_row s r string_value s.now

-- Holds if writing through `r` sets the array in the value `s`, or if `r` is `None` and `s` is
-- unchanged.
abbrev pub LendsArray : MutBor WellFormed → Option (MutBor Sequence) → Fml
LendsArray s r = LendsIf value.the_row arrays.the_row s r (λ a. array_value a.items) s.now

-- Holds if writing through `r` sets the object in the value `s`, or if `r` is `None` and `s` is
-- unchanged.
abbrev pub LendsObject : MutBor WellFormed → Option (MutBor (Store WellFormed)) → Fml
LendsObject s r = LendsIf value.the_row objects.the_row s r object_value s.now

-- Holds if writing through `r` sets the content of the value `s`. Every value has content, so `r`
-- is not an `Option`.
-- e.g. 3 written through `as_number_mut` of `2` leaves `3`; `"x"` lends nothing and stays.
abbrev pub LendsOpened : MutBor WellFormed → MutBor Destructured → Fml
LendsOpened s r = Lends value.the_row node.the_row s r node_value
