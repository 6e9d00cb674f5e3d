-- Clauses for functions that return a mutable reference to an element of an array.
use Rattle.std.specs.Prelude.{ℕ, Option, set}
use Rattle.std.specs.Borrow.{Lends, LendsIf, MutBor, Fml}
use Rattle.ijson_value.specs.WellFormed.{WellFormed}
use Rattle.ijson_value.specs.Sequence.{Sequence}
use Rattle.ijson_value.specs.contracts.array.IArray as arrays
use Rattle.ijson_value.specs.contracts.value.IValue as value

-- The array with `w` as the element at index `i`, and with the same capacity.
abbrev pub with_item : Sequence → ℕ → WellFormed → Sequence
with_item a i w = record { items = set a.items i w; capacity = a.capacity }

-- Holds if writing through `r` sets the element at index `i` of `s` and changes nothing else.
abbrev pub LendsItem : MutBor Sequence → ℕ → MutBor WellFormed → Fml
LendsItem s i r = Lends arrays.the_row value.the_row s r (with_item s.now i)

-- Holds if writing through `r` sets the element at index `i` of `s`, or if `r` is `None` and `s` is
-- unchanged.
-- e.g. `true` written at 1 of `[null,false]` leaves `[null,true]`.
abbrev pub LendsItemIf : MutBor Sequence → ℕ → Option (MutBor WellFormed) → Fml
LendsItemIf s i r = LendsIf arrays.the_row value.the_row s r (with_item s.now i) s.now
