-- Clauses for functions that return a mutable reference to all elements of an array.
use Rattle.std.specs.Prelude.{List, ◌++◌, length, take, drop}
use Rattle.std.specs.Borrow.{Lends, MutBor, Array, Fml, follows}
use Rattle.std.specs.Slice.Iter.{iter_mut_name}
use Rattle.std.specs.declared.slice.IterMut.{IterMut}
use Rattle.ijson_value.specs.WellFormed.{WellFormed}
use Rattle.ijson_value.specs.Sequence.{Sequence}
use Rattle.ijson_value.specs.contracts.array.IArray as arrays
use Rattle.ijson_value.specs.contracts.value.IValue as value

-- The array with its first elements replaced by `ws`. The length and the capacity are unchanged: a
-- longer list is truncated, and a shorter list keeps the old elements after it.
abbrev pub with_items : Sequence → List WellFormed → Sequence
with_items a ws = record { items = take (length a.items) (ws ++ drop (length ws) a.items); capacity = a.capacity }

-- Holds if writing through the slice `r` sets the elements of `s` and changes nothing else.
abbrev pub LendsItems : MutBor Sequence → MutBor (List WellFormed) → Fml
LendsItems s r = Lends arrays.the_row (Array value.the_row 0) s r (with_items s.now)

-- Holds if writing through the references that `it` yields sets the elements of `s` and changes
-- nothing else.
-- e.g. two elements swapped in the slice of `[1,2]` leave `[2,1]`.
abbrev pub LendsItemsInTurn : MutBor Sequence → IterMut WellFormed → Fml
LendsItemsInTurn s it = follows arrays.the_row (Array value.the_row 0) s.ghost_name (iter_mut_name it) (with_items s.now)
