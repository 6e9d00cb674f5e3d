-- Clauses for functions that return a mutable reference to the elements of the list of an array.
use Rattle.std.specs.Prelude.{List, Option, Some, None}
use Rattle.std.specs.Borrow.{Lends, MutBor, Array, RattleType, Fml}
use Rattle.std.specs.Vec.{with_items}
use Rattle.std.specs.contracts.alloc.Global as global
use Rattle.std.specs.contracts.boxed.Box as boxed
use Rattle.std.specs.contracts.impls.GlobalAllocator.TheImpl.{ghosts}
use Rattle.std.specs.contracts.option.Option as option
use Rattle.std.specs.contracts.vec.Vec as vec
use Rattle.std.specs.declared.alloc.Global.{Global}
use Rattle.std.specs.declared.boxed.Box.{Box}
use Rattle.std.specs.declared.vec.Vec.{Vec}
use Rattle.ijson_value.specs.WellFormed.{WellFormed}
use Rattle.ijson_value.specs.contracts.value.IValue as value

-- The pointer of an array to its list, or `None` if nothing is allocated.
abbrev pub ListPlace : Type 0
ListPlace = Option (Box (Vec WellFormed Global) Global)

-- The type of the pointer in the logic.
abbrev pub place_row : RattleType
place_row = option.the_row (boxed.the_row (vec.the_row value.the_row global.the_row ghosts) global.the_row ghosts)

-- The pointer with `ws` as the elements of the list, or `None` if nothing is allocated.
abbrev pub with_list_items : ListPlace → List WellFormed → ListPlace
with_list_items None ws = None
with_list_items (Some list) ws = Some (record list { value = with_items list.value ws })

-- Holds if writing through the slice `r` sets the elements of the list at `s`.
abbrev pub LendsListItems : MutBor ListPlace → MutBor (List WellFormed) → Fml
LendsListItems s r = Lends place_row (Array value.the_row 0) s r (with_list_items s.now)

-- Holds if writing through the slice `r`, which is empty, leaves the pointer `s` unchanged.
abbrev pub LendsNoItems : MutBor ListPlace → MutBor (List WellFormed) → Fml
LendsNoItems s r = Lends place_row (Array value.the_row 0) s r (λ _. s.now)
