-- Clauses for functions that return a mutable reference to a value one step inside another value.
use Rattle.std.specs.Prelude.{◌≡◌, Option, OnSome}
use Rattle.std.specs.Borrow.{LendsSo, MutBor, Fml}
use Rattle.ijson_value.specs.Step.{Step, tree_with}
use Rattle.ijson_value.specs.WellFormed.{WellFormed}
use Rattle.ijson_value.specs.contracts.value.IValue as value

-- Holds if writing through `r` sets the value at `step` in `s`, or if `r` is `None` and `s` is
-- unchanged.
-- e.g. 5 written at a of `{"a":1,"b":2}` leaves `{"a":5,"b":2}`; at c nothing is lent.
abbrev pub LendsInsideIf : MutBor WellFormed → Step → Option (MutBor WellFormed) → Fml
LendsInsideIf s step r =
    LendsSo value.the_row value.the_row s r (λ n w. OnSome r (n.tree ≡ tree_with s.now.tree step w.tree))
    (λ n. n ≡ s.now)
