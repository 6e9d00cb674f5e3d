-- Clauses for functions that return a mutable reference to the value of a key, together with the
-- key.
use Rattle.std.specs.Prelude.{ℕ, List, Option, Some, None}
use Rattle.std.specs.Borrow.{follows_if, GName, Bor, MutBor, Fml}
use mathlib.Core.Option as maybe
use Rattle.ijson_table.specs.Store.{Store}
use Rattle.ijson_value.specs.LendsAtKey.{with_key}
use Rattle.ijson_value.specs.WellFormed.{WellFormed}
use Rattle.ijson_value.specs.contracts.object.map.IObject as object
use Rattle.ijson_value.specs.contracts.value.IValue as value

-- The ghost name of the mutable reference to the value, or `none` for `None`.
abbrev pub pair_name : Option (Bor (List ℕ) × MutBor WellFormed) → maybe.Option GName
pair_name (Some pair) = maybe.some pair.1.ghost_name
pair_name None = maybe.none

-- Holds if writing through `r` sets the value of `key` in `s`, or if `r` is `None` and `s` is
-- unchanged.
-- e.g. 5 written in the entry of b of a:1, b:2 leaves a:1, b:5; at c nothing is lent.
abbrev pub LendsPairIf : MutBor (Store WellFormed) → List ℕ → Option (Bor (List ℕ) × MutBor WellFormed) → Fml
LendsPairIf s key r = follows_if object.the_row value.the_row s.ghost_name (pair_name r) (with_key s.now key) s.now
