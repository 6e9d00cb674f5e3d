-- Clauses for functions that return a mutable reference to a value one step inside a
-- `Destructured`. `specs/laws/Steps.antt` proves that the tree after a write is `tree_with`.
use Rattle.std.specs.Prelude.{◌≡◌, ℕ, List, Option, Result}
use Rattle.std.specs.Borrow.{Lends, LendsIf, LendsSoOk, MutBor, Fml}
use Rattle.ijson_table.specs.Store.{Store}
use Rattle.ijson_value.specs.LendsAtKey.{with_key, IsPut}
use Rattle.ijson_value.specs.LendsItem.{with_item}
use Rattle.ijson_value.specs.Step.{Step, by_position, by_key}
use Rattle.ijson_value.specs.WellFormed.{WellFormed}
use Rattle.ijson_value.specs.contracts.value.Destructured as node
use Rattle.ijson_value.specs.contracts.value.IValue as value
use Rattle.ijson_value.specs.declared.value.Destructured.{Destructured}
use Rattle.ijson_value.specs.declared.value.Destructured.TheVariants.{Array, Object}

-- The content with `w` as the value at the step, or unchanged if no value exists there.
abbrev pub with_step : Destructured → Step → WellFormed → Destructured
with_step (Array a) (by_position i) w = Array (with_item a i w)
with_step (Object o) (by_key key) w = Object (with_key o key w)
with_step n _ w = n

-- Holds if writing through `r` sets the value at `step` in `s` and changes nothing else.
abbrev pub LendsStep : MutBor Destructured → Step → MutBor WellFormed → Fml
LendsStep s step r = Lends node.the_row value.the_row s r (with_step s.now step)

-- Holds if writing through `r` sets the value at `step` in `s`, or if `r` is `None` and `s` is
-- unchanged.
-- e.g. 5 written at a of `{"a":1,"b":2}` leaves `{"a":5,"b":2}`.
abbrev pub LendsStepIf : MutBor Destructured → Step → Option (MutBor WellFormed) → Fml
LendsStepIf s step r = LendsIf node.the_row value.the_row s r (with_step s.now step) s.now

-- Holds if the content is an object that satisfies `P`.
abbrev pub InObject : (Store WellFormed → Type 0) → Destructured → Type 0
InObject P (Object o) = P o
InObject P _ = ⊥

-- Holds if `s` is an object and writing through `r` puts the value at `key`, or if `r` is an error
-- and `s` is unchanged. A missing key is added.
-- e.g. 5 written at the missing key c of that object leaves `{"a":1,"b":2,"c":5}`.
abbrev pub LendsPutInside : {E : Type 0} → MutBor Destructured → List ℕ → Result (MutBor WellFormed) E → Fml
LendsPutInside s key r =
    LendsSoOk node.the_row value.the_row s r
    (λ n w. InObject (λ old. InObject (λ new. IsPut old key w new) n) s.now)
    (λ n. InObject (λ old. InObject (λ new. (new.pairs ≡ old.pairs) × (new.capacity ≡ old.capacity)) n) s.now)
