-- The effect of a mutable borrow at a pointer: after the borrow ends, the last value written is at
-- the pointer, and everything else is unchanged.
use Rattle.std.specs.Prelude.{◌≡◌, ℕ, List, Option, Result, Ok, Err, OnSome, ⊤}
use Rattle.std.specs.Borrow.{follows_so, GName, LendsSo, MutBor, Fml, RattleType}
use Rattle.std.specs.Option.{ghost_name_of}
use mathlib.Core.Option as maybe
use Rattle.ijson_value.specs.Tree.{Tree}
use Rattle.ijson_value.specs.WellFormed.{WellFormed}
use Rattle.ijson_value.specs.contracts.value.IValue as value
use Rattle.ijson_extra.specs.Pointer.{resolved_with}
use Rattle.ijson_extra.specs.declared.pointer.PointerError.{PointerError}

-- The ghost name of the lent reference, if a value is lent.
abbrev pub lent_name : Result (Option (MutBor WellFormed)) PointerError → maybe.Option GName
lent_name (Ok found) = ghost_name_of found
lent_name (Err why) = maybe.none

-- Holds if no value is lent, or if `P` holds.
abbrev pub IfLent : Result (Option (MutBor WellFormed)) PointerError → Type 0 → Type 0
IfLent (Ok found) P = OnSome found P
IfLent (Err why) P = ⊤

-- After the borrow ends, the lent value is at the pointer. If no value was lent, the outer value is
-- unchanged.
-- e.g. 5 written at `/a/1` of `{"a":[1,2]}` leaves `{"a":[1,5]}`, and at the empty pointer it
-- leaves 5; at `/b` nothing is lent.
abbrev pub LendsNamedValue : MutBor WellFormed → List ℕ → Result (Option (MutBor WellFormed)) PointerError → Fml
LendsNamedValue s pointer r =
    follows_so value.the_row value.the_row s.ghost_name (lent_name r)
    (λ w n. IfLent r (n.tree ≡ resolved_with s.now.tree pointer w.tree)) (λ n. n.tree ≡ s.now.tree)

-- Like `LendsNamedValue`, for a result without a reason and for any lender with a tree.
-- e.g. 5 written at `/a/1` of `{"a":[1,2]}` leaves `{"a":[1,5]}`; at `a`, which is no pointer,
-- nothing is lent.
abbrev pub LendsPointed : (R : RattleType) → (R.Denot → Tree) → MutBor R.Denot → List ℕ → Option (MutBor WellFormed) → Fml
LendsPointed R tree s pointer r =
    LendsSo R value.the_row s r (λ n w. OnSome r (tree n ≡ resolved_with (tree s.now) pointer w.tree)) (λ n. tree n ≡ tree s.now)
