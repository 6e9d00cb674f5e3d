-- The effect of a mutable borrow at a pointer: after the borrow ends, the last value written is at
-- the pointer, and everything else is unchanged.
use Rattle.std.specs.Prelude.{◌≡◌, ℕ, List, Option, Some, None, Result}
use Rattle.std.specs.Borrow.{LendsSoOk, MutBor, Fml}
use Rattle.ijson_value.specs.NodeValue.{node_value}
use Rattle.ijson_value.specs.Tree.{Tree}
use Rattle.ijson_value.specs.WellFormed.{WellFormed}
use Rattle.ijson_value.specs.contracts.value.Destructured as node
use Rattle.ijson_value.specs.contracts.value.IValue as value
use Rattle.ijson_value.specs.declared.value.Destructured.{Destructured}
use Rattle.ijson_extra.specs.Pointer.{resolved_with}
use Rattle.ijson_extra.specs.declared.pointer.lend.Unresolved.{Unresolved}
use Rattle.ijson_extra.specs.declared.pointer.lend.Unresolved.TheVariants.{Nothing, NoPointer}

-- After the borrow ends, the lent value is at the pointer. If no value was lent, the outer value is
-- unchanged.
-- e.g. the value at `/a/1` of `{"a":[1,2]}`, replaced by 5, leaves `{"a":[1,5]}`.
abbrev pub LendsResolved : MutBor WellFormed → List ℕ → Result (MutBor Destructured) Unresolved → Fml
LendsResolved s pointer r =
    LendsSoOk value.the_row node.the_row s r (λ n w. n.tree ≡ resolved_with s.now.tree pointer (node_value w).tree)
    (λ n. n.tree ≡ s.now.tree)

-- The result of `resolved` that each error stands for.
-- e.g. `/b` in `{"a":1}` leads nowhere, and `a` is no pointer.
abbrev pub unresolved : Unresolved → Option (Option Tree)
unresolved Nothing = Some None
unresolved (NoPointer why) = None
