-- Following the tokens of a pointer as written, before their escapes are decoded. A token with an
-- invalid escape does not refer to a value.
use Rattle.std.specs.Prelude.{◌≡◌, ℕ, List, [], Option, Some, None, OnSome, option_map, option_and_then, get_or}
use Rattle.std.specs.Borrow.{LendsSo, MutBor, Fml}
use Rattle.ijson_table.specs.Store.{Store}
use Rattle.ijson_value.specs.NodeValue.{node_value}
use Rattle.ijson_value.specs.Sequence.{Sequence}
use Rattle.ijson_value.specs.Tree.{Tree}
use Rattle.ijson_value.specs.Values.{array_tree, object_tree}
use Rattle.ijson_value.specs.WellFormed.{WellFormed}
use Rattle.ijson_value.specs.contracts.array.IArray as arrays
use Rattle.ijson_value.specs.contracts.object.map.IObject as objects
use Rattle.ijson_value.specs.contracts.value.Destructured as node
use Rattle.ijson_value.specs.contracts.value.IValue as value
use Rattle.ijson_value.specs.declared.value.Destructured.{Destructured}
use Rattle.ijson_extra.specs.Pointer.{meant, written_tokens, child_at, child_with, resolved, resolved_with}

-- `written_at t token` is the child of `t` that a token refers to, and `written_with t token u` is
-- `t` with this child replaced by `u`.
abbrev pub written_at : Tree → List ℕ → Option Tree
written_at t token = option_and_then (child_at t) (meant token)

abbrev pub meant_with : Tree → Option (List ℕ) → Tree → Tree
meant_with t None u = t
meant_with t (Some token) u = child_with t token u

abbrev pub written_with : Tree → List ℕ → Tree → Tree
written_with t token u = meant_with t (meant token) u

-- The first token, as written.
abbrev pub first_of : List ℕ → List ℕ
first_of left = get_or (written_tokens left) 0 []

-- The value at a pointer, or `None` if it does not exist or the text is not a pointer.
abbrev pub found_at : Tree → List ℕ → Option Tree
found_at t pointer = option_and_then (λ found. found) (resolved t pointer)

abbrev pub node_tree : Destructured → Tree
node_tree n = (node_value n).tree

abbrev pub tree_lent : Option (MutBor WellFormed) → Option Tree
tree_lent r = option_map (λ v. v.now.tree) r

-- Lends the child that a token refers to. If it does not exist, the lender is unchanged.
abbrev pub LendsNamedItem : MutBor Sequence → List ℕ → Option (MutBor WellFormed) → Fml
LendsNamedItem s token r =
    LendsSo arrays.the_row value.the_row s r (λ n w. OnSome r (array_tree n.items ≡ written_with (array_tree s.now.items) token w.tree))
    (λ n. array_tree n.items ≡ array_tree s.now.items)

abbrev pub LendsNamedMember : MutBor (Store WellFormed) → List ℕ → Option (MutBor WellFormed) → Fml
LendsNamedMember s token r =
    LendsSo objects.the_row value.the_row s r (λ n w. OnSome r (object_tree n.pairs ≡ written_with (object_tree s.now.pairs) token w.tree))
    (λ n. object_tree n.pairs ≡ object_tree s.now.pairs)

abbrev pub LendsNamed : MutBor Destructured → List ℕ → Option (MutBor WellFormed) → Fml
LendsNamed s token r =
    LendsSo node.the_row value.the_row s r (λ n w. OnSome r (node_tree n ≡ written_with (node_tree s.now) token w.tree))
    (λ n. node_tree n ≡ node_tree s.now)

-- Lends the value that a pointer refers to. If it does not exist, the lender is unchanged.
abbrev pub LendsNamedInside : MutBor Destructured → List ℕ → Option (MutBor WellFormed) → Fml
LendsNamedInside s pointer r =
    LendsSo node.the_row value.the_row s r (λ n w. OnSome r (node_tree n ≡ resolved_with (node_tree s.now) pointer w.tree))
    (λ n. node_tree n ≡ node_tree s.now)
