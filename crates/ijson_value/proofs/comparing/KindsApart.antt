-- Values of different kinds are ordered like their kinds.
use Rattle.std.proofs.Common.{◌≡◌, ◌≢◌, ℕ, List, Bool, Some, refl, sym, ap, subst, ◌∙◌}
use Rattle.std.specs.declared.cmp.Ordering.{Ordering}
use Rattle.ijson_number.specs.Num.{Num}
use Rattle.ijson_table.specs.Store.{Store}
use Rattle.ijson_value.specs.Kind.{kind_of}
use Rattle.ijson_value.specs.NodeValue.{node_value}
use Rattle.ijson_value.specs.Order.{tree_cmp}
use Rattle.ijson_value.specs.Sequence.{Sequence}
use Rattle.ijson_value.specs.Tree.{Tree, null, boolean, number, string, array, object}
use Rattle.ijson_value.specs.WellFormed.{WellFormed}
use Rattle.ijson_value.specs.contracts.value.ValueTypeOrd.TheImpl.{ghosts}
use Rattle.ijson_value.specs.declared.value.Destructured.{Destructured}
use Rattle.ijson_value.specs.declared.value.Destructured.TheVariants as node
use Rattle.ijson_value.specs.declared.value.ValueType.{ValueType}
use Rattle.ijson_value.specs.declared.value.ValueType.TheVariants as kind

-- Trees of different kinds are ordered like their kinds.
by_kinds : (t u : Tree) → kind_of t ≢ kind_of u → Some (ghosts.cmp (kind_of t) (kind_of u)) ≡ tree_cmp t u
by_kinds null null ne = absurd (ne refl)
by_kinds (boolean a) (boolean b) ne = absurd (ne refl)
by_kinds (number m) (number n) ne = absurd (ne refl)
by_kinds (string r) (string s) ne = absurd (ne refl)
by_kinds (array ts) (array us) ne = absurd (ne refl)
by_kinds (object ps) (object qs) ne = absurd (ne refl)
by_kinds t u ne = refl

-- If two trees have different kinds `k` and `l`, and `o` is the order of `k` and `l`, then `o` is
-- the order of the trees.
pub kinds_cmp : (t u : Tree) (k l : ValueType) (o : Ordering) → k ≡ kind_of t → l ≡ kind_of u → o ≡ ghosts.cmp k l
    → kind_of t ≢ kind_of u → Some o ≡ tree_cmp t u
kinds_cmp t u k l o k_is l_is o_is ne = ap Some o_is ∙ (λ i. Some (ghosts.cmp (k_is i) (l_is i))) ∙ by_kinds t u ne

-- The kind of a value with the content `n`.
abbrev kind_in : Destructured → ValueType
kind_in n = kind_of (node_value n).tree

-- Holds if the content is not of the given kind.
abbrev IsNot : ValueType → Destructured → Type 0
IsNot kind.Null n = n ≡ node.Null → ⊥
IsNot kind.Bool n = (x : Bool) → n ≡ node.Bool x → ⊥
IsNot kind.Number n = (x : Num) → n ≡ node.Number x → ⊥
IsNot kind.String n = (x : List ℕ) → n ≡ node.String x → ⊥
IsNot kind.Array n = (x : Sequence) → n ≡ node.Array x → ⊥
IsNot kind.Object n = (x : Store WellFormed) → n ≡ node.Object x → ⊥

-- `IsNot` does not hold for the kind of the content itself.
is_one : (n : Destructured) → IsNot (kind_in n) n → ⊥
is_one node.Null never = never refl
is_one (node.Bool x) never = never x refl
is_one (node.Number x) never = never x refl
is_one (node.String x) never = never x refl
is_one (node.Array x) never = never x refl
is_one (node.Object x) never = never x refl

-- If the content of `v` is of the same kind as `one`, and the content of `w` is not, then `v` and
-- `w` have different kinds.
pub other_kind : {n one : Destructured} (m : Destructured) {v w : WellFormed} → node_value n ≡ v → node_value m ≡ w → n ≡ one
    → IsNot (kind_in one) m → kind_of v.tree ≢ kind_of w.tree
other_kind m v_is w_is is never e =
    let same = sym (ap kind_in is) ∙ ap (λ x. kind_of x.tree) v_is ∙ e ∙ sym (ap (λ x. kind_of x.tree) w_is) in
    is_one m (subst (λ l. IsNot l m) same never)
