-- The order is a partial order, for any type whose values have well-formed trees. The order is
-- `Equal` exactly if `==` holds, swapping the sides reverses the order, and `Less` is transitive.
use Rattle.std.proofs.Common.{◌≡◌, ℕ, ◌<◌, ◌≤◌, Bool, true, false, cond, ◌==◌, Option, Some, None, refl, sym, ap, subst, ◌∙◌, arith}
use mathlib.Core.Bool.{true≢false, beq}
use Rattle.std.specs.Bool.{Decides}
use Rattle.std.specs.Option.{option_map, is_some}
use Rattle.std.specs.Ordering.{nat_cmp, bool_cmp, ordering_reverse, partial_ordering_then, is_eq, MatchOrdering}
use Rattle.std.specs.Cmp.{IsPartialOrder, Equal-is, bool_cmp_total, first_so, second_so, per_alike, ranks, some_flip, some_level}
use Rattle.std.specs.Cmp.Lexicographic.{nat_list_cmp_total, texts_po}
use Rattle.std.proofs.lemmas.Bool.{lt-ltb}
use Rattle.std.proofs.lemmas.Option.{same_Some}
use Rattle.std.specs.declared.cmp.Ordering.{Ordering}
use Rattle.std.specs.declared.cmp.Ordering.TheVariants.{Less, Equal, Greater}
use Rattle.ijson_number.specs.Order.{number_cmp}
use Rattle.ijson_number.specs.laws.Ordered.{number_cmp_total}
use Rattle.ijson_value.specs.Order.{rank, tree_cmp, items_cmp}
use Rattle.ijson_value.specs.SameTest.{same, same_each}
use Rattle.ijson_value.specs.Tree.{Tree, null, boolean, number, string, array, object, Items, no_items, item}
use Rattle.ijson_value.specs.WellFormed.{WellFormed, IsWellFormed, AreWellFormed}
use Rattle.ijson_value.specs.laws.Equality.{partial_equivalence}
use Rattle.ijson_value.specs.laws.SameDecided.{decides}

-- The order of two objects: `Equal` if they are the same, otherwise `None`.
abbrev object_answer : Bool → Option Ordering
object_answer b = cond b (Some Equal) None

abbrev with_proof : (t : Tree) → IsWellFormed t → WellFormed
with_proof t d = record { tree = t; well_formed = d }

-- The test `same` is symmetric on well-formed trees.
equal_turned : (t u : Tree) → IsWellFormed t → IsWellFormed u → same t u ≡ same u t
equal_turned t u d e = (partial_equivalence (λ v. v)).symm (with_proof t d) (with_proof u e)

-- If `t` and `u` are the same, then `same t v` equals `same u v` for any third tree `v`.
equal_alike : (t u v : Tree) → IsWellFormed t → IsWellFormed u → IsWellFormed v → same t u ≡ true
    → same t v ≡ same u v
equal_alike t u v d e f =
    per_alike (partial_equivalence (λ v. v)) (with_proof t d) (with_proof u e) (with_proof v f)

-- The order of two objects equals its reverse.
object_turned : (b : Bool) → object_answer b ≡ option_map ordering_reverse (object_answer b)
object_turned true = refl
object_turned false = refl

mutual
  -- Swapping two trees reverses their order.
  cmp_turned : (t u : Tree) → IsWellFormed t → IsWellFormed u → tree_cmp t u ≡ option_map ordering_reverse (tree_cmp u t)
  cmp_turned null null d e = refl
  cmp_turned (boolean a) (boolean b) d e = ap Some (bool_cmp_total.antisymm a b)
  cmp_turned (number m) (number n) d e = ap Some (number_cmp_total.antisymm m n)
  cmp_turned (string r) (string s) d e = ap Some (nat_list_cmp_total.antisymm r s)
  cmp_turned (array ts) (array us) d e = items_turned ts us d e
  cmp_turned (object ps) (object qs) d e =
      ap object_answer (equal_turned (object ps) (object qs) d e) ∙ object_turned (same (object qs) (object ps))
  cmp_turned _ _ d e = refl

  -- Swapping two lists of elements reverses their order.
  items_turned : (ts us : Items) → AreWellFormed ts → AreWellFormed us
      → items_cmp ts us ≡ option_map ordering_reverse (items_cmp us ts)
  items_turned no_items no_items d e = refl
  items_turned no_items (item u us) d e = refl
  items_turned (item t ts) no_items d e = refl
  items_turned (item t ts) (item u us) d e =
      (λ i. partial_ordering_then (cmp_turned t u d.0 e.0 i) (items_turned ts us d.1 e.1 i))
      ∙ some_flip (tree_cmp u t) (items_cmp us ts)

-- `is_eq o` decides whether `Some o` is `Some Equal`.
some_equal : (o : Ordering) → Decides (is_eq o) (Some o ≡ Some Equal)
some_equal Less = (λ e. absurd (true≢false (sym e)), λ e. ap is_eq (same_Some Less Equal e))
some_equal Equal = (λ e. refl, λ e. refl)
some_equal Greater = (λ e. absurd (true≢false (sym e)), λ e. ap is_eq (same_Some Greater Equal e))

-- Two Booleans are equal exactly if their order is `Equal`.
boolean_equal : (a b : Bool) → Decides (beq a b) (Some (bool_cmp a b) ≡ Some Equal)
boolean_equal true true = some_equal Equal
boolean_equal true false = some_equal Greater
boolean_equal false true = some_equal Less
boolean_equal false false = some_equal Equal

object_equal : (b : Bool) → Decides b (object_answer b ≡ Some Equal)
object_equal true = (λ e. refl, λ e. refl)
object_equal false = (λ e. absurd (true≢false (sym e)), λ e. ap is_some e)

mutual
  -- Two trees are the same exactly if their order is `Equal`.
  cmp_equal : (t u : Tree) → Decides (same t u) (tree_cmp t u ≡ Some Equal)
  cmp_equal null null = some_equal Equal
  cmp_equal (boolean a) (boolean b) = boolean_equal a b
  cmp_equal (number m) (number n) = some_equal (number_cmp m n)
  cmp_equal (string r) (string s) = texts_po.matches_eq r s
  cmp_equal (array ts) (array us) = items_equal ts us
  cmp_equal (object ps) (object qs) = object_equal (same (object ps) (object qs))
  cmp_equal t u = some_equal (nat_cmp (rank t) (rank u))

  -- Two lists of elements are the same exactly if their order is `Equal`.
  items_equal : (ts us : Items) → Decides (same_each ts us) (items_cmp ts us ≡ Some Equal)
  items_equal no_items no_items = some_equal Equal
  items_equal no_items (item u us) = some_equal Less
  items_equal (item t ts) no_items = some_equal Greater
  items_equal (item t ts) (item u us) =
      some_level (same t u) (same_each ts us) (tree_cmp t u) (items_cmp ts us) (cmp_equal t u) (items_equal ts us)

-- Trees that are the same have the same order to any third tree.
mutual
  cmp_alike : (t u v : Tree) → IsWellFormed t → IsWellFormed u → IsWellFormed v → same t u ≡ true
      → tree_cmp t v ≡ tree_cmp u v
  cmp_alike null null v d e f h = refl
  cmp_alike (boolean a) (boolean b) v d e f h = ap (λ c. tree_cmp (boolean c) v) ((decides (boolean a) (boolean b)).0 h)
  cmp_alike (number m) (number n) (number l) d e f h =
      ap Some (number_cmp_total.congr m n l ((Equal-is (number_cmp m n)).0 h))
  cmp_alike (number m) (number n) v d e f h = refl
  cmp_alike (string r) (string s) v d e f h = ap (λ c. tree_cmp (string c) v) ((decides (string r) (string s)).0 h)
  cmp_alike (array ts) (array us) (array vs) d e f h = items_alike ts us vs d e f h
  cmp_alike (array ts) (array us) v d e f h = refl
  cmp_alike (object ps) (object qs) (object rs) d e f h =
      ap object_answer (equal_alike (object ps) (object qs) (object rs) d e f h)
  cmp_alike (object ps) (object qs) v d e f h = refl
  cmp_alike _ _ v d e f h = absurd (true≢false (sym h))

  items_alike : (ts us vs : Items) → AreWellFormed ts → AreWellFormed us → AreWellFormed vs
      → same_each ts us ≡ true → items_cmp ts vs ≡ items_cmp us vs
  items_alike no_items no_items vs d e f h = refl
  items_alike no_items (item u us) vs d e f h = absurd (true≢false (sym h))
  items_alike (item t ts) no_items vs d e f h = absurd (true≢false (sym h))
  items_alike (item t ts) (item u us) no_items d e f h = refl
  items_alike (item t ts) (item u us) (item v vs) d e f h =
      λ i. partial_ordering_then (cmp_alike t u v d.0 e.0 f.0 (first_so (same t u) (same_each ts us) h) i)
      (items_alike ts us vs d.1 e.1 f.1 (second_so (same t u) (same_each ts us) h) i)

-- Holds exactly if the order is `Some Less`.
abbrev IsLess : Option Ordering → Type 0
IsLess None = ⊥
IsLess (Some o) = MatchOrdering o (Unit {0}) ⊥ ⊥

apart : (o : Option Ordering) → o ≡ Some Less → IsLess o
apart o e = subst IsLess (sym e) tt

nat_lesser : (m n : ℕ) → Some (nat_cmp m n) ≡ Some Less → m < n
nat_lesser m n = elim (nat_cmp m n) as (λ o. MatchOrdering o (m < n) (m ≡ n) (n < m) → Some o ≡ Some Less → m < n) [
  | Less ↦ λ r e. r
  | Equal ↦ λ r e. absurd (apart (Some Equal) e)
  | Greater ↦ λ r e. absurd (apart (Some Greater) e)
] (ranks m n)

pub nat_less : (m n : ℕ) → m < n → Some (nat_cmp m n) ≡ Some Less
nat_less m n h = ap (λ b. Some (cond b Less (cond (m == n) Equal Greater))) (lt-ltb m n h)

itself : (n : ℕ) → n ≤ n
itself n = omega arith

not_below_itself : (n : ℕ) → n < n → ⊥
not_below_itself n h = omega arith

no_later : (m n : ℕ) → Some (nat_cmp m n) ≡ Some Less → m ≤ n
no_later m n h = omega (arith, nat_lesser m n h)

-- If `t` is less than `u`, then the kind of `t` is the kind of `u` or an earlier kind.
below : (t u : Tree) → tree_cmp t u ≡ Some Less → rank t ≤ rank u
below null null h = itself 0
below (boolean a) (boolean b) h = itself 1
below (number m) (number n) h = itself 2
below (string r) (string s) h = itself 3
below (array ts) (array us) h = itself 4
below (object ps) (object qs) h = itself 5
below t u h = no_later (rank t) (rank u) h

-- If the kind of `t` is earlier than the kind of `u`, then `t` is less than `u`.
earlier : (t u : Tree) → rank t < rank u → tree_cmp t u ≡ Some Less
earlier null null h = absurd (not_below_itself 0 h)
earlier (boolean a) (boolean b) h = absurd (not_below_itself 1 h)
earlier (number m) (number n) h = absurd (not_below_itself 2 h)
earlier (string r) (string s) h = absurd (not_below_itself 3 h)
earlier (array ts) (array us) h = absurd (not_below_itself 4 h)
earlier (object ps) (object qs) h = absurd (not_below_itself 5 h)
earlier t u h = nat_less (rank t) (rank u) h

-- If the kind of `t` is earlier than the kind of `u`, and `u` is less than `v`, then `t` is less
-- than `v`.
earlier_then : (t u v : Tree) → Some (nat_cmp (rank t) (rank u)) ≡ Some Less → tree_cmp u v ≡ Some Less → tree_cmp t v ≡ Some Less
earlier_then t u v h g = earlier t v (omega (arith, nat_lesser (rank t) (rank u) h, below u v g))

not_less : (b : Bool) → object_answer b ≡ Some Less → ⊥
not_less true e = apart (Some Equal) e
not_less false e = apart None e

-- `t`, `u` and `v` are the first elements of three arrays. `p`, `q` and `s` are the orders of the
-- remaining elements of the first and second array, the second and third, and the first and third.
module _ (t u v : Tree) (d : IsWellFormed t) (e : IsWellFormed u) (f : IsWellFormed v) (p q s : Option Ordering) where
  -- If `u` and `v` are `Equal`, then `t` has the same order to `u` and to `v`.
  alike_right : tree_cmp u v ≡ Some Equal → tree_cmp t v ≡ tree_cmp t u
  alike_right b =
      cmp_turned t v d f ∙ ap (option_map ordering_reverse) (sym (cmp_alike u v t e f d ((cmp_equal u v).1 b)))
      ∙ sym (cmp_turned t u d e)

  -- If `Less` is transitive for the first elements and for the remaining elements, then `Less` is
  -- transitive for the arrays.
  chain : (tree_cmp t u ≡ Some Less → tree_cmp u v ≡ Some Less → tree_cmp t v ≡ Some Less)
      → (p ≡ Some Less → q ≡ Some Less → s ≡ Some Less) → (k m : Option Ordering)
      → tree_cmp t u ≡ k → tree_cmp u v ≡ m → partial_ordering_then k p ≡ Some Less
      → partial_ordering_then m q ≡ Some Less → partial_ordering_then (tree_cmp t v) s ≡ Some Less
  chain heads rests None m a b h g = absurd (apart None h)
  chain heads rests (Some Greater) m a b h g = absurd (apart (Some Greater) h)
  chain heads rests (Some Less) None a b h g = absurd (apart None g)
  chain heads rests (Some Less) (Some Greater) a b h g = absurd (apart (Some Greater) g)
  chain heads rests (Some Less) (Some Less) a b h g = ap (λ k. partial_ordering_then k s) (heads a b)
  chain heads rests (Some Less) (Some Equal) a b h g = ap (λ k. partial_ordering_then k s) (alike_right b ∙ a)
  chain heads rests (Some Equal) None a b h g = absurd (apart None g)
  chain heads rests (Some Equal) (Some Greater) a b h g = absurd (apart (Some Greater) g)
  chain heads rests (Some Equal) (Some Less) a b h g =
      ap (λ k. partial_ordering_then k s) (cmp_alike t u v d e f ((cmp_equal t u).1 a) ∙ b)
  chain heads rests (Some Equal) (Some Equal) a b h g =
      ap (λ k. partial_ordering_then k s) (cmp_alike t u v d e f ((cmp_equal t u).1 a) ∙ b) ∙ rests h g

mutual
  -- If `t` is less than `u` and `u` is less than `v`, then `t` is less than `v`.
  cmp_less : (t u v : Tree) → IsWellFormed t → IsWellFormed u → IsWellFormed v → tree_cmp t u ≡ Some Less
      → tree_cmp u v ≡ Some Less → tree_cmp t v ≡ Some Less
  cmp_less null null v d e f h g = g
  cmp_less (boolean a) (boolean b) (boolean c) d e f h g =
      ap Some (bool_cmp_total.trans a b c (same_Some (bool_cmp a b) Less h) (same_Some (bool_cmp b c) Less g))
  cmp_less (boolean a) (boolean b) v d e f h g = g
  cmp_less (number l) (number m) (number n) d e f h g =
      ap Some (number_cmp_total.trans l m n (same_Some (number_cmp l m) Less h) (same_Some (number_cmp m n) Less g))
  cmp_less (number l) (number m) v d e f h g = g
  cmp_less (string l) (string m) (string n) d e f h g = texts_po.trans l m n h g
  cmp_less (string l) (string m) v d e f h g = g
  cmp_less (array ts) (array us) (array vs) d e f h g = items_less ts us vs d e f h g
  cmp_less (array ts) (array us) v d e f h g = g
  cmp_less (object ps) (object qs) v d e f h g = absurd (not_less (same (object ps) (object qs)) h)
  cmp_less t u v d e f h g = earlier_then t u v h g

  items_less : (ts us vs : Items) → AreWellFormed ts → AreWellFormed us → AreWellFormed vs
      → items_cmp ts us ≡ Some Less → items_cmp us vs ≡ Some Less → items_cmp ts vs ≡ Some Less
  items_less no_items no_items vs d e f h g = absurd (apart (Some Equal) h)
  items_less no_items (item u us) no_items d e f h g = absurd (apart (Some Greater) g)
  items_less no_items (item u us) (item v vs) d e f h g = refl
  items_less (item t ts) no_items vs d e f h g = absurd (apart (Some Greater) h)
  items_less (item t ts) (item u us) no_items d e f h g = absurd (apart (Some Greater) g)
  items_less (item t ts) (item u us) (item v vs) d e f h g =
      chain t u v d.0 e.0 f.0 (items_cmp ts us) (items_cmp us vs) (items_cmp ts vs)
      (cmp_less t u v d.0 e.0 f.0) (items_less ts us vs d.1 e.1 f.1) (tree_cmp t u) (tree_cmp u v) refl refl h g

module _ {K : Type 0} (f : K → WellFormed) where
  -- The order is a partial order whose equality is `same`.
  pub partial_order : IsPartialOrder (λ x y. same (f x).tree (f y).tree) (λ x y. tree_cmp (f x).tree (f y).tree)
  partial_order = record {
    antisymm = λ x y. cmp_turned (f x).tree (f y).tree (f x).well_formed (f y).well_formed;
    trans = λ x y z. cmp_less (f x).tree (f y).tree (f z).tree (f x).well_formed (f y).well_formed (f z).well_formed;
    matches_eq = λ x y. cmp_equal (f x).tree (f y).tree;
    congr = λ x y z. cmp_alike (f x).tree (f y).tree (f z).tree (f x).well_formed (f y).well_formed (f z).well_formed;
  }
