-- A tree with an integer value is read as this integer if it fits the type, and otherwise rejected
-- with `OutOfRange`.
use Rattle.std.proofs.Common.{◌≡◌, ◌⊎◌, inr, ◌<◌, ◌≤◌, ◌^◌, ℕ, refl, sym, subst, ◌∙◌, arith}
use mir.Val.{hbits}
use Rattle.std.specs.Prelude.{ℤ, pos, FitsSigned}
use Rattle.std.specs.Cmp.{tied_back}
use Rattle.std.specs.Int.{Width, w32, w64, cast_signed, cast_unsigned}
use Rattle.std.proofs.lemmas.Int.{to_z-of_z}
use Rattle.std.specs.declared.cmp.Ordering.TheVariants.{Equal}
use Rattle.ijson_number.specs.Decimal.{Decimal}
use Rattle.ijson_number.specs.Integers.{integer, HasValue}
use Rattle.ijson_number.specs.Order.{number_cmp}
use Rattle.ijson_number.specs.laws.Ordered.{number_cmp_total, tests_equal}
use Rattle.ijson_value.specs.Integers.{HasInteger, IsIntegerTree}
use Rattle.ijson_value.specs.Same.{Same}
use Rattle.ijson_value.specs.Tree.{Tree, number}
use Rattle.ijson_value.specs.WellFormed.{WellFormed, IsWellFormed}
use Rattle.ijson_value.proofs.Walks.{one_integer}
use Rattle.ijson_convert.specs.IntegerTree.{integer_number, integer_tree}
use Rattle.ijson_convert.specs.Refused.{SignedRefused, UnsignedRefused}
use Rattle.ijson_convert.specs.private.NoInteger.{IsNoInteger}
use Rattle.ijson_convert.specs.declared.convert_error.ConvertError.{ConvertError}
use Rattle.ijson_convert.specs.declared.convert_error.ConvertError.TheVariants.{OutOfRange, Memory}
use Rattle.ijson_convert.specs.laws.Whole.{widened}
use Rattle.ijson_number.specs.laws.IntegerValues.{integer_value}
use Rattle.ijson_convert.specs.laws.Integers.{signed_is, unsigned_is}

-- Two numbers with the same integer value are equal.
pub has_same : (a n : Decimal) (z : ℤ) → HasValue a z → HasValue n z → number_cmp a n ≡ Equal
has_same a n z h k =
    number_cmp_total.congr a (integer z) n (tests_equal _ h) ∙ tied_back number_cmp_total n (integer z) (tests_equal _ k)

-- If `z` fits an `i64`, and a tree is the number `z` without a decimal point, the tree is
-- `integer_tree z`.
signed_made : (z : ℤ) (t : Tree) → IsWellFormed t → FitsSigned w64 z → IsIntegerTree t z → t ≡ integer_tree z
signed_made z (number n) w i h = signed_is (record { decimal = n; is_num = w }) z i h
signed_made z _ w i h = absurd h

pub signed_tree : (width : Width) (z : ℤ) (v : WellFormed) → 2 ^ hbits width ≤ 2 ^ hbits w64 → FitsSigned width z
    → IsIntegerTree v.tree (cast_signed width (cast_unsigned width z)) → v.tree ≡ integer_tree z
signed_tree width z v less i h =
    signed_made z v.tree v.well_formed (widened width w64 less z i) (subst (IsIntegerTree v.tree) (to_z-of_z width z i) h)

unsigned_made : (m : ℕ) (t : Tree) → IsWellFormed t → m < 2 ^ 64 → IsIntegerTree t (pos m) → t ≡ integer_tree (pos m)
unsigned_made m (number n) w i h = unsigned_is (record { decimal = n; is_num = w }) m i h
unsigned_made m _ w i h = absurd h

pub unsigned_tree : (m : ℕ) (v : WellFormed) → m < 2 ^ 64 → IsIntegerTree v.tree (pos m) → v.tree ≡ integer_tree (pos m)
unsigned_tree m v i h = unsigned_made m v.tree v.well_formed i h

-- If the value of a tree is the integer `z`, the tree means the same as `integer_tree z`.
integer_same : (z : ℤ) (t : Tree) → HasInteger t z → Same (integer_tree z) t
integer_same z (number n) h = has_same (integer_number z) n z (integer_value z) h
integer_same z _ h = absurd h

-- If `z` fits a signed type, and a tree has the value `z`, the tree means the same as the integer
-- restored from the bits of `z`.
pub signed_same : (width : Width) (z y : ℤ) (t : Tree) → HasInteger t y → FitsSigned width z → y ≡ z
    → Same (integer_tree (cast_signed width (cast_unsigned width z))) t
signed_same width z y t h i e = subst (λ x. Same (integer_tree x) t) (e ∙ sym (to_z-of_z width z i)) (integer_same y t h)

pub unsigned_same : (m k : ℕ) (t : Tree) → HasInteger t (pos k) → m ≡ k → Same (integer_tree (pos m)) t
unsigned_same m k t h e = subst (λ j. Same (integer_tree (pos j)) t) (sym e) (integer_same (pos k) t h)

-- If the value of a tree is an integer out of the type's range, the tree is rejected with
-- `OutOfRange`.
signed_out : (width : Width) (z : ℤ) (t : Tree) → IsWellFormed t → HasInteger t z → (FitsSigned width z → ⊥)
    → SignedRefused width t OutOfRange
signed_out width z (number n) w h past =
    (refl, λ y i k. past (subst (FitsSigned width) (one_integer (number n) y z w k h) i))
signed_out width z _ w h past = absurd h

pub signed_past : (width : Width) (z : ℤ) (v : WellFormed) → HasInteger v.tree z → FitsSigned w32 z
    → (FitsSigned width (cast_signed w32 (cast_unsigned w32 z)) → ⊥) → (OutOfRange ≡ Memory) ⊎ SignedRefused width v.tree OutOfRange
signed_past width z v h i past =
    inr (signed_out width z v.tree v.well_formed h (λ f. past (subst (FitsSigned width) (sym (to_z-of_z w32 z i)) f)))

unsigned_out : (limit m : ℕ) (t : Tree) → IsWellFormed t → HasInteger t (pos m) → (m < limit → ⊥) → UnsignedRefused limit t OutOfRange
unsigned_out limit m (number n) w h past = (
  refl,
  λ y i k. past (let e : pos y ≡ pos m = one_integer (number n) (pos y) (pos m) w k h in let q : y ≡ m = cc in omega (arith, q, i)),
)
unsigned_out limit m _ w h past = absurd h

pub unsigned_past : (limit m : ℕ) (v : WellFormed) → HasInteger v.tree (pos m) → (m < limit → ⊥)
    → (OutOfRange ≡ Memory) ⊎ UnsignedRefused limit v.tree OutOfRange
unsigned_past limit m v h past = inr (unsigned_out limit m v.tree v.well_formed h past)

-- If a tree is not a signed integer of the width `width`, it is rejected with the error of
-- `IsNoInteger`.
pub signed_none : (width : Width) (t : Tree) (e : ConvertError) → ((z : ℤ) → FitsSigned width z → HasInteger t z → ⊥)
    → IsNoInteger t e → (e ≡ Memory) ⊎ SignedRefused width t e
signed_none width (number n) e none is = inr (is, none)
signed_none width _ e none is = inr is

pub unsigned_none : (limit : ℕ) (t : Tree) (e : ConvertError) → ((m : ℕ) → m < limit → HasInteger t (pos m) → ⊥)
    → IsNoInteger t e → (e ≡ Memory) ⊎ UnsignedRefused limit t e
unsigned_none limit (number n) e none is = inr (is, none)
unsigned_none limit _ e none is = inr is

pub ruleset made_integers = (signed_tree, unsigned_tree)

pub ruleset read_integers = (signed_same, unsigned_same, signed_past, unsigned_past, signed_none, unsigned_none)
