-- A number is not rejected if its value is an integer of the Rust type.
use Rattle.std.proofs.Common.{◌≡◌, ◌<◌, ◌≤◌, ◌^◌, ℕ, ap, sym, ◌∙◌, arith}
use mir.Val.{hbits}
use Rattle.std.specs.Prelude.{ℤ, pos, FitsSigned}
use Rattle.std.specs.Int.{Width, w8, w16, w32, w64}
use Rattle.std.specs.Ordering.{is_eq}
use Rattle.std.specs.declared.cmp.Ordering.TheVariants.{Equal}
use Rattle.ijson_number.specs.Decimal.{Decimal}
use Rattle.ijson_number.specs.Integers.{integer, HasValue}
use Rattle.ijson_number.specs.Order.{number_cmp}
use Rattle.ijson_number.specs.laws.Ordered.{number_cmp_total, tests_equal}
use Rattle.ijson_value.specs.Same.{Same}
use Rattle.ijson_value.specs.Tree.{Tree, number}
use Rattle.ijson_value.specs.WellFormed.{IsWellFormed}
use Rattle.ijson_convert.specs.IntegerTree.{integer_number, integer_tree}
use Rattle.ijson_convert.specs.Refused.{SignedRefused, UnsignedRefused}
use Rattle.ijson_convert.specs.declared.convert_error.ConvertError.{ConvertError}
use Rattle.ijson_number.specs.laws.IntegerValues.{integer_value}

-- If `a` has the value `z` and equals `n`, then `n` has the value `z`.
pub has_too : (a n : Decimal) (z : ℤ) → HasValue a z → number_cmp a n ≡ Equal → HasValue n z
has_too a n z h s = ap is_eq (sym (number_cmp_total.congr a n (integer z) s) ∙ tests_equal _ h)

-- An integer that fits a narrow type also fits a wider type.
pub widened : (narrow wide : Width) → 2 ^ hbits narrow ≤ 2 ^ hbits wide → (z : ℤ) → FitsSigned narrow z → FitsSigned wide z
widened narrow wide less z h = record { sfits = omega (arith, less, h.sfits) }

pub wide_8 : (z : ℤ) → FitsSigned w8 z → FitsSigned w64 z
wide_8 = widened w8 w64 (omega arith)

pub wide_16 : (z : ℤ) → FitsSigned w16 z → FitsSigned w64 z
wide_16 = widened w16 w64 (omega arith)

pub wide_32 : (z : ℤ) → FitsSigned w32 z → FitsSigned w64 z
wide_32 = widened w32 w64 (omega arith)

pub wide_64 : (z : ℤ) → FitsSigned w64 z → FitsSigned w64 z
wide_64 z h = h

pub below_8 : 2 ^ 8 ≤ 2 ^ 64
below_8 = omega arith

pub below_16 : 2 ^ 16 ≤ 2 ^ 64
below_16 = omega arith

pub below_32 : 2 ^ 32 ≤ 2 ^ 64
below_32 = omega arith

pub below_64 : 2 ^ 64 ≤ 2 ^ 64
below_64 = omega arith

module _ (width : Width) (wide : (z : ℤ) → FitsSigned width z → FitsSigned w64 z) where
  pub signed_complete : (z : ℤ) (t : Tree) (e : ConvertError) → FitsSigned width z
      → IsWellFormed (integer_tree z) → IsWellFormed t → Same (integer_tree z) t → SignedRefused width t e → ⊥
  signed_complete z (number n) e i w v s r = r.1 z i (has_too (integer_number z) n z (integer_value z) s)
  signed_complete z _ e i w v s r = absurd s

module _ (limit : ℕ) (below : limit ≤ 2 ^ 64) where
  pub unsigned_complete : (m : ℕ) (t : Tree) (e : ConvertError) → m < limit
      → IsWellFormed (integer_tree (pos m)) → IsWellFormed t → Same (integer_tree (pos m)) t
      → UnsignedRefused limit t e → ⊥
  unsigned_complete m (number n) e i w v s r =
      r.1 m i (has_too (integer_number (pos m)) n (pos m) (integer_value (pos m)) s)
  unsigned_complete m _ e i w v s r = absurd s
