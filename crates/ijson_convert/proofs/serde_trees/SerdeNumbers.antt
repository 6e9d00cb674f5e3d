-- A `serde_json` number that is a `u64` or an `i64` means each JSON number that has its value.
-- Other `serde_json` numbers do not have a tree.
use Rattle.std.proofs.Common.{◌≡◌, ◌<◌, ◌^◌, ◌∙◌, ℕ, Some, None, refl, sym, ap, subst, arith}
use Rattle.std.specs.Prelude.{ℤ, pos, negsuc, FitsSigned}
use Rattle.std.specs.declared.cmp.Ordering.TheVariants.{Equal}
use Rattle.std.specs.Int.{w64, cast_signed, cast_unsigned}
use Rattle.std.proofs.lemmas.Int.{to_z-of_z}
use Rattle.serde_json.specs.Data as serde
use Rattle.serde_json.specs.Data.{Data}
use Rattle.serde_json.specs.Find.{as_i64, as_u64, of_integer}
use Rattle.ijson_number.specs.Decimal.{Decimal}
use Rattle.ijson_number.specs.Integers.{HasValue, IsInteger}
use Rattle.ijson_number.specs.Num.{IsNum, Num}
use Rattle.ijson_number.specs.Order.{number_cmp}
use Rattle.ijson_number.proofs.storing.IntegerWords.{signed_small, signed_fits, unsigned_fits}
use Rattle.ijson_value.specs.Tree.{null, number}
use Rattle.ijson_convert.specs.IntegerTree.{integer_number}
use Rattle.ijson_convert.specs.SerdeTree.{SerdeNumber, HasNoTree, SerdeMeans, NoSerdeMeans}
use Rattle.ijson_number.specs.laws.IntegerValues.{integer_value}
use Rattle.ijson_convert.specs.laws.Integers.{integer_num, signed_is, unsigned_is}
use Rattle.ijson_convert.specs.laws.Whole.{has_too}
use Rattle.ijson_convert.proofs.Whole.{has_same}

-- The decimal of a `u64` is a valid number.
unsigned_num : (n : ℕ) → n < 2 ^ 64 → IsNum (integer_number (pos n))
unsigned_num n h = integer_num (pos n) h (λ e. unsigned_fits n h)

-- The decimal of an `i64` is a valid number.
signed_num : (z : ℤ) → FitsSigned w64 z → IsNum (integer_number z)
signed_num z h = integer_num z (signed_small z h) (λ e. let t = signed_fits z h in cc)

-- If the `serde_json` number `m` has the tree of the integer `z`, and `u` has the value `z`, then
-- `m` and `u` mean the same.
integer_means : (m : serde.Num) (z : ℤ) (u : Decimal) → SerdeNumber m (integer_number z) → IsNum (integer_number z) → HasValue u z
    → SerdeMeans (serde.number m) (number u)
integer_means m z u tree is h = (number (integer_number z), is, tree, has_same (integer_number z) u z (integer_value z) h)

-- An unsigned `serde_json` number means every JSON number that has its value.
pub means_unsigned : (m : serde.Num) (n : ℕ) (u : Decimal) → m ≡ serde.unsigned n → n < 2 ^ 64 → HasValue u (pos n)
    → SerdeMeans (serde.number m) (number u)
means_unsigned m n u is small =
    integer_means m (pos n) u (subst (λ k. SerdeNumber k (integer_number (pos n))) (sym is) (small, refl)) (unsigned_num n small)

-- The `serde_json` number of a signed integer means every JSON number that has its value.
pub means_signed : (m : serde.Num) (z : ℤ) (u : Decimal) → m ≡ of_integer z → FitsSigned w64 z → HasValue u z
    → SerdeMeans (serde.number m) (number u)
means_signed m (pos n) u is fits = means_unsigned m n u is (omega arith)
means_signed m (negsuc n) u is fits =
    integer_means m (negsuc n) u (subst (λ k. SerdeNumber k (integer_number (negsuc n))) (sym is) (fits, refl)) (signed_num (negsuc n) fits)

module _ (u : Decimal) (no_unsigned : (n : ℕ) → n < 2 ^ 64 → HasValue u (pos n) → ⊥)
    (no_signed : (z : ℤ) → FitsSigned w64 z → HasValue u z → ⊥) where
  -- If the value of `u` is not an integer in the range of `u64` or `i64`, no `serde_json` number
  -- means `u`.
  pub number_unmeant : NoSerdeMeans (number u)
  number_unmeant (serde.number (serde.unsigned n)) (number k, w, h, s) =
      no_unsigned n h.0 (has_too (integer_number (pos n)) u (pos n) (integer_value (pos n))
      (subst (λ l. number_cmp l u ≡ Equal) h.1 s))
  number_unmeant (serde.number (serde.negative z)) (number k, w, h, s) =
      no_signed z h.0 (has_too (integer_number z) u z (integer_value z)
      (subst (λ l. number_cmp l u ≡ Equal) h.1 s))
  number_unmeant d (number k, w, h, s) = h
  number_unmeant d (t, w, h, s) = s

-- If a `serde_json` number is a `u64`, its tree is the number created from this `u64`.
pub unsigned_here : (m : serde.Num) (k : ℕ) (n : Num) → as_u64 m ≡ Some k → k < 2 ^ 64 → IsInteger n.decimal (pos k)
    → SerdeNumber m n.decimal
unsigned_here (serde.unsigned m) k n e small i =
    let same : m ≡ k = cc in let tree = unsigned_is n k small i in let is : n.decimal ≡ integer_number (pos k) = cc in
    (subst (λ j. j < 2 ^ 64) (sym same) small, is ∙ ap (λ j. integer_number (pos j)) (sym same))
unsigned_here (serde.negative z) k n e small i = absurd (cc)
unsigned_here (serde.float x) k n e small i = absurd (cc)

-- If a `serde_json` number is a negative `i64`, its tree is the number created from this `i64`.
pub signed_here : (m : serde.Num) (z : ℤ) (n : Num) → as_u64 m ≡ None → as_i64 m ≡ Some z → FitsSigned w64 z
    → IsInteger n.decimal (cast_signed w64 (cast_unsigned w64 z)) → SerdeNumber m n.decimal
signed_here (serde.unsigned k) z n none e fits i = absurd (cc)
signed_here (serde.negative y) z n none e fits i =
    let same : y ≡ z = cc in let tree = signed_is n z fits (subst (IsInteger n.decimal) (to_z-of_z w64 z fits) i) in
    let is : n.decimal ≡ integer_number z = cc in
    (subst (FitsSigned w64) (sym same) fits, is ∙ ap integer_number (sym same))
signed_here (serde.float x) z n none e fits i = absurd (cc)

-- If a `serde_json` number is not a `u64` or an `i64`, it does not have a tree.
pub none_here : (m : serde.Num) → as_u64 m ≡ None → as_i64 m ≡ None → HasNoTree (serde.number m)
none_here (serde.unsigned k) a b t h = absurd (cc)
none_here (serde.negative z) a b t h = absurd (cc)
none_here (serde.float x) a b null h = h
none_here (serde.float x) a b t h = h

pub ruleset numbers_here = (unsigned_here, signed_here, none_here)
