-- The tree of a number that was created from an integer `z` is `integer_tree z`.
use Rattle.std.proofs.Common.{◌≡◌, ℕ, ◌^◌, ◌<◌, Bool, true, false, refl, ap, sym, subst, ◌∙◌}
use Rattle.std.specs.Prelude.{ℤ, pos, nat_abs, FitsSigned}
use Rattle.std.specs.Cmp.{tied_back}
use Rattle.std.specs.declared.cmp.Ordering.TheVariants.{Equal}
use mir.Syntax.{w64}
use Rattle.ijson_number.specs.Form.{packed, signed_word, unsigned_word, fits_packed, fits_i64, fits_u64}
use Rattle.ijson_number.specs.Integers.{integer, IsInteger}
use Rattle.ijson_number.specs.Num.{Num, IsNum}
use Rattle.ijson_number.specs.Order.{number_cmp}
use Rattle.ijson_number.specs.laws.Ordered.{number_cmp_total, tests_equal, equal_same}
use Rattle.ijson_number.specs.FormNumber.{form_number, integer_word}
use Rattle.ijson_number.proofs.parsing.Denotes.{same_decimal}
use Rattle.ijson_number.proofs.storing.FormNumbers.{not_below}
use Rattle.ijson_number.proofs.storing.IntegerWords.{word_num, word_integer, signed_small, signed_fits, unsigned_fits}
use Rattle.ijson_value.specs.Tree.{number}
use Rattle.ijson_convert.specs.IntegerTree.{integer_number, integer_tree}

-- Two numbers without a decimal point are equal decimals if they have the same integer value.
same_integer : (a b : Num) (z : ℤ) → IsInteger a.decimal z → IsInteger b.decimal z → a.decimal ≡ b.decimal
same_integer a b z h k =
    let p : number_cmp a.decimal (integer z) ≡ Equal = tests_equal _ h.value in
    let q : number_cmp b.decimal (integer z) ≡ Equal = tests_equal _ k.value in
    let c = number_cmp_total.congr a.decimal (integer z) b.decimal p ∙ tied_back number_cmp_total b.decimal (integer z) q in
    let e = equal_same a.decimal b.decimal a.is_num.plain b.is_num.plain c in
    same_decimal a.decimal.mantissa b.decimal.mantissa a.decimal.exponent b.decimal.exponent
    a.decimal.point b.decimal.point e.0 e.1 (h.no_point ∙ sym k.no_point)

word_is : (z : ℤ) (a b : Bool) → (b ≡ false → pos (nat_abs z) ≡ z)
    → form_number (elim a [
      | true ↦ packed z (pos 0) false
      | false ↦ elim b [ true ↦ signed_word z | false ↦ unsigned_word (nat_abs z) ]
    ]) ≡ integer_number z
word_is z true b h = refl
word_is z false true h = refl
word_is z false false h = ap integer_number (h refl)

module _ (z : ℤ) (small : nat_abs z < 2 ^ 64) (fits : fits_i64 z ≡ false → fits_u64 z ≡ true) where
  is : form_number (integer_word z) ≡ integer_number z
  is = word_is z (fits_packed z) (fits_i64 z) (λ e. not_below z (fits e))

  pub integer_num : IsNum (integer_number z)
  integer_num = subst IsNum is (word_num z small (integer_word z) fits refl)

  pub integer_has : IsInteger (integer_number z) z
  integer_has = subst (λ n. IsInteger n z) is (word_integer z small (integer_word z) fits refl)

  pub integer_is : (n : Num) → IsInteger n.decimal z → number n.decimal ≡ integer_tree z
  integer_is n h =
      ap number (same_integer n (record { decimal = integer_number z; is_num = integer_num }) z h integer_has)

-- If a number was created from a 64-bit signed integer `z`, its tree is `integer_tree z`.
pub signed_is : (n : Num) (z : ℤ) → FitsSigned w64 z → IsInteger n.decimal z → number n.decimal ≡ integer_tree z
signed_is n z h = integer_is z (signed_small z h) (λ e. let t = signed_fits z h in cc) n

pub unsigned_is : (n : Num) (m : ℕ) → m < 2 ^ 64 → IsInteger n.decimal (pos m) → number n.decimal ≡ integer_tree (pos m)
unsigned_is n m h = integer_is (pos m) h (λ e. unsigned_fits m h) n
