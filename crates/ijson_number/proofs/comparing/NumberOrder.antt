-- Numbers are ordered by their signs, then by their absolute values.
use Rattle.ijson_number.proofs.Common.{◌≡◌, ◌≢◌, ℕ, zero, suc, ◌+◌, ◌<◌, min, List, [], ◌∷◌, length, get_or, drop, add-one, refl, ap, sym, subst, ◌∙◌}
use Rattle.ijson_number.proofs.Common.{arith, pos, nat_abs, digits_of, slice_cmp, nat_cmp, nat_tests, drop_all, nat_cmp_total, tied_itself, Decimal}
use Rattle.ijson_number.proofs.Common.{IsPlain, stripped_digits, drop-cons, decimal_of, IsStripped, ◌*◌, ◌^◌, Bool, true, false, ap₂, ℤ, negsuc}
use Rattle.ijson_number.proofs.Common.{neg_ℤ, int_lt, ◌-ℤ◌, ◌*ℤ◌, ◌≤ℤ◌, ◌==◌, not, int_min, number_from_digits, Ordering, Less, Equal, Greater}
use Rattle.ijson_number.proofs.Common.{int_cmp, ordering_index, ints, clamps, Num, stored_number, number_cmp, at_exponent, stripped_number, signed}
use Rattle.ijson_number.proofs.Common.{IsStored, cmp_equal, rescale, scale_cmp, ten_pos, signed_mul}
use Rattle.ijson_number.specs.declared.repr.stored.StrippedNumber.{StrippedNumber}
use Rattle.ijson_number.proofs.writing.DigitTexts.{digits_are, stored_digits_are, first_some, within_first}
use Rattle.ijson_number.proofs.BooleanTests.{abs_zero}
use Rattle.ijson_number.proofs.storing.WholeValues.{whole_stripped}
use Rattle.ijson_number.proofs.comparing.MagnitudeOrder.{nat_below, nat_above, int_below, int_above}
use Rattle.ijson_number.specs.private.MagnitudeOrder.{magnitude_cmp}
use Rattle.ijson_number.specs.Stripped.{tens_out}
use Rattle.ijson_number.proofs.parsing.Denotes.{stripped_mod}
use Rattle.ijson_number.proofs.storing.FormNumbers.{digits_case, tens_out_is}
use Rattle.ijson_number.proofs.storing.IntegerWords.{zero_is as no_digits}

-- If `ds` and `es` have the same digit at index `i`, comparing both from `i` on has the same result
-- as comparing both from `i + 1` on.
pub same_digit : (ds es : List ℕ) (i x y : ℕ) → i < length ds → i < length es → x ≡ get_or ds i 0 → y ≡ get_or es i 0 → x ≡ y
    → slice_cmp nat_cmp (drop i ds) (drop i es) ≡ slice_cmp nat_cmp (drop (i + 1) ds) (drop (i + 1) es)
same_digit ds es i x y h g p q e =
    let digit : get_or ds i 0 ≡ get_or es i 0 = cc in
    rw (add-one, drop-cons ds i 0, drop-cons es i 0, digit, tied_itself nat_cmp_total (get_or es i 0)) refl

-- If `i` is the length of the shorter list, comparing both lists from `i` on has the same result as
-- comparing their lengths.
pub row_ends : (ds es : List ℕ) (i : ℕ) → i ≡ min (length ds) (length es)
    → slice_cmp nat_cmp (drop i ds) (drop i es) ≡ nat_cmp (length ds) (length es)
row_ends [] [] i h = rw (drop_all {X = ℕ} i [] (omega arith)) refl
row_ends [] (y ∷ es) i h = let at : i ≡ 0 = omega arith in rw at (sym (nat_below 0 (length (y ∷ es)) (omega arith)))
row_ends (x ∷ ds) [] i h = let at : i ≡ 0 = omega arith in rw at (sym (nat_above (length (x ∷ ds)) 0 (omega arith)))
row_ends (x ∷ ds) (y ∷ es) zero h = absurd (omega arith)
row_ends (x ∷ ds) (y ∷ es) (suc i) h = row_ends ds es i (omega arith) ∙ grind (arith, nat_tests)

module _ (n : Decimal) (plain : IsPlain n) where
  digits_is : stripped_digits n ≡ digits_of 10 (nat_abs n.mantissa)
  digits_is = digits_are (nat_abs n.mantissa) (nat_abs n.mantissa)

  -- A nonzero number has at least one canonical digit.
  pub some_digits : n.mantissa ≢ pos 0 → 0 < length (stripped_digits n)
  some_digits some = first_some (stripped_digits n)
      (within_first (nat_abs n.mantissa) (let apart : nat_abs n.mantissa ≢ 0 = λ z. some (abs_zero n.mantissa z) in omega (arith, apart)))

  pub are_stripped : n.mantissa ≢ pos 0 → IsStripped (stripped_digits n)
  are_stripped some = subst IsStripped (sym digits_is) (whole_stripped (nat_abs n.mantissa) (plain.stripped some))

-- The digits of a `StrippedNumber` are the canonical digits of its number.
pub row_digits : (x : StrippedNumber) (n : Decimal) → decimal_of x ≡ n → x.digits.now ≡ stripped_digits n
row_digits x n view = sym (ap stripped_digits (sym view) ∙ stored_digits_are x.negative x.digits.now x.exponent x.point x.stripped.stripped)

pub row_is : (x : StrippedNumber) → x.digits.now ≡ stripped_digits (decimal_of x)
row_is x = row_digits x (decimal_of x) refl

-- A number with at least one stored digit is below 0 if `negative` is true.
pub sign_below : (negative : Bool) (ds : List ℕ) → negative ≡ true → IsStored negative ds → 0 < length ds
    → int_cmp (signed negative (number_from_digits 10 ds)) (pos 0) ≡ Less
sign_below negative ds is k h = let n = stripped_mod ds k.stripped h in
    rw is (int_below (neg_ℤ (pos (number_from_digits 10 ds))) (pos 0) (omega (arith, ints, n)))

-- A number with at least one stored digit is above 0 if `negative` is false.
pub sign_above : (negative : Bool) (ds : List ℕ) → negative ≡ false → IsStored negative ds → 0 < length ds
    → int_cmp (signed negative (number_from_digits 10 ds)) (pos 0) ≡ Greater
sign_above negative ds is k h = let n = stripped_mod ds k.stripped h in
    rw is (int_above (pos (number_from_digits 10 ds)) (pos 0) (omega (arith, ints, n)))

neg_cmp : (x y : ℕ) → int_cmp (neg_ℤ (pos x)) (neg_ℤ (pos y)) ≡ int_cmp (pos y) (pos x)
neg_cmp x y = grind (arith, ints)

-- Negating two numbers reverses their order.
pub flipped : (ds es : List ℕ) (e f : ℤ)
    → number_cmp (stored_number true ds e true) (stored_number true es f true) ≡ number_cmp (stored_number false es f true)
    (stored_number false ds e true)
flipped ds es e f =
    let c = int_min f e in
    let u : c ≤ℤ e = omega (arith, ints, clamps) in
    let v : c ≤ℤ f = omega (arith, ints, clamps) in
    let a = number_from_digits 10 ds in
    let b = number_from_digits 10 es in
    let p = 10 ^ nat_abs (e -ℤ c) in
    let q = 10 ^ nat_abs (f -ℤ c) in
    rescale (stored_number true ds e true) (stored_number true es f true) c u v
    ∙ rw (← signed_mul true a p, ← signed_mul true b q) (neg_cmp (a * p) (b * q))

sign_scaled : (x : ℤ) (k : ℕ) → 0 < k → int_cmp (x *ℤ pos k) (pos 0) ≡ int_cmp x (pos 0)
sign_scaled x k h = let z : 0 * k ≡ 0 = omega arith in rw z at (scale_cmp x (pos 0) k h)

apart : (x y : ℤ) (s t : Ordering) → s ≡ int_cmp x (pos 0) → t ≡ int_cmp y (pos 0) → (s ≡ t → ⊥)
    → nat_cmp (ordering_index s) (ordering_index t) ≡ int_cmp x y
apart x y s t p q n = grind (arith, ints, nat_tests)

-- If the signs of two numbers differ, the numbers are ordered like their signs.
pub signs_cmp : (a b : Decimal) (s t : Ordering) → s ≡ int_cmp a.mantissa (pos 0) → t ≡ int_cmp b.mantissa (pos 0) → (s ≡ t → ⊥)
    → nat_cmp (ordering_index s) (ordering_index t) ≡ number_cmp a b
signs_cmp a b s t p q n =
    let c = int_min a.exponent b.exponent in
    let scaled = λ (m : ℤ) (k : ℕ). sym (sign_scaled m (10 ^ k) (ten_pos k)) in
    apart (at_exponent c a) (at_exponent c b) s t (p ∙ scaled a.mantissa (nat_abs (a.exponent -ℤ c)))
    (q ∙ scaled b.mantissa (nat_abs (b.exponent -ℤ c))) n

-- In this module, `a` and `b` are numbers with the same sign.
module _ (a b : Num) (s t : Ordering) (p : s ≡ int_cmp a.decimal.mantissa (pos 0)) (q : t ≡ int_cmp b.decimal.mantissa (pos 0))
    (same : s ≡ t) where
  other : (sign : Ordering) → s ≡ sign → int_cmp b.decimal.mantissa (pos 0) ≡ sign
  other sign is = sym q ∙ sym same ∙ is

  -- Numbers of the same sign are ordered like the numbers assembled from their canonical digits,
  -- their exponents and this sign.
  same_sign : (minus : Bool) → int_lt a.decimal.mantissa (pos 0) ≡ minus → int_lt b.decimal.mantissa (pos 0) ≡ minus
      → number_cmp (stored_number minus (stripped_digits a.decimal) a.decimal.exponent a.decimal.point)
      (stored_number minus (stripped_digits b.decimal) b.decimal.exponent b.decimal.point) ≡ number_cmp a.decimal b.decimal
  same_sign minus h g =
      ap₂ (λ (s t : Bool). number_cmp (stored_number s (stripped_digits a.decimal) a.decimal.exponent a.decimal.point)
      (stored_number t (stripped_digits b.decimal) b.decimal.exponent b.decimal.point)) (sym h) (sym g)
      ∙ ap₂ number_cmp (digits_case a.decimal a.is_num.plain) (digits_case b.decimal b.is_num.plain)

  -- Two negative numbers are ordered by their absolute values, in reverse.
  pub below_zero_is : s ≡ Less → magnitude_cmp b.decimal a.decimal ≡ number_cmp a.decimal b.decimal
  below_zero_is is =
      sym (flipped (stripped_digits a.decimal) (stripped_digits b.decimal) a.decimal.exponent b.decimal.exponent)
      ∙ same_sign true (grind (arith, ints)) (grind (arith, ints))

  -- Two positive numbers are ordered by their absolute values.
  pub above_zero_is : s ≡ Greater → magnitude_cmp a.decimal b.decimal ≡ number_cmp a.decimal b.decimal
  above_zero_is is = same_sign false (grind (arith, ints)) (grind (arith, ints))

  -- Two zeros are equal.
  pub zeros_cmp : s ≡ Equal → number_cmp a.decimal b.decimal ≡ Equal
  zeros_cmp is =
      rw (cmp_equal a.decimal.mantissa (pos 0) (sym p ∙ is), cmp_equal b.decimal.mantissa (pos 0) (other Equal is)) (grind (arith, ints))

-- If a test finds that the indices of two signs are equal, then the signs are equal.
pub tests_same : (s t : Ordering) (r : Bool) → r ≡ not (ordering_index s == ordering_index t) → r ≡ false → s ≡ t
tests_same s t r e h = grind (arith, nat_tests)

pub tests_apart : (s t : Ordering) (r : Bool) → r ≡ not (ordering_index s == ordering_index t) → r ≡ true → s ≡ t → ⊥
tests_apart s t r e h g = let same = ap ordering_index g in grind (arith, nat_tests)

-- Stripping the trailing zeros of a mantissa below `2 ^ 64` keeps its sign.
pub stripped_sign : (m e : ℤ) (point : Bool) → nat_abs m < 2 ^ 64 → int_cmp (stripped_number m e point).mantissa (pos 0) ≡ int_cmp m (pos 0)
stripped_sign (pos zero) e point word = ap (λ (n : Decimal). int_cmp n.mantissa (pos 0)) (no_digits false e point)
stripped_sign (pos (suc n)) e point word =
    let some = (tens_out_is 20 (suc n) (λ z. omega arith) (omega arith)).1 in
    let sign : int_lt (pos (suc n)) (pos 0) ≡ false = grind (arith, nat_tests) in
    ap (λ b. int_cmp (signed b (tens_out 20 (suc n)).0) (pos 0)) sign
    ∙ int_above (pos (tens_out 20 (suc n)).0) (pos 0) (omega (arith, ints, some)) ∙ sym (int_above (pos (suc n)) (pos 0) (omega (arith, ints)))
stripped_sign (negsuc n) e point word =
    let some = (tens_out_is 20 (suc n) (λ z. omega arith) (omega arith)).1 in
    int_below (neg_ℤ (pos (tens_out 20 (suc n)).0)) (pos 0) (omega (arith, ints, some))
