-- Numbers stored as a sign, digits and an exponent: when they are equal, which words they feed to a
-- hasher, and how their representation is selected.
use Rattle.ijson_number.proofs.Common.{◌≡◌, ℕ, Bool, true, false, List, [], ◌∷◌, refl, ap, ap₂, sym, ◌∙◌, arith, ℤ, pos, nat_abs, int_lt, not}
use Rattle.ijson_number.proofs.Common.{number_from_digits, both_ways, is_eq, pointwise, false_from_ne_true, Decides-eqb, Decimal, signed}
use Rattle.ijson_number.proofs.Common.{digits_within, number_eq, decimal_of, IsStored, equal_same, same_equal, tests_equal, ◌<◌, length, nat_eq, ◌+ℤ◌}
use Rattle.ijson_number.proofs.Common.{if◌then◌else◌, nil_from_length, abs_signed, zero, suc, ◌+◌, ◌-◌, ◌*◌, ◌^◌, ◌≤◌, negsuc, int_le, ◌&&◌, ◌*ℤ◌}
use Rattle.ijson_number.proofs.Common.{◌-ℤ◌, ◌≤ℤ◌, and_from, and_left, and_right, ints, mul-le-mul_left, FormOf, packed, digits, fits_packed}
use Rattle.ijson_number.proofs.Common.{fits_i64, fits_u64, digits_form, integer_form, smallest_packed, form_of, stored_number, ten_pos}
use Rattle.std.proofs.Math.Bool.{beq}
use Rattle.std.proofs.Math.Dec.{eqb}
use Rattle.std.proofs.lemmas.Slice.Eq.{slice_eq-Decides}
use Rattle.ijson_number.specs.declared.repr.stored.StrippedNumber.{StrippedNumber}
use Rattle.ijson_number.proofs.writing.DigitTexts.{stored_digits_are}
use Rattle.ijson_number.proofs.parsing.Denotes.{stripped_mod, signed_nought}
use Rattle.ijson_number.proofs.writing.Writing.{below_zero}
use Rattle.ijson_number.specs.Words.{number_words}
use Rattle.ijson_number.proofs.BooleanTests.{test_le, le_test, not_zero}
use Rattle.ijson_number.proofs.storing.WholeValues.{abs_times}

-- The mantissa assembled from a sign and stored digits is below 0 if and only if `negative` is
-- true.
pub stored_sign : (negative : Bool) (ds : List ℕ) → IsStored negative ds → int_lt (signed negative (number_from_digits 10 ds)) (pos 0) ≡ negative
stored_sign negative [] k = rw (k.no_minus refl) refl
stored_sign negative (d ∷ ds) k =
    let n = stripped_mod (d ∷ ds) k.stripped (omega arith) in
    below_zero negative (number_from_digits 10 (d ∷ ds)) (omega (arith, n))

-- If the test `m != n` returns `false`, the signs `m` and `n` are equal.
pub same_signs : (m n : Bool) → not (beq m n) ≡ false → m ≡ n
same_signs m n h = grind arith

pub other_signs : (m n : Bool) → not (beq m n) ≡ true → m ≡ n → ⊥
other_signs m n h e = grind arith

module _ (x y : StrippedNumber) (a b : Decimal) (view : decimal_of x ≡ a) (view' : decimal_of y ≡ b) where
  module _ (is : number_eq a b ≡ true) where
    mantissa_exponent : ((decimal_of x).mantissa ≡ (decimal_of y).mantissa) × (x.exponent ≡ y.exponent)
    mantissa_exponent = equal_same (decimal_of x) (decimal_of y) x.num.plain y.num.plain (tests_equal _ (ap₂ number_eq view view' ∙ is))

    equal_digits : x.digits.now ≡ y.digits.now
    equal_digits = sym (stored_digits_are x.negative x.digits.now x.exponent x.point x.stripped.stripped)
        ∙ ap (λ (m : ℤ). digits_within (nat_abs m) (nat_abs m)) mantissa_exponent.0
        ∙ stored_digits_are y.negative y.digits.now y.exponent y.point y.stripped.stripped

    equal_sign : x.negative ≡ y.negative
    equal_sign = sym (stored_sign x.negative x.digits.now x.stripped) ∙ ap (λ (m : ℤ). int_lt m (pos 0)) mantissa_exponent.0
        ∙ stored_sign y.negative y.digits.now y.stripped

  parts_equal : x.negative ≡ y.negative → x.digits.now ≡ y.digits.now → x.exponent ≡ y.exponent → number_eq a b ≡ true
  parts_equal s d e = sym (ap₂ number_eq view view') ∙ ap is_eq (same_equal (decimal_of x) (decimal_of y) (rw (s, d) refl) e)

  -- Two numbers with the same sign and the same exponent are equal if and only if their digits are
  -- equal.
  pub digits_tell : (r : Bool) → x.negative ≡ y.negative → x.exponent ≡ y.exponent → r ≡ pointwise eqb x.digits.now y.digits.now
      → r ≡ number_eq a b
  digits_tell r s e d =
      let tells = slice_eq-Decides Decides-eqb x.digits.now y.digits.now r d in
      both_ways r (number_eq a b) (λ t. parts_equal s (tells.0 t) e) (λ t. tells.1 (equal_digits t))

  -- Numbers with different signs are not equal.
  pub signs_tell : (x.negative ≡ y.negative → ⊥) → false ≡ number_eq a b
  signs_tell h = sym (false_from_ne_true (number_eq a b) (λ is. h (equal_sign is)))

  -- Numbers with different canonical exponents are not equal.
  pub exponents_tell : (x.exponent ≡ y.exponent → ⊥) → false ≡ number_eq a b
  exponents_tell h = sym (false_from_ne_true (number_eq a b) (λ is. h (mantissa_exponent is).1))

module _ (x : StrippedNumber) (n : Decimal) (view : decimal_of x ≡ n) where
  -- Zero feeds the words 2 and 0 to a hasher.
  pub zero_words : length x.digits.now ≡ 0 → number_words n ≡ 2 ∷ 0 ∷ []
  zero_words h = ap number_words (sym view) ∙ rw (nil_from_length x.digits.now h, signed_nought x.negative) refl

  -- A nonzero number feeds 2, its sign, its exponent, the number of its digits, and its digits to a
  -- hasher.
  pub stored_words : 0 < length x.digits.now → number_words n
      ≡ 2 ∷ (if x.negative then 2 else 1) ∷ nat_abs (x.exponent +ℤ pos 2147483648) ∷ length x.digits.now ∷ x.digits.now
  stored_words h =
      let number = number_from_digits 10 x.digits.now in
      let v = stripped_mod x.digits.now x.stripped.stripped h in
      let some : nat_eq (nat_abs (signed x.negative number)) 0 ≡ false =
      rw (abs_signed x.negative number) (not_zero number (λ z. omega (arith, v, z))) in
      ap number_words (sym view) ∙ rw (
        some,
        number_words,
        stored_sign x.negative x.digits.now x.stripped,
        stored_digits_are x.negative x.digits.now x.exponent x.point x.stripped.stripped,
      ) refl

-- A conditional is equal to its first branch if the condition is true.
pub taken : (b : Bool) (x y : FormOf) → b ≡ true → (let r : FormOf = elim b [ true ↦ x | false ↦ y ] in r) ≡ x
taken b x y e = rw e refl

pub left : (b : Bool) (x y : FormOf) → b ≡ false → (let r : FormOf = elim b [ true ↦ x | false ↦ y ] in r) ≡ y
left b x y e = rw e refl

-- Packed representations with equal parts are equal.
pub packed_is : (m m' e e' : ℤ) (p p' : Bool) → m ≡ m' → e ≡ e' → p ≡ p' → packed m e p ≡ packed m' e' p'
packed_is m m' e e' p p' a b c = rw (a, b, c) refl

-- Converting stored digits to a number and back to a list of digits keeps the sign, the digits, the
-- exponent and `point`.
pub stored_form : (negative : Bool) (ds : List ℕ) (e : ℤ) (point : Bool) → IsStored negative ds
    → digits_form (stored_number negative ds e point) ≡ digits negative ds e point
stored_form negative ds e point k = rw (stored_sign negative ds k, stored_digits_are negative ds e point k.stripped) refl

pub large_not_packed : (z : ℤ) → 2 ^ 64 ≤ nat_abs z → fits_packed z ≡ false
large_not_packed z h = grind (arith, ints)

-- An integer whose absolute value is at least `2 ^ 64` is stored as a list of digits.
pub large_integer : (n : Decimal) (z : ℤ) → 2 ^ 64 ≤ nat_abs z → integer_form n z ≡ digits_form n
large_integer n z h =
    let signed : fits_i64 z ≡ false = grind (arith, ints) in
    let unsigned : fits_u64 z ≡ false = grind (arith, ints) in
    rw (large_not_packed z h, signed, unsigned) refl

module _ (n : Decimal) (k : ℕ) (whole : pos 0 ≤ℤ n.exponent) (so_far : form_of n ≡ smallest_packed (8 - k) k n) (few : k < 8) where
  abbrev here : ℤ
  here = n.mantissa *ℤ pos (10 ^ nat_abs (n.exponent -ℤ pos k))

  abbrev rest : FormOf
  rest = smallest_packed (8 - (k + 1)) (suc k) n

  now : form_of n ≡ smallest_packed (suc (8 - (k + 1))) k n
  now = let t : 8 - k ≡ suc (8 - (k + 1)) = omega arith in rw t at so_far

  on : smallest_packed (8 - (k + 1)) (suc k) n ≡ smallest_packed (8 - (k + 1)) (k + 1) n
  on = let e : suc k ≡ k + 1 = omega arith in ap (λ j. smallest_packed (8 - (k + 1)) j n) e

  module _ (m : ℤ) (reach : k ≤ nat_abs n.exponent) (e : m ≡ n.mantissa *ℤ pos (10 ^ (nat_abs n.exponent - k))) where
    same : here ≡ m
    same = ap (λ j. n.mantissa *ℤ pos (10 ^ j)) (let e : nat_abs (n.exponent -ℤ pos k) ≡ nat_abs n.exponent - k = omega (arith, ints) in e) ∙ sym e

    -- If the mantissa fits at exponent `k` and not at any smaller exponent, the number is packed
    -- with the exponent `k`.
    pub packed_here : fits_packed m ≡ true → form_of n ≡ packed m (pos k) true
    packed_here f =
        let test = and_from (int_le (pos k) n.exponent) (fits_packed here)
        (le_test (pos k) n.exponent (omega (arith, ints))) (ap fits_packed same ∙ f) in
        now ∙ taken (int_le (pos k) n.exponent && fits_packed here) (packed here (pos k) true) rest test ∙ ap (λ x. packed x (pos k) true) same

    -- If the mantissa does not fit at exponent `k`, the search continues at exponent `k + 1`.
    pub too_large_here : fits_packed m ≡ false → form_of n ≡ smallest_packed (8 - (k + 1)) (k + 1) n
    too_large_here f = now ∙ left (int_le (pos k) n.exponent && fits_packed here) (packed here (pos k) true) rest
        (and_right (int_le (pos k) n.exponent) (fits_packed here) (ap fits_packed same ∙ f)) ∙ on

  -- If `k` exceeds the exponent of the number, the search continues at exponent `k + 1`.
  pub past_exponent : nat_abs n.exponent < k → form_of n ≡ smallest_packed (8 - (k + 1)) (k + 1) n
  past_exponent h =
      let fails = false_from_ne_true (int_le (pos k) n.exponent)
      (λ t. let l = test_le (pos k) n.exponent t in omega (arith, ints)) in
      now ∙ left (int_le (pos k) n.exponent && fits_packed here) (packed here (pos k) true) rest
      (and_left (int_le (pos k) n.exponent) (fits_packed here) fails) ∙ on

-- In this module, the absolute value of the mantissa is at least `2 ^ 64`.
module _ (n : Decimal) (long : 2 ^ 64 ≤ nat_abs n.mantissa) where
  long_scaled : (k : ℕ) → 2 ^ 64 ≤ nat_abs (n.mantissa *ℤ pos (10 ^ k))
  long_scaled k =
      let p = ten_pos k in
      let m : nat_abs n.mantissa * 1 ≤ nat_abs n.mantissa * 10 ^ k = mul-le-mul_left (nat_abs n.mantissa) p in
      rw (abs_times n.mantissa (10 ^ k)) (omega arith)

  none_smallest : (tries k : ℕ) → smallest_packed tries k n ≡ digits_form n
  none_smallest zero k = refl
  none_smallest (suc tries) k =
      let m = n.mantissa *ℤ pos (10 ^ nat_abs (n.exponent -ℤ pos k)) in
      left (int_le (pos k) n.exponent && fits_packed m) (packed m (pos k) true) (smallest_packed tries (suc k) n)
      (and_right (int_le (pos k) n.exponent) (fits_packed m) (large_not_packed m (long_scaled (nat_abs (n.exponent -ℤ pos k)))))
      ∙ none_smallest tries (suc k)

  either_digits : (b : Bool) (x y : FormOf) → x ≡ digits_form n → y ≡ digits_form n
      → (let r : FormOf = elim b [ true ↦ x | false ↦ y ] in r) ≡ digits_form n
  either_digits true x y p q = p
  either_digits false x y p q = q

  -- A number whose mantissa has an absolute value of at least `2 ^ 64` is stored as a list of
  -- digits.
  pub long_form : form_of n ≡ digits_form n
  long_form = by_point n.point refl
    where
      by_point : (p : Bool) → n.point ≡ p → form_of n ≡ digits_form n
      by_point true h =
          taken n.point _ _ h ∙ either_digits (int_le (pos 0) n.exponent) _ _ (none_smallest 8 0)
          (left (int_le (negsuc 6) n.exponent && fits_packed n.mantissa) _ _
          (and_right (int_le (negsuc 6) n.exponent) (fits_packed n.mantissa) (large_not_packed n.mantissa long)))
      by_point false h = left n.point _ _ h ∙ large_integer n (n.mantissa *ℤ pos (10 ^ nat_abs n.exponent)) (long_scaled (nat_abs n.exponent))
