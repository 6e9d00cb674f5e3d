-- Integers of 64 bits are stored without a list of digits.
use Rattle.ijson_number.proofs.Common.{◌≡◌, ◌≢◌, ℕ, ◌*◌, ◌%◌, ◌^◌, ◌<◌, Bool, true, false, [], refl, ap, sym, subst, ◌∙◌, inl, inr, arith, ℤ, pos}
use Rattle.ijson_number.proofs.Common.{nat_abs, int_lt, ◌+ℤ◌, FitsSigned, w64, number_from_digits, digits_of, ints, number_digits_of, Decimal, FormOf}
use Rattle.ijson_number.proofs.Common.{packed, signed_word, unsigned_word, fits_packed, fits_i64, fits_u64, digits_form, integer_form, form_of}
use Rattle.ijson_number.proofs.Common.{form_number, integer_word, stripped_number, IsInteger, stored_number, IsNum, signed, IsStored, int_tens}
use Rattle.ijson_number.proofs.Common.{abs_signed, zero_or_not}
use Rattle.ijson_number.specs.Stripped.{tens_out}
use Rattle.ijson_number.specs.laws.IntegerValues.{integer_value}
use Rattle.ijson_number.proofs.storing.FormNumbers.{IsTensOut, tens_out_is, tens_out_zero, sign_and_magnitude, form_has, stored_num, stored_form_of}
use Rattle.ijson_number.proofs.parsing.Denotes.{signed_nought}
use Rattle.ijson_number.proofs.BooleanTests.{abs_zero, not_zero}
use Rattle.ijson_number.proofs.storing.WholeValues.{tens_few, whole_stripped, value_is, whole_num}
use Rattle.ijson_number.proofs.writing.Writing.{below_zero}

-- Stripping a mantissa of 0 yields zero, without a sign and with the exponent 0.
pub zero_is : (negative : Bool) (e : ℤ) (point : Bool) → stripped_number (signed negative 0) e point ≡ stored_number false [] (pos 0) point
zero_is negative e point = rw (signed_nought negative, tens_out_zero 20) refl

module _ (magnitude s t : ℕ) (some : magnitude ≢ 0) (small : magnitude < 10 ^ 20) (tens : magnitude ≡ s * 10 ^ t) (last : s % 10 ≢ 0) where
  abbrev out : ℕ × ℕ
  out = tens_out 20 magnitude

  -- If ten does not divide `s` and `magnitude` is `s * 10 ^ t`, then `tens_out` returns `s` and
  -- `t`.
  same_tens : (out.0 ≡ s) × (out.1 ≡ t)
  same_tens =
      let is : IsTensOut magnitude out = tens_out_is 20 magnitude some small in
      let r = int_tens (pos out.0) (pos s) out.1 t (λ _. is.1) (λ _. last) (ap pos (sym is.0 ∙ tens)) in
      (let e : pos out.0 ≡ pos s = r.0 in cc, r.1 (λ z. is.1 (let e : out.0 ≡ 0 = cc in rw e refl)))

  -- Stripping a nonzero mantissa yields its canonical digits, and adds the number of stripped zeros
  -- to the exponent.
  pub some_is : (negative : Bool) (e : ℤ) (point : Bool)
      → stripped_number (signed negative magnitude) e point ≡ stored_number negative (digits_of 10 s) (e +ℤ pos t) point
  some_is negative e point =
      let above : 0 < magnitude = omega arith in
      let sign = below_zero negative magnitude above in
      let abs = abs_signed negative magnitude in
      let number : number_from_digits 10 (digits_of 10 s) ≡ s = number_digits_of 10 s (omega arith) in
      rw (abs, sign, not_zero magnitude some, same_tens.0, same_tens.1, number) refl

-- The digits of a number that ten does not divide are canonical.
pub some_stored : (s : ℕ) → s % 10 ≢ 0 → (negative : Bool) → IsStored negative (digits_of 10 s)
some_stored s last negative = record {
  stripped = whole_stripped s last;
  no_minus = λ none. absurd
      (last (let is : 0 ≡ s = ap (number_from_digits 10) (sym none) ∙ number_digits_of 10 s (omega arith) in rw (← is) refl));
}

-- In this module, `m` is a nonzero mantissa below `2 ^ 64`, from which trailing zeros are stripped.
module _ (m : ℤ) (word : nat_abs m < 2 ^ 64) (some : nat_abs m ≢ 0) where
  pub tens_are : IsTensOut (nat_abs m) (tens_out 20 (nat_abs m))
  tens_are = tens_out_is 20 (nat_abs m) some (omega arith)

  pub few_tens : (tens_out 20 (nat_abs m)).1 < 20
  few_tens = let out = tens_out 20 (nat_abs m) in tens_few (nat_abs m) out.0 out.1 word (λ e. tens_are.1 (rw e refl)) tens_are.0

  pub without_tens : (e : ℤ) (point : Bool) → let out = tens_out 20 (nat_abs m) in
      stripped_number m e point ≡ stored_number (int_lt m (pos 0)) (digits_of 10 out.0) (e +ℤ pos out.1) point
  without_tens e point =
      let out = tens_out 20 (nat_abs m) in
      ap (λ n. stripped_number n e point) (sym (sign_and_magnitude m))
      ∙ some_is (nat_abs m) out.0 out.1 some (omega arith) tens_are.0 tens_are.1 (int_lt m (pos 0)) e point

module _ (z : ℤ) (word : nat_abs z < 2 ^ 64) where
  abbrev number : Decimal
  number = stripped_number z (pos 0) false

  some_num : nat_abs z ≢ 0 → IsNum number
  some_num some =
      let out = tens_out 20 (nat_abs z) in
      subst IsNum (sym (without_tens z word some (pos 0) false))
      (whole_num (int_lt z (pos 0)) out.0 out.1 (few_tens z word some) (tens_are z word some).1)

  zero_num : IsNum (stored_number false [] (pos 0) false)
  zero_num = record {
    plain = record { zero = λ _. refl; stripped = λ n. absurd (n refl); whole = λ _. omega (arith, ints) };
    in_range = refl;
  }

  is_num : IsNum number
  is_num = elim (zero_or_not z) [
    | inl e ↦ subst (λ y. IsNum (stripped_number y (pos 0) false)) (sym e) (subst IsNum (sym (zero_is false (pos 0) false)) zero_num)
    | inr n ↦ some_num (λ e. n (abs_zero z e))
  ]

  -- An integer of 64 bits is not stored as a list of digits.
  same_word : (n : Decimal) (a b c : Bool) → (b ≡ false → c ≡ true) → (let f : FormOf = elim a [
    | true ↦ packed z (pos 0) false
    | false ↦
        elim b [ true ↦ signed_word z | false ↦ elim c [ true ↦ unsigned_word (nat_abs z) | false ↦ digits_form n ] ]
  ] in
      f) ≡ elim a [ true ↦ packed z (pos 0) false | false ↦ elim b [ true ↦ signed_word z | false ↦ unsigned_word (nat_abs z) ] ]
  same_word n a b c h = grind arith

  module _ (f : FormOf) (fits : fits_i64 z ≡ false → fits_u64 z ≡ true) (is : f ≡ integer_word z) where
    pub form_is : f ≡ form_of number
    form_is = is ∙ sym (ap (integer_form number) (sym (value_is number z is_num.plain (integer_value z)).1)
        ∙ same_word number (fits_packed z) (fits_i64 z) (fits_u64 z) fits)

    pub word_num : IsNum (form_number f)
    word_num = stored_num number f is_num form_is

    pub word_form : form_of (form_number f) ≡ f
    word_form = stored_form_of number f is_num form_is

    pub word_integer : IsInteger (form_number f) z
    word_integer = subst (λ n. IsInteger n z) (sym (form_has number f is_num.plain form_is))
        (record { value = integer_value z; no_point = refl })

-- An integer that fits an `i64` has an absolute value below `2 ^ 64`.
pub signed_small : (z : ℤ) → FitsSigned w64 z → nat_abs z < 2 ^ 64
signed_small z h = omega (arith, ints)

pub signed_fits : (z : ℤ) → FitsSigned w64 z → fits_i64 z ≡ true
signed_fits z h = grind (arith, ints)

-- A natural number below `2 ^ 64` fits a `u64`.
pub unsigned_fits : (n : ℕ) → n < 2 ^ 64 → fits_u64 (pos n) ≡ true
unsigned_fits n h = grind (arith, ints)

pub signed_known : (z : ℤ) → FitsSigned w64 z → fits_i64 z ≡ false → fits_u64 z ≡ true
signed_known z h n = absurd (let e = signed_fits z h in cc)
