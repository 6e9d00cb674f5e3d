-- The representation of a number denotes that number.
use Rattle.ijson_number.proofs.Common.{◌≡◌, ◌≢◌, ℕ, zero, suc, ◌*◌, ◌/◌, ◌%◌, ◌^◌, ◌<◌, Bool, true, false, refl, ap, sym, ◌∙◌, inl, inr, subst, arith}
use Rattle.ijson_number.proofs.Common.{ℤ, pos, negsuc, nat_abs, nat_eq, int_le, int_lt, ◌*ℤ◌, ◌+ℤ◌, ◌-ℤ◌, ◌≤ℤ◌, ◌&&◌, number_from_digits, pow-succ'}
use Rattle.ijson_number.proofs.Common.{ints, number_digits_of, and_parts, Decimal, IsPlain, FormOf, packed, fits_packed, fits_i64, fits_u64}
use Rattle.ijson_number.proofs.Common.{digits_form, integer_form, smallest_packed, form_of, form_number, with_ten, exponent_above, stripped_number}
use Rattle.ijson_number.proofs.Common.{IsNum, Strips, signed, stripped_digits, int_tens, int_zero, signed_mul, abs_signed, zero_or_not}
use Rattle.ijson_number.specs.Stripped.{tens_out}
use Rattle.ijson_number.specs.laws.IntegerValues.{ten_more}
use Rattle.ijson_number.proofs.writing.DigitTexts.{digits_are}
use Rattle.ijson_number.proofs.parsing.Denotes.{same_decimal}
use Rattle.ijson_number.proofs.BooleanTests.{abs_zero, not_zero, test_le}
use Rattle.ijson_number.proofs.storing.WholeValues.{times_one}
use Rattle.ijson_number.proofs.comparing.MagnitudeOrder.{gap}
pub use Rattle.ijson_number.specs.laws.IntegerValues.{sign_and_magnitude}

abbrev pub IsTensOut : ℕ → ℕ × ℕ → Type 0
IsTensOut n r = (n ≡ r.0 * 10 ^ r.1) × (r.0 % 10 ≢ 0)

one_turn : (b : Bool) (n : ℕ) (r : ℕ × ℕ) → nat_eq (n % 10) 0 ≡ b → (n % 10 ≡ 0 → IsTensOut (n / 10) r) → IsTensOut n (with_ten b n r)
one_turn true n r e h = let z : n % 10 ≡ 0 = grind arith in let t = h z in (ten_more n r.0 r.1 z t.0, t.1)
one_turn false n r e h = (let p : n ≡ n * 10 ^ 0 = omega arith in p, λ z. (let t : nat_eq (n % 10) 0 ≡ true = grind arith in cc))

pub tens_out_is : (turns n : ℕ) → n ≢ 0 → n < 10 ^ turns → IsTensOut n (tens_out turns n)
unfolding tens_out
tens_out_is zero n h l = absurd (h (omega arith))
tens_out_is (suc turns) n h l =
    let p : 10 ^ suc turns ≡ 10 * 10 ^ turns = pow-succ' 10 turns in
    one_turn (nat_eq (n % 10) 0) n (tens_out turns (n / 10)) refl (λ z. tens_out_is turns (n / 10) (λ e. h (omega arith)) (omega arith))

pub tens_out_zero : (turns : ℕ) → (tens_out turns 0).0 ≡ 0
unfolding tens_out
tens_out_zero zero = refl
tens_out_zero (suc turns) = tens_out_zero turns

module _ (m e : ℤ) (n : Decimal) (small : nat_abs m < 10 ^ 20) (s : Strips m e n) where
  abbrev out : ℕ × ℕ
  out = tens_out 20 (nat_abs m)

  zero_parts : m ≡ pos 0 → n.mantissa ≡ pos 0
  zero_parts z = elim s.tens [ inl t ↦ t.1 | inr t ↦ int_zero n.mantissa t.0 (sym t.1 ∙ z) ]

  module _ (some : m ≢ pos 0) where
    tens : IsTensOut (nat_abs m) out
    tens = tens_out_is 20 (nat_abs m) (λ z. some (abs_zero m z)) small

    scaled : m ≡ signed (int_lt m (pos 0)) out.0 *ℤ pos (10 ^ out.1)
    scaled = sym (sign_and_magnitude m) ∙ ap (signed (int_lt m (pos 0))) tens.0 ∙ signed_mul (int_lt m (pos 0)) out.0 (10 ^ out.1)

    parts : (k : ℕ) → m ≡ n.mantissa *ℤ pos (10 ^ k) → n.exponent ≡ e +ℤ pos k
        → (signed (int_lt m (pos 0)) out.0 ≡ n.mantissa) × (e +ℤ pos out.1 ≡ n.exponent)
    parts k is x =
        let r = int_tens (signed (int_lt m (pos 0)) out.0) n.mantissa out.1 k
        (λ _. rw (abs_signed (int_lt m (pos 0)) out.0) tens.1) s.plain.stripped (sym scaled ∙ is) in
        (r.0, (let j = r.1 (λ z. some (scaled ∙ rw z (let w : 0 * 10 ^ out.1 ≡ 0 = omega arith in ap pos w))) in omega (arith, ints, x)))

  -- If `n` is `m * 10 ^ e` without trailing zeros, and `m` has at most 20 digits, stripping the
  -- trailing zeros of `m` yields `n`.
  pub stripped_is : stripped_number m e n.point ≡ n
  stripped_is =
      elim (zero_or_not m) [
        | inl z ↦ rw z (same_decimal _ n.mantissa _ n.exponent n.point n.point (ap pos (tens_out_zero 20) ∙ sym (zero_parts z))
            (sym (s.plain.zero (zero_parts z))) refl)
        | inr some ↦ elim s.tens [
          | inl t ↦ absurd (some t.0)
          | inr t ↦ (let r = parts some t.0 t.1 t.2 in
              same_decimal _ n.mantissa _ n.exponent n.point n.point r.0
              (ap (λ b. exponent_above b e out.1) (not_zero (nat_abs m) (λ z. some (abs_zero m z))) ∙ r.1) refl)
        ]
      ]

-- An integer that fits a `u64` is equal to its absolute value.
pub not_below : (z : ℤ) → fits_u64 z ≡ true → pos (nat_abs z) ≡ z
not_below z t = grind (arith, ints)

module _ (n : Decimal) (plain : IsPlain n) where
  -- If `n` is stored as a list of digits, the list denotes `n`.
  pub digits_case : form_number (digits_form n) ≡ n
  digits_case =
      let magnitude = nat_abs n.mantissa in
      let is : number_from_digits 10 (stripped_digits n) ≡ magnitude = ap (number_from_digits 10) (digits_are magnitude magnitude)
      ∙ number_digits_of 10 magnitude (omega arith) in
      same_decimal _ n.mantissa n.exponent n.exponent n.point n.point
      (ap (signed (int_lt n.mantissa (pos 0))) is ∙ sign_and_magnitude n.mantissa) refl refl

  -- If `n` is packed with some trailing zeros in its mantissa, the packed number denotes `n`.
  packed_case : (k : ℤ) (m : ℤ) → k ≤ℤ n.exponent → m ≡ n.mantissa *ℤ pos (10 ^ nat_abs (n.exponent -ℤ k)) → nat_abs m < 10 ^ 20
      → stripped_number m k n.point ≡ n
  packed_case k m h is small = stripped_is m k n small (record { plain = plain; tens = inr (nat_abs (n.exponent -ℤ k), is, gap n.exponent k h) })

  whole_case : (z : ℤ) → n.point ≡ false → z ≡ n.mantissa *ℤ pos (10 ^ nat_abs n.exponent) → nat_abs z < 10 ^ 20
      → stripped_number z (pos 0) false ≡ n
  whole_case z h is small =
      let e : n.exponent -ℤ pos 0 ≡ n.exponent = omega (arith, ints) in
      ap (λ p. stripped_number z (pos 0) p) (sym h)
      ∙ packed_case (pos 0) z (plain.whole h) (is ∙ ap (λ d. n.mantissa *ℤ pos (10 ^ nat_abs d)) (sym e)) small

  either : (b : Bool) (x y : FormOf) → (b ≡ true → form_number x ≡ n) → (b ≡ false → form_number y ≡ n)
      → form_number (elim b [ true ↦ x | false ↦ y ]) ≡ n
  either true x y p q = p refl
  either false x y p q = q refl

  integer_case : (z : ℤ) → n.point ≡ false → z ≡ n.mantissa *ℤ pos (10 ^ nat_abs n.exponent) → form_number (integer_form n z) ≡ n
  integer_case z h is =
      either (fits_packed z) _ _ (λ t. whole_case z h is (grind (arith, ints)))
      (λ _. either (fits_i64 z) _ _
      (λ t. whole_case z h is (grind (arith, ints)))
      (λ _. either (fits_u64 z) _ _
      (λ t. ap (λ y. stripped_number y (pos 0) false) (not_below z t) ∙ whole_case z h is (grind (arith, ints)))
      (λ _. digits_case)))

  packed_test : (k m : ℤ) → n.point ≡ true → m ≡ n.mantissa *ℤ pos (10 ^ nat_abs (n.exponent -ℤ k))
      → int_le k n.exponent && fits_packed m ≡ true → form_number (packed m k true) ≡ n
  packed_test k m h is t =
      let b = and_parts (int_le k n.exponent) (fits_packed m) t in
      ap (λ p. stripped_number m k p) (sym h) ∙ packed_case k m (test_le k n.exponent b.0) is (grind (arith, ints))

  smallest_case : (tries k : ℕ) → n.point ≡ true → form_number (smallest_packed tries k n) ≡ n
  smallest_case zero k h = digits_case
  smallest_case (suc tries) k h =
      let m = n.mantissa *ℤ pos (10 ^ nat_abs (n.exponent -ℤ pos k)) in
      either (int_le (pos k) n.exponent && fits_packed m) (packed m (pos k) true) (smallest_packed tries (suc k) n)
      (packed_test (pos k) m h refl) (λ _. smallest_case tries (suc k) h)

  no_tens : n.mantissa ≡ n.mantissa *ℤ pos (10 ^ nat_abs (n.exponent -ℤ n.exponent))
  no_tens = let e : n.exponent -ℤ n.exponent ≡ pos 0 = omega (arith, ints) in rw e (sym (times_one n.mantissa))

  fraction_test : n.point ≡ true → int_le (negsuc 6) n.exponent && fits_packed n.mantissa ≡ true
      → form_number (packed n.mantissa n.exponent true) ≡ n
  fraction_test h t =
      let b = and_parts (int_le (negsuc 6) n.exponent) (fits_packed n.mantissa) t in
      ap (λ p. stripped_number n.mantissa n.exponent p) (sym h)
      ∙ packed_case n.exponent n.mantissa (omega (arith, ints)) no_tens (grind (arith, ints))

  -- The representation of `n` denotes `n`.
  pub number_of_form : form_number (form_of n) ≡ n
  number_of_form =
      either n.point _ _
      (λ h. either (int_le (pos 0) n.exponent) _ _ (λ _. smallest_case 8 0 h)
      (λ _. either (int_le (negsuc 6) n.exponent && fits_packed n.mantissa) _ _ (fraction_test h) (λ _. digits_case)))
      (λ h. integer_case (n.mantissa *ℤ pos (10 ^ nat_abs n.exponent)) h refl)

-- If `f` is the representation of `n`, then `f` denotes `n`.
pub form_has : (n : Decimal) (f : FormOf) → IsPlain n → f ≡ form_of n → form_number f ≡ n
form_has n f plain e = ap form_number e ∙ number_of_form n plain

pub stored_num : (n : Decimal) (f : FormOf) → IsNum n → f ≡ form_of n → IsNum (form_number f)
stored_num n f num e = subst IsNum (sym (form_has n f num.plain e)) num

pub stored_form_of : (n : Decimal) (f : FormOf) → IsNum n → f ≡ form_of n → form_of (form_number f) ≡ f
stored_form_of n f num e = ap form_of (form_has n f num.plain e) ∙ sym e
