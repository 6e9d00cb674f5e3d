-- Numbers with an integer value: their digits, their bounds and their comparison.
use Rattle.ijson_number.proofs.Common.{◌≡◌, ◌≢◌, ◌⊎◌, ℕ, suc, ◌+◌, ◌-◌, ◌*◌, ◌/◌, ◌%◌, ◌^◌, ◌<◌, ◌≤◌, Bool, false, List, [], ◌∷◌, ◌++◌, length}
use Rattle.ijson_number.proofs.Common.{get_or, take, Option, Some, None, refl, ap, sym, ◌∙◌, inl, inr, arith, pow-add, ℤ, pos, negsuc, nat_abs}
use Rattle.ijson_number.proofs.Common.{IfNone, ◌+ℤ◌, ◌-ℤ◌, ◌*ℤ◌, ◌≤ℤ◌, ◌<ℤ◌, digits_of, number_from_digits, alike_right, int_cmp}
use Rattle.ijson_number.proofs.Common.{pow-succ', mul-mod_left, mul-le-mul_right, ints, digits_of_step, all_below_base_digits_of, first_digits_of}
use Rattle.ijson_number.proofs.Common.{number_digits_of, number_lt, All, cases_lt, length-take, All-from_recursion, recursion_from_All, Decimal}
use Rattle.ijson_number.proofs.Common.{IsPlain, integer, HasValue, IsInteger, number_cmp, IsNum, stored_number, signed, length-append}
use Rattle.ijson_number.proofs.Common.{get_or-append_seam, number_cmp_total, rescale, tests_equal, cmp_equal, nonneg, IsStripped, power_le}
use Rattle.ijson_number.proofs.Common.{abs_signed}
use Rattle.ijson_number.proofs.writing.DigitTexts.{below_take}
use Rattle.ijson_number.proofs.comparing.MagnitudeOrder.{scaled_below, number_least}
use Rattle.ijson_number.proofs.parsing.Exponents.{within_in_range}
use Rattle.ijson_number.proofs.parsing.Denotes.{stripped_plain}

last_pushed : (ds : List ℕ) (d : ℕ) → get_or (ds ++ d ∷ []) (length (ds ++ d ∷ []) - 1) 0 ≡ d
last_pushed ds d = let at : length (ds ++ d ∷ []) - 1 ≡ length ds = simp length-append (omega arith) in rw at (get_or-append_seam ds d [] 0)

-- The digits of a number that ten does not divide are canonical.
pub whole_stripped : (n : ℕ) → n % 10 ≢ 0 → IsStripped (digits_of 10 n)
whole_stripped n h =
    let some : 0 < n = omega arith in
    let f = first_digits_of 10 n (omega arith) some in
    record {
      below_ten = All-from_recursion (λ d. d < 10) (digits_of 10 n) (all_below_base_digits_of 10 n (omega arith));
      first = λ _ e. omega arith;
      last = λ _. rw (digits_of_step 10 n (omega arith) some, last_pushed (digits_of 10 (n / 10)) (n % 10)) h;
    }

pub times_one : (m : ℤ) → m *ℤ pos 1 ≡ m
times_one m = grind (arith, ints)

pub abs_times : (m : ℤ) (k : ℕ) → nat_abs (m *ℤ pos k) ≡ nat_abs m * k
abs_times m k = grind (arith, ints)

above_cmp_is : (n : Decimal) (z : ℤ) → pos 0 ≤ℤ n.exponent → number_cmp n (integer z) ≡ int_cmp (n.mantissa *ℤ pos (10 ^ nat_abs n.exponent)) z
above_cmp_is n z h =
    let e : n.exponent -ℤ pos 0 ≡ n.exponent = omega (arith, ints) in
    rescale n (integer z) (pos 0) h (omega (arith, ints)) ∙ rw (e, times_one z) refl

below_cmp_is : (n : Decimal) (z : ℤ) → n.exponent ≤ℤ pos 0
    → number_cmp n (integer z) ≡ int_cmp n.mantissa (z *ℤ pos (10 ^ nat_abs (pos 0 -ℤ n.exponent)))
below_cmp_is n z h =
    let e : n.exponent -ℤ n.exponent ≡ pos 0 = omega (arith, ints) in
    rescale n (integer z) n.exponent (omega (arith, ints)) h ∙ rw (e, times_one n.mantissa) refl

-- Ten divides every multiple of a positive power of ten.
pub ends_in_zero : (n k : ℕ) → n * 10 ^ suc k % 10 ≡ 0
ends_in_zero n k = let e : n * (10 * 10 ^ k) ≡ n * 10 ^ k * 10 = omega arith in rw (pow-succ' 10 k, e) (mul-mod_left (n * 10 ^ k) 10)

ten_divides : (m z : ℤ) (k : ℕ) → m ≡ z *ℤ pos (10 ^ suc k) → nat_abs m % 10 ≡ 0
ten_divides m z k e = rw (ap nat_abs e ∙ abs_times z (10 ^ suc k)) (ends_in_zero (nat_abs z) k)

-- A canonical number with a negative exponent does not have an integer value.
pub fraction_cmp : (n : Decimal) (z : ℤ) → IsPlain n → n.exponent <ℤ pos 0 → HasValue n z → ⊥
fraction_cmp n z p h v =
    let k = nat_abs (pos 0 -ℤ n.exponent) in
    let r : pos 0 -ℤ n.exponent ≡ pos k = nonneg (pos 0 -ℤ n.exponent) (omega (arith, ints)) in
    let s : k ≡ suc (k - 1) = omega (arith, ints) in
    let e = cmp_equal n.mantissa (z *ℤ pos (10 ^ k)) (sym (below_cmp_is n z (omega (arith, ints))) ∙ tests_equal _ v) in
    let m = ten_divides n.mantissa z (k - 1) (rw s at e) in
    p.stripped (λ zero. (let x : n.exponent ≡ pos 0 = p.zero zero in omega (arith, ints))) m

pub sign_cases : (z : ℤ) → (pos 0 ≤ℤ z) ⊎ (z <ℤ pos 0)
sign_cases (pos n) = inl (omega (arith, ints))
sign_cases (negsuc n) = inr (omega (arith, ints))

-- If a canonical number has the integer value `z`, its exponent is not negative, and `z` is its
-- mantissa times the power of ten of its exponent.
pub value_is : (n : Decimal) (z : ℤ) → IsPlain n → HasValue n z → (pos 0 ≤ℤ n.exponent) × (z ≡ n.mantissa *ℤ pos (10 ^ nat_abs n.exponent))
value_is n z p v =
    elim (sign_cases n.exponent) [
      | inl h ↦ (h, sym (cmp_equal _ z (sym (above_cmp_is n z h) ∙ tests_equal _ v)))
      | inr h ↦ absurd (fraction_cmp n z p h v)
    ]

-- A canonical number has at most one integer value.
pub value_one : (n : Decimal) (y z : ℤ) → IsPlain n → HasValue n y → HasValue n z → y ≡ z
value_one n y z p v w = (value_is n y p v).1 ∙ sym (value_is n z p w).1

-- If `n` has the integer value `z`, comparing a number with `n` has the same result as comparing it
-- with `z`.
pub integer_cmp : (a n : Decimal) (z : ℤ) → IsInteger n z → number_cmp a n ≡ number_cmp a (integer z)
integer_cmp a n z is = alike_right number_cmp_total n (integer z) a (tests_equal _ is.value)

-- A proper prefix of a list of at most 20 digits has a value below `10 ^ 19`.
pub number_so_far : (ds : List ℕ) (i : ℕ) → All (λ d. d < 10) ds → i < length ds → length ds ≤ 20 → number_from_digits 10 (take i ds) < 10 ^ 19
number_so_far ds i h m l =
    let b = number_lt 10 (take i ds) (below_take i ds (recursion_from_All (λ d. d < 10) ds h)) in
    let t : length (take i ds) ≤ 19 = rw (length-take i ds) (omega arith) in
    let p = power_le (length (take i ds)) 19 t in
    omega arith

-- Digits and trailing zeros, at most 20 in total, have a value below `10 ^ 20`.
pub scaled_small : (ds : List ℕ) (zeros : ℕ) → All (λ d. d < 10) ds → length ds + zeros ≤ 20 → number_from_digits 10 ds * 10 ^ zeros < 10 ^ 20
scaled_small ds zeros h l =
    let b = scaled_below ds zeros (recursion_from_All (λ d. d < 10) ds h) in
    let p = power_le (length ds + zeros) 20 l in
    omega arith

-- A nonzero number below `2 ^ 64` has fewer than 20 trailing zeros.
pub tens_few : (number rest tens : ℕ) → number < 2 ^ 64 → rest ≢ 0 → number ≡ rest * 10 ^ tens → tens < 20
tens_few number rest tens h n e =
    elim (cases_lt tens 20) [
      | inl l ↦ l
      | inr g ↦ (let p : 10 ^ 20 ≤ 10 ^ tens = power_le 20 tens g in
          let m : 1 * 10 ^ tens ≤ rest * 10 ^ tens = mul-le-mul_right (10 ^ tens) (omega (arith, n)) in absurd (omega arith))
    ]

-- If ten divides `rest`, one more trailing zero of `number` can be stripped.
pub ten_out : (number rest tens : ℕ) → rest % 10 ≡ 0 → number ≡ rest * 10 ^ tens → number ≡ rest / 10 * 10 ^ (tens + 1)
ten_out number rest tens h e =
    let whole : rest ≡ rest / 10 * 10 = omega arith in
    let r = ap (λ x. x * 10 ^ tens) whole in
    let p : 10 ^ (tens + 1) ≡ 10 ^ tens * 10 = pow-add 10 tens 1 in
    rw (e, p) (grind (arith, r))

digits_some : (ds : List ℕ) (v : ℕ) → number_from_digits 10 ds ≡ v → v % 10 ≢ 0 → 0 < length ds
digits_some [] v h m = absurd (m (rw (← h) refl))
digits_some (d ∷ ds) v h m = omega arith

-- Canonical digits with fewer than 20 trailing zeros are a `Num` without a decimal point.
pub whole_num : (negative : Bool) (s t : ℕ) → t < 20 → s % 10 ≢ 0 → IsNum (stored_number negative (digits_of 10 s) (pos 0 +ℤ pos t) false)
whole_num negative s t few n =
    let ds = digits_of 10 s in
    let some = digits_some ds s (number_digits_of 10 s (omega arith)) n in record {
      plain = stripped_plain negative false ds (pos 0 +ℤ pos t) (whole_stripped s n) some (λ _. omega (arith, ints));
      in_range = within_in_range (stored_number negative ds (pos 0 +ℤ pos t) false) (omega (arith, ints), omega (arith, ints));
    }

-- Canonical digits followed by zeros, more than 20 in total, have a value of at least `10 ^ 20`.
pub large_mantissa : (negative : Bool) (ds : List ℕ) (zeros : ℕ) → IsStripped ds → 0 < length ds → 20 < zeros + length ds
    → 10 ^ 20 ≤ nat_abs (signed negative (number_from_digits 10 ds) *ℤ pos (10 ^ zeros))
large_mantissa negative ds zeros stripped some h =
    let a = number_from_digits 10 ds in
    let magnitude : nat_abs (signed negative a *ℤ pos (10 ^ zeros)) ≡ a * 10 ^ zeros = abs_times (signed negative a) (10 ^ zeros)
    ∙ ap (λ x. x * 10 ^ zeros) (abs_signed negative a) in
    let least : 10 ^ (length ds - 1) ≤ a = number_least ds some (stripped.first some) in
    let scaled : 10 ^ (length ds - 1) * 10 ^ zeros ≤ a * 10 ^ zeros = mul-le-mul_right (10 ^ zeros) least in
    let power : 10 ^ (length ds - 1 + zeros) ≡ 10 ^ (length ds - 1) * 10 ^ zeros = pow-add 10 (length ds - 1) zeros in
    let twenty : 10 ^ 20 ≤ 10 ^ (length ds - 1 + zeros) = power_le 20 (length ds - 1 + zeros) (omega arith) in
    rw magnitude (omega arith)

-- If the mantissa times the power of ten of the exponent is at least `10 ^ 20`, the number does not
-- have an integer value below `10 ^ 20`.
pub large_value : (n : Decimal) (o : Option ℤ) → IsPlain n → IfNone o (10 ^ 20 ≤ nat_abs (n.mantissa *ℤ pos (10 ^ nat_abs n.exponent)))
    → IfNone o ((z : ℤ) → nat_abs z < 10 ^ 20 → HasValue n z → ⊥)
large_value n (Some x) p h = tt
large_value n None p h =
    λ z small v. (let is : nat_abs z ≡ nat_abs (n.mantissa *ℤ pos (10 ^ nat_abs n.exponent)) = ap nat_abs (value_is n z p v).1 in
    omega arith)
