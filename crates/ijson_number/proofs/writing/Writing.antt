-- The text of an integer is the text that the standard library writes.
use Rattle.ijson_number.proofs.Common.{◌≡◌, ℕ, zero, suc, ◌+◌, ◌/◌, ◌%◌, ◌^◌, ◌<◌, List, [], ◌∷◌, ◌++◌, length, take, drop, refl, ap, sym, ◌∙◌, arith}
use Rattle.ijson_number.proofs.Common.{ℤ, pos, negsuc, neg_ℤ, nat_abs, Bool, true, false, ◌||◌, int_le, int_lt, ◌<ℤ◌, ◌+ℤ◌, ◌-ℤ◌, nat_eq, ints}
use Rattle.ijson_number.proofs.Common.{nat_tests, decimal_by_steps_wide, decimal_digit, map-append, digits_of_step, decimal, signed_decimal}
use Rattle.ijson_number.proofs.Common.{digits_of, number_from_digits, whole_text, digits_text, scientific_text, point_text, shape_text, minus_text}
use Rattle.ijson_number.proofs.Common.{num_text, Decimal, signed, stored_number, decimal_of, IsStripped, abs_signed}
use Rattle.ijson_number.proofs.writing.DigitTexts.{digits_are, stored_digits_are}
use Rattle.ijson_number.specs.declared.repr.stored.StrippedNumber.{StrippedNumber}
use Rattle.ijson_number.proofs.BooleanTests.{not_zero}
use Rattle.ijson_number.proofs.parsing.Denotes.{stripped_mod}

pub decimal_is : (n : ℕ) → n < 10 ^ 64 → 0 < n → decimal n ≡ digits_text (digits_of 10 n)
decimal_is n h p =
    let P : ℕ → List ℕ → Type 0 = λ n ds. 0 < n → ds ≡ digits_text (digits_of 10 n) in
    decimal_by_steps_wide P
    (λ n l q. let a : n / 10 ≡ 0 = omega arith in let b : n % 10 ≡ n = omega arith in
    sym (ap digits_text (digits_of_step 10 n (omega arith) q) ∙ rw (a, b) refl))
    (λ n ds l ih q. rw (digits_of_step 10 n (omega arith) q)
    (rw (map-append {A = ℕ} {B = ℕ} (λ d. 48 + d) (digits_of 10 (n / 10)) (n % 10 ∷ []), ← ih (omega arith)) refl))
    n h p

pub whole_text_is : (z : ℤ) → nat_abs z < 10 ^ 64 → whole_text z ≡ signed_decimal z
whole_text_is (pos zero) h = sym (decimal_digit 0 (omega arith))
whole_text_is (pos (suc n)) h = ap digits_text (digits_are (suc n) (suc n)) ∙ sym (decimal_is (suc n) h (omega arith))
whole_text_is (negsuc n) h = ap (λ x. 45 ∷ digits_text x) (digits_are (suc n) (suc n))
    ∙ ap (λ x. 45 ∷ x) (sym (decimal_is (suc n) h (omega arith)))

power_text : (p z : ℤ) → neg_ℤ (pos (2 ^ 70)) <ℤ p → p <ℤ pos (2 ^ 70) → z ≡ p -ℤ pos 1 → signed_decimal z ≡ whole_text (p -ℤ pos 1)
power_text p z l h e = rw e (sym (whole_text_is (p -ℤ pos 1) (omega (arith, ints))))

pub one_digit : (ds f r : List ℕ) (p z : ℤ) → f ≡ take 1 ds → r ≡ drop 1 ds → length r ≡ 0 → 0 < length ds → neg_ℤ (pos (2 ^ 70)) <ℤ p
    → p <ℤ pos (2 ^ 70) → z ≡ p -ℤ pos 1 → digits_text f ++ 101 ∷ signed_decimal z ≡ scientific_text ds p
one_digit [] f r p z a b n s l h e = absurd (omega arith)
one_digit (d ∷ []) f r p z a b n s l h e = rw (a, power_text p z l h e) refl
one_digit (d ∷ c ∷ ds) f r p z a b n s l h e = let k : length r ≡ suc (length ds) = ap (λ (x : List ℕ). length x) b in absurd (omega arith)

pub more_digits : (ds f r : List ℕ) (p z : ℤ) → f ≡ take 1 ds → r ≡ drop 1 ds → (length r ≡ 0 → ⊥) → neg_ℤ (pos (2 ^ 70)) <ℤ p
    → p <ℤ pos (2 ^ 70) → z ≡ p -ℤ pos 1 → digits_text f ++ 46 ∷ (digits_text r ++ 101 ∷ signed_decimal z) ≡ scientific_text ds p
more_digits [] f r p z a b n l h e = absurd (n (ap (λ (x : List ℕ). length x) b))
more_digits (d ∷ []) f r p z a b n l h e = absurd (n (ap (λ (x : List ℕ). length x) b))
more_digits (d ∷ c ∷ ds) f r p z a b n l h e = rw (a, b, power_text p z l h e) refl

-- The text of digits with a decimal point, in scientific notation if `scientific` is true.
abbrev pub float_shape : Bool → List ℕ → ℤ → List ℕ
float_shape scientific ds p = elim scientific [ true ↦ scientific_text ds p | false ↦ point_text ds p ]

pub float_shape_is : (scientific point : Bool) (ds : List ℕ) (e p : ℤ) → point ≡ true → p ≡ pos (length ds) +ℤ e
    → int_le p (negsuc 5) || int_lt (pos 20) e ≡ scientific → float_shape scientific ds p ≡ shape_text point ds e
float_shape_is scientific point ds e p a b t = rw (a, b, ← rw b at t) refl

pub below_zero : (negative : Bool) (v : ℕ) → 0 < v → int_lt (signed negative v) (pos 0) ≡ negative
below_zero negative v h = grind (arith, ints, nat_tests)

-- The sign and the `shape_text` of nonzero stored digits are the text of their number.
pub stored_text : (negative : Bool) (ds : List ℕ) (e : ℤ) (point : Bool) → IsStripped ds → 0 < length ds
    → minus_text negative ++ shape_text point ds e ≡ num_text (stored_number negative ds e point)
stored_text negative ds e point s h =
    let number = number_from_digits 10 ds in
    let n = stripped_mod ds s h in
    let some : nat_eq (nat_abs (signed negative number)) 0 ≡ false =
    rw (abs_signed negative number) (not_zero number (λ z. omega (arith, n, z))) in
    rw (some, num_text, below_zero negative number (omega (arith, n)), stored_digits_are negative ds e point s) refl

-- If `x` stores the nonzero number `n`, the sign and the `shape_text` of `x` are the text of `n`.
pub shown_text : (x : StrippedNumber) (n : Decimal) (minus : Bool) (bits : ℤ) → decimal_of x ≡ n → bits ≡ x.exponent
    → 0 < length x.digits.now → x.negative ≡ minus → minus_text minus ++ shape_text x.point x.digits.now bits ≡ num_text n
shown_text x n minus bits is exact some sign =
    rw (← sign, exact) (stored_text x.negative x.digits.now x.exponent x.point x.stripped.stripped some ∙ ap num_text is)
