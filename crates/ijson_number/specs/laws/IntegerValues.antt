-- The stripped decimal of an integer has that integer's value.
use Rattle.std.proofs.Common.{◌≡◌, ℕ, zero, suc, ◌*◌, ◌/◌, ◌%◌, ◌^◌, Bool, true, false, refl, ap, ap₂, sym, ◌∙◌, arith}
use Rattle.std.specs.Prelude.{ℤ, pos, negsuc, nat_abs, nat_eq, int_lt, ◌*ℤ◌, ◌-ℤ◌, ◌≤ℤ◌}
use Rattle.std.specs.Cmp.{int_cmp_total, tied_itself}
use Rattle.std.specs.Ordering.{int_cmp, is_eq}
use Rattle.std.specs.declared.cmp.Ordering.TheVariants.{Equal}
use Rattle.std.proofs.Math.Nat.{pow-succ'}
use Rattle.std.proofs.lemmas.Bool.Decides.{nat_tests}
use Rattle.std.proofs.lemmas.Int.{ints}
use Rattle.ijson_number.specs.Integers.{integer, HasValue}
use Rattle.ijson_number.specs.Order.{number_cmp}
use Rattle.ijson_number.specs.Stripped.{with_ten, tens_out, exponent_above, stripped_number}
use Rattle.ijson_number.specs.Strips.{signed}
use Rattle.ijson_number.specs.laws.Ordered.{rescale}
use Rattle.ijson_number.specs.laws.Tens.{int_zero, signed_mul}

pub ten_more : (n q k : ℕ) → n % 10 ≡ 0 → n / 10 ≡ q * 10 ^ k → n ≡ q * 10 ^ suc k
ten_more n q k h e =
    let p : 10 ^ suc k ≡ 10 * 10 ^ k = pow-succ' 10 k in
    let s : n ≡ n / 10 * 10 = omega arith in
    rw p (let t : n ≡ q * 10 ^ k * 10 = rw (← e) s in grind (arith, t))

one_turn : (b : Bool) (n : ℕ) (r : ℕ × ℕ) → nat_eq (n % 10) 0 ≡ b → n / 10 ≡ r.0 * 10 ^ r.1
    → n ≡ (with_ten b n r).0 * 10 ^ (with_ten b n r).1
one_turn true n r e h = let z : n % 10 ≡ 0 = grind arith in ten_more n r.0 r.1 z h
one_turn false n r e h = omega arith

-- Multiplying the stripped number by ten for each stripped zero yields the original number.
zeros_again : (turns n : ℕ) → n ≡ (tens_out turns n).0 * 10 ^ (tens_out turns n).1
unfolding tens_out
zeros_again zero n = omega arith
zeros_again (suc turns) n = one_turn (nat_eq (n % 10) 0) n (tens_out turns (n / 10)) refl (zeros_again turns (n / 10))

pub sign_and_magnitude : (m : ℤ) → signed (int_lt m (pos 0)) (nat_abs m) ≡ m
sign_and_magnitude (pos zero) = refl
sign_and_magnitude (pos (suc n)) = let t : int_lt (pos (suc n)) (pos 0) ≡ false = grind (arith, nat_tests) in rw t refl
sign_and_magnitude (negsuc n) = refl

nothing : (m : ℤ) → nat_abs m ≡ 0 → m ≡ pos 0
nothing (pos n) h = ap pos h
nothing (negsuc n) h = absurd (cc)

whole : (b : Bool) (k : ℕ) → pos 0 ≤ℤ exponent_above b (pos 0) k
whole true k = omega (arith, ints)
whole false k = omega (arith, ints)

module _ (z : ℤ) where
  abbrev out : ℕ × ℕ
  out = tens_out 20 (nat_abs z)

  abbrev mantissa : ℤ
  mantissa = signed (int_lt z (pos 0)) out.0

  scaled : mantissa *ℤ pos (10 ^ out.1) ≡ z
  scaled = sym (signed_mul (int_lt z (pos 0)) out.0 (10 ^ out.1))
      ∙ (ap (signed (int_lt z (pos 0))) (sym (zeros_again 20 (nat_abs z))) ∙ sign_and_magnitude z)

  at_zero : (b : Bool) → nat_eq (nat_abs z) 0 ≡ b → mantissa *ℤ pos (10 ^ nat_abs (exponent_above b (pos 0) out.1 -ℤ pos 0)) ≡ z
  at_zero false e =
      let k : nat_abs (exponent_above false (pos 0) out.1 -ℤ pos 0) ≡ out.1 = omega (arith, ints) in
      ap (λ n. mantissa *ℤ pos (10 ^ n)) k ∙ scaled
  at_zero true e =
      let none : nat_abs z ≡ 0 = grind arith in
      let is = nothing z none in
      let product : 0 * 10 ^ nat_abs (pos 0 -ℤ pos 0) ≡ 0 = omega arith in
      ap (λ m. m *ℤ pos (10 ^ nat_abs (pos 0 -ℤ pos 0))) (int_zero mantissa out.1 (scaled ∙ is)) ∙ (ap pos product ∙ sym is)

  pub integer_value : HasValue (stripped_number z (pos 0) false) z
  integer_value =
      let once : z *ℤ pos (10 ^ nat_abs (pos 0 -ℤ pos 0)) ≡ z = grind (arith, ints) in
      let c : number_cmp (stripped_number z (pos 0) false) (integer z) ≡ Equal =
      rescale (stripped_number z (pos 0) false) (integer z) (pos 0) (whole (nat_eq (nat_abs z) 0) out.1) (omega (arith, ints))
      ∙ (ap₂ int_cmp (at_zero (nat_eq (nat_abs z) 0) refl) once ∙ tied_itself int_cmp_total z) in
      ap is_eq c
