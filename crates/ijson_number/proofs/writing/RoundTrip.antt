-- The text of a number spells that number.
use Rattle.ijson_number.proofs.Common.{◌≡◌, ℕ, suc, ◌+◌, ◌-◌, ◌*◌, ◌^◌, ◌<◌, Bool, true, false, List, [], ◌∷◌, ◌++◌, length, get_or, take, drop, refl}
use Rattle.ijson_number.proofs.Common.{ap, sym, ◌∙◌, inl, inr, arith, append_assoc, length-append, ℤ, pos, negsuc, neg_ℤ, nat_abs, nat_eq, int_lt}
use Rattle.ijson_number.proofs.Common.{int_le, ◌+ℤ◌, ◌-ℤ◌, ◌≤ℤ◌, ◌<ℤ◌, ◌||◌, ints, pow-succ', append-nil, length-drop, length-replicate}
use Rattle.ijson_number.proofs.Common.{number_from_digits, Decimal, IsPlain, IsNum, Strips, signed, digits_within, IsDigits, IsWhole, IsFraction}
use Rattle.ijson_number.proofs.Common.{IsExponent, Spells, value, digits_text, zeros_text, whole_text, scientific_text, point_text, float_text}
use Rattle.ijson_number.proofs.Common.{shape_text, minus_text, zero_text, num_text, IsMinus, signed_mul, nonneg}
use Rattle.ijson_number.proofs.BooleanTests.{test_le, test_not_le, test_zero, test_not_zero, abs_zero}
use Rattle.ijson_number.proofs.parsing.DigitRuns.{AllDigits-append, IsDigits_from}
use Rattle.ijson_number.proofs.parsing.DigitValues.{value_zeros_back, value_zeros_front}
use Rattle.ijson_number.proofs.storing.FormNumbers.{sign_and_magnitude}
use Rattle.ijson_number.proofs.writing.DigitTexts.{Below, below_drop, below_take, first_some, length_text, signed_text, take_first, text_digits}
use Rattle.ijson_number.proofs.writing.DigitTexts.{text_halves, value_text, whole_from, within_below, within_first, within_value, zeros_digits}

minus_is : (negative : Bool) → IsMinus (minus_text negative) negative
minus_is true = inr (refl, refl)
minus_is false = inl (refl, refl)

-- If a sign, a whole part, a fraction and an exponent denote `n`, their bytes in this order spell
-- `n`.
pub spelled : (n : Decimal) (negative : Bool) (whole fraction fraction_text exponent_text : List ℕ) (has_point has_exponent : Bool) (z : ℤ)
    → IsWhole whole → IsFraction fraction_text fraction has_point → IsExponent exponent_text z has_exponent
    → n.point ≡ has_point || has_exponent → Strips (signed negative (value (whole ++ fraction))) (z -ℤ pos (length fraction)) n
    → Spells (minus_text negative ++ whole ++ fraction_text ++ exponent_text) n
spelled n negative whole fraction fraction_text exponent_text has_point has_exponent z w f x p s = (
  record { negative = negative; whole = whole; fraction = fraction; exponent = z; point = has_point || has_exponent },
  record {
    minus_text = minus_text negative;
    fraction_text = fraction_text;
    exponent_text = exponent_text;
    has_point = has_point;
    has_exponent = has_exponent;
    text_is = refl;
    minus = minus_is negative;
    whole = w;
    fraction = f;
    exponent = x;
    point = refl;
  },
  (s, p),
)

pub at_text : (t u : List ℕ) (n : Decimal) → t ≡ u → Spells t n → Spells u n
at_text t u n e s = rw e at s

-- In this module, `n` is a nonzero number with the digits `ds`.
module _ (n : Decimal) (plain : IsPlain n) (ds : List ℕ) (negative : Bool) (below : Below ds) (first : 0 < get_or ds 0 0)
    (mantissa_is : n.mantissa ≡ signed negative (number_from_digits 10 ds)) where
  pub build : (whole fraction fraction_text exponent_text : List ℕ) (has_point has_exponent : Bool) (z : ℤ) (k : ℕ) → IsWhole whole
      → IsFraction fraction_text fraction has_point → IsExponent exponent_text z has_exponent → n.point ≡ has_point || has_exponent
      → value (whole ++ fraction) ≡ number_from_digits 10 ds * 10 ^ k → n.exponent ≡ (z -ℤ pos (length fraction)) +ℤ pos k
      → Spells (minus_text negative ++ whole ++ fraction_text ++ exponent_text) n
  build whole fraction fraction_text exponent_text has_point has_exponent z k w f x p v e =
      spelled n negative whole fraction fraction_text exponent_text has_point has_exponent z w f x p (record {
        plain = plain;
        tens = inr (k, rw (v, mantissa_is) (signed_mul negative (number_from_digits 10 ds) (10 ^ k)), e);
      })

  integer_case : n.point ≡ false → Spells (minus_text negative ++ (digits_text ds ++ zeros_text (nat_abs n.exponent))) n
  integer_case p =
      let k = nat_abs n.exponent in
      let whole = digits_text ds ++ zeros_text k in
      let e = nonneg n.exponent (plain.whole p) in
      simp append-nil at (build whole [] [] [] false false (pos 0) k (whole_from ds (zeros_text k) below first (zeros_digits k))
      (refl, refl) (refl, refl) p (rw (append-nil whole, value_zeros_back (digits_text ds) k, value_text ds) refl) (omega (arith, ints)))

  small_case : n.point ≡ true → (p : ℤ) → p ≡ pos (length ds) +ℤ n.exponent → p ≤ℤ pos 0
      → Spells (minus_text negative ++ (48 ∷ 46 ∷ zeros_text (nat_abs p) ++ digits_text ds)) n
  small_case t p pe h =
      let k = nat_abs p in
      let fraction = zeros_text k ++ digits_text ds in
      let l : length fraction ≡ k + length ds =
      rw (length-append (zeros_text k) (digits_text ds), length-replicate {A = ℕ} k 48, length_text ds) refl in
      let s : 0 < length ds = first_some ds first in
      let d : IsDigits fraction =
      IsDigits_from fraction (omega arith) (AllDigits-append (zeros_text k) (digits_text ds) (zeros_digits k) (text_digits ds below)) in
      let q : p ≡ neg_ℤ (pos k) = omega (arith, ints) in
      rw (append-nil, append_assoc) at (build (48 ∷ []) fraction (46 ∷ fraction) [] true false (pos 0) 0 (inl (refl, refl))
      (refl, d, refl, refl) (refl, refl) t (value_zeros_front k (digits_text ds) ∙ value_text ds ∙ omega arith) (omega (arith, ints)))

  large_case : n.point ≡ true → (p : ℤ) → p ≡ pos (length ds) +ℤ n.exponent → pos (length ds) ≤ℤ p
      → Spells (minus_text negative ++ (digits_text ds ++ zeros_text (nat_abs (p -ℤ pos (length ds))) ++ 46 ∷ 48 ∷ [])) n
  large_case t p pe h =
      let k = nat_abs (p -ℤ pos (length ds)) in
      let whole = digits_text ds ++ zeros_text k in
      let q : p -ℤ pos (length ds) ≡ pos k = nonneg (p -ℤ pos (length ds)) (omega (arith, ints)) in
      rw (append-nil, append_assoc (minus_text negative)) at (build whole (48 ∷ []) (46 ∷ 48 ∷ []) [] true false (pos 0) (suc k)
      (whole_from ds (zeros_text k) below first (zeros_digits k)) (refl, ((omega arith, omega arith), tt), refl, refl) (refl, refl) t
      (rw (value_zeros_back whole 1, value_zeros_back (digits_text ds) k, value_text ds, pow-succ' 10 k) (omega arith)) (omega (arith, ints)))

  middle_case : n.point ≡ true → (p : ℤ) → p ≡ pos (length ds) +ℤ n.exponent → pos 0 <ℤ p → p <ℤ pos (length ds)
      → Spells (minus_text negative ++ (digits_text (take (nat_abs p) ds) ++ 46 ∷ digits_text (drop (nat_abs p) ds))) n
  middle_case t p pe h g =
      let j = nat_abs p in
      let fraction = digits_text (drop j ds) in
      let q : p ≡ pos j = nonneg p (omega (arith, ints)) in
      let l : length fraction ≡ length ds - j = length_text (drop j ds) ∙ length-drop {A = ℕ} j ds in
      let w : IsWhole (digits_text (take j ds)) = rw append-nil at
      (whole_from (take j ds) [] (below_take j ds below) (take_first j ds (omega (arith, ints)) first) tt) in
      let d : IsDigits fraction = IsDigits_from fraction (omega (arith, ints)) (text_digits (drop j ds) (below_drop j ds below)) in
      rw (append-nil, append_assoc) at (build (digits_text (take j ds)) fraction (46 ∷ fraction) [] true false (pos 0) 0 w
      (refl, d, refl, refl) (refl, refl) t (ap value (text_halves j ds) ∙ value_text ds ∙ omega arith) (omega (arith, ints)))

scientific_case : (n : Decimal) (plain : IsPlain n) (ds : List ℕ) (negative : Bool) (below : Below ds) (first : 0 < get_or ds 0 0)
    (mantissa_is : n.mantissa ≡ signed negative (number_from_digits 10 ds)) → n.point ≡ true → (p : ℤ) → p ≡ pos (length ds) +ℤ n.exponent
    → Spells (minus_text negative ++ scientific_text ds p) n
scientific_case n plain [] negative below first mantissa_is t p pe = absurd (omega arith)
scientific_case n plain (d ∷ []) negative below first mantissa_is t p pe =
    rw (append-nil, append_assoc) at (build n plain (d ∷ []) negative below first mantissa_is ((48 + d) ∷ []) [] []
    (101 ∷ whole_text (p -ℤ pos 1)) false true (p -ℤ pos 1) 0 (inr (omega arith, omega arith, tt)) (refl, refl)
    (inl refl, signed_text (p -ℤ pos 1), refl) t (value_text (d ∷ []) ∙ omega arith) (omega (arith, ints)))
scientific_case n plain (d ∷ c ∷ ds) negative below first mantissa_is t p pe =
    let fraction = digits_text (c ∷ ds) in
    let l : length fraction ≡ suc (length ds) = length_text (c ∷ ds) in
    rw (append_assoc (minus_text negative ++ ((48 + d) ∷ [])), append_assoc (minus_text negative)) at (build n plain (d ∷ c ∷ ds) negative below first mantissa_is ((48 + d) ∷ []) fraction (46 ∷ fraction)
    (101 ∷ whole_text (p -ℤ pos 1)) true true (p -ℤ pos 1) 0 (inr (omega arith, omega arith, tt))
    (refl, text_digits (c ∷ ds) below.1, refl, refl) (inl refl, signed_text (p -ℤ pos 1), refl) t
    (value_text (d ∷ c ∷ ds) ∙ omega arith) (omega (arith, ints)))

pub choose : (P : List ℕ → Type 0) (b : Bool) (xs ys : List ℕ) → (b ≡ true → P xs) → (b ≡ false → P ys) → P (elim b [ true ↦ xs | false ↦ ys ])
choose P true xs ys f g = f refl
choose P false xs ys f g = g refl

module _ (n : Decimal) (plain : IsPlain n) where
  pub zero_parts : (b : Bool) → n.point ≡ b → n.mantissa ≡ pos 0 → Spells (zero_text b) n
  zero_parts true p m = spelled n false (48 ∷ []) (48 ∷ []) (46 ∷ 48 ∷ []) [] true false (pos 0) (inl (refl, refl))
      (refl, ((omega arith, omega arith), tt), refl, refl) (refl, refl) p (record { plain = plain; tens = inl (refl, m) })
  zero_parts false p m = spelled n false (48 ∷ []) [] [] [] false false (pos 0) (inl (refl, refl)) (refl, refl) (refl, refl) p
      (record { plain = plain; tens = inl (refl, m) })

  module _ (ds : List ℕ) (negative : Bool) (below : Below ds) (first : 0 < get_or ds 0 0)
      (mantissa_is : n.mantissa ≡ signed negative (number_from_digits 10 ds)) where
    point_parts : n.point ≡ true → (p : ℤ) → p ≡ pos (length ds) +ℤ n.exponent → Spells (minus_text negative ++ point_text ds p) n
    point_parts t p pe =
        choose (λ x. Spells (minus_text negative ++ x) n) (int_le p (pos 0)) _ _
        (λ h. small_case n plain ds negative below first mantissa_is t p pe (test_le p (pos 0) h))
        (λ h. choose (λ x. Spells (minus_text negative ++ x) n) (int_le (pos (length ds)) p) _ _
        (λ g. large_case n plain ds negative below first mantissa_is t p pe (test_le (pos (length ds)) p g))
        (λ g. middle_case n plain ds negative below first mantissa_is t p pe (test_not_le p (pos 0) h) (test_not_le (pos (length ds)) p g)))

    float_parts : n.point ≡ true → Spells (minus_text negative ++ float_text ds n.exponent) n
    float_parts t =
        choose (λ x. Spells (minus_text negative ++ x) n)
        (int_le (pos (length ds) +ℤ n.exponent) (negsuc 5) || int_lt (pos 20) n.exponent) _ _
        (λ h. scientific_case n plain ds negative below first mantissa_is t (pos (length ds) +ℤ n.exponent) refl)
        (λ h. point_parts t (pos (length ds) +ℤ n.exponent) refl)

    shape_parts : Spells (minus_text negative ++ shape_text n.point ds n.exponent) n
    shape_parts = choose (λ x. Spells (minus_text negative ++ x) n) n.point _ _ float_parts
        (integer_case n plain ds negative below first mantissa_is)

-- The text of a `Num` spells that number.
pub num_text_spells : (n : Decimal) → IsNum n → Spells (num_text n) n
num_text_spells n h =
    let v = nat_abs n.mantissa in
    choose (λ x. Spells x n) (nat_eq v 0) _ _
    (λ z. zero_parts n h.plain n.point refl (abs_zero n.mantissa (test_zero v z)))
    (λ z. let some = test_not_zero v z in
    shape_parts n h.plain (digits_within v v) (int_lt n.mantissa (pos 0)) (within_below v) (within_first v some)
    (sym (sign_and_magnitude n.mantissa) ∙ ap (signed (int_lt n.mantissa (pos 0))) (sym (within_value v))))
