-- Stripping trailing zeros of a significand keeps the number that it denotes. The magnitude and the
-- exponent decide how this number is represented.
use Rattle.ijson_number.proofs.Common.{◌≡◌, ◌≢◌, ◌⊎◌, ℕ, zero, suc, ◌+◌, ◌-◌, ◌*◌, ◌%◌, ◌^◌, ◌<◌, ◌≤◌, Bool, true, false, List, [], ◌++◌, length}
use Rattle.ijson_number.proofs.Common.{refl, ap, sym, subst, ◌∙◌, inl, inr, arith, pow-add, ℤ, pos, negsuc, neg_ℤ, nat_abs, int_le, ◌≤ℤ◌, ◌<ℤ◌, ◌+ℤ◌}
use Rattle.ijson_number.proofs.Common.{◌-ℤ◌, ◌*ℤ◌, ◌&&◌, FitsSigned, IfOk, Result, w64, mul-le-mul_left, mul_assoc, and_from, cases_eq, ints}
use Rattle.ijson_number.proofs.Common.{number_digits_of, Decimal, FormOf, digits_form, integer_form, packed, fits_packed, form_of, IsSpelled, Parts}
use Rattle.ijson_number.proofs.Common.{Spells, value, IsNum, stored_number, stripped_number, Strips, signed, stored_form, ten_pos, abs_signed}
use Rattle.ijson_number.proofs.Common.{signed_mul, zero_or_not, HasFewerTens, IsSmall, canonical_number, significand_number}
use Rattle.ijson_number.specs.declared.repr.stored.Stored.{Stored}
use Rattle.ijson_number.specs.Stripped.{tens_out}
use Rattle.ijson_number.specs.declared.significand.Significand.{Significand}
use Rattle.ijson_number.proofs.BooleanTests.{abs_zero, le_test, not_le}
use Rattle.ijson_number.proofs.parsing.Denotes.{signed_nought}
use Rattle.ijson_number.proofs.parsing.Exponents.{within_in_range}
use Rattle.ijson_number.proofs.parsing.CanonicalSpellings.{parts_denote}
use Rattle.ijson_number.proofs.storing.FormCases.{left, packed_here, taken}
use Rattle.ijson_number.proofs.storing.FormNumbers.{IsTensOut, tens_out_is, stripped_is}
use Rattle.ijson_number.proofs.storing.IntegerWords.{some_is, zero_is}
use Rattle.ijson_number.proofs.storing.WholeValues.{abs_times, tens_few}

-- Appending zeros to a number does not decrease it.
pub no_more : (n k : ℕ) → n ≤ n * 10 ^ k
no_more n k = let m : n * 1 ≤ n * 10 ^ k = mul-le-mul_left n (ten_pos k) in omega arith

-- If `magnitude` is nonzero, below `2 ^ 64` and equal to `s * 10 ^ t`, and ten does not divide `s`,
-- stripping zeros yields the mantissa `s` and the exponent `e + t`.
pub canonical_of : (negative : Bool) (magnitude s t : ℕ) (e : ℤ) (point : Bool) → magnitude ≢ 0 → magnitude < 2 ^ 64 → magnitude ≡ s * 10 ^ t
    → s % 10 ≢ 0 → let n : Decimal = record { mantissa = signed negative s; exponent = e +ℤ pos t; point = point } in
    stripped_number (signed negative magnitude) e point ≡ n
canonical_of negative magnitude s t e point some word tens last =
    some_is magnitude s t some (omega arith) tens last negative e point
    ∙ ap (λ v. let n : Decimal = record { mantissa = signed negative v; exponent = e +ℤ pos t; point = point } in n)
    (number_digits_of 10 s (omega arith))

-- A significand with the magnitude 0 denotes zero, without a sign and with the exponent 0.
pub zero_number : (negative : Bool) (magnitude : ℕ) (e : ℤ) (point : Bool) → magnitude ≡ 0
    → stripped_number (signed negative magnitude) e point ≡ stored_number false [] (pos 0) point
zero_number negative magnitude e point none = rw none (zero_is negative e point)

-- Stripping all trailing zeros of a nonzero significand yields the canonical number that it
-- denotes.
pub canonical_is : (s t : Significand) → s.magnitude < 2 ^ 64 → s.magnitude ≢ 0 → HasFewerTens s t → t.magnitude % 10 ≢ 0
    → t.negative ≡ s.negative → t.point ≡ s.point → canonical_number t ≡ significand_number s
canonical_is s t word some h last negative point =
    rw (h.exponent, negative, point)
    (sym (canonical_of s.negative s.magnitude t.magnitude h.count s.exponent s.point some word h.magnitude last))

-- Stripping some trailing zeros of a significand keeps the number that it denotes.
pub fewer_tens : (s t : Significand) → s.magnitude < 2 ^ 64 → HasFewerTens s t → t.negative ≡ s.negative → t.point ≡ s.point
    → significand_number t ≡ significand_number s
fewer_tens s t word h negative point = elim (cases_eq t.magnitude 0) [
  | inl none ↦ (
      let all : s.magnitude ≡ 0 = h.magnitude ∙ rw none (omega arith) in
      zero_number t.negative t.magnitude t.exponent t.point none ∙ ap (stored_number false [] (pos 0)) point
      ∙ sym (zero_number s.negative s.magnitude s.exponent s.point all)
      )
  | inr some ↦ (
      let less : t.magnitude ≤ t.magnitude * 10 ^ h.count = no_more t.magnitude h.count in
      let out : ℕ × ℕ = tens_out 20 t.magnitude in
      let o : IsTensOut t.magnitude out = tens_out_is 20 t.magnitude some (omega (arith, less, h.magnitude)) in
      let tens : s.magnitude ≡ out.0 * 10 ^ (out.1 + h.count) = h.magnitude ∙ ap (λ m. m * 10 ^ h.count) o.0
      ∙ mul_assoc out.0 (10 ^ out.1) (10 ^ h.count) ∙ ap (λ p. out.0 * p) (sym (pow-add 10 out.1 h.count)) in
      let exponent : t.exponent +ℤ pos out.1 ≡ s.exponent +ℤ pos (out.1 + h.count) = omega (arith, ints, h.exponent) in
      canonical_of t.negative t.magnitude out.0 out.1 t.exponent t.point some (omega (arith, less, h.magnitude)) o.0 o.1
      ∙ rw (exponent, negative, point) refl
      ∙ sym (canonical_of s.negative s.magnitude out.0 (out.1 + h.count) s.exponent s.point (omega (arith, less, h.magnitude)) word tens o.1)
      )
]

-- A magnitude below `2 ^ 55` fits a packed number.
packed_fits : (negative : Bool) (m : ℕ) → m < 2 ^ 55 → fits_packed (signed negative m) ≡ true
packed_fits true zero h = refl
packed_fits true (suc m) h = grind (arith, ints)
packed_fits false m h = grind (arith, ints)

-- A number with a decimal point, the exponent 0 and a magnitude below `2 ^ 55` is packed with the
-- exponent 0.
whole_common : (negative : Bool) (m : ℕ) → m < 2 ^ 55
    → form_of (stripped_number (signed negative m) (pos 0) true) ≡ packed (signed negative m) (pos 0) true
whole_common negative m small = elim (cases_eq m 0) [
  | inl none ↦ ap form_of (zero_number negative m (pos 0) true none) ∙ rw (none, signed_nought negative) refl
  | inr some ↦ (
      let out : ℕ × ℕ = tens_out 20 m in
      let o : IsTensOut m out = tens_out_is 20 m some (omega arith) in
      let n : Decimal = record { mantissa = signed negative out.0; exponent = pos 0 +ℤ pos out.1; point = true } in
      let whole : pos 0 ≤ℤ n.exponent = omega (arith, ints) in
      let e : n.exponent ≡ pos out.1 = omega (arith, ints) in
      let tens : nat_abs n.exponent - 0 ≡ out.1 = ap (λ x. nat_abs x - 0) e ∙ omega arith in
      ap form_of (canonical_of negative m out.0 out.1 (pos 0) true some (omega arith) o.0 o.1)
      ∙ packed_here n 0 whole (taken (int_le (pos 0) n.exponent) _ _ (le_test (pos 0) n.exponent whole)) (omega arith) (signed negative m)
      (omega arith) (ap (signed negative) o.0 ∙ signed_mul negative out.0 (10 ^ out.1) ∙ ap (λ t. signed negative out.0 *ℤ pos (10 ^ t)) (sym tens))
      (packed_fits negative m small)
      )
]

-- A number with a fraction is packed if it has at most seven fraction digits and its mantissa fits.
-- Otherwise it is stored as a list of digits.
pub fraction_form : (n : Decimal) → n.point ≡ true → n.exponent <ℤ pos 0
    → form_of n ≡ (elim (int_le (negsuc 6) n.exponent && fits_packed n.mantissa) [
      | true ↦ packed n.mantissa n.exponent true
      | false ↦ digits_form n
    ])
fraction_form n point below = taken n.point _ _ point ∙ left (int_le (pos 0) n.exponent) _ _ (not_le (pos 0) n.exponent below)

-- A number whose fraction has eight or more digits and does not end with 0 is stored as a list of
-- digits.
pub deep_form : (s : Significand) → IsSmall s → s.exponent <ℤ negsuc 6 → s.magnitude % 10 ≢ 0
    → form_of (significand_number s) ≡ digits_form (canonical_number s)
deep_form s small low last =
    let m = small.magnitude in
    let none : s.exponent +ℤ pos 0 ≡ s.exponent = omega (arith, ints) in
    let same : significand_number s ≡ canonical_number s = rw none at (canonical_of s.negative s.magnitude s.magnitude 0 s.exponent s.point
    (λ z. last (rw z refl)) (omega arith) (omega arith) last) in
    ap form_of same ∙ fraction_form (canonical_number s) (let zero = small.integer in grind (arith, ints)) (omega (arith, ints))
    ∙ left (int_le (negsuc 6) s.exponent && fits_packed (signed s.negative s.magnitude)) _ _
    (ap (λ b. b && fits_packed (signed s.negative s.magnitude)) (not_le (negsuc 6) s.exponent low))

-- A number with a decimal point, an exponent from -7 to 0 and a magnitude below `2 ^ 55` is packed
-- with its own mantissa and exponent, unless its fraction ends with 0.
common_form : (negative : Bool) (m : ℕ) (e : ℤ) → m < 2 ^ 55 → negsuc 6 ≤ℤ e → e ≤ℤ pos 0 → (e <ℤ pos 0 → m % 10 ≢ 0)
    → form_of (stripped_number (signed negative m) e true) ≡ packed (signed negative m) e true
common_form negative m (pos (suc k)) small low high last = absurd (omega (arith, ints))
common_form negative m (pos zero) small low high last = whole_common negative m small
common_form negative m (negsuc k) small low high last =
    let d = last (omega (arith, ints)) in
    let tens : m ≡ m * 10 ^ 0 = omega arith in
    let none : negsuc k +ℤ pos 0 ≡ negsuc k = omega (arith, ints) in
    let n : Decimal = record { mantissa = signed negative m; exponent = negsuc k; point = true } in
    let same : stripped_number (signed negative m) (negsuc k) true ≡ n = rw none at (canonical_of negative m m 0 (negsuc k) true
    (omega arith) (omega arith) tens d) in
    ap form_of same ∙ fraction_form n refl (omega (arith, ints)) ∙ taken (int_le (negsuc 6) (negsuc k) && fits_packed n.mantissa) _ _
    (and_from (int_le (negsuc 6) (negsuc k)) (fits_packed n.mantissa) (le_test (negsuc 6) (negsuc k) low) (packed_fits negative m small))

pub common_packed : (s : Significand) → s.point ≡ true → s.magnitude < 2 ^ 55 → negsuc 6 ≤ℤ s.exponent → s.exponent ≤ℤ pos 0
    → (s.exponent <ℤ pos 0 → s.magnitude % 10 ≢ 0)
    → form_of (significand_number s) ≡ packed (signed s.negative s.magnitude) s.exponent true
common_packed s point small low high last = rw point (common_form s.negative s.magnitude s.exponent small low high last)

-- A number whose mantissa is below `2 ^ 64` and whose exponent is at most 20000 in absolute value
-- is within the limits.
few_num : (m e : ℤ) (n : Decimal) → nat_abs m < 2 ^ 64 → neg_ℤ (pos 20000) ≤ℤ e → e ≤ℤ pos 20000 → Strips m e n → IsNum n
few_num m e n word low high s = record {
  plain = s.plain;
  in_range = elim (zero_or_not n.mantissa) [
    | inl z ↦ rw z refl
    | inr some ↦ within_in_range n (elim s.tens [
      | inl p ↦ absurd (some p.1)
      | inr p ↦ (
          let k : ℕ = p.0 in
          let abs : nat_abs m ≡ nat_abs n.mantissa * 10 ^ k = ap nat_abs p.1 ∙ abs_times n.mantissa (10 ^ k) in
          let t : k < 20 = tens_few (nat_abs m) (nat_abs n.mantissa) k word (λ z. some (abs_zero n.mantissa z)) abs in
          let x : n.exponent ≡ e +ℤ pos k = p.2 in
          (omega (arith, ints), omega (arith, ints))
          )
    ])
  ];
}

-- The value of an integer, as its mantissa times the power of ten of its exponent.
abbrev value_of : Decimal → ℤ
value_of n = n.mantissa *ℤ pos (10 ^ nat_abs n.exponent)

integer_value : (negative : Bool) (m : ℕ) → m < 2 ^ 64 → value_of (stripped_number (signed negative m) (pos 0) false) ≡ signed negative m
integer_value negative m word = elim (cases_eq m 0) [
  | inl none ↦ ap value_of (zero_number negative m (pos 0) false none) ∙ sym (signed_nought negative) ∙ ap (signed negative) (sym none)
  | inr some ↦ (
      let out : ℕ × ℕ = tens_out 20 m in
      let o : IsTensOut m out = tens_out_is 20 m some (omega arith) in
      let e : pos 0 +ℤ pos out.1 ≡ pos out.1 = omega (arith, ints) in
      ap value_of (canonical_of negative m out.0 out.1 (pos 0) false some word o.0 o.1)
      ∙ ap (λ x. signed negative out.0 *ℤ pos (10 ^ nat_abs x)) e ∙ sym (signed_mul negative out.0 (10 ^ out.1)) ∙ ap (signed negative) (sym o.0)
      )
]

-- A significand without a decimal point and with the exponent 0 is represented as an integer.
pub integer_form_is : (s : Significand) → s.magnitude < 2 ^ 64 → s.point ≡ false → s.exponent ≡ pos 0
    → form_of (significand_number s) ≡ integer_form (significand_number s) (signed s.negative s.magnitude)
integer_form_is s word point integer =
    let value : value_of (significand_number s) ≡ signed s.negative s.magnitude = rw integer
    (integer_value s.negative s.magnitude word) in
    left s.point _ _ point ∙ ap (integer_form (significand_number s)) value

-- If the digits of a spelled number have a value below `2 ^ 64`, and its exponent is at most 20000
-- in absolute value, the spelled number has this value and this exponent.
pub parts_number : (t : List ℕ) (p : Parts) (magnitude : ℕ) (e : ℤ) → IsSpelled t p → e ≡ p.exponent -ℤ pos (length p.fraction)
    → neg_ℤ (pos 20000) ≤ℤ e → e ≤ℤ pos 20000 → magnitude ≡ value (p.whole ++ p.fraction) → magnitude < 2 ^ 64
    → let n : Decimal = stripped_number (signed p.negative magnitude) e p.point in
    Spells t n × IsNum n
parts_number t p magnitude e spelled exponent low high is word =
    let m : ℤ = signed p.negative magnitude in
    let small : nat_abs m < 2 ^ 64 = rw (abs_signed p.negative magnitude) word in
    let d = parts_denote t p spelled in
    let s : Strips m e d.0 = rw (is, exponent) d.1.0 in
    let same : stripped_number m e p.point ≡ d.0 = ap (stripped_number m e) (sym d.1.1) ∙ stripped_is m e d.0 (omega arith) s in
    subst (λ (n : Decimal). Spells t n × IsNum n) (sym same) ((p, spelled, d.1), few_num m e d.0 small low high s)

-- A canonical number without a decimal point is represented as the integer `m`, its magnitude
-- followed by its zeros.
pub canonical_integer_form : (s : Significand) (m : ℕ) → s.point ≡ false → m ≡ s.magnitude * 10 ^ nat_abs s.exponent
    → form_of (canonical_number s) ≡ integer_form (canonical_number s) (signed s.negative m)
canonical_integer_form s m point is =
    left s.point _ _ point
    ∙ ap (integer_form (canonical_number s)) (sym (ap (signed s.negative) is ∙ signed_mul s.negative s.magnitude (10 ^ nat_abs s.exponent)))

-- Stripping trailing zeros from a significand with a decimal point, while the exponent is below 0,
-- keeps `IsSmall`.
pub small_less : (s t : Significand) → IsSmall s → HasFewerTens s t → (t.exponent ≤ℤ pos 0) ⊎ (t.exponent ≡ s.exponent)
    → t.negative ≡ s.negative → t.point ≡ s.point → t.point ≡ true → IsSmall t
small_less s t small h most negative point pointed =
    let less : t.magnitude ≤ t.magnitude * 10 ^ h.count = no_more t.magnitude h.count in
    let m = small.magnitude in
    let low = small.low in
    let high = small.high in
    let e = h.exponent in
    record {
      magnitude = omega (arith, less, h.magnitude);
      low = omega (arith, ints);
      high = elim most [ inl few ↦ omega (arith, ints) | inr same ↦ omega (arith, ints) ];
      integer = λ none. absurd (let e : true ≡ false = sym pointed ∙ none in cc);
      zero = λ none. let low = small.zero (h.magnitude ∙ rw none (omega arith)) in omega (arith, ints);
      num = subst IsNum (sym (fewer_tens s t (omega (arith, m)) h negative point)) small.num;
    }

-- A magnitude below `2 ^ 63` with a sign fits an `i64`.
pub signed_word : (negative : Bool) (m : ℕ) → m < 2 ^ 63 → FitsSigned w64 (signed negative m)
signed_word negative m h = grind (arith, ints)

-- If a result is stored with the representation `f`, and `g` equals `f`, the result is stored with
-- the representation `g`.
pub encoded : {E : Type 0} (r : Result Stored E) (f g : FormOf) → g ≡ f → IfOk r (λ s. stored_form s ≡ f) → IfOk r (λ s. stored_form s ≡ g)
encoded r f g e h = subst (λ x. IfOk r (λ s. stored_form s ≡ x)) (sym e) h
