-- Assembling the sign, the whole part, the fraction and the exponent of a number yields the text of
-- the number.
use Rattle.ijson_number.proofs.Common.{◌≡◌, ◌≢◌, ℕ, ◌+◌, ◌-◌, ◌*◌, ◌/◌, ◌%◌, ◌^◌, ◌<◌, ◌≤◌, Bool, true, false, List, [], ◌∷◌, ◌++◌, length, refl, ap}
use Rattle.ijson_number.proofs.Common.{sym, ◌∙◌, arith, inl, inr, ℤ, pos, negsuc, nat_abs, int_le, int_lt, ◌+ℤ◌, ◌-ℤ◌, nat_eq, not, cases_lt, or_from}
use Rattle.ijson_number.proofs.Common.{decimal_digit, decimal_nonempty, ints, length-digits_of-le, length-append, length-map, take_at, drop_at}
use Rattle.ijson_number.proofs.Common.{take-map, drop-map, decimal, digits_of, Decimal, digits_text, zeros_text, point_text, float_text, shape_text}
use Rattle.ijson_number.proofs.Common.{minus_text, num_text, stripped_number, stored_number, word_code, word_exponent, word_mantissa, word_point}
use Rattle.ijson_number.proofs.Common.{integer_text, pointed_text, ten_pos, zero_or_not, zero, suc, ◌⊎◌, neg_ℤ, ◌≤ℤ◌, ◌<ℤ◌, ◌*ℤ◌, ◌||◌, ◌&&◌}
use Rattle.ijson_number.proofs.Common.{and_parts, decimal_step_wide, length_push, FormOf, packed, digits_form, fits_packed, smallest_packed, form_of}
use Rattle.ijson_number.proofs.Common.{take, drop, append_assoc, signed_decimal, length-drop, decimal_of, subst, All, map-append, All-take, All-drop}
use Rattle.ijson_number.proofs.Common.{stripped_digits, canonical_number, abs_signed}
use Rattle.ijson_number.specs.Stripped.{tens_out}
use Rattle.ijson_number.specs.private.WordText.{last_digits}
use Rattle.ijson_number.proofs.storing.FormNumbers.{IsTensOut}
use Rattle.ijson_number.proofs.storing.IntegerWords.{few_tens, zero_is, some_stored, tens_are, without_tens}
use Rattle.ijson_number.proofs.BooleanTests.{abs_zero, le_test, not_le, not_lt, test_le}
use Rattle.ijson_number.proofs.writing.Writing.{decimal_is, stored_text, float_shape_is, more_digits}
use Rattle.ijson_number.proofs.writing.LastDigits.{joined, last_count, last_zeros, padded, some_places, whole_small}
use Rattle.ijson_number.proofs.storing.Significands.{fraction_form}
use Rattle.ijson_number.proofs.storing.WholeValues.{sign_cases}
use Rattle.ijson_number.specs.private.SplitText.{split_text}
use Rattle.ijson_number.specs.declared.repr.stored.StrippedNumber.{StrippedNumber}
use Rattle.ijson_number.specs.declared.significand.Significand.{Significand}
use Rattle.ijson_number.proofs.writing.DigitTexts.{digits_are}

module _ (magnitude : ℕ) (some : 0 < magnitude) (small : magnitude < 2 ^ 64) where
  abbrev ds : List ℕ
  ds = digits_of 10 magnitude

  text_is : digits_text ds ≡ decimal magnitude
  text_is = sym (decimal_is magnitude (omega arith) some)

  pub count_is : length ds ≡ length (decimal magnitude)
  count_is = sym (length-map {A = ℕ} {B = ℕ} ds (λ d. 48 + d)) ∙ ap (λ (x : List ℕ). length x) text_is

  -- In this module, `magnitude` is `whole * 10 ^ k + fraction`, and the last `k` digits are the
  -- fraction.
  module _ (k whole fraction : ℕ) (scale : 0 < k) (is : magnitude ≡ whole * 10 ^ k + fraction) (below : fraction < 10 ^ k) (place : ℤ)
      (place_is : place ≡ pos (length ds) -ℤ pos k) where
    before_digits : whole ≡ 0 → point_text ds place ≡ decimal whole ++ 46 ∷ last_digits k fraction
    before_digits none =
        let same : magnitude ≡ fraction = is ∙ rw none (omega arith) in
        let short : length ds ≤ k = length-digits_of-le 10 k magnitude (omega arith) (rw same below) in
        let at : int_le place (pos 0) ≡ true = le_test place (pos 0) (omega (arith, ints)) in
        let zeros : nat_abs place ≡ k - length (decimal magnitude) = rw (← count_is) (omega (arith, ints)) in
        rw (at, point_text, zeros, text_is, padded k magnitude (omega arith) (rw same below) (omega arith), none, decimal_digit 0 (omega arith), same) refl

    between_digits : 0 < whole → point_text ds place ≡ decimal whole ++ 46 ∷ last_digits k fraction
    between_digits above =
        let d : decimal magnitude ≡ decimal whole ++ last_digits k fraction = ap decimal is
        ∙ joined k whole fraction above below (rw (← is) (omega arith)) in
        let more = some_places whole k above in
        let t = ten_pos k in
        let front : 0 < length (decimal whole) = decimal_nonempty whole (whole_small whole (10 ^ k) fraction t (rw (← is) small)) in
        let long : length ds ≡ length (decimal whole) + k = count_is ∙ ap (λ (x : List ℕ). length x) d
        ∙ length-append (decimal whole) (last_digits k fraction) ∙ ap (λ n. length (decimal whole) + n) (last_count k fraction) in
        let first : int_le place (pos 0) ≡ false = not_le place (pos 0) (omega (arith, ints)) in
        let second : int_le (pos (length ds)) place ≡ false = not_le (pos (length ds)) place (omega (arith, ints)) in
        let cut : nat_abs place ≡ length (decimal whole) = omega (arith, ints) in
        rw (
          first,
          second,
          point_text,
          cut,
          ← take-map {X = ℕ} {Y = ℕ} (λ d. 48 + d) (length (decimal whole)) ds,
          ← drop-map {X = ℕ} {Y = ℕ} (λ d. 48 + d)
              (length (decimal whole)) ds,
          text_is,
          d,
          take_at (decimal whole) (last_digits k fraction)
              (length (decimal whole)) refl,
          drop_at (decimal whole) (last_digits k fraction) (length (decimal whole)) refl,
        ) refl

    pub fraction_is : point_text ds place ≡ decimal whole ++ 46 ∷ last_digits k fraction
    fraction_is = elim (cases_lt 0 whole) [ inl above ↦ between_digits above | inr none ↦ before_digits (omega arith) ]

-- In this module, `z` is an integer whose absolute value is below `2 ^ 64`, and `kept` are its
-- digits without trailing zeros.
module _ (z : ℤ) (word : nat_abs z < 2 ^ 64) where
  abbrev magnitude : ℕ
  magnitude = nat_abs z

  abbrev negative : Bool
  negative = int_lt z (pos 0)

  abbrev out : ℕ × ℕ
  out = tens_out 20 magnitude

  module _ (some : z ≢ pos 0) where
    above : magnitude ≢ 0
    above e = some (abs_zero z e)

    tens : IsTensOut magnitude out
    tens = tens_are z word above

    front : 0 < out.0
    front = let n = tens.1 in omega (arith, n)

    front_small : out.0 < 2 ^ 64
    front_small = whole_small out.0 (10 ^ out.1) 0 (ten_pos out.1) (let e = tens.0 in omega arith)

    abbrev kept : List ℕ
    kept = digits_of 10 out.0

    some_kept : 0 < length kept
    some_kept = let c = count_is out.0 front front_small in let d = decimal_nonempty out.0 front_small in omega arith

    stored_is : (point : Bool) → num_text (stripped_number z (pos 0) point) ≡ minus_text negative ++ shape_text point kept (pos out.1)
    stored_is point =
        let exact : pos 0 +ℤ pos out.1 ≡ pos out.1 = omega (arith, ints) in
        ap num_text (without_tens z word above (pos 0) point ∙ ap (λ e. stored_number negative kept e point) exact)
        ∙ sym (stored_text negative kept (pos out.1) point (some_stored out.0 tens.1 negative).stripped some_kept)

    with_zeros : digits_text kept ++ zeros_text out.1 ≡ decimal magnitude
    with_zeros =
        let is : magnitude ≡ out.0 * 10 ^ out.1 + 0 = let e = tens.0 in omega arith in
        sym (ap decimal is ∙ joined out.1 out.0 0 front (ten_pos out.1) (rw (← is) (omega arith))
        ∙ rw (last_zeros out.1, ← text_is out.0 front front_small) refl)

    abbrev place : ℤ
    place = pos (length kept) +ℤ pos out.1

    some_float : float_text kept (pos out.1) ≡ decimal magnitude ++ 46 ∷ last_digits 1 0
    some_float =
        let long = some_kept in
        let low = few_tens z word above in
        let plain = or_from (int_le place (negsuc 5)) (int_lt (pos 20) (pos out.1)) (not_le place (negsuc 5) (omega (arith, ints)))
        (not_lt (pos 20) (pos out.1) (omega (arith, ints))) in
        let first : int_le place (pos 0) ≡ false = not_le place (pos 0) (omega (arith, ints)) in
        let second : int_le (pos (length kept)) place ≡ true = le_test (pos (length kept)) place (omega (arith, ints)) in
        let zeros : nat_abs (place -ℤ pos (length kept)) ≡ out.1 = omega (arith, ints) in
        rw (plain, float_text, first, second, point_text, zeros, last_zeros 1) (ap (λ x. x ++ (46 ∷ 48 ∷ [])) with_zeros)

  -- Without a decimal point, the text of `z` is its decimal text.
  pub integer_num_text : num_text (stripped_number z (pos 0) false) ≡ integer_text negative magnitude
  integer_num_text =
      elim (zero_or_not z) [
        | inl e ↦ rw e (ap num_text (zero_is false (pos 0) false) ∙ sym (decimal_digit 0 (omega arith)))
        | inr some ↦ stored_is some false ∙ ap (λ x. minus_text negative ++ x) (with_zeros some)
      ]

  -- With a decimal point, the text of `z` is its decimal text followed by `.0`.
  pub whole_num_text : num_text (stripped_number z (pos 0) true) ≡ pointed_text negative magnitude 1 0
  whole_num_text =
      elim (zero_or_not z) [
        | inl e ↦ rw e (ap num_text (zero_is false (pos 0) true) ∙ rw (decimal_digit 0 (omega arith), last_zeros 1) refl)
        | inr some ↦ stored_is some true ∙ ap (λ x. minus_text negative ++ x) (some_float some)
      ]

-- The text assembled from `n * 10` with one fraction digit is the text of the integer `n` with a
-- decimal point.
pub whole_shown : (m e s : ℤ) (n tens : ℕ) → s ≡ m → n ≡ nat_abs m → e ≡ pos 0 → n < 2 ^ 64 → tens ≡ n * 10
    → pointed_text (int_lt s (pos 0)) (tens / 10 ^ 1) 1 (tens % 10 ^ 1) ≡ num_text (stripped_number m e true)
whole_shown m e s n tens sign magnitude none word is =
    let whole : tens / 10 ^ 1 ≡ n = omega arith in
    let rest : tens % 10 ^ 1 ≡ 0 = omega arith in
    rw (whole, rest, sign, magnitude, none) (sym (whole_num_text m (rw (← magnitude) word)))

pub integer_shown : (n : Decimal) (z s : ℤ) (magnitude : ℕ) → n ≡ stripped_number z (pos 0) false → s ≡ z
    → magnitude ≡ nat_abs z → magnitude < 2 ^ 64 → integer_text (int_lt s (pos 0)) magnitude ≡ num_text n
integer_shown n z s magnitude number sign abs word = rw (number, sign, abs) (sym (integer_num_text z (rw (← abs) word)))

pub unsigned_shown : (n : Decimal) (magnitude : ℕ) → n ≡ stripped_number (pos magnitude) (pos 0) false
    → magnitude < 2 ^ 64 → integer_text false magnitude ≡ num_text n
unsigned_shown n magnitude number word = rw (not_lt (pos magnitude) (pos 0) (omega (arith, ints))) at
    (integer_shown n (pos magnitude) (pos magnitude) magnitude number refl refl word)

-- A packed number without a decimal point has the exponent 0.
pub packed_integer : (bits : ℕ) → word_point bits ≡ false
    → stripped_number (word_mantissa bits) (word_exponent bits) (word_point bits) ≡ stripped_number (word_mantissa bits) (pos 0) false
packed_integer bits h = rw h
    (ap (λ e. stripped_number (word_mantissa bits) e false) (no_exponent (nat_eq (word_code bits) 15) (pos (word_code bits) -ℤ pos 7) h))
  where
    no_exponent : (b : Bool) (e : ℤ) → not b ≡ false → (let r : ℤ = elim b [ true ↦ pos 0 | false ↦ e ] in r) ≡ pos 0
    no_exponent true e h = refl
    no_exponent false e h = absurd (cc)

either_form : (b : Bool) (x y f : FormOf) → (let r : FormOf = elim b [ true ↦ x | false ↦ y ] in r) ≡ f → ((b ≡ true) × (x ≡ f)) ⊎ (y ≡ f)
either_form true x y f e = inl (refl, e)
either_form false x y f e = inr e

-- `smallest_packed` never returns a negative exponent.
not_smallest : (tries k : ℕ) (n : Decimal) (m e : ℤ) → e <ℤ pos 0 → smallest_packed tries k n ≡ packed m e true → ⊥
not_smallest zero k n m e h is = cc
not_smallest (suc tries) k n m e h is =
    let x = n.mantissa *ℤ pos (10 ^ nat_abs (n.exponent -ℤ pos k)) in
    elim (either_form (int_le (pos k) n.exponent && fits_packed x) (packed x (pos k) true) (smallest_packed tries (suc k) n)
    (packed m e true) is) [
      | inl p ↦ (let q = p.1 in let same : pos k ≡ e = cc in absurd (omega (arith, ints)))
      | inr p ↦ not_smallest tries (suc k) n m e h p
    ]

-- If a number is packed with a negative exponent, the number has this exponent, which is at least
-- -7.
kept_exponent : (n : Decimal) (m e : ℤ) → n.point ≡ true → e <ℤ pos 0 → form_of n ≡ packed m e true → (n.exponent ≡ e) × (negsuc 6 ≤ℤ n.exponent)
kept_exponent n m e h l is = elim (sign_cases n.exponent) [
  | inl above ↦ absurd (not_smallest 8 0 n m e l (rw (h, le_test (pos 0) n.exponent above, form_of) at is))
  | inr below ↦ elim (either_form (int_le (negsuc 6) n.exponent && fits_packed n.mantissa) (packed n.mantissa n.exponent true)
      (digits_form n) (packed m e true) (sym (fraction_form n h below) ∙ is)) [
        | inl r ↦ (let b = and_parts (int_le (negsuc 6) n.exponent) (fits_packed n.mantissa) r.0 in let f = r.1 in
            (cc, test_le (negsuc 6) n.exponent b.0))
        | inr r ↦ absurd (cc)
      ]
]

-- In this module, a number is packed with a negative exponent, and its text is written without an
-- exponent.
module _ (m e : ℤ) (k : ℕ) (word : nat_abs m < 2 ^ 64) (scale : 0 < k) (below : e ≡ neg_ℤ (pos k))
    (form : form_of (stripped_number m e true) ≡ packed m e true) (shown : 6 < k → 10 ≤ nat_abs m) where
  exponent_is : ((stripped_number m e true).exponent ≡ e) × (negsuc 6 ≤ℤ (stripped_number m e true).exponent)
  exponent_is = kept_exponent (stripped_number m e true) m e refl (omega (arith, ints)) form

  abbrev abs : ℕ
  abs = nat_abs m

  abbrev sign : Bool
  sign = int_lt m (pos 0)

  some_magnitude : abs ≢ 0
  some_magnitude z =
      let none : (stripped_number m e true).exponent ≡ pos 0 = rw (abs_zero m z) (ap (λ (n : Decimal). n.exponent) (zero_is false e true)) in
      let x : pos 0 ≡ e = sym none ∙ exponent_is.0 in
      omega (arith, ints)

  no_tens : (tens_out 20 abs).1 ≡ 0
  no_tens =
      let x : e +ℤ pos (tens_out 20 abs).1 ≡ e = sym (ap (λ (n : Decimal). n.exponent) (without_tens m word some_magnitude e true)) ∙ exponent_is.0 in
      omega (arith, ints)

  same : (tens_out 20 abs).0 ≡ abs
  same =
      let is : abs ≡ (tens_out 20 abs).0 * 10 ^ 0 = (tens_are m word some_magnitude).0 ∙ ap (λ t. (tens_out 20 abs).0 * 10 ^ t) no_tens in
      omega (arith, is)

  stored_at : stripped_number m e true ≡ stored_number sign (digits_of 10 abs) e true
  stored_at = let none : e +ℤ pos 0 ≡ e = omega (arith, ints) in without_tens m word some_magnitude e true ∙ rw (same, no_tens, none) refl

  abbrev shown_digits : List ℕ
  shown_digits = digits_of 10 abs

  one_digit : 0 < length shown_digits
  one_digit = let d = decimal_nonempty abs word in let c = count_is abs (omega (arith, some_magnitude)) word in omega arith

  two_digits : 6 < k → 1 < length shown_digits
  two_digits h =
      let more = shown h in
      let d : length (decimal abs) ≡ length (decimal (abs / 10)) + 1 =
      ap (λ (x : List ℕ). length x) (decimal_step_wide abs more (omega arith)) ∙ length_push (decimal (abs / 10)) (48 + abs % 10) in
      let n = decimal_nonempty (abs / 10) (omega arith) in
      let c = count_is abs (omega (arith, some_magnitude)) word in
      omega arith

  abbrev point_place : ℤ
  point_place = pos (length shown_digits) +ℤ e

  not_far : negsuc 5 <ℤ point_place
  not_far =
      let few : k ≤ 7 = (let x = exponent_is in let f : negsuc 6 ≤ℤ e = rw x.0 at x.1 in omega (arith, ints)) in
      let one = one_digit in
      elim (cases_lt 6 k) [ inl h ↦ (let two = two_digits h in omega (arith, ints)) | inr h ↦ omega (arith, ints) ]

  plain : int_le point_place (negsuc 5) || int_lt (pos 20) e ≡ false
  plain = or_from (int_le point_place (negsuc 5)) (int_lt (pos 20) e) (not_le point_place (negsuc 5) not_far)
      (not_lt (pos 20) e (omega (arith, ints)))

  pub fraction_num_text : num_text (stripped_number m e true) ≡ pointed_text (int_lt m (pos 0)) (nat_abs m / 10 ^ k) k
      (nat_abs m % 10 ^ k)
  fraction_num_text =
      ap num_text stored_at
      ∙ sym (stored_text sign shown_digits e true (some_stored abs (rw same at (tens_are m word some_magnitude).1) sign).stripped one_digit)
      ∙ ap (λ x. minus_text sign ++ x)
      (rw (plain, float_text) (fraction_is abs (omega (arith, some_magnitude)) word k (abs / 10 ^ k) (abs % 10 ^ k) scale (omega (arith, ten_pos k)) (omega (arith, ten_pos k)) point_place
      (omega (arith, ints))))

pub exponent_small : (m e : ℤ) → e <ℤ pos 0 → form_of (stripped_number m e true) ≡ packed m e true → nat_abs e < 8
exponent_small m e l form =
    let x = kept_exponent (stripped_number m e true) m e refl l form in
    let f : negsuc 6 ≤ℤ e = rw x.0 at x.1 in
    omega (arith, ints)

pub fraction_shown : (m e s : ℤ) (n k : ℕ) → s ≡ m → n ≡ nat_abs m → k ≡ nat_abs e → n < 2 ^ 64 → e <ℤ pos 0
    → (6 < k → 10 ≤ n) → form_of (stripped_number m e true) ≡ packed m e true
    → pointed_text (int_lt s (pos 0)) (n / 10 ^ k) k (n % 10 ^ k) ≡ num_text (stripped_number m e true)
fraction_shown m e s n k sign magnitude scale word l h form =
    rw (sign, magnitude)
    (sym (fraction_num_text m e k (rw (← magnitude) word) (omega (arith, ints)) (omega (arith, ints)) form (rw (← magnitude) h)))

pub below_point : (e x : ℤ) → x ≡ e → (e ≡ pos 0 → ⊥) → int_lt (pos 0) x ≡ false → e <ℤ pos 0
below_point e x s n t = grind (arith, ints)

pub many_places : (e x : ℤ) (k n : ℕ) → x ≡ e → k ≡ nat_abs e → ((int_lt x (negsuc 5) ≡ true) × (10 ≤ n)) ⊎ (int_lt x (negsuc 5) ≡ false)
    → e <ℤ pos 0 → 6 < k → 10 ≤ n
many_places e x k n s p t l h = grind (arith, ints)

pub row_shown : (n : StrippedNumber) (k : ℕ) → n.point ≡ true → n.exponent <ℤ pos 0 → k ≡ nat_abs n.exponent → k < length n.digits.now
    → split_text n.negative n.digits.now (length n.digits.now - k) ≡ num_text (decimal_of n)
row_shown n k p below is inside =
    let ds = n.digits.now in
    let place : pos (length ds - k) ≡ pos (length ds) +ℤ n.exponent = omega (arith, ints) in
    let written : int_lt (pos 20) n.exponent ≡ false = not_lt (pos 20) n.exponent (omega (arith, ints)) in
    let front : int_le (pos (length ds - k)) (pos 0) ≡ false = not_le (pos (length ds - k)) (pos 0) (omega (arith, ints)) in
    let behind : int_le (pos (length ds)) (pos (length ds - k)) ≡ false = not_le (pos (length ds)) (pos (length ds - k)) (omega (arith, ints)) in
    ap (λ x. minus_text n.negative ++ x)
    (rw (front, behind, point_text) at (float_shape_is false n.point ds n.exponent (pos (length ds - k)) p place written))
    ∙ stored_text n.negative ds n.exponent n.point n.stripped.stripped (omega arith)

-- If the text of a number below 1 is written without an exponent, it is the sign, `0.`, zeros and
-- the digits.
pub below_one_shown : (n : StrippedNumber) (p : ℤ) → n.point ≡ true → 0 < length n.digits.now → p ≡ pos (length n.digits.now) +ℤ n.exponent
    → p ≤ℤ pos 0 → int_le p (negsuc 5) || int_lt (pos 20) n.exponent ≡ false
    → minus_text n.negative ++ (48 ∷ 46 ∷ zeros_text (nat_abs p) ++ digits_text n.digits.now) ≡ num_text (decimal_of n)
below_one_shown n p is some place front not_scientific =
    let before : int_le p (pos 0) ≡ true = le_test p (pos 0) front in
    ap (λ x. minus_text n.negative ++ x)
    (rw (before, point_text) at (float_shape_is false n.point n.digits.now n.exponent p is place not_scientific))
    ∙ stored_text n.negative n.digits.now n.exponent n.point n.stripped.stripped some

-- `integer_text` is the text that the standard library writes for an integer.
signed_is : (z : ℤ) → integer_text (int_lt z (pos 0)) (nat_abs z) ≡ signed_decimal z
signed_is (pos n) = rw (not_lt (pos n) (pos 0) (omega (arith, ints))) refl
signed_is (negsuc n) = refl

-- If the text of a number is written with an exponent, it is the sign, the digits with the point
-- after the first digit, `e` and the exponent.
pub scientific_shown : (n : StrippedNumber) (p z : ℤ) → n.point ≡ true → 1 < length n.digits.now → p ≡ pos (length n.digits.now) +ℤ n.exponent
    → neg_ℤ (pos (2 ^ 70)) <ℤ p → p <ℤ pos (2 ^ 70) → int_le p (negsuc 5) || int_lt (pos 20) n.exponent ≡ true → z ≡ p -ℤ pos 1
    → split_text n.negative n.digits.now 1 ++ 101 ∷ integer_text (int_lt z (pos 0)) (nat_abs z) ≡ num_text (decimal_of n)
scientific_shown n p z is long place low high written power =
    let ds = n.digits.now in
    let first = digits_text (take 1 ds) in
    let rest = digits_text (drop 1 ds) in
    let exponent = 101 ∷ integer_text (int_lt z (pos 0)) (nat_abs z) in
    let more : length (drop 1 ds) ≡ 0 → ⊥ = λ none. let l = length-drop 1 ds in omega (arith, none, l) in
    let shape : first ++ 46 ∷ (rest ++ exponent) ≡ shape_text n.point ds n.exponent =
    ap (λ x. first ++ 46 ∷ (rest ++ 101 ∷ x)) (signed_is z) ∙ more_digits ds (take 1 ds) (drop 1 ds) p z refl refl more low high power
    ∙ float_shape_is true n.point ds n.exponent p is place written in
    append_assoc (minus_text n.negative) (first ++ 46 ∷ rest) exponent
    ∙ ap (λ x. minus_text n.negative ++ x) (append_assoc first (46 ∷ rest) exponent ∙ shape)
    ∙ stored_text n.negative ds n.exponent n.point n.stripped.stripped (omega arith)

-- The text of the canonical digits of zero is empty.
pub none_shown : (e : ℤ) (point : Bool) → digits_text (stripped_digits (stripped_number (pos 0) e point)) ≡ []
none_shown e point = ap (λ n. digits_text (stripped_digits n)) (zero_is false e point)

-- The text of the canonical digits of a nonzero significand is the decimal text of its magnitude.
pub digits_shown : (s : Significand) → 0 < s.magnitude → s.magnitude < 2 ^ 64
    → decimal s.magnitude ≡ digits_text (stripped_digits (canonical_number s))
digits_shown s some word =
    let m = s.magnitude in
    decimal_is m (omega arith) some ∙ ap digits_text (sym (rw (abs_signed s.negative m) (digits_are m m)))

-- In this module, `P` holds for each element of `front ++ back`, so it holds for each element of
-- `front` and of `back`.
module _ (P : ℕ → Type 0) (all front back : List ℕ) (parts : all ≡ front ++ back) (each : All P all) where
  pub front_too : All P front
  front_too = subst (All P) (take_at front back (length front) refl) (All-take P (length front) (front ++ back) (subst (All P) parts each))

  pub back_too : All P back
  back_too = subst (All P) (drop_at front back (length front) refl) (All-drop P (length front) (front ++ back) (subst (All P) parts each))

-- Writing the digits `run` keeps the invariant of the loop: the text written, followed by the text
-- of the remaining digits, is `whole`.
pub run_more : (done text run rest all : List ℕ) (whole : List ℕ) → all ≡ run ++ rest → text ≡ digits_text run → done ++ digits_text all ≡ whole
    → (done ++ text) ++ digits_text rest ≡ whole
run_more done text run rest all whole is shown so_far =
    rw (shown, append_assoc done, ← map-append {A = ℕ} {B = ℕ} (λ d. 48 + d) run rest, ← is) so_far
