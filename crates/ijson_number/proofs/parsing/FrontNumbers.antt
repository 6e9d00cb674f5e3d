-- The mantissa that was read, with an optional exponent after it, is the number at the start of the
-- input.
use Rattle.ijson_number.proofs.Common.{◌≡◌, ◌∙◌, ◌⊎◌, get_or, ℕ, ◌+◌, ◌-◌, ◌<◌, ◌≤◌, ◌^◌, Bool, true, false, List, [], ◌∷◌, ◌++◌, length, drop, take}
use Rattle.ijson_number.proofs.Common.{refl, sym, subst, ap, append_assoc, arith, ℤ, pos, neg_ℤ, ◌+ℤ◌, ◌-ℤ◌, ◌||◌, ints, length-append}
use Rattle.ijson_number.proofs.Common.{length-take-le, take-append-drop, AllDigits, IsExponent, IsFraction, IsSpelled, Parts, Spells, value, IsNum}
use Rattle.ijson_number.proofs.Common.{signed, EndsToken, stripped_number, drop-append-add, take-append_seam, IsFront, IsMantissa, IsPower}
use Rattle.ijson_number.proofs.Common.{IsPowerSmall, significand_number, significand_of, IsExponentSignTaken, IsTaken, power_le, FitsSigned}
use Rattle.ijson_number.proofs.Common.{to_z-of_z, to_z, of_z, cases_eq, ◌≢◌, ◌≤ℤ◌, inl, inr, HasNoPoint}
use Rattle.std.proofs.Math.Bool.{or-false, or-true}
use Rattle.ijson_number.specs.declared.fast_reader.Front.{Front}
use Rattle.ijson_number.specs.declared.significand.Significand.{Significand}
use Rattle.ijson_number.proofs.storing.Significands.{parts_number, zero_number}
use Rattle.ijson_number.proofs.parsing.DigitValues.{value_small}
use Rattle.ijson_number.proofs.parsing.DigitRuns.{IsDigits_from}
use Rattle.ijson_number.proofs.parsing.CommonFronts.{behind_taken, digits_end_of, sign_of}
use Rattle.std.specs.Int.{Width}

-- In this module, `text` is the mantissa `f` followed by `rest`.
module _ (text : List ℕ) (f : Front) (rest : List ℕ) (m : IsMantissa text f rest) where
  abbrev front : List ℕ
  front = m.minus_text ++ (m.whole ++ m.fraction_text)

  abbrev parts : (z : ℤ) (written : Bool) → Parts
  parts z written = record {
    negative = f.significand.negative;
    whole = m.whole;
    fraction = m.fraction;
    exponent = z;
    point = f.significand.point || written;
  }

  -- If `exponent_text` spells the optional exponent `z`, the mantissa followed by `exponent_text`
  -- spells the mantissa's parts with the exponent `z`.
  spelled : (exponent_text : List ℕ) (z : ℤ) (written : Bool) → IsExponent exponent_text z written
      → IsSpelled (front ++ exponent_text) (parts z written)
  spelled exponent_text z written is = record {
    minus_text = m.minus_text;
    fraction_text = m.fraction_text;
    exponent_text = exponent_text;
    has_point = f.significand.point;
    has_exponent = written;
    text_is = simp append_assoc;
    minus = m.minus;
    whole = m.whole_is;
    fraction = m.fraction_is;
    exponent = is;
    point = refl;
  }

  -- The first `f.length + count` bytes of `text` are the mantissa followed by the first `count`
  -- bytes of `rest`.
  taken : (count : ℕ) → count ≤ length rest → take (f.length + count) text ≡ front ++ take count rest
  taken count within =
      let long : length (front ++ take count rest) ≡ f.length + count =
      omega (arith, length-append front (take count rest), length-take-le count rest within, m.length_is) in
      let split : text ≡ (front ++ take count rest) ++ drop count rest = m.text_is
      ∙ ap (λ r. front ++ r) (sym (take-append-drop count rest)) ∙ sym (append_assoc front (take count rest) (drop count rest)) in
      ap (λ n. take n text) (sym long) ∙ ap (take (length (front ++ take count rest))) split
      ∙ take-append_seam (front ++ take count rest) (drop count rest)

  -- The bytes after the first `f.length + count` bytes of `text` are `rest` without its first
  -- `count` bytes.
  behind : (count : ℕ) → drop (f.length + count) text ≡ drop count rest
  behind count = ap (λ n. drop (n + count) text) m.length_is ∙ ap (drop (length front + count)) m.text_is ∙ drop-append-add front rest count

  -- The length of `text` is `f.length` plus the length of `rest`.
  pub whole_length : length text ≡ f.length + length rest
  whole_length = ap length m.text_is ∙ length-append front rest ∙ ap (λ n. n + length rest) (sym m.length_is)

  -- The mantissa and an exponent of `count` bytes spell a number within the limits.
  spelled_at : (s : Significand) (z : ℤ) (written : Bool) (count : ℕ) → count ≤ length rest → IsExponent (take count rest) z written
      → IsPowerSmall z → s.negative ≡ f.significand.negative → s.magnitude ≡ f.significand.magnitude
      → s.exponent ≡ f.significand.exponent +ℤ z → s.point ≡ f.significand.point || written
      → Spells (take (f.length + count) text) (significand_number s) × IsNum (significand_number s)
  spelled_at s z written count within is small negative magnitude exponent point =
      let few = m.few in
      let low = small.0 in
      let high = small.1 in
      let e : s.exponent ≡ z -ℤ pos (length m.fraction) = omega (arith, ints, exponent, m.exponent_is) in
      let bound = m.small in
      let n = parts_number (front ++ take count rest) (parts z written) s.magnitude s.exponent (spelled (take count rest) z written is) e
      (omega (arith, ints)) (omega (arith, ints)) (magnitude ∙ m.magnitude_is) (omega (arith, magnitude)) in
      let same : stripped_number (signed f.significand.negative s.magnitude) s.exponent (f.significand.point || written)
      ≡ significand_number s = rw (negative, point) refl in
      (rw (taken count within) (subst (Spells (front ++ take count rest)) same n.0), subst IsNum same n.1)

  -- If the first `f.length + count` bytes of `text` spell the number of `s`, and `EndsToken` and
  -- `HasNoPoint` hold for the bytes after them, then `s` is the number at the start of `text`.
  front_of : (s : Significand) (count : ℕ) → count ≤ length rest → EndsToken (drop count rest) → HasNoPoint s.point (drop count rest)
      → Spells (take (f.length + count) text) (significand_number s) × IsNum (significand_number s)
      → s.magnitude ≡ f.significand.magnitude → (neg_ℤ (pos 10050) ≤ℤ s.exponent) × (s.exponent ≤ℤ pos 10050)
      → (s.point ≡ false → s.exponent ≡ pos 0) → (s.magnitude ≡ 0 → neg_ℤ (pos 19) ≤ℤ s.exponent)
      → IsFront text (record { significand = s; length = f.length + count })
  front_of s count within ends no_point n magnitude range integer zero =
      let bound = m.small in
      record {
        within = omega (arith, whole_length);
        spelled = n.0;
        small = record {
          magnitude = omega (arith, magnitude);
          low = range.0;
          high = range.1;
          integer = integer;
          zero = zero;
          num = n.1;
        };
        ends = rw (behind count) ends;
        digits_end = rw (behind count) (digits_end_of s.point (drop count rest) ends no_point);
      }

-- The letter `e` or `E`, an optional sign and at least one digit are an exponent.
exponent_at : (b : ℕ) (number digits : List ℕ) (negative : Bool) (count : ℕ) (z : ℤ) → b ≡ 101 ⊎ b ≡ 69
    → IsExponentSignTaken number negative digits
    → 0 < count → count ≤ length digits → AllDigits (take count digits) → z ≡ signed negative (value (take count digits))
    → (text : List ℕ) × (b ∷ number ≡ text ++ drop count digits) × IsExponent text z true
exponent_at b number digits negative count z begins sign some within all is =
    let ds : List ℕ = take count digits in
    let long : length ds ≡ count = length-take-le count digits within in
    let s = sign_of number digits negative sign in
    let split : number ≡ (s.0 ++ ds) ++ drop count digits = s.1 ∙ ap (λ d. s.0 ++ d) (sym (take-append-drop count digits))
    ∙ sym (append_assoc s.0 ds (drop count digits)) in
    (b ∷ (s.0 ++ ds), ap (λ n. b ∷ n) split, (begins, rw is (s.2 ds (IsDigits_from ds (omega (arith, long)) all)), refl))

-- Up to four digits have a value below `10 ^ 4`.
few_small : (ds : List ℕ) → AllDigits ds → length ds ≤ 4 → value ds < 10 ^ 4
few_small ds all few = let v = value_small ds all in let p = power_le (length ds) 4 few in omega arith

-- The digits of an exponent that `take_digits` read have a value below `10 ^ 4`.
pub digits_few : (digits : List ℕ) (magnitude count : ℕ) → IsTaken 0 digits 4 magnitude count → magnitude < 10 ^ 4
digits_few digits magnitude count t =
    rw t.value (few_small (take count digits) t.digits (let few = t.few in omega (arith, length-take-le count digits t.within)))

-- If neither a digit nor a letter follows, the letter `e` or `E`, an optional sign and one to four
-- digits are an exponent at the start of `bytes`.
pub power_at : (bytes digits : List ℕ) (negative : Bool) (magnitude count : ℕ) (z : ℤ) → 0 < length bytes
    → get_or bytes 0 0 ≡ 101 ⊎ get_or bytes 0 0 ≡ 69
    → IsExponentSignTaken (drop 1 bytes) negative digits → 0 < count → IsTaken 0 digits 4 magnitude count → z ≡ signed negative magnitude
    → EndsToken (drop count digits) → IsPower bytes z (length bytes - length (drop count digits))
power_at [] digits negative magnitude count z some begins sign one t is ends = absurd (omega arith)
power_at (b ∷ number) digits negative magnitude count z some begins sign one t is ends =
    let e = exponent_at b number digits negative count z begins sign one t.within t.digits (is ∙ ap (signed negative) t.value) in
    let long = ap length e.1 ∙ length-append e.0 (drop count digits) in
    let all : take (length (b ∷ number) - length (drop count digits)) (b ∷ number) ≡ e.0 =
    (let n : length (b ∷ number) - length (drop count digits) ≡ length e.0 = omega (arith, long) in
    rw n (ap (take (length e.0)) e.1 ∙ take-append_seam e.0 (drop count digits))) in
    record {
      within = omega arith;
      exponent = rw all e.2;
      small = let few = digits_few digits magnitude count t in rw is (grind (arith, ints), grind (arith, ints));
      ends = rw (behind_taken (b ∷ number) digits negative count (omega arith) sign) ends;
    }

-- A significand with the magnitude 0 denotes the same number for any exponent.
zero_same : (negative : Bool) (magnitude : ℕ) (e f : ℤ) (point : Bool) → magnitude ≡ 0
    → significand_number (significand_of negative magnitude e point) ≡ significand_number (significand_of negative magnitude f point)
zero_same negative magnitude e f point none = zero_number negative magnitude e point none ∙ sym (zero_number negative magnitude f point none)

-- A mantissa with the exponent after it is the number at the start of `text`. The exponent of zero
-- is set to 0.
pub front_with : (text rest : List ℕ) (f : Front) (m : IsMantissa text f rest) (power exponent : ℤ) (count : ℕ) → IsPower rest power count
    → (f.significand.magnitude ≡ 0 → exponent ≡ pos 0) → (f.significand.magnitude ≢ 0 → exponent ≡ f.significand.exponent +ℤ power)
    → let s = f.significand in
    IsFront text (record { significand = significand_of s.negative s.magnitude exponent true; length = f.length + count })
front_with text rest f m power exponent count is zero others =
    let s = f.significand in
    let few = m.few in
    let at = m.exponent_is in
    let low = is.small.0 in
    let high = is.small.1 in
    let sum : ℤ = s.exponent +ℤ power in
    let t : Significand = significand_of s.negative s.magnitude sum true in
    let n = spelled_at text f rest m t power true count is.within is.exponent is.small refl refl refl (sym (or-true _)) in
    let same : significand_number t ≡ significand_number (significand_of s.negative s.magnitude exponent true) =
    elim (cases_eq s.magnitude 0) [
      | inl none ↦ zero_same s.negative s.magnitude sum exponent true none
      | inr some ↦ ap (λ e. significand_number (significand_of s.negative s.magnitude e true)) (sym (others some))
    ] in
    let range : (neg_ℤ (pos 10050) ≤ℤ exponent) × (exponent ≤ℤ pos 10050) =
    elim (cases_eq s.magnitude 0) [
      | inl none ↦ (let e = zero none in (omega (arith, ints), omega (arith, ints)))
      | inr some ↦ (let e = others some in (omega (arith, ints), omega (arith, ints)))
    ] in
    front_of text f rest m (significand_of s.negative s.magnitude exponent true) count is.within is.ends
    (has_point (drop count rest)) (subst (λ d. Spells (take (f.length + count) text) d × IsNum d) same n) refl range (λ h. absurd (cc))
    (λ none. let e = zero none in omega (arith, ints))
  where
    has_point : (after : List ℕ) → HasNoPoint true after
    has_point [] = tt
    has_point (b ∷ bs) = λ h. absurd (cc)

-- If neither a digit nor a letter follows a mantissa, the mantissa is the number at the start of
-- `text`.
pub front_alone : (text rest : List ℕ) (f : Front) → IsMantissa text f rest → EndsToken rest → IsFront text f
front_alone text rest f m ends =
    let s = f.significand in
    let few = m.few in
    let at = m.exponent_is in
    let none : f.length + 0 ≡ f.length = omega arith in
    let zero : s.exponent ≡ s.exponent +ℤ pos 0 = omega (arith, ints) in
    let n = spelled_at text f rest m s (pos 0) false 0 (omega arith) (refl, refl) (omega (arith, ints), omega (arith, ints)) refl refl zero
    (sym (or-false _)) in
    rw (← none) (front_of text f rest m s 0 (omega arith) ends m.no_point n refl (omega (arith, ints), omega (arith, ints))
    (integer s.point m.fraction_text m.fraction m.fraction_is m.exponent_is) (λ _. omega (arith, ints)))
  where
    integer : (point : Bool) (text digits : List ℕ) → IsFraction text digits point → {e : ℤ} → e ≡ neg_ℤ (pos (length digits)) → point ≡ false → e ≡ pos 0
    integer point [] digits f is h = rw f.0 at is
    integer point (b ∷ bs) digits f is h = absurd (let t : point ≡ true = f.3 in cc)

-- Negating a number in a signed type does not overflow if the result fits the type.
pub negated : (w : Width) (n : ℕ) → to_z w n ≡ pos n → FitsSigned w (pos 0 -ℤ pos n) → to_z w (of_z w (pos 0 -ℤ to_z w n)) ≡ neg_ℤ (pos n)
negated w n is fits = rw (is, to_z-of_z w (pos 0 -ℤ pos n) fits) (omega (arith, ints))
