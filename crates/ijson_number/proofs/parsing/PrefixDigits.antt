-- Reading leading digits in two steps reads the same digits as reading them in one step.
use Rattle.ijson_number.proofs.Common.{◌≡◌, ℕ, ◌+◌, ◌-◌, ◌*◌, ◌^◌, ◌<◌, ◌≤◌, min, List, length, take, drop, sym, ap, ◌∙◌, arith, pow-add, take-add}
use Rattle.ijson_number.proofs.Common.{inl, inr, cases_lt, mul-le-mul_left}
use Rattle.std.proofs.Math.Nat.{pow-le-pow_right}
use Rattle.ijson_number.proofs.Common.{number_from_digits_after, mul-le-mul_right, number_after_append, number_after_lt, drop-drop, drop_more}
use Rattle.ijson_number.proofs.Common.{length-drop, length-take-le, map-append, take-take, get_or-chunk, length-chunk, chunk, AllDigits, value}
use Rattle.ijson_number.proofs.Common.{digits_from_text, IsCount, IsTaken}
use Rattle.ijson_number.proofs.parsing.DigitValues.{below_base, count_of, digits_small}
use Rattle.ijson_number.proofs.parsing.DigitRuns.{AllDigits-append, AllDigits_left}
use Rattle.ijson_number.proofs.comparing.MagnitudeOrder.{number_after_is}

fewer_digits : (bytes : List ℕ) (count most : ℕ) → count ≤ most → AllDigits (take most bytes) → AllDigits (take count bytes)
fewer_digits bytes count most few digits =
    let all : count + (most - count) ≡ most = omega arith in
    AllDigits_left (take count bytes) (take (most - count) (drop count bytes)) (rw (← take-add count (most - count) bytes, all) digits)

-- After `count` digits are appended to a number, up to `most - count` more digits keep it below
-- `10 ^ 19`.
pub room_behind : (number : ℕ) (digits : List ℕ) (count most : ℕ) → AllDigits digits → length digits ≡ count → count ≤ most
    → (number + 1) * 10 ^ most ≤ 10 ^ 19
    → (number_from_digits_after 10 number (digits_from_text digits) + 1) * 10 ^ (most - count) ≤ 10 ^ 19
room_behind number digits count most all long few buffer =
    let longer = number_from_digits_after 10 number (digits_from_text digits) in
    let below : longer < (number + 1) * 10 ^ count =
    rw (count_of digits, long) at (number_after_lt 10 number (digits_from_text digits) (below_base digits all)) in
    let times : (longer + 1) * 10 ^ (most - count) ≤ (number + 1) * 10 ^ count * 10 ^ (most - count) =
    mul-le-mul_right (10 ^ (most - count)) (omega arith) in
    let split : 10 ^ count * 10 ^ (most - count) ≡ 10 ^ most = let all : count + (most - count) ≡ most = omega arith in
    sym (pow-add 10 count (most - count)) ∙ ap (λ k. 10 ^ k) all in
    let whole : (number + 1) * 10 ^ count * 10 ^ (most - count) ≡ (number + 1) * 10 ^ most = rw (← split) (grind arith) in
    omega arith

-- Reading `count` digits and then `more` digits reads `count + more` digits.
pub taken_behind : (number longer : ℕ) (bytes : List ℕ) (count most longest more : ℕ) → count ≤ most → count ≤ length bytes
    → AllDigits (take count bytes) → longer ≡ number_from_digits_after 10 number (digits_from_text (take count bytes))
    → IsTaken longer (drop count bytes) (most - count) longest more → IsTaken number bytes most longest (count + more)
taken_behind number longer bytes count most longest more few within digits value t =
    let split = take-add count more bytes in
    record {
      few = let m = t.few in omega arith;
      within = omega (arith, t.within, length-drop count bytes);
      digits = rw split (AllDigits-append (take count bytes) (take more (drop count bytes)) digits t.digits);
      all = λ l. rw (← drop-drop more count bytes) (t.all (omega arith));
      value = t.value ∙ ap (λ n. number_from_digits_after 10 n (digits_from_text (take more (drop count bytes)))) value
          ∙ sym (ap (λ l. number_from_digits_after 10 number (digits_from_text l)) split ∙ ap (number_from_digits_after 10 number)
          (map-append {A = ℕ} {B = ℕ} (λ b. b - 48) (take count bytes) (take more (drop count bytes)))
          ∙ number_after_append 10 number (digits_from_text (take count bytes)) (digits_from_text (take more (drop count bytes))));
    }

-- In this module, `count` is the number of leading digits among the first 16 bytes, capped at
-- `most`.
module _ (number : ℕ) (bytes : List ℕ) (most found count : ℕ) (buffer : 16 ≤ length bytes) (is : IsCount (chunk 0 16 bytes) found)
    (least : count ≡ min found most) where
  pub few : count ≤ most
  few = omega (arith, least)

  long : length (chunk 0 16 bytes) ≡ 16
  long = length-chunk 0 16 bytes (omega arith)

  pub at_most_16 : count ≤ 16
  at_most_16 = omega (arith, is.within, long, least)

  same : take count (chunk 0 16 bytes) ≡ take count bytes
  same = take-take count 16 bytes at_most_16

  pub row_digits : AllDigits (take count (chunk 0 16 bytes))
  row_digits = fewer_digits (chunk 0 16 bytes) count found (omega (arith, least)) is.digits

  pub row_in_text : AllDigits (take count bytes)
  row_in_text = rw (← same) row_digits

  pub row_value : number * 10 ^ count + value (take count (chunk 0 16 bytes)) ≡ number_from_digits_after 10 number
      (digits_from_text (take count bytes))
  row_value =
      let k : length (digits_from_text (take count bytes)) ≡ count = count_of (take count bytes)
      ∙ length-take-le count bytes (omega (arith, at_most_16)) in
      rw same (sym (number_after_is number (digits_from_text (take count bytes)) ∙ ap (λ n. number * 10 ^ n + value (take count bytes)) k))

  pub row_small : (number + 1) * 10 ^ most ≤ 10 ^ 19 → number * 10 ^ count + value (take count (chunk 0 16 bytes)) < 10 ^ 19
  row_small fits = rw row_value
      (digits_small number (take count bytes) most row_in_text (omega (arith, length-take-le count bytes (omega (arith, at_most_16)))) fits)

  at_front : 0 + count ≡ count
  at_front = omega arith

  -- If `count` is below 16, reading `count` digits as a vector reads all leading digits, up to
  -- `most`.
  pub row_taken : count < 16 → IsTaken number bytes most (number * 10 ^ count + value (take count (chunk 0 16 bytes))) count
  row_taken less = record {
    few = few;
    within = omega arith;
    digits = row_in_text;
    all = λ l. let all : count ≡ found = omega (arith, least, l) in
        rw (drop_more bytes count 0 (omega arith))
        (λ d. is.stops (omega (arith, long, all)) (rw (← all, get_or-chunk 0 16 bytes count 0 less, at_front) d));
    value = row_value;
  }

  -- If `count` is below 16, reading up to `count` digits in a loop reads all leading digits, up to
  -- `most`.
  pub few_taken : count < 16 → (longer n : ℕ) → IsTaken number bytes count longer n → IsTaken number bytes most longer n
  few_taken less longer n t = record {
    few = omega (arith, few, t.few);
    within = t.within;
    digits = t.digits;
    all = λ l. elim (cases_lt n count) [
      | inl a ↦ t.all a
      | inr a ↦ let e : n ≡ count = omega (arith, a, t.few) in rw e ((row_taken less).all (omega (arith, l, e)))
    ];
    value = t.value;
  }

  -- If a number with `most` more digits is below `10 ^ 19`, so is the number with `count` more
  -- digits.
  pub few_fit : (number + 1) * 10 ^ most ≤ 10 ^ 19 → (number + 1) * 10 ^ count ≤ 10 ^ 19
  few_fit fits =
      let less : (number + 1) * 10 ^ count ≤ (number + 1) * 10 ^ most =
      mul-le-mul_left (number + 1) (pow-le-pow_right (omega arith) few) in
      omega (arith, less, fits)
