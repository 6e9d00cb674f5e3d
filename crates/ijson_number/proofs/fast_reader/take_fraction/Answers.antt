use Rattle.ijson_number.proofs.Common.{◌≡◌, ◌≢◌, get_or, Bool, true, HasNoPoint, ◌+◌, ◌-◌, ◌*◌, ◌^◌, ◌<◌, ◌≤◌, List, ℕ, [], ◌∷◌, ◌++◌, length, take, drop, refl, sym, ap, ◌∙◌, arith}
use Rattle.ijson_number.proofs.Common.{number_from_digits_after, nat_tests, take-append-drop, AllDigits, BeginsWithNoDigit, digits_from_text}
use Rattle.std.specs.Bool.{nat_lt}
use Rattle.ijson_number.proofs.parsing.DigitValues.{digits_small}
use Rattle.ijson_number.proofs.storing.Significands.{no_more}
use Rattle.ijson_number.proofs.parsing.CommonFronts.{point_tail, point_first}
use Rattle.ijson_number.proofs.parsing.DigitRuns.{IsDigits_from}
use Rattle.ijson_number.proofs.fast_reader.take_fraction.Goals as goal

-- Holds if `bytes` is a point followed by `digits` and `rest`, and `longer` is `number` with the
-- digits appended. There are at most `most` digits.
record IsPointTaken (number : ℕ) (bytes : List ℕ) (most longer scale : ℕ) (digits rest : List ℕ) : Type 0 where
  text_is : bytes ≡ 46 ∷ (digits ++ rest)
  all_digits : AllDigits digits
  count : length digits ≡ scale
  few : length digits ≤ most
  -- If there are fewer than `most` digits, no digit follows.
  ends : length digits < most → BeginsWithNoDigit rest
  value : longer ≡ number_from_digits_after 10 number (digits_from_text digits)

point_taken : (c : goal.After-rest-1) → IsPointTaken c.args.number c.args.bytes.now c.places_left.result c.take_lanes-longer.result.0
    c.take_lanes-longer.result.1 c.split_at.result.0.now c.split_at.result.1.now
point_taken c =
    let bytes = c.args.bytes.now in
    let taken = c.take_lanes-longer in
    let split = c.split_at.ensures in
    let behind = take (length bytes - 1) (drop 1 bytes) in
    record {
      text_is = point_first bytes c.split_at.result.0.now c.split_at.result.1.now (grind arith) (grind arith)
          (rw (split.front, split.back) (sym (take-append-drop taken.result.1 behind)));
      all_digits = rw split.front taken.ensures.digits;
      count = split.front_len;
      few = omega (arith, split.front_len, taken.ensures.few);
      ends = λ h. rw split.back (taken.ensures.all (omega (arith, split.front_len)));
      value = taken.ensures.value ∙ ap (λ (l : List ℕ). number_from_digits_after 10 c.args.number (digits_from_text l)) (sym split.front);
    }

-- Appending the maximum number of fraction digits keeps the number below `10 ^ 19`.
room : (number count most : ℕ) → (number ≡ 0 → most ≡ 19) → (number ≢ 0 → most ≡ 19 - count) → (number + 1) * 10 ^ (19 - count) ≤ 10 ^ 19
    → (number + 1) * 10 ^ most ≤ 10 ^ 19
room number count most zero others left = grind arith

most_places : (number count most : ℕ) → (number ≡ 0 → most ≡ 19) → (number ≢ 0 → most ≡ 19 - count) → most ≤ 19
most_places number count most zero others = grind arith

pub take_lanes-longer-requires : goal.take_lanes-longer-requires
take_lanes-longer-requires c =
    let left = c.places_left.ensures in
    room c.args.number c.args.count c.places_left.result left.zero left.others c.requires.room

no_point_of : (bytes : List ℕ) → (0 < length bytes → get_or bytes 0 0 ≢ 46) → HasNoPoint (nat_lt 0 0) bytes
no_point_of [] h = tt
no_point_of (b ∷ bs) h = λ _. h (omega arith)

has_point : {point : Bool} (rest : List ℕ) → point ≡ true → HasNoPoint point rest
has_point [] h = tt
has_point (b ∷ bs) h = λ none. absurd (cc)

pub returns-in_default-clause-tail : goal.returns-in_default-clause-tail
returns-in_default-clause-tail c =
    let more = no_more (c.args.number + 1) (19 - c.args.count) in
    record {
      front = [];
      digits = [];
      text_is = refl;
      fraction = (refl, refl);
      count = refl;
      value = refl;
      few = omega arith;
      small = omega (arith, more, c.requires.room);
      no_point = no_point_of c.args.bytes.now (grind arith);
    }

pub returns-clause-tail : goal.returns-clause-tail
returns-clause-tail c =
    let taken = point_taken c in
    let digits = c.split_at.result.0.now in
    let left = c.places_left.ensures in
    let some : 0 < c.take_lanes-longer.result.1 = omega arith in
    record {
      front = 46 ∷ digits;
      digits = digits;
      text_is = taken.text_is;
      fraction = (refl, IsDigits_from digits (omega (arith, taken.count)) taken.all_digits, refl, grind (arith, nat_tests));
      count = taken.count;
      value = taken.value;
      no_point = has_point c.split_at.result.1.now (grind (arith, nat_tests));
      few = omega
          (arith, taken.count, taken.few, most_places c.args.number c.args.count c.places_left.result left.zero left.others);
      small = rw taken.value
          (digits_small c.args.number digits c.places_left.result taken.all_digits taken.few
          (room c.args.number c.args.count c.places_left.result left.zero left.others c.requires.room));
    }

pub returns-clause-rest : goal.returns-clause-rest
returns-clause-rest c = λ front rest t.
    let taken = point_taken c in
    let left = c.places_left.ensures in
    (point_tail c.places_left.result c.args.bytes.now front rest c.split_at.result.0.now c.split_at.result.1.now taken.text_is
    taken.all_digits taken.ends c.args.number c.args.count left.zero left.others t).1
