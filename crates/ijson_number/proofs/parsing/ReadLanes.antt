-- Vectors of digits: moving the lanes to either end, and computing the value of the digits.
use Rattle.ijson_number.proofs.Common.{◌≡◌, ℕ, zero, suc, ◌-◌, ◌<◌, ◌≤◌, Bool, true, ◌&&◌, ◌||◌, T, ltb, map, get_or, replicate, List, [], ◌∷◌, ◌++◌}
use Rattle.ijson_number.proofs.Common.{length, take, drop, refl, sym, subst, ◌∙◌, inl, inr, arith, ⊤, range_with_len, cases_lt, ext_get_or, swz_l}
use Rattle.ijson_number.proofs.Common.{SwzOk, SwzOk-from_Each1, Each1, chunk, w8, zeroes, rules, ◌/◌, ◌+◌, ◌*◌, ◌%◌, ◌^◌, false, cond, ap, ap₂, not}
use Rattle.ijson_number.proofs.Common.{number_from_digits, AllBelowBase, prefix_len, nat_tests, length-map, length-zip2, map-map, zip2_splat}
use Rattle.ijson_number.proofs.Common.{zip2_splat_left, zip2_of_maps, mask_l-mod, leading_from_mask_l, trailing_mask_l, dots, mask_l, top, zip2}
use Rattle.ijson_number.proofs.Common.{AllDigits, IsDigit, value, digits_from_text, IsCount}
use Rattle.std.proofs.lemmas.List.FromFn.{length-map-range_with_len, get_or-map-range_with_len}
use lib.Ieee.Fits.{and_l, and_r}
use lib.Dec.{lt→ltb}
use lib.Lanes.{all_below, digits_l, number_l, pair_sums, products}
use Rattle.ijson_number.specs.declared.lanes.TheConstants.{BACK, FRONT, PAIRS, POWERS}
use Rattle.std.proofs.lemmas.List.Sums.{prefix_len-le-length, prefix_len_passes, prefix_len_stops}
use lib.Bits.{bit_or}
use lib.Count.{count_trailing_zeros}
use Rattle.ijson_number.proofs.parsing.DigitValues.{below_base}

-- Holds if `P` holds for each number below `n`.
abbrev Each : (ℕ → Type 0) → ℕ → Type 0
Each P zero = ⊤
Each P (suc n) = P n × Each P n

pub each : (P : ℕ → Type 0) (n k : ℕ) → Each P n → k < n → P k
each P zero k h l = absurd (omega arith)
each P (suc n) k h l = elim (cases_lt k n) [ inl a ↦ each P n k h.1 a | inr a ↦ let e : n ≡ k = omega arith in subst P e h.0 ]

abbrev listed : (ℕ → ℕ) → ℕ → List ℕ
listed f n = map f (range_with_len 0 n)

-- If `P` holds for each list of the form `f 0, .., f (n - 1)`, then `P` holds for each list of
-- length `n`.
pub spelled : (P : List ℕ → Type 0) (n : ℕ) → ((f : ℕ → ℕ) → P (listed f n)) → (xs : List ℕ) → length xs ≡ n → P xs
spelled P n h xs long =
    let f = λ (k : ℕ). get_or xs k 0 in
    let many = length-map-range_with_len f 0 n in
    subst P (ext_get_or 0 _ xs (many ∙ sym long) (λ i l. get_or-map-range_with_len f 0 n i i 0 (omega arith) (omega arith))) (h f)

-- Section: moving the lanes of a vector to either end.

abbrev pub positions : (table : List ℕ) → ℕ → List ℕ
positions table n = chunk 0 16 (take (32 - n) (drop n table))

abbrev is_position : ℕ → Bool
is_position j = zeroes 16 w8 j || ltb j 16

abbrev are_positions : List ℕ → Bool
are_positions [] = true
are_positions (j ∷ js) = is_position j && are_positions js

each_position : (js : List ℕ) → T (are_positions js) → Each1 (λ j. T (is_position j)) js
each_position [] h = tt
each_position (j ∷ js) h = (and_l (is_position j) (are_positions js) h, each_position js (and_r (is_position j) (are_positions js) h))

-- Holds if the shuffle indices of `table` from index `n` on move the lanes `xs` to `to xs n`.
abbrev Moved : (table : List ℕ) (to : List ℕ → ℕ → List ℕ) → List ℕ → ℕ → Type 0
Moved table to xs n = T (are_positions (positions table n)) × (length (positions table n) ≡ 16)
    × (swz_l w8 16 xs 0 (positions table n) ≡ to xs n)

-- The first `n` lanes of `xs`, moved to the end of a vector that zeros fill.
abbrev to_end : List ℕ → ℕ → List ℕ
to_end xs n = replicate (16 - n) 0 ++ take n xs

-- The lanes of `xs` from index `n` on, moved to the front of a vector that zeros fill.
abbrev to_front : List ℕ → ℕ → List ℕ
to_front xs n = drop n xs ++ replicate n 0

-- Holds if `BACK` moves the first `n` lanes to the end, and `FRONT` moves the lanes from `n` on to
-- the front.
abbrev Both : List ℕ → ℕ → Type 0
Both xs n = Moved BACK to_end xs n × Moved FRONT to_front xs n

each_place : (f : ℕ → ℕ) → Each (Both (listed f 16)) 17
each_place f = search rules

both : (n : ℕ) → n ≤ 16 → (xs : List ℕ) → length xs ≡ 16 → Both xs n
both n few xs long = spelled (λ xs. Both xs n) 16 (λ f. each (Both (listed f 16)) 17 n (each_place f) (omega arith)) xs long

moved : (table : List ℕ) (to : List ℕ → ℕ → List ℕ) (xs : List ℕ) (n : ℕ) → Moved table to xs n
    → SwzOk w8 16 16 0 (positions table n) × (swz_l w8 16 xs 0 (positions table n) ≡ to xs n)
moved table to xs n m =
    (SwzOk-from_Each1 w8 16 1 16 0 (positions table n) refl (omega (arith, m.1)) (each_position (positions table n) m.0), m.2)

pub moved_to_end : (count : ℕ) → count ≤ 16 → (xs : List ℕ) → length xs ≡ 16
    → SwzOk w8 16 16 0 (positions BACK count) × (swz_l w8 16 xs 0 (positions BACK count) ≡ replicate (16 - count) 0 ++ take count xs)
moved_to_end count few xs long = moved BACK to_end xs count (both count few xs long).0

pub moved_to_front : (start : ℕ) → start ≤ 16 → (xs : List ℕ) → length xs ≡ 16
    → SwzOk w8 16 16 0 (positions FRONT start) × (swz_l w8 16 xs 0 (positions FRONT start) ≡ drop start xs ++ replicate start 0)
moved_to_front start few xs long = moved FRONT to_front xs start (both start few xs long).1

-- Section: combining adjacent digits to pairs.

-- The 16-bit lane computed from two digits. The lower byte is the value of both digits, and the
-- upper byte is ten times the second digit.
abbrev lane_pair : ℕ → ℕ
lane_pair z = (z * 10 % 65536 + z / 256) % 65536

abbrev pair_bytes : List ℕ → List ℕ
pair_bytes [] = []
pair_bytes (a ∷ []) = []
pair_bytes (a ∷ b ∷ xs) = (a * 10 + b) ∷ (b * 10) ∷ pair_bytes xs

abbrev pair_count : List ℕ → ℕ
pair_count [] = 0
pair_count (a ∷ []) = 0
pair_count (a ∷ b ∷ xs) = suc (pair_count xs)

abbrev byte_count : List ℕ → ℕ
byte_count [] = 0
byte_count (a ∷ []) = 0
byte_count (a ∷ b ∷ xs) = suc (suc (byte_count xs))

abbrev pub lane_bytes : (pairs bytes : ℕ) → List ℕ → List ℕ
lane_bytes pairs bytes xs = digits_l 256 bytes (number_l 65536 (map lane_pair (digits_l 65536 pairs (number_l 256 xs))))

bytes_are : (xs : List ℕ) → AllBelowBase 10 xs → lane_bytes (pair_count xs) (byte_count xs) xs ≡ pair_bytes xs
bytes_are [] h = refl
bytes_are (a ∷ []) h = refl
bytes_are (a ∷ b ∷ xs) h =
    let rest = number_l 256 xs in
    let lanes = number_l 65536 (map lane_pair (digits_l 65536 (pair_count xs) rest)) in
    let first : (a + 256 * (b + 256 * rest)) % 65536 ≡ a + 256 * b = omega (arith, h.0, h.1.0) in
    let others : (a + 256 * (b + 256 * rest)) / 65536 ≡ rest = omega (arith, h.0, h.1.0) in
    let lane : lane_pair (a + 256 * b) ≡ (a * 10 + b) + 256 * (b * 10) = omega (arith, h.0, h.1.0) in
    let low : ((a * 10 + b) + 256 * (b * 10) + 65536 * lanes) % 256 ≡ a * 10 + b = omega (arith, h.0, h.1.0) in
    let high : ((a * 10 + b) + 256 * (b * 10) + 65536 * lanes) / 256 % 256 ≡ b * 10 = omega (arith, h.0, h.1.0) in
    let on : ((a * 10 + b) + 256 * (b * 10) + 65536 * lanes) / 256 / 256 ≡ lanes = omega (arith, h.0, h.1.0) in
    rw (first, others, lane, low, high, on) (ap (λ l. (a * 10 + b) ∷ (b * 10) ∷ l) (bytes_are xs h.1.1))

and_both : (a b : Bool) → T a → T b → T (a && b)
and_both true b s t = t
and_both false b s t = absurd s

below_all : (n : ℕ) (ks : List ℕ) → AllBelowBase n ks → T (all_below n ks)
below_all n [] h = tt
below_all n (k ∷ ks) h = and_both (ltb k n) (all_below n ks) (lt→ltb k n h.0) (below_all n ks h.1)

-- The sums of the weighted pairs of 16 digits do not overflow.
pub pairs_fit : (xs : List ℕ) → length xs ≡ 16 → AllBelowBase 10 xs → T (all_below 32768 (pair_sums (products (lane_bytes 8 16 xs) PAIRS)))
pairs_fit xs long = spelled (λ xs. AllBelowBase 10 xs → T (all_below 32768 (pair_sums (products (lane_bytes 8 16 xs) PAIRS)))) 16
    (λ f h. subst (λ l. T (all_below 32768 (pair_sums (products l PAIRS)))) (sym (bytes_are (listed f 16) h))
    (below_all 32768 (pair_sums (products (pair_bytes (listed f 16)) PAIRS)) (omega (arith, h)))) xs long

abbrev lanes : List ℕ → List ℕ
lanes xs = dots (lane_bytes 8 16 xs) PAIRS

abbrev pub lane : List ℕ → ℕ → ℕ
lane xs k = get_or (lanes xs) k 0

abbrev Four : (a b c d : ℕ) → Type 0
Four a b c d = (a < 10) × (b < 10) × (c < 10) × (d < 10)

small : (a b c d : ℕ) → Four a b c d → ((a * 10 + b) * 10 + c) * 10 + d < 10 ^ 4
small a b c d h = omega (arith, h.0, h.1, h.2, h.3)

four : (a b c d : ℕ) → (a * 10 + b) * 100 + b * 10 * 0 + ((c * 10 + d) * 1 + d * 10 * 0) ≡ ((a * 10 + b) * 10 + c) * 10 + d
four a b c d = omega arith

abbrev RowOf : List ℕ → ℕ → Type 0
RowOf fours n = (get_or fours 0 0 < 10 ^ 4) × (get_or fours 1 0 < 10 ^ 4) × (get_or fours 2 0 < 10 ^ 4) × (get_or fours 3 0 < 10 ^ 4)
    × ((get_or fours 0 0 * 10000 + get_or fours 1 0) * 100000000 + (get_or fours 2 0 * 10000 + get_or fours 3 0) ≡ n)

abbrev pub IsRow : List ℕ → Type 0
IsRow xs = RowOf (lanes xs) (number_from_digits 10 xs)

pub row_is : (xs : List ℕ) → length xs ≡ 16 → AllBelowBase 10 xs → IsRow xs
row_is xs long = spelled (λ xs. AllBelowBase 10 xs → IsRow xs) 16 (λ f h.
    let h4 = h.1.1.1.1 in
    let h8 = h4.1.1.1.1 in
    let hc = h8.1.1.1.1 in
    let a = four (f 0) (f 1) (f 2) (f 3) in
    let b = four (f 4) (f 5) (f 6) (f 7) in
    let c = four (f 8) (f 9) (f 10) (f 11) in
    let d = four (f 12) (f 13) (f 14) (f 15) in
    subst (λ l. RowOf (dots l PAIRS) (number_from_digits 10 (listed f 16))) (sym (bytes_are (listed f 16) h)) (
      rw a (small (f 0) (f 1) (f 2) (f 3) (h.0, h.1.0, h.1.1.0, h.1.1.1.0)),
      rw b (small (f 4) (f 5) (f 6) (f 7) (h4.0, h4.1.0, h4.1.1.0, h4.1.1.1.0)),
      rw c (small (f 8) (f 9) (f 10) (f 11) (h8.0, h8.1.0, h8.1.1.0, h8.1.1.1.0)),
      rw d (small (f 12) (f 13) (f 14) (f 15) (hc.0, hc.1.0, hc.1.1.0, hc.1.1.1.0)),
      omega (arith, a, b, c, d),
    )) xs long

-- Section: powers of ten.

pub power_is : (count : ℕ) → count ≤ 16 → get_or POWERS count 0 ≡ 10 ^ count
power_is count few = each (λ k. get_or POWERS k 0 ≡ 10 ^ k) 17 count (search rules) (omega arith)

-- Section: the values of ASCII digits.

abbrev pub digit_lanes : List ℕ → List ℕ
digit_lanes bytes = zip2 (λ a b. (a + (2 ^ 8 - b)) % 2 ^ 8) bytes (replicate 16 48)

pub length-digit_lanes : (bytes : List ℕ) → length bytes ≡ 16 → length (digit_lanes bytes) ≡ 16
length-digit_lanes bytes long = length-zip2 (λ a b. (a + (2 ^ 8 - b)) % 2 ^ 8) bytes (replicate 16 48) long ∙ long

less_zero : (count : ℕ) (bytes : List ℕ) → AllDigits (take count bytes)
    → take count (map (λ a. (a + 208) % 2 ^ 8) bytes) ≡ digits_from_text (take count bytes)
less_zero zero bytes h = refl
less_zero (suc n) [] h = refl
less_zero (suc n) (b ∷ bs) h = ap₂ ◌∷◌ (let lo = h.0.0 in let hi = h.0.1 in omega arith) (less_zero n bs h.1)

below_zeros : (k : ℕ) (ds : List ℕ) → AllBelowBase 10 ds → AllBelowBase 10 (replicate k 0 ++ ds)
below_zeros zero ds h = h
below_zeros (suc k) ds h = (omega arith, below_zeros k ds h)

number_of_zeros : (k : ℕ) (ds : List ℕ) → number_from_digits 10 (replicate k 0 ++ ds) ≡ number_from_digits 10 ds
number_of_zeros zero ds = refl
number_of_zeros (suc k) ds = number_of_zeros k ds

-- In this module, the first `count` bytes are digits, and their values are moved to the end of a
-- vector.
module _ (bytes : List ℕ) (long : length bytes ≡ 16) (count : ℕ) (digits : AllDigits (take count bytes)) where
  moved_digits : replicate (16 - count) 0 ++ take count (digit_lanes bytes) ≡ replicate (16 - count) 0 ++ digits_from_text
      (take count bytes)
  moved_digits = ap (λ l. replicate (16 - count) 0 ++ l)
      (ap (take count) (zip2_splat (λ a b. (a + (2 ^ 8 - b)) % 2 ^ 8) bytes 16 48 long) ∙ less_zero count bytes digits)

  pub moved_below : AllBelowBase 10 (replicate (16 - count) 0 ++ take count (digit_lanes bytes))
  moved_below = rw moved_digits (below_zeros (16 - count) (digits_from_text (take count bytes)) (below_base (take count bytes) digits))

  pub moved_value : number_from_digits 10 (replicate (16 - count) 0 ++ take count (digit_lanes bytes)) ≡ value (take count bytes)
  moved_value = ap (number_from_digits 10) moved_digits ∙ number_of_zeros (16 - count) (digits_from_text (take count bytes))

-- Section: counting the leading digits of a vector.

abbrev mark : ℕ → ℕ
mark b = bit_or (cond (ltb b 48) 255 0) (cond (ltb 57 b) 255 0)

abbrev is_other : ℕ → Bool
is_other b = top 7 (mark b)

two : (low high : Bool) → not (top 7 (bit_or (cond low 255 0) (cond high 255 0))) ≡ not low && not high
two true true = refl
two true false = refl
two false true = refl
two false false = refl

digit_is : (b : ℕ) → not (is_other b) ≡ true → IsDigit b
digit_is b h = let e : not (ltb b 48) && not (ltb 57 b) ≡ true = sym (two (ltb b 48) (ltb 57 b)) ∙ h in
    (grind (arith, nat_tests, e), grind (arith, nat_tests, e))

other_is : (b : ℕ) → not (is_other b) ≡ false → IsDigit b → ⊥
other_is b h d =
    let e : not (ltb b 48) && not (ltb 57 b) ≡ false = sym (two (ltb b 48) (ltb 57 b)) ∙ h in
    let low = d.0 in
    let high = d.1 in
    grind (arith, nat_tests, e, low, high)

each_digit : (bs : List ℕ) (n : ℕ) → ((k : ℕ) → k < n → IsDigit (get_or bs k 0)) → n ≤ length bs → AllDigits (take n bs)
each_digit bs zero h l = tt
each_digit [] (suc n) h l = tt
each_digit (b ∷ bs) (suc n) h l = (h 0 (omega arith), each_digit bs n (λ k less. h (suc k) (omega arith)) (omega arith))

abbrev pub others : List ℕ → ℕ
others bytes = mask_l (map (top 7)
    (zip2 bit_or (zip2 (λ a b. cond (ltb a b) 255 0) bytes (replicate 16 48))
    (zip2 (λ a b. cond (ltb a b) 255 0) (replicate 16 57) bytes))) % 2 ^ 64

module _ (bytes : List ℕ) (long : length bytes ≡ 16) where
  others_are : others bytes ≡ mask_l (map is_other bytes)
  others_are =
      ap (λ m. mask_l (map (top 7) m) % 2 ^ 64)
      (zip2_of_maps bit_or (λ b. cond (ltb b 48) 255 0) (λ b. cond (ltb 57 b) 255 0) bytes
      (zip2_splat (λ a b. cond (ltb a b) 255 0) bytes 16 48 long) (zip2_splat_left (λ a b. cond (ltb a b) 255 0) 57 16 bytes long))
      ∙ ap (λ m. mask_l m % 2 ^ 64) (map-map (top 7) mark bytes)
      ∙ mask_l-mod (map is_other bytes) 64 (omega (arith, length-map bytes is_other, long))

  count_is : (n : ℕ) → n ≡ prefix_len (λ b. not (is_other b)) bytes → IsCount bytes n
  count_is n is =
      let q = λ (b : ℕ). not (is_other b) in
      let within : n ≤ length bytes = omega (arith, is, prefix_len-le-length q bytes) in
      record {
        within = within;
        digits = each_digit bytes n (λ k l. digit_is (get_or bytes k 0) (prefix_len_passes q bytes k 0 (omega (arith, is)))) within;
        stops = λ l. other_is (get_or bytes n 0) (rw is (prefix_len_stops q bytes 0 (omega (arith, is))));
      }

  -- If the mask of bytes that are not digits is 0, all 16 bytes are digits.
  pub count_of_all : others bytes ≡ 0 → IsCount bytes 16
  count_of_all none = count_is 16 (sym long ∙ sym (leading_from_mask_l is_other bytes (sym others_are ∙ none)))

  -- If the mask of bytes that are not digits is not 0, the number of leading digits is the index of
  -- its lowest set bit.
  pub count_of_some : 0 < others bytes → IsCount bytes (count_trailing_zeros 64 (others bytes))
  count_of_some some = rw others_are
      (count_is (count_trailing_zeros 64 (mask_l (map is_other bytes)))
      (trailing_mask_l is_other 64 bytes (omega (arith, long)) (omega (arith, some, others_are))))
