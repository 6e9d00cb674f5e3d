-- A vector computes the canonical digits of a number that is stored in a block.
use Rattle.ijson_number.proofs.Common.{◌≡◌, ◌∙◌, inl, inr, ℕ, zero, suc, ◌+◌, ◌-◌, ◌*◌, ◌/◌, ◌%◌, ◌^◌, ◌<◌, ◌≤◌, ◌++◌, List, [], ◌∷◌, map, drop}
use Rattle.ijson_number.proofs.Common.{length, length-drop, refl, sym, ap, ap₂, arith, decimal, AllBelowBase, digits_of, drop-map, decimal-digits_of}
use Rattle.ijson_number.proofs.Common.{bool_byte, all_below_base_digits_of, digits_of_step, append-nil, map-append, take_all, zip2_splat, cases_lt}
use Rattle.ijson_number.proofs.Common.{nat_tests, digits_text, digits_from_text, IsZerosInFront}
use lib.Dec.{leb}
use Rattle.ijson_number.specs.private.WordText.{last_digits}
use Rattle.ijson_number.proofs.writing.LastDigits.{front_is, joined, last_count}
use Rattle.ijson_number.proofs.parsing.ReadLanes.{digit_lanes}
use Rattle.ijson_number.proofs.writing.DigitTexts.{read_back}

-- Converting the decimal text of a nonzero `n` to digits yields the digits of `n`.
pub made : (n start : ℕ) (text buffer : List ℕ) → 0 < n → n < 2 ^ 64 → drop start text ≡ decimal n ++ [] → buffer ≡ digits_from_text text
    → drop start buffer ≡ digits_of 10 n
made n start text buffer some word written is =
    let shown : drop start text ≡ digits_text (digits_of 10 n) = written ∙ append-nil (decimal n) ∙ decimal-digits_of n some word in
    ap (drop start) is ∙ drop-map {X = ℕ} {Y = ℕ} (λ b. b - 48) start text ∙ ap digits_from_text shown ∙ read_back (digits_of 10 n)

digits_back : (ds : List ℕ) → AllBelowBase 10 ds → map (λ a. (a + (2 ^ 8 - 48)) % 2 ^ 8) (digits_text ds) ≡ ds
digits_back [] h = refl
digits_back (d ∷ ds) h = ap₂ ◌∷◌ (omega (arith, h.0)) (digits_back ds h.1)

-- Among the 16 digits of a nonzero `n`, the digits after the leading zeros are the digits of `n`.
pub row_digits : (n zeros : ℕ) (lanes : List ℕ) → 0 < n → n < 10 ^ 16 → length lanes ≡ 16 → lanes ≡ last_digits 16 n
    → IsZerosInFront lanes zeros → drop zeros (digit_lanes lanes) ≡ digits_of 10 n
row_digits n zeros lanes some small long is counted =
    let few = counted.few in
    let shown : drop zeros lanes ≡ decimal n =
    sym (take_all (16 - zeros) (drop zeros lanes) (omega (arith, length-drop zeros lanes)))
    ∙ front_is n 0 small (omega arith) lanes is zeros counted zeros (omega arith)
    ∙ ap decimal (let whole : n / 10 ^ 0 ≡ n = omega arith in whole) in
    ap (drop zeros) (zip2_splat (λ a b. (a + (2 ^ 8 - b)) % 2 ^ 8) lanes 16 48 long)
    ∙ drop-map {X = ℕ} {Y = ℕ} (λ a. (a + (2 ^ 8 - 48)) % 2 ^ 8) zeros lanes
    ∙ ap (map (λ a. (a + (2 ^ 8 - 48)) % 2 ^ 8)) (shown ∙ decimal-digits_of n some (omega arith))
    ∙ digits_back (digits_of 10 n) (all_below_base_digits_of 10 n (omega arith))

-- Subtracting `'0'` from the last `count` digits in ASCII yields their values.
values : (count n : ℕ) → map (λ a. (a + (2 ^ 8 - 48)) % 2 ^ 8) (last_digits count n) ≡ digits_from_text (last_digits count n)
unfolding last_digits
values zero n = refl
values (suc k) n =
    let front = last_digits k (n / 10) in
    let last : (48 + n % 10 + (2 ^ 8 - 48)) % 2 ^ 8 ≡ 48 + n % 10 - 48 = omega arith in
    map-append (λ a. (a + (2 ^ 8 - 48)) % 2 ^ 8) front ((48 + n % 10) ∷ []) ∙ ap₂ ◌++◌ (values k (n / 10)) (λ i. last i ∷ [])
    ∙ sym (map-append (λ b. b - 48) front ((48 + n % 10) ∷ []))

-- Subtracting `'0'` from a vector of 16 digits in ASCII yields their values.
pub row_values : (n : ℕ) (lanes : List ℕ) → lanes ≡ last_digits 16 n → digit_lanes lanes ≡ digits_from_text (last_digits 16 n)
row_values n lanes is = rw is (zip2_splat (λ a b. (a + (2 ^ 8 - b)) % 2 ^ 8) (last_digits 16 n) 16 48 (last_count 16 n) ∙ values 16 n)

-- The digits of a number of more than 16 digits are its leading digits followed by its last 16
-- digits.
pub wide_digits : (n : ℕ) → 10 ^ 16 ≤ n → n < 2 ^ 64
    → digits_of 10 n ≡ digits_of 10 (n / 10 ^ 16) ++ digits_from_text (last_digits 16 (n % 10 ^ 16))
wide_digits n wide word =
    let front : ℕ = n / 10 ^ 16 in
    let back : ℕ = n % 10 ^ 16 in
    let whole : n ≡ front * 10 ^ 16 + back = omega arith in
    let shown : digits_text (digits_of 10 n) ≡ digits_text (digits_of 10 front) ++ last_digits 16 back =
    sym (decimal-digits_of n (omega arith) word) ∙ ap decimal whole ∙ joined 16 front back (omega arith) (omega arith) (omega arith)
    ∙ ap (λ l. l ++ last_digits 16 back) (decimal-digits_of front (omega arith) (omega arith)) in
    sym (read_back (digits_of 10 n)) ∙ ap digits_from_text shown
    ∙ map-append (λ b. b - 48) (digits_text (digits_of 10 front)) (last_digits 16 back)
    ∙ ap (λ l. l ++ digits_from_text (last_digits 16 back)) (read_back (digits_of 10 front))

-- A number from 1 to 9 consists of one digit.
below_ten : (n : ℕ) → 0 < n → n < 10 → digits_of 10 n ≡ n % 10 ∷ []
below_ten n some few =
    let none : n / 10 ≡ 0 = omega arith in
    digits_of_step 10 n (omega arith) some ∙ ap (λ m. digits_of 10 m ++ n % 10 ∷ []) none

below_hundred : (n : ℕ) → 10 ≤ n → n < 100 → digits_of 10 n ≡ n / 10 % 10 ∷ n % 10 ∷ []
below_hundred n some few =
    digits_of_step 10 n (omega arith) (omega arith) ∙ ap (λ ds. ds ++ n % 10 ∷ []) (below_ten (n / 10) (omega arith) (omega arith))

below_thousand : (n : ℕ) → 100 ≤ n → n < 1000 → digits_of 10 n ≡ n / 100 ∷ n / 10 % 10 ∷ n % 10 ∷ []
below_thousand n some few =
    let first : n / 10 / 10 % 10 ≡ n / 100 = omega arith in
    digits_of_step 10 n (omega arith) (omega arith) ∙ ap (λ ds. ds ++ n % 10 ∷ []) (below_hundred (n / 10) (omega arith) (omega arith))
    ∙ ap (λ d. d ∷ n / 10 % 10 ∷ n % 10 ∷ []) first

pub front_digits : (n count : ℕ) (row : List ℕ) → 0 < n → n < 1000 → count ≡ 1 + bool_byte (leb 10 n) + bool_byte (leb 100 n)
    → drop (3 - count) (n / 100 ∷ n / 10 % 10 ∷ n % 10 ∷ row) ≡ digits_of 10 n ++ row
front_digits n count row some few is = elim (cases_lt n 10) [
  | inl one ↦ (let at : 3 - count ≡ 2 = grind (arith, nat_tests, is, one) in rw (at, below_ten n some one) refl)
  | inr more ↦ elim (cases_lt n 100) [
    | inl two ↦ (let at : 3 - count ≡ 1 = grind (arith, nat_tests, is, more, two) in rw (at, below_hundred n more two) refl)
    | inr three ↦ (let at : 3 - count ≡ 0 = grind (arith, nat_tests, is, three) in rw (at, below_thousand n three few) refl)
  ]
]
