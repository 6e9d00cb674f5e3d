-- The value of digits: zeros at either end, appended digits, and bounds.
use Rattle.ijson_number.proofs.Common.{◌≡◌, ℕ, zero, suc, ◌+◌, ◌-◌, ◌*◌, ◌^◌, ◌<◌, min, List, [], ◌∷◌, ◌++◌, map, length, get_or, take, replicate}
use Rattle.ijson_number.proofs.Common.{refl, ap, sym, ◌∙◌, arith, append_assoc, append-nil, take_more, nil_from_length, replicate-append-replicate}
use Rattle.ijson_number.proofs.Common.{map-append, number_push, pow-succ', value, ◌≤◌, drop, pow-add, number_from_digits, number_from_digits_after}
use Rattle.ijson_number.proofs.Common.{AllBelowBase, mul-le-mul_left, mul-le-mul_right, number_after_append, number_after_lt, number_lt, length-map}
use Rattle.ijson_number.proofs.Common.{length-take-le, take-append-drop, AllDigits, IsDigit, digits_from_text, power_le}
use Rattle.ijson_number.proofs.parsing.DigitRuns.{AllDigits-append}

pub front_zeros : (w f a b : List ℕ) (j k : ℕ) → w ≡ replicate j 48 ++ a → f ≡ replicate k 48 ++ b → length a ≡ 0
    → w ++ f ≡ replicate (j + k) 48 ++ (a ++ b)
front_zeros w f a b j k d e n =
    let m : a ≡ [] = nil_from_length a n in
    rw (d, e, m, ← replicate-append-replicate {A = ℕ} j k 48) (simp (append_assoc, append-nil))

pub back_zeros : (f b a t : List ℕ) (j k : ℕ) → f ≡ a ++ replicate j 48 → b ≡ t ++ replicate k 48 → length t ≡ 0
    → f ++ b ≡ (a ++ t) ++ replicate (j + k) 48
back_zeros f b a t j k d e n =
    let m : t ≡ [] = nil_from_length t n in
    rw (d, e, m, ← replicate-append-replicate {A = ℕ} j k 48) (simp (append_assoc, append-nil))

pub value_push : (bs : List ℕ) (b : ℕ) → value (bs ++ b ∷ []) ≡ value bs * 10 + (b - 48)
value_push bs b = rw (map-append {A = ℕ} {B = ℕ} (λ b. b - 48) bs (b ∷ [])) (number_push 10 (map {A = ℕ} {B = ℕ} (λ b. b - 48) bs) (b - 48))

-- Leading zeros do not change the value of digits.
pub value_zeros_front : (k : ℕ) (bs : List ℕ) → value (replicate k 48 ++ bs) ≡ value bs
value_zeros_front zero bs = refl
value_zeros_front (suc k) bs = value_zeros_front k bs

-- Each trailing zero multiplies the value of digits by ten.
pub value_zeros_back : (bs : List ℕ) (k : ℕ) → value (bs ++ replicate k 48) ≡ value bs * 10 ^ k
value_zeros_back bs zero = ap value (append-nil bs) ∙ omega arith
value_zeros_back bs (suc k) =
    ap value (sym (append_assoc bs (48 ∷ []) (replicate k 48))) ∙ value_zeros_back (bs ++ 48 ∷ []) k
    ∙ ap (λ v. v * 10 ^ k) (value_push bs 48) ∙ rw pow-succ' (omega arith)

pub below_base : (bs : List ℕ) → AllDigits bs → AllBelowBase 10 (digits_from_text bs)
below_base [] h = tt
below_base (b ∷ bs) h = (let d = h.0 in omega arith, below_base bs h.1)

pub count_of : (bs : List ℕ) → length (digits_from_text bs) ≡ length bs
count_of bs = length-map {A = ℕ} {B = ℕ} bs (λ b. b - 48)

-- Appending the first `i` digits and then the digit at index `i` appends the first `i + 1` digits.
pub append_step : (n : ℕ) (bs : List ℕ) (i : ℕ) → i < length bs
    → number_from_digits_after 10 n (digits_from_text (take i bs)) * 10 + (get_or bs i 0 - 48) ≡ number_from_digits_after 10 n
    (digits_from_text (take (i + 1) bs))
append_step n bs i h =
    let split : digits_from_text (take (i + 1) bs) ≡ digits_from_text (take i bs) ++ (get_or bs i 0 - 48) ∷ [] =
    ap digits_from_text (take_more bs i 0 h) ∙ map-append {A = ℕ} {B = ℕ} (λ b. b - 48) (take i bs) (get_or bs i 0 ∷ []) in
    sym (ap (number_from_digits_after 10 n) split ∙ number_after_append 10 n (digits_from_text (take i bs)) ((get_or bs i 0 - 48) ∷ []))

-- If `n` is the capped value of the first `i` digits, one more step of the loop computes the capped
-- value of the first `i + 1` digits.
pub capped_step : (bs : List ℕ) (i n : ℕ) → i < length bs → n ≡ min (value (take i bs)) (2 ^ 80)
    → min (n * 10 + (get_or bs i 0 - 48)) (2 ^ 80) ≡ min (value (take (i + 1) bs)) (2 ^ 80)
capped_step bs i n h e =
    let more : value (take i bs) * 10 + (get_or bs i 0 - 48) ≡ value (take (i + 1) bs) = append_step 0 bs i h in
    omega (arith, more)

-- If `(n + 1) * 10 ^ most` is at most `10 ^ 19`, appending up to `most` digits to `n` keeps it
-- below `10 ^ 19`.
pub digits_small : (n : ℕ) (bs : List ℕ) (most : ℕ) → AllDigits bs → length bs ≤ most → (n + 1) * 10 ^ most ≤ 10 ^ 19
    → number_from_digits_after 10 n (digits_from_text bs) < 10 ^ 19
digits_small n bs most h l buffer =
    let below = number_after_lt 10 n (digits_from_text bs) (below_base bs h) in
    let p : 10 ^ length bs ≤ 10 ^ most = power_le (length bs) most l in
    let m : (n + 1) * 10 ^ length bs ≤ (n + 1) * 10 ^ most = mul-le-mul_left (n + 1) p in
    let small : number_from_digits_after 10 n (digits_from_text bs) < (n + 1) * 10 ^ length bs = rw (count_of bs) at below in
    omega arith

pub digits_more : (bs : List ℕ) (i : ℕ) → AllDigits (take i bs) → i < length bs → IsDigit (get_or bs i 0) → AllDigits (take (i + 1) bs)
digits_more bs i front inside digit = rw (take_more bs i 0 inside) (AllDigits-append (take i bs) (get_or bs i 0 ∷ []) front (digit, tt))

-- If `(n + 1) * 10 ^ most` is at most `10 ^ 19`, appending the digit at an index `i` below `most`
-- keeps the number below `10 ^ 19`.
pub step_small : (n : ℕ) (bs : List ℕ) (i most : ℕ) → AllDigits (take i bs) → i < length bs → i < most → IsDigit (get_or bs i 0)
    → (n + 1) * 10 ^ most ≤ 10 ^ 19 → number_from_digits_after 10 n (digits_from_text (take i bs)) * 10 + (get_or bs i 0 - 48) < 10 ^ 19
step_small n bs i most front inside few digit buffer =
    let all = digits_more bs i front inside digit in
    let count : length (take (i + 1) bs) ≡ i + 1 = length-take-le (i + 1) bs (omega arith) in
    rw (append_step n bs i inside) (digits_small n (take (i + 1) bs) most all (omega arith) buffer)

pub value_small : (bs : List ℕ) → AllDigits bs → value bs < 10 ^ length bs
value_small bs h = rw (count_of bs) at (number_lt 10 (digits_from_text bs) (below_base bs h))

-- Appending the digits `back` to the value of `front` yields the value of `front ++ back`.
pub joined_value : (front back : List ℕ) → number_from_digits_after 10 (value front) (digits_from_text back) ≡ value (front ++ back)
joined_value front back =
    sym (ap (number_from_digits 10) (map-append {A = ℕ} {B = ℕ} (λ b. b - 48) front back)
    ∙ number_after_append 10 0 (digits_from_text front) (digits_from_text back))

-- After `k` digits, `19 - k` more digits keep the value below `10 ^ 19`.
pub room_left : (front : List ℕ) (k : ℕ) → AllDigits front → length front ≡ k → k ≤ 19 → (value front + 1) * 10 ^ (19 - k) ≤ 10 ^ 19
room_left front k digits count few =
    let v : value front < 10 ^ k = rw count at (value_small front digits) in
    let m : (value front + 1) * 10 ^ (19 - k) ≤ 10 ^ k * 10 ^ (19 - k) = mul-le-mul_right (10 ^ (19 - k)) (omega arith) in
    let all : k + (19 - k) ≡ 19 = omega arith in
    let whole : 10 ^ k * 10 ^ (19 - k) ≡ 10 ^ 19 = sym (pow-add 10 k (19 - k)) ∙ ap (λ j. 10 ^ j) all in
    omega arith

-- Appending digits to a number does not decrease it.
pub no_less : (n : ℕ) (ds : List ℕ) → n ≤ number_from_digits_after 10 n ds
no_less n [] = omega arith
no_less n (d ∷ ds) = let h = no_less (n * 10 + d) ds in omega arith

-- Appending the first `i + 1` digits yields at most the number that appending all digits yields.
pub digits_after : (n : ℕ) (bs : List ℕ) (i : ℕ) → i < length bs
    → number_from_digits_after 10 n (digits_from_text (take i bs)) * 10 + (get_or bs i 0 - 48) ≤ number_from_digits_after 10 n (digits_from_text bs)
digits_after n bs i h =
    let front = take (i + 1) bs in
    let back = drop (i + 1) bs in
    let split : digits_from_text bs ≡ digits_from_text front ++ digits_from_text back =
    ap digits_from_text (sym (take-append-drop (i + 1) bs)) ∙ map-append {A = ℕ} {B = ℕ} (λ b. b - 48) front back in
    let whole : number_from_digits_after 10 n (digits_from_text bs)
    ≡ number_from_digits_after 10 (number_from_digits_after 10 n (digits_from_text front)) (digits_from_text back) =
    ap (number_from_digits_after 10 n) split ∙ number_after_append 10 n (digits_from_text front) (digits_from_text back) in
    let more = no_less (number_from_digits_after 10 n (digits_from_text front)) (digits_from_text back) in
    omega (arith, append_step n bs i h, whole, more)
