-- Converting canonical digits to a number and back returns the same digits, and so does writing and
-- reading digits.
use Rattle.ijson_number.proofs.Common.{◌≡◌, ◌≢◌, ℕ, zero, suc, ◌+◌, ◌*◌, ◌/◌, ◌%◌, ◌<◌, Bool, List, [], ◌∷◌, ◌++◌, length, get_or, refl, ap, sym, ◌∙◌}
use Rattle.ijson_number.proofs.Common.{arith, append_assoc, nat_abs, nat_eq, true, false, cond, ℤ, append-nil, AllByRecursion, recursion_from_All}
use Rattle.ijson_number.proofs.Common.{digits_of_step, number_from_digits, number_from_digits_after, digits_of, digits_with_fuel, signed}
use Rattle.ijson_number.proofs.Common.{stored_number, digits_within, stripped_digits, IsStripped, abs_signed, ◌-◌, take, drop, inl, inr, pos, negsuc}
use Rattle.ijson_number.proofs.Common.{neg_ℤ, map-append, take-append-drop, length-map, number_digits_of, all_below_base_digits_of, first_digits_of}
use Rattle.ijson_number.proofs.Common.{AllDigits, IsDigits, IsWhole, IsSigned, value, digits_text, zeros_text, whole_text, All-take, All-drop}
use Rattle.ijson_number.proofs.Common.{All-from_recursion, digits_from_text}
use Rattle.ijson_number.proofs.parsing.DigitRuns.{AllDigits-append, IsDigits_from, digits_signed}

step : (m d : ℕ) → d < 10 → 0 < m * 10 + d → digits_of 10 (m * 10 + d) ≡ digits_of 10 m ++ d ∷ []
step m d h p =
    let q : (m * 10 + d) / 10 ≡ m = omega arith in
    let r : (m * 10 + d) % 10 ≡ d = omega arith in
    digits_of_step 10 (m * 10 + d) (omega arith) p ∙ rw (q, r) refl

digits_after : (m : ℕ) (ds : List ℕ) → AllByRecursion (λ d. d < 10) ds → 0 < m
    → digits_of 10 (number_from_digits_after 10 m ds) ≡ digits_of 10 m ++ ds
digits_after m [] h p = sym (append-nil (digits_of 10 m))
digits_after m (d ∷ ds) h p = digits_after (m * 10 + d) ds h.1 (omega arith) ∙ ap (λ x. x ++ ds) (step m d h.0 (omega arith))
    ∙ append_assoc (digits_of 10 m) (d ∷ []) ds

digits_back : (ds : List ℕ) → AllByRecursion (λ d. d < 10) ds → (0 < length ds → get_or ds 0 0 ≢ 0)
    → digits_of 10 (number_from_digits 10 ds) ≡ ds
digits_back [] h f = refl
digits_back (d ∷ ds) h f =
    let n : d ≢ 0 = f (omega arith) in
    digits_after (0 * 10 + d) ds h.1 (omega arith) ∙ ap (λ x. x ++ ds) (step 0 d h.0 (omega arith))

pub stripped_back : (ds : List ℕ) → IsStripped ds → digits_of 10 (number_from_digits 10 ds) ≡ ds
stripped_back ds s = digits_back ds (recursion_from_All (λ d. d < 10) ds s.below_ten) s.first

-- A step of `digits_within` equals a step of the standard library's `digits_with_fuel`.
same_turn : (b : Bool) (xs ys : List ℕ) → xs ≡ ys → (let r : List ℕ = elim b [ true ↦ [] | false ↦ xs ] in r) ≡ cond b [] ys
same_turn true xs ys e = refl
same_turn false xs ys e = e

pub digits_are : (turns n : ℕ) → digits_within turns n ≡ digits_with_fuel 10 turns n
digits_are zero n = refl
digits_are (suc turns) n =
    same_turn (nat_eq n 0) (digits_within turns (n / 10) ++ (n % 10 ∷ [])) (digits_with_fuel 10 turns (n / 10) ++ (n % 10 ∷ []))
    (ap (λ x. x ++ (n % 10 ∷ [])) (digits_are turns (n / 10)))

-- The canonical digits of a stored number are its stored digits.
pub stored_digits_are : (negative : Bool) (ds : List ℕ) (e : ℤ) (point : Bool) → IsStripped ds
    → stripped_digits (stored_number negative ds e point) ≡ ds
stored_digits_are negative ds e point s =
    let m = nat_abs (signed negative (number_from_digits 10 ds)) in
    digits_are m m ∙ ap (digits_of 10) (abs_signed negative (number_from_digits 10 ds)) ∙ stripped_back ds s

abbrev pub Below : List ℕ → Type 0
Below ds = AllByRecursion (λ d. d < 10) ds

-- Writing digits as ASCII and reading them returns the same digits.
pub read_back : (ds : List ℕ) → digits_from_text (digits_text ds) ≡ ds
read_back [] = refl
read_back (d ∷ ds) = let h : 48 + d - 48 ≡ d = omega arith in rw (h, read_back ds) refl

pub length_text : (ds : List ℕ) → length (digits_text ds) ≡ length ds
length_text ds = length-map {A = ℕ} {B = ℕ} ds (λ d. 48 + d)

pub value_text : (ds : List ℕ) → value (digits_text ds) ≡ number_from_digits 10 ds
value_text ds = ap (number_from_digits 10) (read_back ds)

pub text_digits : (ds : List ℕ) → Below ds → AllDigits (digits_text ds)
text_digits [] h = tt
text_digits (d ∷ ds) h = ((omega arith, omega arith), text_digits ds h.1)

pub zeros_digits : (k : ℕ) → AllDigits (zeros_text k)
zeros_digits zero = tt
zeros_digits (suc k) = ((omega arith, omega arith), zeros_digits k)

-- Digits without a leading zero, followed by any number of digits, are a whole part.
pub whole_from : (ds xs : List ℕ) → Below ds → 0 < get_or ds 0 0 → AllDigits xs → IsWhole (digits_text ds ++ xs)
whole_from [] xs h f x = absurd (omega arith)
whole_from (d ∷ ds) xs h f x = inr (omega arith, omega arith, AllDigits-append (digits_text ds) xs (text_digits ds h.1) x)

pub below_take : (k : ℕ) (ds : List ℕ) → Below ds → Below (take k ds)
below_take k ds h = recursion_from_All (λ d. d < 10) (take k ds) (All-take (λ d. d < 10) k ds (All-from_recursion (λ d. d < 10) ds h))

pub below_drop : (k : ℕ) (ds : List ℕ) → Below ds → Below (drop k ds)
below_drop k ds h = recursion_from_All (λ d. d < 10) (drop k ds) (All-drop (λ d. d < 10) k ds (All-from_recursion (λ d. d < 10) ds h))

pub within_below : (n : ℕ) → Below (digits_within n n)
within_below n = rw (digits_are n n) (all_below_base_digits_of 10 n (omega arith))

pub within_value : (n : ℕ) → number_from_digits 10 (digits_within n n) ≡ n
within_value n = ap (number_from_digits 10) (digits_are n n) ∙ number_digits_of 10 n (omega arith)

pub within_first : (n : ℕ) → 0 < n → 0 < get_or (digits_within n n) 0 0
within_first n h = rw (digits_are n n) (first_digits_of 10 n (omega arith) h)

pub first_some : (ds : List ℕ) → 0 < get_or ds 0 0 → 0 < length ds
first_some [] h = absurd (omega arith)
first_some (d ∷ ds) h = omega arith

number_digits : (n : ℕ) → 0 < n → IsDigits (digits_text (digits_within n n))
number_digits n h =
    let l = length_text (digits_within n n) in
    let f = first_some (digits_within n n) (within_first n h) in
    IsDigits_from (digits_text (digits_within n n)) (omega arith) (text_digits (digits_within n n) (within_below n))

number_value : (n : ℕ) → value (digits_text (digits_within n n)) ≡ n
number_value n = value_text (digits_within n n) ∙ within_value n

pub signed_text : (z : ℤ) → IsSigned (whole_text z) z
signed_text (pos zero) = inr (inr (((omega arith, omega arith), tt), refl))
signed_text (pos (suc n)) =
    rw (number_value (suc n)) at (digits_signed (digits_text (digits_within (suc n) (suc n))) (number_digits (suc n) (omega arith)))
signed_text (negsuc n) = inr (inl (refl, number_digits (suc n) (omega arith), ap (λ v. neg_ℤ (pos v)) (sym (number_value (suc n)))))

pub take_first : (j : ℕ) (ds : List ℕ) → 0 < j → 0 < get_or ds 0 0 → 0 < get_or (take j ds) 0 0
take_first zero ds h f = absurd (omega arith)
take_first (suc j) [] h f = f
take_first (suc j) (d ∷ ds) h f = f

pub text_halves : (j : ℕ) (ds : List ℕ) → digits_text (take j ds) ++ digits_text (drop j ds) ≡ digits_text ds
text_halves j ds = sym (map-append {A = ℕ} {B = ℕ} (λ d. 48 + d) (take j ds) (drop j ds)) ∙ ap digits_text (take-append-drop j ds)
