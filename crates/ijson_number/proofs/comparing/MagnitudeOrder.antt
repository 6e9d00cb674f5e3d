-- Positive numbers are ordered by the position of their decimal point, then by their digits.
use Rattle.ijson_number.proofs.Common.{◌≡◌, ◌≢◌, ℕ, suc, ◌+◌, ◌-◌, ◌*◌, ◌^◌, ◌<◌, ◌≤◌, List, [], ◌∷◌, length, get_or, refl, ap, sym, ◌∙◌, arith}
use Rattle.ijson_number.proofs.Common.{pow-add, ℤ, pos, nat_abs, ◌+ℤ◌, ◌-ℤ◌, ◌<ℤ◌, ◌≤ℤ◌, false, true, int_min, number_from_digits}
use Rattle.ijson_number.proofs.Common.{number_from_digits_after, AllByRecursion, slice_cmp, Less, Equal, Greater, nat_cmp, int_cmp, ordering_then}
use Rattle.ijson_number.proofs.Common.{mul-le-mul_right, pow-succ', nat_tests, ints, clamps, number_lt, recursion_from_All, stored_number, number_cmp}
use Rattle.ijson_number.proofs.Common.{IsStripped, power_le, nonneg}
use Rattle.std.proofs.lemmas.Cmp.{by_ranked, ranked}
use Rattle.ijson_number.proofs.writing.LastDigits.{some_places}

pub nat_below : (x y : ℕ) → x < y → nat_cmp x y ≡ Less
nat_below x y h = grind (arith, nat_tests)

pub nat_above : (x y : ℕ) → y < x → nat_cmp x y ≡ Greater
nat_above x y h = grind (arith, nat_tests)

pub int_below : (x y : ℤ) → x <ℤ y → int_cmp x y ≡ Less
int_below x y h = grind (arith, ints)

pub int_above : (x y : ℤ) → y <ℤ x → int_cmp x y ≡ Greater
int_above x y h = grind (arith, ints)

pub same_int_cmp : (x : ℤ) → int_cmp x x ≡ Equal
same_int_cmp x = grind (arith, ints)

pos_cmp : (x y : ℕ) → int_cmp (pos x) (pos y) ≡ nat_cmp x y
pos_cmp x y = grind (arith, nat_tests)

from_first : (d : ℕ) (ds : List ℕ) → number_from_digits 10 (d ∷ ds) ≡ number_from_digits_after 10 d ds
from_first d ds = let z : 0 * 10 + d ≡ d = omega arith in ap (λ x. number_from_digits_after 10 x ds) z

-- Appending the digits `ds` to `n` multiplies `n` by ten for each digit and adds the value of `ds`.
pub number_after_is : (n : ℕ) (ds : List ℕ) → number_from_digits_after 10 n ds ≡ n * 10 ^ length ds + number_from_digits 10 ds
number_after_is n [] = omega arith
number_after_is n (d ∷ ds) =
    let t : 10 ^ suc (length ds) ≡ 10 * 10 ^ length ds = pow-succ' 10 (length ds) in
    number_after_is (n * 10 + d) ds ∙ rw (from_first d ds, number_after_is d ds, t) (grind arith)

-- The value of `d ∷ ds` is `d * 10 ^ length ds` plus the value of `ds`.
pub number_first : (d : ℕ) (ds : List ℕ) → number_from_digits 10 (d ∷ ds) ≡ d * 10 ^ length ds + number_from_digits 10 ds
number_first d ds = from_first d ds ∙ number_after_is d ds

abbrev Below : List ℕ → Type 0
Below ds = AllByRecursion (λ d. d < 10) ds

-- Holds if the list is empty or its last digit is not 0.
abbrev LastSome : List ℕ → Type 0
LastSome ds = 0 < length ds → get_or ds (length ds - 1) 0 ≢ 0

last_rest : (d : ℕ) (ds : List ℕ) → LastSome (d ∷ ds) → LastSome ds
last_rest d ds h l = let e : length (d ∷ ds) - 1 ≡ suc (length ds - 1) = omega arith in rw e at (h (omega arith))

number_pos : (d : ℕ) (ds : List ℕ) → LastSome (d ∷ ds) → 0 < number_from_digits 10 (d ∷ ds)
number_pos d [] h = let n : d ≢ 0 = h (omega arith) in omega arith
number_pos d (c ∷ ds) h = let p = number_pos c ds (last_rest d (c ∷ ds) h) in rw (number_first d (c ∷ ds)) (omega arith)

scaled_first : (d : ℕ) (ds : List ℕ) (j : ℕ)
    → number_from_digits 10 (d ∷ ds) * 10 ^ j ≡ d * 10 ^ (length ds + j) + number_from_digits 10 ds * 10 ^ j
scaled_first d ds j = rw (number_first d ds, pow-add 10 (length ds) j) (grind arith)

pub scaled_below : (ds : List ℕ) (j : ℕ) → Below ds → number_from_digits 10 ds * 10 ^ j < 10 ^ (length ds + j)
scaled_below ds j h =
    let m : suc (number_from_digits 10 ds) * 10 ^ j ≤ 10 ^ length ds * 10 ^ j = mul-le-mul_right (10 ^ j) (number_lt 10 ds h) in
    let some = some_places 1 j (omega arith) in
    rw (pow-add 10 (length ds) j) (grind (arith, m, some))

-- If `a` and `b` are below `p`, then `d * p + a` and `x * p + b` are ordered by `d` and `x`, then
-- by `a` and `b`.
first_digits : (d x p a b : ℕ) → a < p → b < p → nat_cmp (d * p + a) (x * p + b) ≡ ordering_then (nat_cmp d x) (nat_cmp a b)
first_digits d x p a b h g = by_ranked _ _ _ (nat_cmp d x) (ranked d x _ refl)
    (λ e l. let m : suc d * p ≤ x * p = mul-le-mul_right p l in rw e (nat_below (d * p + a) (x * p + b) (grind (arith, m))))
    (λ e s. rw (e, s) (grind (arith, nat_tests)))
    (λ e l. let m : suc x * p ≤ d * p = mul-le-mul_right p l in rw e (nat_above (d * p + a) (x * p + b) (grind (arith, m))))

-- If `ds` with `j` zeros is as long as `es` with `k` zeros, and neither list ends in 0, their
-- scaled values are ordered like the lists.
aligned : (ds es : List ℕ) (j k : ℕ) → Below ds → Below es → LastSome ds → LastSome es → length ds + j ≡ length es + k
    → nat_cmp (number_from_digits 10 ds * 10 ^ j) (number_from_digits 10 es * 10 ^ k) ≡ slice_cmp nat_cmp ds es
aligned [] [] j k p q l m e = grind (arith, nat_tests)
aligned [] (x ∷ es) j k p q l m e = nat_below (0 * 10 ^ j) (number_from_digits 10 (x ∷ es) * 10 ^ k)
    (let n = some_places _ k (number_pos x es m) in omega arith)
aligned (d ∷ ds) [] j k p q l m e = nat_above (number_from_digits 10 (d ∷ ds) * 10 ^ j) (0 * 10 ^ k)
    (let n = some_places _ j (number_pos d ds l) in omega arith)
aligned (d ∷ ds) (x ∷ es) j k p q l m e =
    let place : length ds + j ≡ length es + k = omega arith in
    rw (scaled_first d ds j, scaled_first x es k, place)
    (first_digits d x _ _ _ (rw place at (scaled_below ds j p.1)) (scaled_below es k q.1)
    ∙ ap (ordering_then (nat_cmp d x)) (aligned ds es j k p.1 q.1 (last_rest d ds l) (last_rest x es m) place))

-- Digits without a leading 0 have a value of at least `10 ^ (length ds - 1)`.
pub number_least : (ds : List ℕ) → 0 < length ds → get_or ds 0 0 ≢ 0 → 10 ^ (length ds - 1) ≤ number_from_digits 10 ds
number_least [] h n = absurd (omega arith)
number_least (d ∷ ds) h n =
    let e : length (d ∷ ds) - 1 ≡ length ds = omega arith in
    let m : 1 * 10 ^ length ds ≤ d * 10 ^ length ds = mul-le-mul_right (10 ^ length ds) (omega (arith, n)) in
    rw (e, number_first d ds) (omega arith)

-- If `length ds + j < length es + k` and `es` does not begin with 0, then the value of `ds` times
-- `10 ^ j` is less than the value of `es` times `10 ^ k`.
lower_place : (ds es : List ℕ) (j k : ℕ) → Below ds → 0 < length es → get_or es 0 0 ≢ 0 → length ds + j < length es + k
    → number_from_digits 10 ds * 10 ^ j < number_from_digits 10 es * 10 ^ k
lower_place ds es j k p s n h =
    let a = scaled_below ds j p in
    let b : 10 ^ (length ds + j) ≤ 10 ^ (length es - 1 + k) = power_le (length ds + j) (length es - 1 + k) (omega arith) in
    let c : 10 ^ (length es - 1) * 10 ^ k ≤ number_from_digits 10 es * 10 ^ k = mul-le-mul_right (10 ^ k) (number_least es s n) in
    let d : 10 ^ (length es - 1 + k) ≡ 10 ^ (length es - 1) * 10 ^ k = pow-add 10 (length es - 1) k in
    omega arith

pub gap : (e c : ℤ) → c ≤ℤ e → e ≡ c +ℤ pos (nat_abs (e -ℤ c))
gap e c h = let n = nonneg (e -ℤ c) (omega (arith, ints)) in omega (arith, ints)

places : (a b j k : ℕ) (e f c : ℤ) → e ≡ c +ℤ pos j → f ≡ c +ℤ pos k → nat_cmp (a + j) (b + k) ≡ int_cmp (pos a +ℤ e) (pos b +ℤ f)
places a b j k e f c p q = by_ranked _ _ _ (nat_cmp (a + j) (b + k)) (ranked (a + j) (b + k) _ refl)
    (λ o l. o ∙ sym (int_below (pos a +ℤ e) (pos b +ℤ f) (omega (arith, ints))))
    (λ o s. let same : pos a +ℤ e ≡ pos b +ℤ f = omega (arith, ints) in o ∙ rw same (sym (same_int_cmp (pos b +ℤ f))))
    (λ o l. o ∙ sym (int_above (pos a +ℤ e) (pos b +ℤ f) (omega (arith, ints))))

module _ (ds es : List ℕ) (e f : ℤ) (p : IsStripped ds) (q : IsStripped es) (s : 0 < length ds) (t : 0 < length es) where
  below_left : Below ds
  below_left = recursion_from_All (λ d. d < 10) ds p.below_ten

  below_right : Below es
  below_right = recursion_from_All (λ d. d < 10) es q.below_ten

  by_places : (j k : ℕ) → nat_cmp (number_from_digits 10 ds * 10 ^ j) (number_from_digits 10 es * 10 ^ k)
      ≡ ordering_then (nat_cmp (length ds + j) (length es + k)) (slice_cmp nat_cmp ds es)
  by_places j k = by_ranked _ _ _ (nat_cmp (length ds + j) (length es + k)) (ranked (length ds + j) (length es + k) _ refl)
      (λ o l. rw o (nat_below _ _ (lower_place ds es j k below_left t (q.first t) l)))
      (λ o h. rw o (aligned ds es j k below_left below_right p.last q.last h))
      (λ o l. rw o (nat_above _ _ (lower_place es ds k j below_right s (p.first s) l)))

  -- Two positive numbers are ordered by the position of their decimal point, then by their digits.
  decided : number_cmp (stored_number false ds e true) (stored_number false es f true)
      ≡ ordering_then (int_cmp (pos (length ds) +ℤ e) (pos (length es) +ℤ f)) (slice_cmp nat_cmp ds es)
  decided =
      let c = int_min e f in
      let j = nat_abs (e -ℤ c) in
      let k = nat_abs (f -ℤ c) in
      pos_cmp (number_from_digits 10 ds * 10 ^ j) (number_from_digits 10 es * 10 ^ k) ∙ by_places j k
      ∙ ap (λ o. ordering_then o (slice_cmp nat_cmp ds es)) (places _ _ _ _ e f c (gap e c (omega (arith, ints, clamps)))
      (gap f c (omega (arith, ints, clamps))))

  pub same_place_cmp : pos (length ds) +ℤ e ≡ pos (length es) +ℤ f
      → number_cmp (stored_number false ds e true) (stored_number false es f true) ≡ slice_cmp nat_cmp ds es
  same_place_cmp h = decided ∙ rw (h, same_int_cmp (pos (length es) +ℤ f)) refl

  pub places_cmp : (x y : ℤ) → x ≡ pos (length ds) +ℤ e → y ≡ pos (length es) +ℤ f → (x ≡ y → ⊥)
      → int_cmp x y ≡ number_cmp (stored_number false ds e true) (stored_number false es f true)
  places_cmp x y h g n = (let e : int_cmp x y ≡ ordering_then (int_cmp x y) (slice_cmp nat_cmp ds es) = grind (arith, ints) in e) ∙ rw (h, g) (sym decided)
