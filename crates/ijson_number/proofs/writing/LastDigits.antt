-- The last `count + scale` digits of `n` are the last `count` digits of `n / 10 ^ scale`, followed
-- by the last `scale` digits of `n`.
use Rattle.ijson_number.proofs.Common.{◌≡◌, ℕ, zero, suc, ◌+◌, ◌-◌, ◌*◌, ◌/◌, ◌%◌, ◌^◌, ◌<◌, ◌≤◌, List, [], ◌∷◌, ◌++◌, length, refl, ap, sym, ◌∙◌}
use Rattle.ijson_number.proofs.Common.{arith, append_assoc, inl, inr, pow-succ', mul-le-mul_right, mul_comm, cases_lt, decimal_digit}
use Rattle.ijson_number.proofs.Common.{decimal_step_wide, append-nil, length_push, replicate_more, decimal, zeros_text, ten_pos, min, get_or}
use Rattle.ijson_number.proofs.Common.{replicate, take, drop, pow-add, decimal_nonempty, first_decimal, length-decimal-le, get_or_append_left}
use Rattle.ijson_number.proofs.Common.{get_or-replicate, get_or-take, length-drop, length-replicate, take_all, take_at, drop_at, get_or-append-add}
use Rattle.ijson_number.proofs.Common.{IsZerosInFront, power_le}
use Rattle.ijson_number.specs.private.WordText.{last_digits}
use native.Mathlib.Nat.{add-mul-div_left, div-div-eq-div-mul, div-le_self, div-lt_iff_lt-mul}

pub some_places : (whole k : ℕ) → 0 < whole → 0 < whole * 10 ^ k
some_places zero k h = absurd (omega arith)
some_places (suc w) k h = let t = ten_pos k in grind (arith, t)

-- Suppose that `whole` is not 0 and `fraction` is below `10 ^ scale`. Then the decimal text of
-- `whole * 10 ^ scale + fraction` is the text of `whole` followed by the last `scale` digits of
-- `fraction`.
pub joined : (scale whole fraction : ℕ) → 0 < whole → fraction < 10 ^ scale → whole * 10 ^ scale + fraction < 10 ^ 64
    → decimal (whole * 10 ^ scale + fraction) ≡ decimal whole ++ last_digits scale fraction
unfolding last_digits
joined zero w f h l s = let e : w * 10 ^ 0 + f ≡ w = omega arith in rw e (sym (append-nil (decimal w)))
joined (suc k) w f h l s =
    let p : 10 ^ suc k ≡ 10 * 10 ^ k = pow-succ' 10 k in
    let some = some_places w k h in
    let n : w * 10 ^ suc k + f ≡ 10 * (w * 10 ^ k) + f = rw p (omega arith) in
    let front : (w * 10 ^ suc k + f) / 10 ≡ w * 10 ^ k + f / 10 = omega arith in
    let last : (w * 10 ^ suc k + f) % 10 ≡ f % 10 = omega arith in
    rw (decimal_step_wide (w * 10 ^ suc k + f) (omega arith) s, front, last, joined k w (f / 10) h (omega arith) (omega arith))
    (append_assoc (decimal w) (last_digits k (f / 10)) ((48 + f % 10) ∷ []))

pub last_count : (scale n : ℕ) → length (last_digits scale n) ≡ scale
unfolding last_digits
last_count zero n = refl
last_count (suc k) n = length_push (last_digits k (n / 10)) (48 + n % 10) ∙ (let e = last_count k (n / 10) in omega arith)

pub last_zeros : (scale : ℕ) → last_digits scale 0 ≡ zeros_text scale
unfolding last_digits
last_zeros zero = refl
last_zeros (suc k) = let next : k + 1 ≡ suc k = omega arith in rw (last_zeros k, replicate_more {X = ℕ} k 48, next) refl

-- If `scale` is not 0 and `n` is below `10 ^ scale`, the last `scale` digits of `n` are leading
-- zeros followed by the decimal text of `n`.
pub padded : (scale n : ℕ) → 0 < scale + n → n < 10 ^ scale → n < 10 ^ 64
    → zeros_text (scale - length (decimal n)) ++ decimal n ≡ last_digits scale n
unfolding last_digits
padded zero n h l s = absurd (omega arith)
padded (suc k) n h l s =
    let p : 10 ^ suc k ≡ 10 * 10 ^ k = pow-succ' 10 k in
    elim (cases_lt n 10) [
      | inl small ↦ (
          let front : n / 10 ≡ 0 = omega arith in
          let last : n % 10 ≡ n = omega arith in
          let one : suc k - 1 ≡ k = omega arith in
          rw (decimal_digit n small, front, last, last_zeros k, one) refl
          )
      | inr large ↦ (
          let d = decimal_step_wide n large s in
          let count : length (decimal n) ≡ length (decimal (n / 10)) + 1 = ap (λ (x : List ℕ). length x) d
          ∙ length_push (decimal (n / 10)) (48 + n % 10) in
          let zeros : suc k - length (decimal n) ≡ k - length (decimal (n / 10)) = omega arith in
          rw (zeros, d) (sym (append_assoc (zeros_text (k - length (decimal (n / 10)))) (decimal (n / 10)) ((48 + n % 10) ∷ []))
          ∙ ap (λ x. x ++ ((48 + n % 10) ∷ [])) (padded k (n / 10) (omega arith) (omega arith) (omega arith)))
          )
    ]

pub whole_small : (whole scale fraction : ℕ) → 0 < scale → whole * scale + fraction < 2 ^ 64 → whole < 2 ^ 64
whole_small w p f h l = let m : 1 * w ≤ p * w = mul-le-mul_right w h in let e : p * w ≡ w * p = mul_comm p w in omega arith

-- Adding a multiple of `10 ^ scale` to a number keeps its last `scale` digits.
last_behind : (scale more n : ℕ) → last_digits scale (more * 10 ^ scale + n) ≡ last_digits scale n
unfolding last_digits
last_behind zero more n = refl
last_behind (suc p) more n =
    let ten : more * 10 ^ suc p ≡ 10 * (more * 10 ^ p) = rw (pow-succ' 10 p) (grind arith) in
    let front : (more * 10 ^ suc p + n) / 10 ≡ more * 10 ^ p + n / 10 = omega arith in
    let last : (more * 10 ^ suc p + n) % 10 ≡ n % 10 = omega arith in
    rw (front, last, last_behind p more (n / 10)) refl

last_rest : (scale n : ℕ) → last_digits scale (n % 10 ^ scale) ≡ last_digits scale n
last_rest p n =
    let t = ten_pos p in
    let parts : n / 10 ^ p * 10 ^ p + n % 10 ^ p ≡ n = omega arith in
    rw parts at (sym (last_behind p (n / 10 ^ p) (n % 10 ^ p)))

-- The last `count + scale` digits of `n` are the last `count` digits of `n / 10 ^ scale` followed
-- by the last `scale` digits of `n`.
last_split : (count scale n : ℕ) → last_digits (count + scale) n ≡ last_digits count (n / 10 ^ scale) ++ last_digits scale n
unfolding last_digits
last_split count zero n =
    let same : count + 0 ≡ count = omega arith in
    let whole : n / 10 ^ 0 ≡ n = omega arith in
    rw (same, whole) (sym (append-nil (last_digits count n)))
last_split count (suc p) n =
    let next : count + suc p ≡ suc (count + p) = omega arith in
    let over : n / 10 / 10 ^ p ≡ n / 10 ^ suc p = div-div-eq-div-mul n 10 (10 ^ p) ∙ ap (λ d. n / d) (sym (pow-succ' 10 p)) in
    rw (next, last_split count p (n / 10), over)
    (append_assoc (last_digits count (n / 10 ^ suc p)) (last_digits p (n / 10)) ((48 + n % 10) ∷ []))

-- If `scale` is at most `row`, then `10 ^ (row - scale) * 10 ^ scale` is `10 ^ row`.
row_powers : (row scale : ℕ) → scale ≤ row → 10 ^ (row - scale) * 10 ^ scale ≡ 10 ^ row
row_powers row scale few = let both : row - scale + scale ≡ row = omega arith in rw both at (sym (pow-add 10 (row - scale) scale))

-- If `scale` is at most `row`, the last `row` digits of `n` are the last `row - scale` digits of
-- `n / 10 ^ scale` followed by the last `scale` digits of `n`.
row_split : (row scale n : ℕ) → scale ≤ row → last_digits row n ≡ last_digits (row - scale) (n / 10 ^ scale) ++ last_digits scale n
row_split row scale n few = let both : row - scale + scale ≡ row = omega arith in rw both at (last_split (row - scale) scale n)

-- In this module, `lanes` is `lead` zeros followed by `shown` and `behind`, and `zeros` is the
-- number of leading zeros that was counted.
module _ (lanes : List ℕ) (zeros : ℕ) (shown behind : List ℕ) (lead : ℕ) (is : lanes ≡ replicate lead 48 ++ (shown ++ behind))
    (counted : IsZerosInFront lanes zeros) where
  zero_at : (k : ℕ) → k < lead → get_or lanes k 0 ≡ 48
  zero_at k l = rw is (get_or_append_left (replicate lead 48) (shown ++ behind) 0 k (omega (arith, length-replicate {A = ℕ} lead 48))
      ∙ get_or-replicate lead k 48 0 l)

  not_fewer : lead ≤ 15 → lead ≤ zeros
  not_fewer few = elim (cases_lt zeros lead) [ inl l ↦ absurd (counted.stops (omega arith) (zero_at zeros l)) | inr g ↦ g ]

  first_at : 0 < length shown → get_or lanes lead 0 ≡ get_or shown 0 0
  first_at some =
      let at : length (replicate {A = ℕ} lead 48) + 0 ≡ lead = omega (arith, length-replicate {A = ℕ} lead 48) in
      rw is (ap (λ n. get_or (replicate lead 48 ++ (shown ++ behind)) n 0) (sym at)
      ∙ get_or-append-add (replicate lead 48) (shown ++ behind) 0 0 ∙ get_or_append_left shown behind 0 0 some)

  not_more : 0 < length shown → 48 < get_or shown 0 0 → zeros ≤ lead
  not_more some above = elim (cases_lt lead zeros) [
    | inl l ↦ absurd (let zero : get_or lanes lead 0 ≡ 48 = sym (get_or-take zeros lanes lead 0 l)
        ∙ rw counted.zeros (get_or-replicate zeros lead 48 0 l) in let first = first_at some in omega arith)
    | inr g ↦ g
  ]

  pub shown_at : take (length shown) (drop lead lanes) ≡ shown
  shown_at = rw (is, drop_at (replicate lead 48) (shown ++ behind) lead (length-replicate {A = ℕ} lead 48))
      (take_at shown behind (length shown) refl)

-- In this module, `lanes` are the 16 digits of `n`. The last `scale` digits are the fraction, and
-- `zeros` is the number of leading zeros.
module _ (n scale : ℕ) (small : n < 10 ^ 16) (few : scale < 16) (lanes : List ℕ) (is : lanes ≡ last_digits 16 n) (zeros : ℕ)
    (counted : IsZerosInFront lanes zeros) where
  abbrev whole : ℕ
  whole = n / 10 ^ scale

  abbrev end : ℕ
  end = 16 - scale

  whole_below : whole < 10 ^ end
  whole_below = (div-lt_iff_lt-mul (ten_pos scale)).1 (rw (row_powers 16 scale (omega arith)) small)

  whole_in_word : whole < 2 ^ 64
  whole_in_word = let most : 10 ^ end ≤ 10 ^ 16 = power_le end 16 (omega arith) in omega (arith, whole_below)

  abbrev shown : List ℕ
  shown = decimal whole

  abbrev lead : ℕ
  lead = end - length shown

  row_is : lanes ≡ replicate lead 48 ++ (shown ++ last_digits scale n)
  row_is = is ∙ row_split 16 scale n (omega arith)
      ∙ ap (λ l. l ++ last_digits scale n) (sym (padded end whole (omega arith) whole_below (omega (arith, whole_in_word))))
      ∙ append_assoc (zeros_text lead) shown (last_digits scale n)

  start_is : (start : ℕ) → start ≡ min zeros (end - 1) → start ≡ lead
  start_is start s =
      let some = decimal_nonempty whole whole_in_word in
      let least = not_fewer lanes zeros shown (last_digits scale n) lead row_is counted (omega arith) in
      elim (cases_lt 0 whole) [
        | inl above ↦ (let most =
            not_more lanes zeros shown (last_digits scale n) lead row_is counted some (first_decimal whole above whole_in_word) in
            omega arith)
        | inr none ↦ (let one : length shown ≡ 1 = let zero : whole ≡ 0 = omega arith in ap (λ w. length (decimal w)) zero
            ∙ ap (λ (x : List ℕ). length x) (decimal_digit 0 (omega arith)) in omega arith)
      ]

  pub front_is : (start : ℕ) → start ≡ min zeros (end - 1) → take (end - start) (drop start lanes) ≡ decimal whole
  front_is start s =
      let fits = length-decimal-le end whole (omega arith) whole_below whole_in_word in
      let count : end - lead ≡ length shown = omega arith in
      rw (start_is start s, count) (shown_at lanes zeros shown (last_digits scale n) lead row_is counted)

-- In this module, `lanes` are the 16 digits of a number `n` below `10 ^ 15`, and `zeros` is the
-- number of leading zeros.
module _ (n : ℕ) (small : n < 10 ^ 15) (lanes : List ℕ) (is : lanes ≡ last_digits 16 n) (zeros : ℕ)
    (counted : IsZerosInFront lanes zeros) where
  zero_first : get_or lanes 0 0 ≡ 48
  zero_first = let none : n / 10 ^ 15 ≡ 0 = omega arith in rw (is, row_split 16 15 n (omega arith), none, last_zeros 1) refl

  pub some_zeros : 0 < zeros
  some_zeros = let first = zero_first in let stops = counted.stops in grind arith

  pub zero_before : get_or lanes (zeros - 1) 0 ≡ 48
  zero_before = let some = some_zeros in
      sym (get_or-take zeros lanes (zeros - 1) 0 (omega arith)) ∙ rw counted.zeros (get_or-replicate zeros (zeros - 1) 48 0 (omega arith))

  pub number_behind : drop zeros lanes ≡ decimal n
  number_behind =
      let same : n / 10 ^ 0 ≡ n = omega arith in
      let few = counted.few in
      let long : length lanes ≡ 16 = ap (λ (l : List ℕ). length l) is ∙ last_count 16 n in
      sym (take_all (16 - zeros) (drop zeros lanes) (omega (arith, length-drop zeros lanes)))
      ∙ front_is n 0 (omega arith) (omega arith) lanes is zeros counted zeros (omega arith) ∙ ap decimal same

-- Dropping the first of the last 16 digits of a number yields its last 15 digits.
pub but_first : (n : ℕ) → drop 1 (last_digits 16 n) ≡ last_digits 15 n
but_first n = ap (drop 1) (row_split 16 15 n (omega arith))
    ∙ drop_at (last_digits 1 (n / 10 ^ 15)) (last_digits 15 n) 1 (last_count 1 (n / 10 ^ 15))

-- The last `scale` of 16 digits are the last `scale` digits of the number modulo `10 ^ scale`.
pub behind_point : (n scale : ℕ) → scale < 16 → drop (16 - scale) (last_digits 16 n) ≡ last_digits scale (n % 10 ^ scale)
behind_point n scale few = ap (drop (16 - scale)) (row_split 16 scale n (omega arith))
    ∙ drop_at (last_digits (16 - scale) (n / 10 ^ scale)) (last_digits scale n) (16 - scale) (last_count (16 - scale) (n / 10 ^ scale))
    ∙ sym (last_rest scale n)

-- In this module, `magnitude` has more than 15 digits, and `last` is the number of its last 15
-- digits.
module _ (magnitude scale : ℕ) (few : scale < 16) (word : magnitude < 2 ^ 64) (wide : 10 ^ 15 ≤ magnitude) where
  abbrev before : ℕ
  before = 15 - scale

  abbrev last : ℕ
  last = magnitude % 10 ^ 15

  over : magnitude / 10 ^ scale ≡ magnitude / 10 ^ 15 * 10 ^ before + last / 10 ^ scale
  over =
      let first : ℕ = magnitude / 10 ^ 15 in
      let times : 10 ^ scale * (first * 10 ^ before) ≡ first * 10 ^ 15 = rw (← row_powers 15 scale (omega arith)) (grind arith) in
      let parts : magnitude ≡ last + 10 ^ scale * (first * 10 ^ before) = omega arith in
      let sum : last / 10 ^ scale + first * 10 ^ before ≡ first * 10 ^ before + last / 10 ^ scale = omega arith in
      ap (λ n. n / 10 ^ scale) parts ∙ add-mul-div_left last (first * 10 ^ before) (ten_pos scale) ∙ sum

  pub wide_whole : decimal (magnitude / 10 ^ 15) ++ take before (last_digits 15 last) ≡ decimal (magnitude / 10 ^ scale)
  wide_whole =
      let lanes : take before (last_digits 15 last) ≡ last_digits before (last / 10 ^ scale) =
      ap (take before) (row_split 15 scale last (omega arith))
      ∙ take_at (last_digits before (last / 10 ^ scale)) (last_digits scale last) before (last_count before (last / 10 ^ scale)) in
      let small : magnitude / 10 ^ 15 * 10 ^ before + last / 10 ^ scale < 10 ^ 64 =
      rw (← over) (let le = div-le_self magnitude (10 ^ scale) in omega arith) in
      rw lanes (sym (ap decimal over ∙ joined before (magnitude / 10 ^ 15) (last / 10 ^ scale) (omega arith) ((div-lt_iff_lt-mul (ten_pos scale)).1 (rw (row_powers 15 scale (omega arith)) (omega arith))) small))

  pub wide_rest : last_digits scale (last % 10 ^ scale) ≡ last_digits scale (magnitude % 10 ^ scale)
  wide_rest =
      let times : magnitude / 10 ^ 15 * 10 ^ before * 10 ^ scale ≡ magnitude / 10 ^ 15 * 10 ^ 15 =
      rw (← row_powers 15 scale (omega arith)) (grind arith) in
      let parts : magnitude / 10 ^ 15 * 10 ^ before * 10 ^ scale + last ≡ magnitude = omega arith in
      last_rest scale last ∙ rw parts at (sym (last_behind scale (magnitude / 10 ^ 15 * 10 ^ before) last)) ∙ sym (last_rest scale magnitude)

  pub wide_decimal : decimal (magnitude / 10 ^ 15) ++ last_digits 15 last ≡ decimal magnitude
  wide_decimal =
      let parts : magnitude / 10 ^ 15 * 10 ^ 15 + last ≡ magnitude = omega arith in
      sym (ap decimal (sym parts) ∙ joined 15 (magnitude / 10 ^ 15) last (omega arith) (omega arith) (omega arith))

one_digit : (d : ℕ) → d < 10 → last_digits 1 d ≡ decimal d
unfolding last_digits
one_digit d few = let same : d % 10 ≡ d = omega arith in rw (same, decimal_digit d few) refl

-- The last 16 digits of a number of 16 digits are its decimal text.
pub full_row : (n : ℕ) → 10 ^ 15 ≤ n → n < 10 ^ 16 → last_digits 16 n ≡ decimal n
full_row n wide small =
    row_split 16 15 n (omega arith)
    ∙ rw (one_digit (n / 10 ^ 15) (omega arith), ← last_rest 15 n) (wide_decimal n 0 (omega arith) (omega arith) wide)
