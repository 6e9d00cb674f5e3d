-- Texts of digits in vectors and buffers.
use Rattle.ijson_number.proofs.Common.{ℕ, zero, suc, ◌+◌, ◌/◌, ◌%◌, ◌<◌, Bool, true, false, List, [], ◌∷◌, arith, recursion_from_All, IsAscii-nil}
use Rattle.ijson_number.proofs.Common.{IsAscii-cons, IsAscii-push, All, AllByRecursion, IsAscii, digits_text, minus_text, ◌≡◌, ◌-◌, ◌*◌, ◌^◌, ◌≤◌}
use Rattle.ijson_number.proofs.Common.{not, cond, eqb, min, get_or, replicate, take, drop, ◌++◌, map, length, length-append, length-drop, refl, sym}
use Rattle.ijson_number.proofs.Common.{ap, ◌∙◌, inl, inr, append_assoc, AllBelowBase, prefix_len, cases_eq, nat_tests, drop_more, length-replicate}
use Rattle.ijson_number.proofs.Common.{take_at, take-append-le, bitmask_splat, leading_from_mask_l, trailing_mask_l, number_l, digits_l, mask_l, top}
use Rattle.ijson_number.proofs.Common.{zip2, get_or-append-add, take-append-add, w8, bool_byte, IsAscii-append, IsAscii-drop, All-from_ascii}
use Rattle.ijson_number.proofs.Common.{IsZerosInFront, set, length-set, length-take-le, take_more_set, IsAscii-take, IsAscii-set, drop-drop, drop-map}
use Rattle.ijson_number.proofs.Common.{take_all, length-zip2, zip2_splat}
use Rattle.ijson_number.specs.private.WordText.{last_digits}
use Rattle.std.proofs.lemmas.List.Sums.{prefix_len-le-length, prefix_len_passes, prefix_len_stops}
use lib.Count.{count_trailing_zeros}
use Rattle.std.specs.String.Boundary.{IsSplitPoint}

pub sign_ascii : (negative : Bool) → IsAscii (minus_text negative)
sign_ascii true = IsAscii-cons 45 [] (omega arith) IsAscii-nil
sign_ascii false = IsAscii-nil

-- The text of the last digits of a number is ASCII.
pub digits_ascii : (scale n : ℕ) → IsAscii (last_digits scale n)
unfolding last_digits
digits_ascii zero n = IsAscii-nil
digits_ascii (suc k) n = IsAscii-push (last_digits k (n / 10)) (48 + n % 10) (digits_ascii k (n / 10)) (omega arith)

digits_below : (ds : List ℕ) → AllByRecursion (λ d. d < 10) ds → IsAscii (digits_text ds)
digits_below [] h = IsAscii-nil
digits_below (d ∷ ds) h = IsAscii-cons (48 + d) (digits_text ds) (let b = h.0 in omega arith) (digits_below ds h.1)

pub digits_text_ascii : (ds : List ℕ) → All (λ d. d < 10) ds → IsAscii (digits_text ds)
digits_text_ascii ds h = digits_below ds (recursion_from_All (λ d. d < 10) ds h)

-- The 16-bit lane computed from a pair of digits. The lower byte is the tens digit, and the upper
-- byte is the units digit.
abbrev lane : ℕ → ℕ
lane z = (z * 256 % 65536 + (65536 - z / 10 * 2559 % 65536)) % 65536

abbrev pair_text : ℕ → List ℕ
pair_text z = (48 + z / 10) ∷ (48 + z % 10) ∷ []

abbrev pairs_text : List ℕ → List ℕ
pairs_text [] = []
pairs_text (z ∷ zs) = (48 + z / 10) ∷ (48 + z % 10) ∷ pairs_text zs

abbrev twice : List ℕ → ℕ
twice [] = 0
twice (z ∷ zs) = suc (suc (twice zs))

abbrev pub digit : ℕ → ℕ
digit d = (d + 48) % 2 ^ 8

pub lanes_text : (zs : List ℕ) → AllBelowBase 100 zs → map digit (digits_l 256 (twice zs) (number_l 65536 (map lane zs))) ≡ pairs_text zs
lanes_text [] h = refl
lanes_text (z ∷ zs) h =
    let rest = number_l 65536 (map lane zs) in
    let is : lane z ≡ z / 10 + 256 * (z % 10) = omega (arith, h.0) in
    let tens : digit ((lane z + 65536 * rest) % 256) ≡ 48 + z / 10 = rw is (omega (arith, h.0)) in
    let ones : digit ((lane z + 65536 * rest) / 256 % 256) ≡ 48 + z % 10 = rw is (omega (arith, h.0)) in
    let on : (lane z + 65536 * rest) / 256 / 256 ≡ rest = rw is (omega (arith, h.0)) in
    (λ i. tens i ∷ ones i ∷ map digit (digits_l 256 (twice zs) (on i))) ∙ ap (λ l. (48 + z / 10) ∷ (48 + z % 10) ∷ l) (lanes_text zs h.1)

last_pair : (k m rest : ℕ) → m / 100 ≡ rest → last_digits (suc (suc k)) m ≡ last_digits k rest ++ pair_text (m % 100)
unfolding last_digits
last_pair k m rest is =
    let front : m / 10 / 10 ≡ rest = omega arith in
    let tens : m / 10 % 10 ≡ m % 100 / 10 = omega arith in
    let ones : m % 10 ≡ m % 100 % 10 = omega arith in
    rw (front, tens, ones) (append_assoc (last_digits k rest) ((48 + m % 100 / 10) ∷ []) ((48 + m % 100 % 10) ∷ []))

abbrev pub pairs : ℕ → List ℕ
pairs n =
    n / 10 ^ 14 ∷ n / 10 ^ 12 % 100 ∷ n / 10 ^ 10 % 100 ∷ n / 10 ^ 8 % 100 ∷ n / 10 ^ 6 % 100 ∷ n / 10 ^ 4 % 100 ∷ n / 10 ^ 2 % 100 ∷ n %
    100 ∷ []

pub pairs_below : (n : ℕ) → n < 10 ^ 16 → AllBelowBase 100 (pairs n)
pairs_below n h = omega arith

none : (m : ℕ) → last_digits 0 m ≡ []
unfolding last_digits
none m = refl

pub row_text_is : (n : ℕ) → n < 10 ^ 16 → pairs_text (pairs n) ≡ last_digits 16 n
row_text_is n h =
    let top : n / 10 ^ 14 % 100 ≡ n / 10 ^ 14 = omega arith in
    sym (last_pair 14 n (n / 10 ^ 2) (omega arith)
    ∙ rw (last_pair 12 (n / 10 ^ 2) (n / 10 ^ 4) (omega arith), last_pair 10 (n / 10 ^ 4) (n / 10 ^ 6) (omega arith))
    (rw (last_pair 8 (n / 10 ^ 6) (n / 10 ^ 8) (omega arith), last_pair 6 (n / 10 ^ 8) (n / 10 ^ 10) (omega arith))
    (rw (last_pair 4 (n / 10 ^ 10) (n / 10 ^ 12) (omega arith), last_pair 2 (n / 10 ^ 12) (n / 10 ^ 14) (omega arith))
    (rw (last_pair 0 (n / 10 ^ 14) (n / 10 ^ 16) (omega arith), none (n / 10 ^ 16), top) refl))))

-- Section: counting leading zeros.

abbrev differs : ℕ → ℕ → Bool
differs a b = not (eqb a b)

abbrev is_zero : ℕ → Bool
is_zero b = not (differs b 48)

zero_is : (b : ℕ) → is_zero b ≡ true → b ≡ 48
zero_is b h = grind (arith, nat_tests, h)

other_is : (b : ℕ) → is_zero b ≡ false → b ≡ 48 → ⊥
other_is b h e = grind (arith, nat_tests, h, e)

zeros_at : (bs : List ℕ) (n : ℕ) → n ≤ length bs → ((k : ℕ) → k < n → get_or bs k 0 ≡ 48) → take n bs ≡ replicate n 48
zeros_at bs zero l h = refl
zeros_at [] (suc n) l h = absurd (omega arith)
zeros_at (b ∷ bs) (suc n) l h = let first = h 0 (omega arith) in
    let rest = zeros_at bs n (omega arith) (λ k less. h (suc k) (omega arith)) in λ i. first i ∷ rest i

module _ (lanes : List ℕ) (long : length lanes ≡ 16) where
  abbrev count : ℕ
  count = prefix_len is_zero lanes

  zeros_of : (n : ℕ) → n ≡ min count 15 → IsZerosInFront lanes n
  zeros_of n is =
      let within = prefix_len-le-length is_zero lanes in
      record {
        few = omega arith;
        zeros = zeros_at lanes n (omega arith) (λ k l. zero_is (get_or lanes k 0) (prefix_len_passes is_zero lanes k 0 (omega arith)));
        stops = λ l. let same : n ≡ count = omega arith in
            other_is (get_or lanes n 0) (rw same (prefix_len_stops is_zero lanes 0 (omega arith)));
      }

  abbrev bits : ℕ
  bits = mask_l (map (top 7) (zip2 (λ a b. cond (not (eqb a b)) 255 0) lanes (replicate 16 48))) % 2 ^ 64

  bits_are : bits ≡ mask_l (map (λ b. differs b 48) lanes)
  bits_are = bitmask_splat w8 differs lanes 16 48 long (omega arith)

  all_bits : count_trailing_zeros 64 0 ≡ 64
  unfolding count_trailing_zeros
  all_bits = refl

  -- The number of leading `'0'` lanes is the index of the lowest set bit of the mask, at most 15.
  pub zeros_counted : (n : ℕ) → n ≡ min (count_trailing_zeros 64 bits) 15 → IsZerosInFront lanes n
  zeros_counted n is = elim (cases_eq (mask_l (map (λ b. differs b 48) lanes)) 0) [
    | inl none ↦ zeros_of n (let all = leading_from_mask_l (λ b. differs b 48) lanes none in rw (bits_are, none, all_bits) at is
        ∙ omega arith)
    | inr some ↦ zeros_of n (rw (bits_are, trailing_mask_l (λ b. differs b 48) 64 lanes (omega arith) (omega arith)) at is)
  ]

-- Section: appending bytes and truncating the string.

-- In this module, the ASCII text `added` is appended, and the string is truncated to keep the first
-- `count` bytes of it.
module _ (old added : List ℕ) (ascii : IsAscii added) (count end : ℕ) (few : count ≤ length added) (is : end ≡ length old + count) where
  pub cut_point : IsSplitPoint (old ++ added) end
  cut_point = (
    omega (arith, length-append old added),
    λ some inside above.
        let at : get_or (old ++ added) end 0 ≡ get_or added count 0 = ap (λ n. get_or (old ++ added) n 0) is
        ∙ get_or-append-add old added count 0 in
        absurd (let low = ascii count in omega arith),
  )

  pub cut : take end (old ++ added) ≡ old ++ take count added
  cut = ap (λ n. take n (old ++ added)) is ∙ take-append-add old added count

pub zeros_ascii : (n : ℕ) → IsAscii (replicate n 0)
zeros_ascii zero = IsAscii-nil
zeros_ascii (suc n) = IsAscii-cons 0 (replicate n 0) (omega arith) (zeros_ascii n)

-- Holds if `bytes` is ASCII and its first `count` bytes are `text`.
pub record IsFront (bytes : List ℕ) (count : ℕ) (text : List ℕ) : Type 0 where
  pub ascii : IsAscii bytes
  pub within : count ≤ length bytes
  pub shown : take count bytes ≡ text

-- In this module, the lanes from `start` on are moved to the start of a vector, and zeros follow
-- them.
module _ (lanes : List ℕ) (long : length lanes ≡ 16) (start count : ℕ) (within : start + count ≤ 16)
    (ascii : IsAscii (drop start lanes)) where
  pub front_all : length (drop start lanes ++ replicate start 0) ≡ 16
  front_all = simp (length-append, length-drop, length-replicate) (omega arith)

  pub front_is : IsFront (drop start lanes ++ replicate start 0) count (take count (drop start lanes))
  front_is = record {
    ascii = IsAscii-append (drop start lanes) (replicate start 0) ascii (zeros_ascii start);
    within = omega (arith, front_all);
    shown = take-append-le count (drop start lanes) (replicate start 0) (omega (arith, length-drop start lanes));
  }

-- Section: replacing a leading zero by the minus sign.

abbrev pub less : ℕ → ℕ → ℕ
less a b = (a + (2 ^ 8 - b)) % 2 ^ 8

less_nothing : (bs : List ℕ) (n : ℕ) → length bs ≡ n → AllByRecursion (λ b. b < 128) bs → zip2 less bs (replicate n 0) ≡ bs
less_nothing [] n long h = refl
less_nothing (b ∷ bs) zero long h = absurd (omega arith)
less_nothing (b ∷ bs) (suc n) long h =
    let first : less b 0 ≡ b = omega (arith, h.0) in
    let rest = less_nothing bs n (omega arith) h.1 in λ i. first i ∷ rest i

-- In this module, a `'0'` precedes the lanes from `start` on. A minus sign replaces the `'0'` if
-- the number is negative.
module _ (lanes : List ℕ) (long : length lanes ≡ 16) (ascii : IsAscii lanes) (start : ℕ) (some : (0 < start) × (start ≤ 16))
    (zero_before : get_or lanes (start - 1) 0 ≡ 48) where
  abbrev behind : ℕ → List ℕ
  behind begin = drop start lanes ++ replicate begin 0

  pub behind_ascii : (begin : ℕ) → IsAscii (behind begin)
  behind_ascii begin = IsAscii-append (drop start lanes) (replicate begin 0) (IsAscii-drop lanes start ascii) (zeros_ascii begin)

  behind_low : (begin : ℕ) → AllByRecursion (λ b. b < 128) (behind begin)
  behind_low begin = recursion_from_All (λ b. b < 128) (behind begin) (All-from_ascii (behind begin) (behind_ascii begin))

  behind_long : (begin : ℕ) → length (behind begin) ≡ 16 - start + begin
  behind_long begin = simp (length-append, length-drop, length-replicate) (omega arith)

  pub signed_row : (negative : Bool) (begin minus : ℕ) → begin ≡ start - bool_byte negative → minus ≡ bool_byte negative
      → zip2 less (drop begin lanes ++ replicate begin 0) (3 * minus ∷ replicate 15 0) ≡ minus_text negative ++ behind begin
  signed_row true begin minus from is =
      let next : begin + 1 ≡ start = omega arith in
      let zero : get_or lanes begin 0 ≡ 48 = ap (λ n. get_or lanes n 0) from ∙ zero_before in
      let cut : drop begin lanes ≡ 48 ∷ drop start lanes = drop_more lanes begin 0 (omega arith) ∙ (λ i. zero i ∷ drop (next i) lanes) in
      let first : less 48 (3 * minus) ≡ 45 = rw is refl in
      let rest = less_nothing (behind begin) 15 (omega (arith, behind_long begin)) (behind_low begin) in
      ap (λ l. zip2 less (l ++ replicate begin 0) (3 * minus ∷ replicate 15 0)) cut ∙ (λ i. first i ∷ rest i)
  signed_row false begin minus from is =
      let none : 3 * minus ≡ 0 = rw is refl in
      let at : begin ≡ start = omega arith in
      ap (λ m. zip2 less (drop begin lanes ++ replicate begin 0) (m ∷ replicate 15 0)) none
      ∙ ap (λ n. zip2 less (drop n lanes ++ replicate begin 0) (replicate 16 0)) at
      ∙ less_nothing (behind begin) 16 (omega (arith, behind_long begin)) (behind_low begin)

  pub signed_shown : (negative : Bool) (begin : ℕ) → begin ≡ start - bool_byte negative
      → take (16 - begin) (minus_text negative ++ behind begin) ≡ minus_text negative ++ drop start lanes
  signed_shown true begin from =
      let next : 16 - begin ≡ suc (16 - start) = omega arith in
      rw next (ap (λ l. 45 ∷ l) (take_at (drop start lanes) (replicate begin 0) (16 - start) (omega (arith, length-drop start lanes))))
  signed_shown false begin from = take_at (drop start lanes) (replicate begin 0) (16 - begin) (omega (arith, length-drop start lanes))

-- The buffer `room` after `piece` replaces its `many` bytes from index `at` on.
abbrev pub with_piece : (room piece : List ℕ) (at many : ℕ) → List ℕ
with_piece room piece at many = take at room ++ (piece ++ drop many (drop at room))

taken_piece : (room piece : List ℕ) (at many n : ℕ) → at ≤ length room → n ≤ length piece
    → take (at + n) (with_piece room piece at many) ≡ take at room ++ take n piece
taken_piece room piece at many n inside few =
    ap (λ k. take (k + n) (with_piece room piece at many)) (sym (length-take-le at room inside))
    ∙ take-append-add (take at room) (piece ++ drop many (drop at room)) n
    ∙ ap (λ l. take at room ++ l) (take-append-le n piece (drop many (drop at room)) few)

piece_ascii : (room piece : List ℕ) (at many : ℕ) → IsAscii room → IsAscii piece → IsAscii (with_piece room piece at many)
piece_ascii room piece at many r p =
    IsAscii-append (take at room) (piece ++ drop many (drop at room)) (IsAscii-take room at r)
    (IsAscii-append piece (drop many (drop at room)) p (IsAscii-drop (drop at room) many (IsAscii-drop room at r)))

piece_length : (room piece : List ℕ) (at many : ℕ) → at ≤ length room
    → length (with_piece room piece at many) ≡ at + (length piece + (length room - at - many))
piece_length room piece at many inside = simp (length-append, length-drop) (omega (arith, length-take-le at room inside))

abbrev pub empty : List ℕ
empty = set (replicate 34 0) 0 45

minus_put : (negative : Bool) (start : ℕ) → start ≡ length (minus_text negative) → take start empty ≡ minus_text negative
minus_put true start is = rw is refl
minus_put false start is = rw is refl

pub minus_length : (negative : Bool) → bool_byte negative ≡ length (minus_text negative)
minus_length negative = grind arith

-- The buffer after the whole part, the point and the fraction are written to it.
abbrev pub filled : (start count many more : ℕ) (whole fraction : List ℕ) → List ℕ
filled start count many more whole fraction =
    with_piece (set (with_piece empty whole start many) (start + count) 46) fraction (start + count + 1) more

pub filled_is : (negative : Bool) (start count scale many more : ℕ) (whole fraction : List ℕ) → start ≡ length (minus_text negative)
    → (length whole ≡ 16) × IsAscii whole → (length fraction ≡ 16) × IsAscii fraction → (count ≤ 16) × (scale ≤ 16) → many ≡ 16
    → IsFront (filled start count many more whole fraction) (start + count + 1 + scale)
    (minus_text negative ++ (take count whole ++ 46 ∷ take scale fraction))
filled_is negative start count scale many more whole fraction is w f few row =
    let short : length (minus_text negative) ≤ 1 = grind arith in
    let with_whole : List ℕ = with_piece empty whole start many in
    let with_point : List ℕ = set with_whole (start + count) 46 in
    let at : start ≤ 34 = omega arith in
    let long : length with_whole ≡ 34 = omega (arith, w.0, piece_length empty whole start many at) in
    let inside : start + count + 1 ≤ length with_point = omega (arith, length-set {A = ℕ} with_whole (start + count) 46, long, few.0) in
    let up_to_point : take (start + count + 1) with_point ≡ (minus_text negative ++ take count whole) ++ 46 ∷ [] =
    rw (
      take_more_set with_whole (start + count) 46 (omega (arith, long, few.0)),
      taken_piece empty whole start many count at (omega (arith, w.0, few.0)),
      minus_put negative start is,
    ) refl in
    record {
      ascii = piece_ascii with_point fraction (start + count + 1) more
          (IsAscii-set with_whole (start + count) 46
          (piece_ascii empty whole start many (IsAscii-set (replicate 34 0) 0 45 (zeros_ascii 34) (omega arith)) w.1) (omega arith)) f.1;
      within = omega (arith, piece_length with_point fraction (start + count + 1) more inside, f.0, few.1);
      shown = rw (
        taken_piece with_point fraction (start + count + 1) more scale inside (omega (arith, f.0, few.1)),
        up_to_point,
        append_assoc (minus_text negative ++ take count whole),
        append_assoc (minus_text negative),
      ) refl;
    }

abbrev pub with_zero : List ℕ → List ℕ
with_zero lanes = zip2 (λ a b. (a + b) % 2 ^ 8) lanes (replicate 16 48)

text_from : (ds : List ℕ) → AllByRecursion (λ d. d < 10) ds → map digit ds ≡ digits_text ds
text_from [] h = refl
text_from (d ∷ ds) h = let first : digit d ≡ 48 + d = omega (arith, h.0) in let rest = text_from ds h.1 in λ i. first i ∷ rest i

-- In this module, `last` are the last 16 bytes of a buffer of 19 digits.
module _ (buffer : List ℕ) (long : length buffer ≡ 19) where
  abbrev last : List ℕ
  last = take 16 (take 16 (drop 3 buffer))

  last_is : last ≡ drop 3 buffer
  last_is = take_all 16 (take 16 (drop 3 buffer)) (omega (arith, length-take-le 16 (drop 3 buffer) (omega (arith, length-drop 3 buffer))))
      ∙ take_all 16 (drop 3 buffer) (omega (arith, length-drop 3 buffer))

  last_count : length last ≡ 16
  last_count = rw last_is (omega (arith, length-drop 3 buffer))

  pub last_long : length (with_zero last) ≡ 16
  last_long = length-zip2 (λ a b. (a + b) % 2 ^ 8) last (replicate 16 48) last_count ∙ last_count

  pub room_text : (count : ℕ) → count ≤ 16 → All (λ d. d < 10) (drop (19 - count) buffer)
      → drop (16 - count) (with_zero last) ≡ digits_text (drop (19 - count) buffer)
  room_text count few below =
      let at : 3 + (16 - count) ≡ 19 - count = omega arith in
      ap (drop (16 - count)) (zip2_splat (λ a b. (a + b) % 2 ^ 8) last 16 48 last_count) ∙ drop-map {X = ℕ} {Y = ℕ} digit (16 - count) last
      ∙ ap (map digit) (ap (drop (16 - count)) last_is ∙ drop-drop (16 - count) 3 buffer ∙ ap (λ n. drop n buffer) at)
      ∙ text_from (drop (19 - count) buffer) (recursion_from_All (λ d. d < 10) (drop (19 - count) buffer) below)

-- Adding `'0'` to 16 digits yields their text.
pub row_text : (ds : List ℕ) → length ds ≡ 16 → All (λ d. d < 10) ds → with_zero ds ≡ digits_text ds
row_text ds long below = zip2_splat (λ a b. (a + b) % 2 ^ 8) ds 16 48 long ∙ text_from ds (recursion_from_All (λ d. d < 10) ds below)
