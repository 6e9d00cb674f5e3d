-- Lemmas about the mask of the bytes that must be escaped or end the string, with a bit for the
-- end.
use Rattle.std.proofs.Common.{◌≡◌, ℕ, zero, suc, ◌+◌, ◌-◌, ◌*◌, ◌/◌, ◌%◌, ◌^◌, ◌<◌, ◌≤◌, Bool, true, false, cond, eqb, ltb, List, []}
use Rattle.std.proofs.Common.{◌∷◌, ◌++◌, map, length, length-append, length-drop, take, drop, append_assoc, replicate, refl, sym, ap}
use Rattle.std.proofs.Common.{ap₂, ◌∙◌, arith, div-one, div-le_self, lt_of_lt_of_le, mod-eq_of_lt, one-mul, pow-suc}
use Rattle.std.specs.Int.Bits.{or_self, or_shifted_r}
use Rattle.std.specs.Prelude.{not, ◌&&◌, nat_le}
use Rattle.std.specs.List.{prefix_len}
use Rattle.std.proofs.Math.Pow.{pow_mono}
use Rattle.std.proofs.Math.Seq.{take-add}
use Rattle.std.proofs.lemmas.Bool.Decides.{nat_tests}
use Rattle.std.proofs.lemmas.List.{length-map, length-take-le, drop-append-le, drop-drop, drop-map, take_all, take-append-drop}
use Rattle.std.proofs.lemmas.Nat.{one_shl, or_block, pow_pos, shr-shr}
use Rattle.std.proofs.lemmas.Simd.{zip2_of_maps, zip2_splat, mask_l-lt}
use Rattle.std.proofs.lemmas.Simd.{trailing_mask_l}
use Rattle.ijson_json.proofs.scanning.LaneMasks.{lit, lanes_mask}
use Rattle.ijson_json.proofs.scanning.UnescapedRuns.{run_twice}
use lib.Bits.{bit_or, or_zero_r}
use lib.Count.{count_trailing_zeros}
use lib.Lanes.{chunk, mask_l, top, zip2}
use Rattle.ijson_json.specs.Strings.{is_unescaped}

-- Returns `true` if the byte must be escaped or ends the string.
abbrev special : ℕ → Bool
special b = not (is_unescaped b)

-- The lane of a byte in the union of the three comparisons.
abbrev lane : ℕ → ℕ
lane b = bit_or (bit_or (lit (eqb b 34)) (lit (eqb b 92))) (lit (ltb b 32))

-- The high bit of the union is set if and only if one of the three comparisons holds.
three : (quote slash low : Bool) → top 7 (bit_or (bit_or (lit quote) (lit slash)) (lit low)) ≡ not (not low && (not quote && not slash))
three true true true = refl
three true false true = refl
three false true true = refl
three false false true = refl
three quote slash low = refl

-- `a ≤ b` holds if and only if `b < a` does not hold.
not_below : (a b : ℕ) → nat_le a b ≡ not (ltb b a)
not_below a b = grind (arith, nat_tests)

-- The high bit of the lane of a byte is set if and only if the byte is special.
lane_is : (b : ℕ) → top 7 (lane b) ≡ special b
lane_is b = three (eqb b 34) (eqb b 92) (ltb b 32) ∙ ap (λ t. not (t && (not (eqb b 34) && not (eqb b 92)))) (sym (not_below 32 b))

-- The mask of the union of the three vector comparisons is the mask of the special bytes.
pub specials_mask : (v : List ℕ) (n : ℕ) → length v ≡ n → n ≤ 64
    → mask_l (map (top 7) (zip2 bit_or (zip2 bit_or (zip2 (λ a b. lit (eqb a b)) v (replicate n 34))
    (zip2 (λ a b. lit (eqb a b)) v (replicate n 92))) (zip2 (λ a b. lit (ltb a b)) v (replicate n 32)))) % 2 ^ 64
    ≡ mask_l (map (λ byte. not (is_unescaped byte)) v)
specials_mask v n long short =
    let equal = λ (k : ℕ). zip2_splat (λ a b. lit (eqb a b)) v n k long in
    lanes_mask lane special lane_is v _ (omega arith)
    (zip2_of_maps bit_or _ _ v (zip2_of_maps bit_or _ _ v (equal 34) (equal 92)) (zip2_splat (λ a b. lit (ltb a b)) v n 32 long))

-- Shifting out the lowest bit of a mask leaves the mask of the remaining lanes.
bit_above : (b : Bool) (m : ℕ) → (cond b 1 0 + 2 * m) / 2 ^ 1 ≡ m
bit_above true m = omega arith
bit_above false m = omega arith

-- Shifting out the `k` lowest bits of a mask leaves the mask of the lanes after the first `k`.
mask_dropped : (ms : List Bool) (k : ℕ) → mask_l ms / 2 ^ k ≡ mask_l (drop k ms)
mask_dropped ms zero = div-one (mask_l ms)
mask_dropped [] (suc k) = omega (arith, div-le_self 0 (2 ^ suc k))
mask_dropped (b ∷ ms) (suc k) =
    ap (λ j. (cond b 1 0 + 2 * mask_l ms) / 2 ^ j) (omega arith) ∙ sym (shr-shr (cond b 1 0 + 2 * mask_l ms) 1 k)
    ∙ ap (λ m. m / 2 ^ k) (bit_above b (mask_l ms)) ∙ mask_dropped ms k

-- The mask of `xs ++ ys` is the mask of `xs`, with the mask of `ys` in the higher bits.
mask_joined : (xs ys : List ℕ) → mask_l (map special (xs ++ ys)) ≡ mask_l (map special xs) + 2 ^ length xs * mask_l (map special ys)
mask_joined [] ys = omega arith
mask_joined (x ∷ xs) ys = rw (mask_joined xs ys, pow-suc 2 (length xs)) (omega arith)

-- The mask of `n` bytes is below `2 ^ n`.
mask_below : (xs : List ℕ) (n : ℕ) → length xs ≡ n → mask_l (map special xs) < 2 ^ n
mask_below xs n long = omega (arith, mask_l-lt (map special xs), ap (λ k. 2 ^ k) (length-map xs special ∙ long))

-- Appending a quote to `xs` sets the bit after the mask of `xs`.
quote_marked : (xs : List ℕ) → mask_l (map special (xs ++ 34 ∷ [])) ≡ mask_l (map special xs) + 2 ^ length xs
quote_marked xs = mask_joined xs (34 ∷ []) ∙ omega arith

-- Setting bit `n` of the mask of `n` bytes adds `2 ^ n`.
pub end_marked : (v : List ℕ) (n : ℕ) → length v ≡ n → n < 64
    → bit_or (mask_l (map (λ b. not (is_unescaped b)) v)) (1 * 2 ^ n % 2 ^ 64) ≡ mask_l (map (λ b. not (is_unescaped b)) v) + 2 ^ n
end_marked v n long short =
    let m = mask_l (map special v) in
    ap (bit_or m) (one_shl n 64 short ∙ sym (one-mul (2 ^ n))) ∙ or_shifted_r 1 n m (mask_below v n long) ∙ omega arith

-- Appending a quote to `xs` keeps the length of the leading unescaped run.
run_before_quote : (xs : List ℕ) → prefix_len is_unescaped (xs ++ 34 ∷ []) ≡ prefix_len is_unescaped xs
run_before_quote [] = refl
run_before_quote (x ∷ xs) = ap (λ n. cond (is_unescaped x) (1 + n) 0) (run_before_quote xs)

-- If a quote follows the bytes, the lowest set bit from `start` on is at the end of the run from
-- `start`.
run_to_quote : (d : List ℕ) (start : ℕ) → start ≤ length d → length d < start + 64
    → count_trailing_zeros 64 (mask_l (map special (d ++ 34 ∷ [])) / 2 ^ start) ≡ prefix_len is_unescaped (drop start d)
run_to_quote d start inside short =
    let left = drop start d in
    let some : 0 < mask_l (map special (left ++ 34 ∷ [])) = omega (arith, quote_marked left, pow_pos (length left)) in
    ap (count_trailing_zeros 64)
    (mask_dropped (map special (d ++ 34 ∷ [])) start ∙ ap mask_l (drop-map special start (d ++ 34 ∷ [])
    ∙ ap (map special) (drop-append-le start d (34 ∷ []) inside)))
    ∙ trailing_mask_l special 64 (left ++ 34 ∷ []) (omega (arith, length-append left (34 ∷ []), length-drop start d)) some
    ∙ run_twice is_unescaped (left ++ 34 ∷ []) ∙ run_before_quote left

-- The mask of the last `n` bytes with bit `n` set is the mask of these bytes and a quote.
last_marked : (d : List ℕ) (n found : ℕ) → n ≤ length d
    → found ≡ mask_l (map (λ b. not (is_unescaped b)) (chunk (length d - n) n d)) + 2 ^ n
    → found ≡ mask_l (map special (drop (length d - n) d ++ 34 ∷ []))
last_marked d n found room is =
    let last = drop (length d - n) d in
    let long : length last ≡ n = omega (arith, length-drop (length d - n) d) in
    is ∙ ap₂ ◌+◌ (ap (λ l. mask_l (map special l)) (take_all n last (omega arith))) (ap (λ k. 2 ^ k) (sym long)) ∙ sym (quote_marked last)

-- In the mask of the last `n` bytes with bit `n` set, the lowest set bit from `at` on is at the end
-- of the run from `at`.
pub run_in_last : (d : List ℕ) (n at found : ℕ) → n < 64 → n ≤ length d → at ≤ length d → length d ≤ at + n
    → found ≡ mask_l (map (λ b. not (is_unescaped b)) (chunk (length d - n) n d)) + 2 ^ n
    → count_trailing_zeros 64 (found / 2 ^ (at - (length d - n))) ≡ prefix_len is_unescaped (drop at d)
run_in_last d n at found short room inside few is =
    let first : ℕ = length d - n in
    let long : length (drop first d) ≡ n = omega (arith, length-drop first d) in
    ap (λ m. count_trailing_zeros 64 (m / 2 ^ (at - first))) (last_marked d n found room is)
    ∙ run_to_quote (drop first d) (at - first) (omega arith) (omega arith)
    ∙ ap (prefix_len is_unescaped) (drop-drop (at - first) first d ∙ ap (λ k. drop k d) (omega arith))

-- The mask of the first `k + j` bytes is the mask of the first `k` bytes, with the mask of the next
-- `j` bytes in the higher bits.
first_masks : (d : List ℕ) (k j : ℕ) → k ≤ length d
    → mask_l (map special (take (k + j) d)) ≡ mask_l (map special (take k d)) + 2 ^ k * mask_l (map special (take j (drop k d)))
first_masks d k j inside =
    ap (λ l. mask_l (map special l)) (take-add k j d) ∙ mask_joined (take k d) (take j (drop k d))
    ∙ ap (λ n. mask_l (map special (take k d)) + 2 ^ n * mask_l (map special (take j (drop k d)))) (length-take-le k d inside)

-- The mask of `d` and a quote is the mask of the first `k` bytes, with the mask of the rest in the
-- higher bits.
quoted_masks : (d : List ℕ) (k : ℕ) → k ≤ length d
    → mask_l (map special (d ++ 34 ∷ [])) ≡ mask_l (map special (take k d)) + 2 ^ k * mask_l (map special (drop k d ++ 34 ∷ []))
quoted_masks d k inside =
    ap (λ l. mask_l (map special (l ++ 34 ∷ []))) (sym (take-append-drop k d))
    ∙ ap (λ l. mask_l (map special l)) (append_assoc (take k d) (drop k d) (34 ∷ []))
    ∙ mask_joined (take k d) (drop k d ++ 34 ∷ [])
    ∙ ap (λ n. mask_l (map special (take k d)) + 2 ^ n * mask_l (map special (drop k d ++ 34 ∷ []))) (length-take-le k d inside)

-- The mask of fewer than 64 bytes and a quote is below `2 ^ 64`.
quoted_fits : (d : List ℕ) → length d < 64 → mask_l (map special (d ++ 34 ∷ [])) < 2 ^ 64
quoted_fits d short =
    lt_of_lt_of_le (mask_below (d ++ 34 ∷ []) (length d + 1) (length-append d (34 ∷ [])))
    (pow_mono {i = length d + 1} {j = 64} (omega arith))

-- If two masks agree on the bits where they overlap, their union is the combined mask.
overlapping : (k j low mid high : ℕ) → low < 2 ^ k → mid < 2 ^ j
    → bit_or (low + 2 ^ k * mid) ((mid + 2 ^ j * high) * 2 ^ k) ≡ low + 2 ^ k * (mid + 2 ^ j * high)
overlapping k j low mid high small inner =
    let behind : ℕ = mid + 2 ^ j * high in
    let first : low + 2 ^ k * mid ≡ mid * 2 ^ k + low = omega arith in
    let last : behind * 2 ^ k ≡ behind * 2 ^ k + 0 = omega arith in
    let all : behind ≡ high * 2 ^ j + mid = omega arith in
    let none : mid ≡ 0 * 2 ^ j + mid = omega arith in
    let same : bit_or mid behind ≡ behind =
    ap₂ bit_or none all ∙ or_block j 0 high mid mid inner inner ∙ ap (λ n. high * 2 ^ j + n) (or_self mid) ∙ sym all in
    ap₂ bit_or first last ∙ or_block k mid behind low 0 small (pow_pos k) ∙ ap₂ (λ m n. m * 2 ^ k + n) same (or_zero_r low) ∙ omega arith

-- The union of the masks of the first `n` and the last `n` bytes is the mask of all bytes and a
-- quote.
--
-- The mask of the last `n` bytes has bit `n` set.
all_marked : (d : List ℕ) (n first behind : ℕ) → n < 32 → n ≤ length d → length d ≤ 2 * n
    → first ≡ mask_l (map (λ b. not (is_unescaped b)) (chunk 0 n d))
    → behind ≡ mask_l (map (λ b. not (is_unescaped b)) (chunk (length d - n) n d)) + 2 ^ n
    → bit_or first (behind * 2 ^ (length d - n) % 2 ^ 64) ≡ mask_l (map special (d ++ 34 ∷ []))
all_marked d n first behind short room few is is_behind =
    let k : ℕ = length d - n in
    let j : ℕ = n - k in
    let last = drop k d in
    let low : ℕ = mask_l (map special (take k d)) in
    let mid : ℕ = mask_l (map special (take j last)) in
    let high : ℕ = mask_l (map special (drop j last ++ 34 ∷ [])) in
    let inside : k ≤ length d = omega arith in
    let inner : j ≤ length last = omega (arith, length-drop k d) in
    let marked = last_marked d n behind room is_behind in
    let front : first ≡ low + 2 ^ k * mid = is ∙ ap (λ m. mask_l (map special (take m d))) (omega arith) ∙ first_masks d k j inside in
    let back : behind ≡ mid + 2 ^ j * high = marked ∙ quoted_masks last j inner in
    let whole : mask_l (map special (d ++ 34 ∷ [])) ≡ low + 2 ^ k * behind = quoted_masks d k inside
    ∙ ap (λ b. low + 2 ^ k * b) (sym marked) in
    let kept : behind * 2 ^ k % 2 ^ 64 ≡ (mid + 2 ^ j * high) * 2 ^ k = mod-eq_of_lt (omega (arith, whole, quoted_fits d (omega arith)))
    ∙ ap (λ b. b * 2 ^ k) back in
    ap₂ bit_or front kept
    ∙ overlapping k j low mid high (mask_below (take k d) k (length-take-le k d inside))
    (mask_below (take j last) j (length-take-le j last inner))
    ∙ ap (λ b. low + 2 ^ k * b) (sym back) ∙ sym whole

-- In the union of the masks of the first `n` and the last `n` bytes, the lowest set bit from
-- `start` on is at the end of the run from `start`.
pub run_in_two : (d : List ℕ) (n first behind start : ℕ) → n < 32 → n ≤ length d → length d ≤ 2 * n → start ≤ length d
    → first ≡ mask_l (map (λ b. not (is_unescaped b)) (chunk 0 n d))
    → behind ≡ mask_l (map (λ b. not (is_unescaped b)) (chunk (length d - n) n d)) + 2 ^ n
    → count_trailing_zeros 64 (bit_or first (behind * 2 ^ (length d - n) % 2 ^ 64) / 2 ^ start) ≡ prefix_len is_unescaped (drop start d)
run_in_two d n first behind start short room few inside is is_behind =
    ap (λ m. count_trailing_zeros 64 (m / 2 ^ start)) (all_marked d n first behind short room few is is_behind)
    ∙ run_to_quote d start inside (omega arith)
