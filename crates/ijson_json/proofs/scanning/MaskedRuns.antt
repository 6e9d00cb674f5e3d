-- Lemmas: the mask of the bytes that fail a test determines the run of bytes that pass the test.
use Rattle.std.proofs.Common.{◌≡◌, ℕ, ◌+◌, ◌*◌, ◌<◌, ◌≤◌, Bool, true, false, cond, eqb, List, [], ◌∷◌, map, length, drop, refl, sym, ap}
use Rattle.std.proofs.Common.{◌∙◌, arith}
use Rattle.std.specs.Prelude.{not}
use Rattle.std.specs.List.{prefix_len}
use Rattle.std.proofs.lemmas.Bool.{eq-eqb, ne_eqb}
use Rattle.std.proofs.lemmas.List.Folds.{prefix_len-append}
use Rattle.std.proofs.lemmas.List.Sums.{prefix_len-le-length}
use Rattle.std.proofs.lemmas.Simd.{chunk-drop, length-chunk, leading_from_mask_l, trailing_mask_l}
use Rattle.ijson_json.proofs.scanning.UnescapedRuns.{run_twice}
use lib.Count.{count_trailing_zeros}
use lib.Lanes.{chunk, mask_l}

module _ (p : ℕ → Bool) where
  -- Returns `true` if the byte fails the test `p`.
  abbrev fails : ℕ → Bool
  fails b = not (p b)

  -- If the first byte and the `l` bytes after it pass the test, the mask of the failing bytes is 0.
  none_fails : (b : Bool) (n l m : ℕ) → n ≤ l → cond b (1 + n) 0 ≡ 1 + l → (n ≡ l → m ≡ 0) → cond (not b) 1 0 + 2 * m ≡ 0
  none_fails true n l m le e ih = let z = ih (omega arith) in omega arith
  none_fails false n l m le e ih = let no : ⊥ = omega arith in absurd no

  -- If all bytes pass the test, the mask of the failing bytes is 0.
  all_pass : (xs : List ℕ) → prefix_len p xs ≡ length xs → mask_l (map fails xs) ≡ 0
  all_pass [] e = refl
  all_pass (x ∷ xs) e = none_fails (p x) _ (length xs) _ (prefix_len-le-length p xs) (omega arith) (all_pass xs)

  -- The run from `i` ends in the `n` bytes from `i` on, or it continues after them if all `n` bytes
  -- pass the test.
  split : (d : List ℕ) (i n : ℕ) → prefix_len p (drop i d) ≡ cond (eqb (prefix_len p (chunk i n d)) (length (chunk i n d)))
      (length (chunk i n d) + prefix_len p (drop (i + n) d)) (prefix_len p (chunk i n d))
  split d i n = ap (prefix_len p) (chunk-drop i n d) ∙ prefix_len-append p (chunk i n d) (drop (i + n) d)

  -- If the mask of `n` bytes is 0, the run from `i` contains these bytes and continues after them.
  pub run_through : (d : List ℕ) (i n : ℕ) → i + n ≤ length d → mask_l (map (λ b. not (p b)) (chunk i n d)) ≡ 0
      → prefix_len p (drop i d) ≡ n + prefix_len p (drop (i + n) d)
  run_through d i n room none =
      let c = chunk i n d in
      split d i n
      ∙ ap (λ b. cond b (length c + prefix_len p (drop (i + n) d)) (prefix_len p c))
      (eq-eqb _ _ (sym (run_twice p c) ∙ leading_from_mask_l fails c none))
      ∙ ap (λ k. k + prefix_len p (drop (i + n) d)) (length-chunk i n d room)

  -- If the mask of `n` bytes is not 0, the number of its trailing zeros is the length of the run
  -- from `i`.
  pub run_within : (d : List ℕ) (i n found : ℕ) → i + n ≤ length d → n ≤ 64 → found ≡ mask_l (map (λ b. not (p b)) (chunk i n d))
      → 0 < found → prefix_len p (drop i d) ≡ count_trailing_zeros 64 found
  run_within d i n found room short is some =
      let c = chunk i n d in
      split d i n
      ∙ ap (λ b. cond b (length c + prefix_len p (drop (i + n) d)) (prefix_len p c))
      (ne_eqb _ _ (λ (e : prefix_len p c ≡ length c). omega (arith, is, all_pass c e)))
      ∙ sym (run_twice p c) ∙ sym (trailing_mask_l fails 64 c (omega (arith, length-chunk i n d room)) (omega (arith, is)))
      ∙ ap (count_trailing_zeros 64) (sym is)

  -- If the mask of `n` bytes is not 0, the number of its trailing zeros is at most `n`.
  pub run_short : (d : List ℕ) (i n found : ℕ) → i + n ≤ length d → n ≤ 64 → found ≡ mask_l (map (λ b. not (p b)) (chunk i n d))
      → 0 < found → count_trailing_zeros 64 found ≤ n
  run_short d i n found room short is some =
      let c = chunk i n d in
      omega (
        arith,
        ap (count_trailing_zeros 64) is,
        trailing_mask_l fails 64 c (omega (arith, length-chunk i n d room)) (omega (arith, is)),
        prefix_len-le-length (λ b. not (fails b)) c,
        length-chunk i n d room,
      )
