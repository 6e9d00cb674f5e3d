-- The longest run of unescaped bytes ends at the first byte that must be escaped, or at the end.
-- This index is a character boundary.
use Rattle.std.proofs.Common.{◌≡◌, ℕ, ◌+◌, ◌-◌, inl, inr, ◌<◌, ◌≤◌, Bool, true, false, cond, List, [], ◌∷◌, length, take, drop, get_or, refl, sym, ap, arith}
use Rattle.std.proofs.Common.{add-zero, ltb, ◌∙◌}
use Rattle.std.specs.Prelude.{Option, IsTrue, not, unwrap_or, Some, None}
use Rattle.std.specs.List.{prefix_len, position, position_or_len}
use Rattle.std.specs.Str.{IsCharBoundary}
use Rattle.std.proofs.lemmas.Bool.{cases_lt, eq-eqb}
use Rattle.std.proofs.lemmas.Bool.Decides.{nat_tests}
use Rattle.std.proofs.lemmas.List.{drop-drop, get_or-take, get_or-drop, length-drop, length-take-le, take-append-drop}
use Rattle.std.proofs.lemmas.List.Elements.{recursion_from_All}
use Rattle.std.proofs.lemmas.List.Folds.{prefix_len-append}
use Rattle.std.proofs.lemmas.List.Sums.{prefix_len_passes, prefix_len_stops, prefix_len-le-length}
use Rattle.std.proofs.lemmas.Str.{IsCharBoundary-before_ascii, IsCharBoundary-end}
use Rattle.ijson_json.specs.Strings.{is_unescaped}
use Rattle.ijson_json.specs.private.Reading.{Past}
use Rattle.ijson_json.proofs.scanning.Prefixes.{Run}

-- Each of the first `n` bytes passes the test `p`, if the longest run has at least `n` bytes.
pub run_before : (p : ℕ → Bool) (xs : List ℕ) (n : ℕ) → n ≤ prefix_len p xs → Run p (take n xs)
run_before p xs n few = recursion_from_All (λ b. IsTrue (p b)) _ (λ k d h.
    let below : k < n = omega (arith, length-take-le n xs (omega (arith, few, prefix_len-le-length p xs)), h) in
    rw (get_or-take n xs k d below) (prefix_len_passes p xs k d (omega (arith, few))))

-- If all of the first `n` bytes pass the test, the longest run has at least as many bytes.
pub run_covers : (p : ℕ → Bool) (xs : List ℕ) (n : ℕ) → prefix_len p (take n xs) ≡ length (take n xs)
    → length (take n xs) ≤ prefix_len p xs
run_covers p xs n all =
    let first = take n xs in
    let whole : prefix_len p xs ≡ length first + prefix_len p (drop n xs) = ap (prefix_len p) (sym (take-append-drop n xs))
    ∙ prefix_len-append p first (drop n xs)
    ∙ ap (λ b. cond b (length first + prefix_len p (drop n xs)) (prefix_len p first)) (eq-eqb _ _ all) in
    omega (arith, whole)

-- Each byte of the longest run passes the test.
pub run_passes : (p : ℕ → Bool) (xs : List ℕ) → Run p (take (prefix_len p xs) xs)
run_passes p xs = run_before p xs (prefix_len p xs) (omega arith)

-- `Past p xs` holds if the byte at index 0 fails the test `p`, or if `xs` is empty.
past_at_first : (p : ℕ → Bool) (xs : List ℕ) → (0 < length xs → p (get_or xs 0 0) ≡ false) → Past p xs
past_at_first p [] h = tt
past_at_first p (x ∷ xs) h = h (omega arith)

-- The byte after the longest run fails the test.
pub run_stops : (p : ℕ → Bool) (xs : List ℕ) → Past p (drop (prefix_len p xs) xs)
run_stops p xs = past_at_first p _ (λ more.
    let inside : prefix_len p xs < length xs = omega (arith, length-drop (prefix_len p xs) xs, more) in
    rw (get_or-drop (prefix_len p xs) xs 0 0, add-zero (prefix_len p xs)) (prefix_len_stops p xs 0 inside))

-- A byte that must be escaped is ASCII.
pub special_ascii : (b : ℕ) → is_unescaped b ≡ false → b < 128
special_ascii b h = grind (arith, nat_tests)

-- The end of the leading unescaped run is a character boundary.
pub run_boundary : (text : List ℕ) → IsCharBoundary text (prefix_len is_unescaped text)
run_boundary text = elim (cases_lt (prefix_len is_unescaped text) (length text)) [
  | inl h ↦ IsCharBoundary-before_ascii text _ h (special_ascii _ (prefix_len_stops is_unescaped text 0 h))
  | inr h ↦ let all : prefix_len is_unescaped text ≡ length text = omega (arith, h, prefix_len-le-length is_unescaped text) in
      rw all (IsCharBoundary-end text)
]

-- The index of the first byte that fails the test is the length of the longest run.
pub run_twice : (p : ℕ → Bool) (xs : List ℕ) → position_or_len (λ b. not (p b)) xs ≡ prefix_len p xs
run_twice p [] = refl
run_twice p (x ∷ xs) = elim (p x) as (λ v. cond (not (not v)) (1 + position_or_len (λ b. not (p b)) xs) 0 ≡ cond v
    (1 + prefix_len p xs) 0) [
      | true ↦ ap (λ n. 1 + n) (run_twice p xs)
      | false ↦ refl
    ]

-- If `first` is at most `all`, `Some first`, or `None` if `first` is `all`, unwraps to `first` with
-- the default `all`.
first_or_all : (first : ℕ) {run all : ℕ} → first ≡ run → run ≤ all → unwrap_or (cond (ltb first all) (Some first) None) all ≡ run
first_or_all first is within = grind (arith, nat_tests)

-- The index of the first byte that fails the test, or else the number of bytes, is the length of
-- the longest run.
pub run_end : (p : ℕ → Bool) (xs : List ℕ) {n : ℕ} {found : Option ℕ} → n ≡ unwrap_or found (length xs)
    → found ≡ position (λ b. not (p b)) xs → n ≡ prefix_len p xs
run_end p xs {n} {found} is first = is ∙ ap (λ o. unwrap_or o (length xs)) first ∙ first_or_all _ (run_twice p xs) (prefix_len-le-length p xs)

-- All bytes from `start` to the end of the run pass the test, and the byte after the run fails the
-- test.
pub run_from : (p : ℕ → Bool) (xs : List ℕ) (start end : ℕ) → end ≡ start + prefix_len p (drop start xs)
    → Run p (take (end - start) (drop start xs)) × Past p (drop end xs)
run_from p xs start end e =
    let left = drop start xs in
    let few : end - start ≡ prefix_len p left = omega (arith, e) in
    (rw few (run_passes p left), rw (e, ← drop-drop (prefix_len p left) start xs) (run_stops p left))
