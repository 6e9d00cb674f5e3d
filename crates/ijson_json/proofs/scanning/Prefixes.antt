-- If a text is a run of bytes that pass a test and a rest that ends the run, the run and the rest
-- are unique.
use Rattle.std.proofs.Common.{◌≡◌, ℕ, Bool, true, false, List, [], ◌∷◌, ◌++◌, refl, sym, ap, ◌∙◌, eqb, eq-eqb}
use Rattle.std.specs.Prelude.{IsTrue, ◌==◌}
use Rattle.std.specs.List.{AllByRecursion}
use Rattle.ijson_json.specs.private.Reading.{Closes, Past, Skips}

-- Holds if each byte passes the test.
abbrev pub Run : (ℕ → Bool) → List ℕ → Type 0
Run p bs = AllByRecursion (λ b. IsTrue (p b)) bs

-- A Boolean is not both `true` and `false`.
pub not_both : (b : Bool) → b ≡ true → b ≡ false → ⊥
not_both true e f = cc
not_both false e f = cc

-- If the first byte of `x` fails the test `p`, it differs from a byte `c` that passes `p`.
pub past_first : (p : ℕ → Bool) (x : List ℕ) (c : ℕ) (cs : List ℕ) → Past p x → x ≡ c ∷ cs → IsTrue (p c) → ⊥
past_first p [] c cs h e t = cc
past_first p (b ∷ x) c cs h e t = let same : b ≡ c = cc in not_both (p c) t (rw (← same) h)

-- If `x` does not begin with `b`, `x` is not equal to `b ∷ cs`.
pub past_byte : (b : ℕ) (x cs : List ℕ) → Past (λ c. c == b) x → x ≡ b ∷ cs → ⊥
past_byte b x cs h e = past_first (λ c. c == b) x b cs h e (eq-eqb b b refl)

-- Equal lists have the same first byte.
pub heads : (a b : ℕ) (x y : List ℕ) → a ∷ x ≡ b ∷ y → a ≡ b
heads a b x y e = cc

-- Equal lists have the same tail.
pub tails : (a b : ℕ) (x y : List ℕ) → a ∷ x ≡ b ∷ y → x ≡ y
tails a b x y e = cc

-- Lists with different first bytes are not equal.
pub heads_apart : (a b : ℕ) (x y : List ℕ) → a ∷ x ≡ b ∷ y → eqb a b ≡ false → ⊥
heads_apart a b x y e f = not_both (eqb a b) (eq-eqb a b (heads a b x y e)) f

-- If a text is a run and a rest that ends the run, the run and the rest are unique.
pub run_same : (p : ℕ → Bool) (a b x y : List ℕ) → Run p a → Run p b → Past p x → Past p y → a ++ x ≡ b ++ y → (a ≡ b) × (x ≡ y)
run_same p [] [] x y ra rb px py e = (refl, e)
run_same p [] (c ∷ b) x y ra rb px py e = absurd (past_first p x c (b ++ y) px e rb.0)
run_same p (c ∷ a) [] x y ra rb px py e = absurd (past_first p y c (a ++ x) py (sym e) ra.0)
run_same p (c ∷ a) (d ∷ b) x y ra rb px py e =
    let first : c ≡ d = cc in
    let rest : a ++ x ≡ b ++ y = cc in
    let same : (a ≡ b) × (x ≡ y) = run_same p a b x y ra.1 rb.1 px py rest in
    let whole : c ∷ a ≡ d ∷ b = cc (first, same.0) in
    (whole, same.1)

-- If `P` holds for each byte of two lists, `P` holds for each byte of their concatenation.
pub all-append : (P : ℕ → Type 0) (a b : List ℕ) → AllByRecursion P a → AllByRecursion P b → AllByRecursion P (a ++ b)
all-append P [] b ra rb = rb
all-append P (c ∷ a) b ra rb = (ra.0, all-append P a b ra.1 rb)

-- If `closing` follows the skipped white space, `Closes` holds.
pub closes : (closing : ℕ) (text start rest : List ℕ) → Skips text start → start ≡ closing ∷ rest → Closes closing text rest
closes closing text start rest s e = record { space = s.space; passed = s.passed; is = s.is ∙ ap (λ (l : List ℕ). s.space ++ l) e }
