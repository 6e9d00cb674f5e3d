-- Division of a hash `n` by a count `d`, with the reciprocal `(2 ^ 64 - 1) / d`. In the first
-- lemmas, `k` is 2 ^ 64, `m` is the reciprocal, and `e` is the quotient `n * m / k`.
use Rattle.std.proofs.Common.{◌≡◌, ℕ, ◌+◌, ◌-◌, ◌*◌, ◌/◌, ◌%◌, ◌^◌, ◌<◌, ◌≤◌, ap, ap₂, subst, sym, ◌∙◌, arith}
use Rattle.std.proofs.Math.Nat.{le_of_mul-le-mul_left, lt_of_mul-lt-mul_left, lt-mul-div-succ, mul-div-le, mul-le-mul_left}
use Rattle.std.proofs.Math.Nat.{mul-le-mul_right, mul-lt-mul_of_pos_right, mod-lt, mul-add-mod_self_right}
use Rattle.std.proofs.lemmas.Nat.{div-add-mod', div-mul-add, mod-mul-add, mul-add-lt}

-- The quotient `e`, computed with the reciprocal `m`, is at most `n / d`.
not_above : (k n d m e : ℕ) → 0 < k → k * e ≤ n * m → d * m ≤ k → e * d ≤ n
not_above k n d m e p below reciprocal =
    let a : k * e * d ≤ n * m * d = mul-le-mul_right d below in
    let b : n * (d * m) ≤ n * k = mul-le-mul_left n reciprocal in
    let c : k * (e * d) ≤ k * n = grind (arith, a, b) in
    le_of_mul-le-mul_left c p

-- The quotient `e`, computed with the reciprocal `m`, is at least `n / d - 1`.
near : (k n d m e : ℕ) → 0 < d → n < k → n * m < k * (e + 1) → k ≤ d * (m + 1) → n < (e + 2) * d
near k n d m e p small above reciprocal =
    let a : n * m * d < k * (e + 1) * d = mul-lt-mul_of_pos_right above p in
    let b : n * k ≤ n * (d * (m + 1)) = mul-le-mul_left n reciprocal in
    let c : n * d ≤ k * d = mul-le-mul_right d (omega (arith, small)) in
    let s : k * n < k * ((e + 2) * d) = grind (arith, a, b, c) in
    lt_of_mul-lt-mul_left k s

-- The quotient computed with the reciprocal of `d` is at most `n / d`.
pub quotient-not_above : (n d a b : ℕ) → a ≡ n → b ≡ (2 ^ 64 - 1) / d → a * b / 2 ^ 64 * d ≤ n
quotient-not_above n d a b hash reciprocal =
    let m = (2 ^ 64 - 1) / d in
    let r : d * m ≤ 2 ^ 64 - 1 = mul-div-le (2 ^ 64 - 1) d in
    let h : n * m / 2 ^ 64 * d ≤ n = not_above (2 ^ 64) n d m (n * m / 2 ^ 64) (omega arith) (mul-div-le (n * m) (2 ^ 64))
    (omega (arith, r)) in
    subst (λ e. e * d ≤ n) (sym (ap₂ (λ x y. x * y / 2 ^ 64) hash reciprocal)) h

-- The quotient computed with the reciprocal of `d` is at least `n / d - 1`.
pub quotient-near : (n d a b : ℕ) → a ≡ n → b ≡ (2 ^ 64 - 1) / d → 0 < d → n < 2 ^ 64 → n < (a * b / 2 ^ 64 + 2) * d
quotient-near n d a b hash reciprocal p small =
    let m = (2 ^ 64 - 1) / d in
    let r : 2 ^ 64 - 1 < d * (m + 1) = lt-mul-div-succ (2 ^ 64 - 1) p in
    let h : n < (n * m / 2 ^ 64 + 2) * d = near (2 ^ 64) n d m (n * m / 2 ^ 64) p small (lt-mul-div-succ (n * m) (omega arith))
    (omega (arith, r)) in
    subst (λ e. n < (e + 2) * d) (sym (ap₂ (λ x y. x * y / 2 ^ 64) hash reciprocal)) h

-- Holds if `e` is the quotient and `left` is the remainder of `n` by `d`.
pub record IsDivided (n d e left : ℕ) : Type 0 where
  pub quotient : e ≡ n / d
  pub left_is : left ≡ n % d

-- If `n - e * d` is less than `d`, then `e` is the quotient and `n - e * d` is the remainder of `n`
-- by `d`.
pub divides : (n d e : ℕ) → e * d ≤ n → n - e * d < d → IsDivided n d e (n - e * d)
divides n d e h small =
    let whole : e * d + (n - e * d) ≡ n = omega (arith, h) in
    record {
      quotient = sym (div-mul-add e d (n - e * d) small) ∙ ap (λ x. x / d) whole;
      left_is = sym (mod-mul-add e d (n - e * d) small) ∙ ap (λ x. x % d) whole;
    }

-- If `n - e * d` is at least `d`, and `n` is less than `(e + 2) * d`, the quotient of `n` by `d` is
-- `e + 1`.
pub divides_more : (n d e : ℕ) → e * d ≤ n → n < (e + 2) * d → d ≤ n - e * d → IsDivided n d (e + 1) (n - e * d - d)
divides_more n d e h near more =
    let below : (e + 1) * d ≤ n = grind (arith, h, more) in
    let same : n - e * d - d ≡ n - (e + 1) * d = grind (arith, h, more) in
    let small : n - (e + 1) * d < d = grind (arith, near, below) in
    subst (IsDivided n d (e + 1)) (sym same) (divides n d (e + 1) below small)

-- `n % (d * 256)` is the quotient `n / d` modulo 256, times `d`, plus the remainder `n % d`.
pub by_more : (n d : ℕ) → 0 < d → n / d % 256 * d + n % d ≡ n % (d * 256)
by_more n d p =
    let q : ℕ = n / d in
    let r : ℕ = n % d in
    let small : q % 256 * d + r < d * 256 = mul-add-lt (q % 256) d r 256 (mod-lt q (omega arith)) (mod-lt n p) in
    let parts : q / 256 * 256 + q % 256 ≡ q = div-add-mod' q 256 in
    let whole : q * d + r ≡ n = div-add-mod' n d in
    let split : (q / 256 * 256 + q % 256) * d + r ≡ q / 256 * (d * 256) + (q % 256 * d + r) = grind arith in
    sym (mod-mul-add (q / 256) (d * 256) (q % 256 * d + r) small)
    ∙ ap (λ x. x % (d * 256)) (sym split ∙ (ap (λ x. x * d + r) parts ∙ whole))

-- `n % (d * 256)` and `n` have the same remainder by `d`.
pub mod-more : (n d : ℕ) → n % (d * 256) % d ≡ n % d
mod-more n d =
    let q : ℕ = n / (d * 256) in
    let r : ℕ = n % (d * 256) in
    let turned : q * (d * 256) + r ≡ q * 256 * d + r = grind arith in
    sym (mul-add-mod_self_right (q * 256) d r) ∙ ap (λ x. x % d) (sym turned ∙ div-add-mod' n (d * 256))
