-- Four steps of a fold modulo `n`, which multiply by `p`, equal one step that multiplies by
-- `p ^ 4`.
use Rattle.std.proofs.Common.{◌≡◌, ℕ, ◌+◌, ◌*◌, ◌%◌, ap, arith}
use Rattle.std.proofs.Math.Nat.{mod-add-mod, add-mod-mod}
use Rattle.std.proofs.lemmas.Nat.{mul-mod_first, mul-mod_second}

-- A step depends on the previous number only modulo `n`.
step-mod : (n p h w : ℕ) → (h % n * p + w) % n ≡ (h * p + w) % n
step-mod n p h w = rw (← mod-add-mod (h % n * p) n w, mul-mod_first, mod-add-mod)

-- Four steps equal one step that multiplies by `p ^ 4`. Each word is multiplied by a smaller power
-- of `p`.
pub four_steps : (n p h a b c d : ℕ)
    → (h * (p * p * p * p % n) % n + (((a * (p * p * p % n) % n + b * (p * p % n) % n) % n + c * p % n) % n + d) % n) % n
    ≡ ((((h * p + a) % n * p + b) % n * p + c) % n * p + d) % n
four_steps n p h a b c d = simp (mul-mod_second) (simp (step-mod, mod-add-mod, add-mod-mod) (ap (λ x. x % n) (omega arith)))
