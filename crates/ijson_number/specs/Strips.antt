-- Stripping the trailing zeros of a mantissa.
use Rattle.std.specs.Prelude.{◌≡◌, ◌⊎◌, ℕ, ◌^◌, ℤ, pos, neg_ℤ, ◌*ℤ◌, ◌+ℤ◌, Bool, cond}
use Rattle.ijson_number.specs.Decimal.{Decimal, IsPlain}

-- The integer with the given sign and absolute value.
abbrev pub signed : (negative : Bool) → ℕ → ℤ
signed negative n = cond negative (neg_ℤ (pos n)) (pos n)

-- Holds if `n` is canonical and has the value `m * 10 ^ e`.
-- e.g. 100 and 0 strip to 1 and 2; 150 and -2 to 15 and -1, with the point; 0 and 7 to 0 and 0.
pub record Strips (m e : ℤ) (n : Decimal) : Type 0 where
  pub plain : IsPlain n
  pub tens :
      (m ≡ pos 0 × n.mantissa ≡ pos 0)
      ⊎ ((k : ℕ) × (m ≡ n.mantissa *ℤ pos (10 ^ k)) × (n.exponent ≡ e +ℤ pos k))
