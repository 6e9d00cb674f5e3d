-- Two proofs that a decimal is a `Num` are equal, so two `Num`s with the same decimal are equal.
use Rattle.std.specs.Prelude.{◌≡◌, ℤ, pos, Bool, refl, ◌≤ℤ◌}
use Rattle.std.specs.Coded.{Coded, code_by, coded×, Coded-set, coded_ℤ, coded_bool, →_prop}
use Rattle.std.proofs.Math.Dec.{T_prop}
use Rattle.std.proofs.Common.{ap}
use base.Stored.{coded_sub}
use mathlib.Core.HLevel.{Σ_prop_path}
use Rattle.ijson_number.specs.Decimal.{Decimal, IsPlain}
use Rattle.ijson_number.specs.Num.{IsNum, Num, is_in_range}

abbrev pub decimal_code : Coded Decimal
decimal_code =
    code_by
    (ℤ × (ℤ × Bool))
    (coded× coded_ℤ (coded× coded_ℤ coded_bool))
    (λ n. (n.mantissa, (n.exponent, n.point)))
    (λ p. record { mantissa = p.0; exponent = p.1.0; point = p.1.1 })
    (λ _. refl)

≤ℤ_prop : (a b : ℤ) → IsProp (a ≤ℤ b)
≤ℤ_prop a b x y i = record { le = T_prop _ x.le y.le i }

IsPlain-prop : (n : Decimal) → IsProp (IsPlain n)
IsPlain-prop n x y i = record {
  zero = →_prop (Coded-set coded_ℤ n.exponent (pos 0)) x.zero y.zero i;
  stripped = →_prop (→_prop (λ p q. absurd p)) x.stripped y.stripped i;
  whole = →_prop (≤ℤ_prop (pos 0) n.exponent) x.whole y.whole i;
}

-- Two proofs of `IsNum n` are equal.
pub IsNum-prop : (n : Decimal) → IsProp (IsNum n)
IsNum-prop n x y i = record {
  plain = IsPlain-prop n x.plain y.plain i;
  in_range = Coded-set coded_bool (is_in_range n) _ x.in_range y.in_range i;
}

abbrev pub num_code : Coded Num
num_code =
    code_by
    ((n : Decimal) × IsNum n)
    (coded_sub decimal_code IsNum IsNum-prop)
    (λ n. (n.decimal, n.is_num))
    (λ p. record { decimal = p.0; is_num = p.1 })
    (λ _. refl)

-- Two `Num`s with the same decimal are equal.
pub num_same : (a b : Num) → a.decimal ≡ b.decimal → a ≡ b
num_same a b e =
    ap
    (λ (p : (n : Decimal) × IsNum n). let n : Num = record { decimal = p.0; is_num = p.1 } in n)
    (Σ_prop_path IsNum-prop e)
