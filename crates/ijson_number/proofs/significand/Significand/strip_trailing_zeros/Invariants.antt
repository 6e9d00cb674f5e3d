use Rattle.ijson_number.proofs.Common.{◌≡◌, ◌⊎◌, ◌*◌, ◌^◌, ℕ, nat_abs, pos, ◌+ℤ◌, ◌-ℤ◌, ◌≤ℤ◌}
use Rattle.ijson_number.proofs.significand.Significand.strip_trailing_zeros.Given as goal

-- Loop invariant: the exponent increases by 1 for each stripped zero.
abbrev pub invariant-loop-magnitude : goal.invariant-loop-magnitude
invariant-loop-magnitude l = record {
  tens : (count : ℕ) × (l.self.magnitude ≡ l.magnitude * 10 ^ count) × (l.exponent ≡ l.self.exponent +ℤ pos count);
  most : (l.exponent ≤ℤ l.end) ⊎ (l.exponent ≡ l.self.exponent);
}

abbrev pub decreases-loop-magnitude : goal.decreases-loop-magnitude
decreases-loop-magnitude l = nat_abs (l.end -ℤ l.exponent)
