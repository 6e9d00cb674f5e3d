-- Capping the written exponent does not change an exponent that is within the limit.
use Rattle.ijson_number.proofs.Common.{◌≡◌, ℕ, ◌^◌, ◌<◌, min, Bool, arith, ◌⊎◌, ℤ, pos, ◌+ℤ◌, ◌-ℤ◌, IsTrue, ints, w32, to_z, of_z, Decimal}
use Rattle.ijson_number.proofs.Common.{is_in_range, signed, IsWithin, exponent_of}

-- If the exponent computed from a capped written exponent is within the limit, it is the exact
-- exponent.
pub capped_within : (negative : Bool) (v f k : ℕ) (w e : ℤ) → f < 2 ^ 64 → k < 2 ^ 65 → w ≡ signed negative (min v (2 ^ 80))
    → e ≡ w +ℤ (pos k -ℤ pos f) → IsWithin e → e ≡ exponent_of (signed negative v) f k
capped_within negative v f k w e hf hk hw he h = grind (arith, ints)

pub within_capped : (negative : Bool) (v f k : ℕ) (w e : ℤ) → f < 2 ^ 64 → k < 2 ^ 65 → w ≡ signed negative (min v (2 ^ 80))
    → e ≡ w +ℤ (pos k -ℤ pos f) → IsWithin (exponent_of (signed negative v) f k) → IsWithin e
within_capped negative v f k w e hf hk hw he h = grind (arith, ints)

pub w32_within : (e : ℤ) → IsWithin e → to_z w32 (of_z w32 e) ≡ e
w32_within e h = omega (arith, ints)

-- A number whose exponent is within the limit is in range.
pub within_in_range : (n : Decimal) → IsWithin n.exponent → IsTrue (is_in_range n)
within_in_range n h = grind (arith, ints)

-- A number in range is zero or has an exponent within the limit.
pub in_range_within : (n : Decimal) → IsTrue (is_in_range n) → (n.mantissa ≡ pos 0) ⊎ IsWithin n.exponent
in_range_within n h = grind (arith, ints)
