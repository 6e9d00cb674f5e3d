-- The bytes that can occur in a JSON number (RFC 8259, section 6).
use Rattle.std.specs.Prelude.{ℕ, Bool, ◌&&◌, ◌||◌, ◌==◌, nat_le}

-- Returns `true` if the byte is one of `'0'` to `'9'`.
abbrev pub is_digit : ℕ → Bool
is_digit b = nat_le 48 b && nat_le b 57

-- Returns `true` if the byte is a digit, `'+'`, `'-'`, `'.'`, `'E'` or `'e'`.
-- e.g. both hold of `7`, the second of `e` and `-`, none of `x`.
abbrev pub is_number_byte : ℕ → Bool
is_number_byte b =
    is_digit b || ((b == 43) || ((b == 45) || ((b == 46) || ((b == 69) || (b == 101)))))
