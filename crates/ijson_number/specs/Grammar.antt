-- The number grammar of RFC 8259, section 6: which byte strings spell a number, and which number
-- each spells.
use Rattle.std.specs.Prelude.{◌≡◌, ◌⊎◌, ℕ, ◌≤◌, ◌-◌, ℤ, pos, neg_ℤ, ◌-ℤ◌, Bool, true, false, List, [], ◌∷◌, ◌++◌, map, length, ◌||◌}
use Rattle.std.specs.List.{AllByRecursion}
use Rattle.std.specs.Int.Digits.{number_from_digits}
use Rattle.ijson_number.specs.Decimal.{Decimal}
use Rattle.ijson_number.specs.Strips.{Strips, signed}

-- Holds if the byte is one of `'0'` to `'9'`.
abbrev pub IsDigit : ℕ → Type 0
IsDigit b = (48 ≤ b) × (b ≤ 57)

abbrev pub AllDigits : List ℕ → Type 0
AllDigits bs = AllByRecursion IsDigit bs

-- Holds if the list has at least one byte and each byte is a digit.
abbrev pub IsDigits : List ℕ → Type 0
IsDigits [] = ⊥
IsDigits (b ∷ bs) = IsDigit b × AllDigits bs

-- The value of a list of digit bytes, read in base 10.
-- e.g. the value of `0250` is 250; the empty text is `AllDigits` and not `IsDigits`.
abbrev pub value : List ℕ → ℕ
value bs = number_from_digits 10 (map (λ b. b - 48) bs)

-- Holds if `text` is empty and `negative` is false, or `text` is `'-'` and `negative` is true.
abbrev pub IsMinus : List ℕ → Bool → Type 0
IsMinus text negative = (text ≡ [] × negative ≡ false) ⊎ (text ≡ 45 ∷ [] × negative ≡ true)

-- Holds if the bytes are `'0'`, or a digit `'1'` to `'9'` followed by any number of digits.
abbrev pub IsWhole : List ℕ → Type 0
IsWhole [] = ⊥
IsWhole (b ∷ bs) = (b ≡ 48 × bs ≡ []) ⊎ ((49 ≤ b) × (b ≤ 57) × AllDigits bs)

-- Holds if the bytes are an optional fraction with the digits `digits`. A written fraction is `'.'`
-- and at least one digit. `written` is false if the bytes are empty.
abbrev pub IsFraction : List ℕ → (digits : List ℕ) → (written : Bool) → Type 0
IsFraction [] digits written = digits ≡ [] × written ≡ false
IsFraction (b ∷ bs) digits written = b ≡ 46 × IsDigits bs × digits ≡ bs × written ≡ true

-- Holds if the bytes are an optional `'+'` or `'-'` and at least one digit, and denote the integer
-- `z`.
abbrev pub IsSigned : List ℕ → ℤ → Type 0
IsSigned [] z = ⊥
IsSigned (b ∷ bs) z =
    (b ≡ 43 × IsDigits bs × z ≡ pos (value bs))
    ⊎ (b ≡ 45 × IsDigits bs × z ≡ neg_ℤ (pos (value bs)))
    ⊎ (IsDigits (b ∷ bs) × z ≡ pos (value (b ∷ bs)))

-- Holds if the bytes are an optional exponent with the value `z`. A written exponent is `'e'` or
-- `'E'` and a signed integer. The value is 0 and `written` is false if the bytes are empty.
-- e.g. in `-12.50E+3` they are `-`, `12`, `.50`, and `E+3` with `+3` in it; `01` is no whole part,
-- and `1.` has no fraction.
abbrev pub IsExponent : List ℕ → ℤ → (written : Bool) → Type 0
IsExponent [] z written = z ≡ pos 0 × written ≡ false
IsExponent (b ∷ bs) z written = (b ≡ 101 ⊎ b ≡ 69) × IsSigned bs z × written ≡ true

-- The parts of a spelled number in the order of its bytes: sign, whole digits, fraction digits and
-- exponent. `point` is true if a fraction or an exponent was written.
pub record Parts : Type 0 where
  pub negative : Bool
  pub whole : List ℕ
  pub fraction : List ℕ
  pub exponent : ℤ
  pub point : Bool

-- Holds if `text` is a spelling of the parts `p` according to RFC 8259.
-- e.g. `-12.50E+3` is negative, `12`, `50`, 3, a point.
pub record IsSpelled (text : List ℕ) (p : Parts) : Type 0 where
  pub minus_text : List ℕ
  pub fraction_text : List ℕ
  pub exponent_text : List ℕ
  pub has_point : Bool
  pub has_exponent : Bool
  pub text_is : text ≡ minus_text ++ p.whole ++ fraction_text ++ exponent_text
  pub minus : IsMinus minus_text p.negative
  pub whole : IsWhole p.whole
  pub fraction : IsFraction fraction_text p.fraction has_point
  pub exponent : IsExponent exponent_text p.exponent has_exponent
  pub point : p.point ≡ has_point || has_exponent

-- Holds if the parts denote the number `n`. The mantissa is the signed value of all digits. The
-- exponent is the written exponent minus the number of fraction digits. Trailing zeros of the
-- mantissa are stripped.
-- e.g. the parts of `1.5E-3` denote 15 and -4 with a point.
abbrev pub Denotes : Parts → Decimal → Type 0
Denotes p n =
    let mantissa = signed p.negative (value (p.whole ++ p.fraction)) in
    let exponent = p.exponent -ℤ pos (length p.fraction) in
    Strips mantissa exponent n × n.point ≡ p.point

-- Holds if `text` is a JSON number that denotes `n`.
-- e.g. `1.50`, `1.5` and `15e-1` spell one decimal, 15 and -1 with a point; `+1` and `.5` spell
-- none.
abbrev pub Spells : List ℕ → Decimal → Type 0
Spells text n = (p : Parts) × IsSpelled text p × Denotes p n
