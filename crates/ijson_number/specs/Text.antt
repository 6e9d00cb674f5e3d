-- The JSON text of a number. RFC 8259, section 6, leaves open when to write an exponent; the choice
-- is this project's own.
use Rattle.std.specs.Prelude.{ℕ, ◌+◌, ℤ, pos, negsuc, nat_abs, ◌+ℤ◌, ◌-ℤ◌, int_lt, int_le, Bool, true, false, ◌||◌}
use Rattle.std.specs.Prelude.{List, [], ◌∷◌, ◌++◌, map, length, take, drop, replicate, nat_eq, zero, suc}
use Rattle.ijson_number.specs.Decimal.{Decimal}
use Rattle.ijson_number.specs.StrippedDigits.{digits_within, stripped_digits}

-- The ASCII text of a list of digits.
abbrev pub digits_text : List ℕ → List ℕ
digits_text ds = map (λ d. 48 + d) ds

abbrev pub zeros_text : ℕ → List ℕ
zeros_text n = replicate n 48

-- The decimal text of an integer.
-- e.g. the digits 2, 5 are `25`; three zeros are `000`; -7 is `-7`.
abbrev pub whole_text : ℤ → List ℕ
whole_text (pos zero) = 48 ∷ []
whole_text (pos (suc n)) = digits_text (digits_within (suc n) (suc n))
whole_text (negsuc n) = 45 ∷ digits_text (digits_within (suc n) (suc n))

-- The scientific text of the digits, such as `1.25e21`: the first digit, `'.'` and further digits
-- if any, then `'e'` and the exponent `p - 1`.
abbrev pub scientific_text : List ℕ → (p : ℤ) → List ℕ
scientific_text [] p = []
scientific_text (d ∷ []) p = (48 + d) ∷ 101 ∷ whole_text (p -ℤ pos 1)
scientific_text (d ∷ c ∷ ds) p =
    (48 + d) ∷ 46 ∷ digits_text (c ∷ ds) ++ 101 ∷ whole_text (p -ℤ pos 1)

-- The digits `ds` with the decimal point after the first `p` of them. If `p` is outside the list,
-- zeros are written between the digits and the point.
abbrev pub point_text : List ℕ → (p : ℤ) → List ℕ
point_text ds p =
    elim (int_le p (pos 0)) [
      | true ↦ 48 ∷ 46 ∷ zeros_text (nat_abs p) ++ digits_text ds
      | false ↦ elim (int_le (pos (length ds)) p) [
        | true ↦ digits_text ds ++ zeros_text (nat_abs (p -ℤ pos (length ds))) ++ 46 ∷ 48 ∷ []
        | false ↦ digits_text (take (nat_abs p) ds) ++ 46 ∷ digits_text (drop (nat_abs p) ds)
      ]
    ]

-- The text of the nonzero number with digits `ds` and exponent `e`, with a decimal point. An
-- exponent is written if at least 6 zeros would be between the point and the digits (`negsuc 5` is
-- -6), or if `e` is above 20.
abbrev pub float_text : List ℕ → ℤ → List ℕ
float_text ds e =
    elim (int_le (pos (length ds) +ℤ e) (negsuc 5) || int_lt (pos 20) e) [
      | true ↦ scientific_text ds (pos (length ds) +ℤ e)
      | false ↦ point_text ds (pos (length ds) +ℤ e)
    ]

-- The text of the nonzero number with digits `ds` and exponent `e`, without its sign. Without a
-- decimal point, `e` zeros follow the digits.
-- e.g. `1e20` is written `100000000000000000000.0`, `1e22` stays, `1.5E-3` is `0.0015`, `0.0000001`
-- is `1e-7`, `12e30` is `1.2e31`.
abbrev pub shape_text : Bool → List ℕ → ℤ → List ℕ
shape_text point ds e =
    elim point [
      | true ↦ float_text ds e
      | false ↦ digits_text ds ++ zeros_text (nat_abs e)
    ]

abbrev pub zero_text : Bool → List ℕ
zero_text true = 48 ∷ 46 ∷ 48 ∷ []
zero_text false = 48 ∷ []

abbrev pub minus_text : Bool → List ℕ
minus_text true = 45 ∷ []
minus_text false = []

-- The JSON text of a number.
-- e.g. `-0` is written `0`, `-0.0` is `0.0`, `-250` is `-250`.
abbrev pub num_text : Decimal → List ℕ
num_text n =
    elim (nat_eq (nat_abs n.mantissa) 0) [
      | true ↦ zero_text n.point
      | false ↦
          minus_text (int_lt n.mantissa (pos 0))
          ++ shape_text n.point (stripped_digits n) n.exponent
    ]
