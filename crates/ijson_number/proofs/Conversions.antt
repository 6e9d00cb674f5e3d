-- Converting the value of a number to an integer type returns the value if it fits the type, and
-- `None` otherwise.
use Rattle.ijson_number.proofs.Common.{◌≡◌, ◌<◌, ◌^◌, ◌∙◌, ℕ, Option, Result, None, Ok, Err, refl, ap, sym, subst, arith, ℤ, pos, nat_abs, FitsSigned}
use Rattle.ijson_number.proofs.Common.{IfSome, IfNone, FitsUnsigned, ints, to_z-of_z, w128, bits, of_z, to_z, Decimal, IsPlain, HasValue, nonneg}
use Rattle.std.specs.Result.{OkIff, result_ok}
use Rattle.std.proofs.lemmas.Result.{OkIff-at_ok, OkIff-at_err}
use mir.Syntax.{Width}
use Rattle.ijson_number.proofs.storing.WholeValues.{value_one}

-- The integer `v` after it is converted to an `i128` and back.
abbrev held : ℤ → ℤ
held v = to_z w128 (of_z w128 v)

held_is : (v : ℤ) → nat_abs v < 10 ^ 20 → held v ≡ v
held_is v near = to_z-of_z w128 v (omega (arith, ints, near))

-- Holds if `o` is the result of converting `n` to an integer type.
--
-- - If `o` is `Some x`, then `n` has the value of `x`.
-- - If `o` is `None`, then `n` does not have the value of any integer that fits the type.
--
-- `integer` maps an element of the type to its value.
abbrev pub IsConverted : {A : Type 0} → Decimal → (A → ℤ) → (A → Type 0) → Option A → Type 0
IsConverted {A} n integer Fits o = record {
  some : IfSome o (λ x. HasValue n (integer x));
  none : IfNone o ((x : A) → Fits x → HasValue n (integer x) → ⊥);
}

module _ {A : Type 0} (integer : A → ℤ) (Fits : A → Type 0) (n : Decimal) where
  -- If `n` does not have an integer value below `10 ^ 20`, and the type contains only such values,
  -- the conversion of `n` is `None`.
  none_near : {o : Option A} → ((x : A) → Fits x → nat_abs (integer x) < 10 ^ 20) → ((z : ℤ) → nat_abs z < 10 ^ 20 → HasValue n z → ⊥)
      → o ≡ None → IsConverted n integer Fits o
  none_near near none e = rw e (record { some = tt; none = λ x f. none (integer x) (near x f) })

  -- If `n` has the integer value `v` below `10 ^ 20`, the conversion of `n` is `v` if `v` fits the
  -- type, and `None` otherwise.
  from_value : {E : Type 0} (cast : ℤ → A) (FitsCast : ℤ → Type 0) → ((x : A) → Fits x → FitsCast (integer x))
      → ((z : ℤ) → FitsCast z → integer (cast z) ≡ z) → (v : ℤ) {o : Option A} (r : Result A E) → IsPlain n → HasValue n v
      → nat_abs v < 10 ^ 20 → OkIff r (FitsCast (held v)) (cast (held v)) → o ≡ result_ok r → IsConverted n integer Fits o
  from_value {E} cast FitsCast fits exact v (Ok x) plain has near t e =
      let f : FitsCast (held v) × (x ≡ cast (held v)) = OkIff-at_ok {T = A} {E = E} (Ok x) (FitsCast (held v)) (cast (held v)) x t refl in
      rw e (record { some = subst (HasValue n) (sym (held_is v near) ∙ (sym (exact (held v) f.0) ∙ ap integer (sym f.1))) has; none = tt })
  from_value {E} cast FitsCast fits exact v (Err d) plain has near t e =
      rw e (record {
        some = tt;
        none = λ x f h. OkIff-at_err (Err d) (FitsCast (held v)) (cast (held v)) d t refl
            (subst FitsCast (value_one n (integer x) v plain h has ∙ sym (held_is v near)) (fits x f));
      })

-- A checked cast of the integer value `v` of a number converts the number to a signed type.
pub signed : {E : Type 0} (width : Width) {n : Decimal} (v : ℤ) {o : Option ℤ} (r : Result ℤ E) → IsPlain n → HasValue n v
    → nat_abs v < 10 ^ 20 → OkIff r (FitsSigned width (held v)) (held v) → o ≡ result_ok r → IsConverted n (λ z. z) (FitsSigned width) o
signed width {n} = from_value (λ z. z) (FitsSigned width) n (λ z. z) (FitsSigned width) (λ z f. f) (λ z f. refl)

-- A checked cast of the integer value `v` of a number converts the number to an unsigned type.
pub unsigned : {E : Type 0} (width : Width) {n : Decimal} (v : ℤ) {o : Option ℕ} (r : Result ℕ E) → IsPlain n → HasValue n v
    → nat_abs v < 10 ^ 20 → OkIff r (FitsUnsigned width (held v)) (nat_abs (held v)) → o ≡ result_ok r
    → IsConverted n pos (λ m. m < 2 ^ bits width) o
unsigned width {n} = from_value pos (λ m. m < 2 ^ bits width) n nat_abs (FitsUnsigned width)
    (λ m l. (omega (arith, ints), omega (arith, ints))) (λ z f. sym (nonneg z f.0))

-- If a number does not have an integer value below `10 ^ 20`, its conversion to an unsigned type is
-- `None`.
pub none_unsigned : (width : Width) (n : Decimal) {o : Option ℕ} → 2 ^ bits width < 10 ^ 20
    → ((z : ℤ) → nat_abs z < 10 ^ 20 → HasValue n z → ⊥) → o ≡ None → IsConverted n pos (λ m. m < 2 ^ bits width) o
none_unsigned width n narrow = none_near pos (λ m. m < 2 ^ bits width) n (λ m l. omega arith)

-- If a number does not have an integer value below `10 ^ 20`, its conversion to a signed type is
-- `None`.
pub none_signed : (width : Width) (n : Decimal) {o : Option ℤ} → ((z : ℤ) → FitsSigned width z → nat_abs z < 10 ^ 20)
    → ((z : ℤ) → nat_abs z < 10 ^ 20 → HasValue n z → ⊥) → o ≡ None → IsConverted n (λ z. z) (FitsSigned width) o
none_signed width n = none_near (λ z. z) (FitsSigned width) n
