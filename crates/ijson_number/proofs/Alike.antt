-- Indistinguishable numbers have the same text and the same representation. Numbers with the same
-- text are indistinguishable.
use Rattle.ijson_number.proofs.Common.{◌≡◌, ◌∙◌, ◌↔◌, ap, subst, Decimal, FormOf, form_of, Num, is_eq, Spells, num_text, equal_same, same_equal}
use Rattle.ijson_number.proofs.Common.{tests_equal}
use Rattle.ijson_number.specs.Alike.{IsAlike}
use Rattle.ijson_number.proofs.parsing.Denotes.{same_decimal, spells_one}
use Rattle.ijson_number.proofs.writing.RoundTrip.{num_text_spells}

-- Two indistinguishable `Num`s have the same decimal.
alike_same : (a b : Num) → IsAlike a.decimal b.decimal → a.decimal ≡ b.decimal
alike_same a b h =
    let e = equal_same a.decimal b.decimal a.is_num.plain b.is_num.plain (tests_equal _ h.value) in
    same_decimal a.decimal.mantissa b.decimal.mantissa a.decimal.exponent b.decimal.exponent a.decimal.point b.decimal.point e.0 e.1 h.shape

-- Indistinguishable numbers have the same representation.
pub alike_form : (a b : Num) (f : FormOf) → f ≡ form_of a.decimal → IsAlike a.decimal b.decimal → f ≡ form_of b.decimal
alike_form a b f e h = e ∙ ap form_of (alike_same a b h)

text_alike : (a b : Num) → num_text a.decimal ≡ num_text b.decimal → IsAlike a.decimal b.decimal
text_alike a b e =
    let one : a.decimal ≡ b.decimal =
    spells_one (num_text b.decimal) a.decimal b.decimal (subst (λ t. Spells t a.decimal) e (num_text_spells a.decimal a.is_num))
    (num_text_spells b.decimal b.is_num) in
    record {
      value = ap is_eq (same_equal a.decimal b.decimal (ap (λ (d : Decimal). d.mantissa) one) (ap (λ (d : Decimal). d.exponent) one));
      shape = ap (λ (d : Decimal). d.point) one;
    }

-- Two numbers have the same text if and only if they are indistinguishable.
pub text_tells : (a b : Num) → (num_text a.decimal ≡ num_text b.decimal) ↔ IsAlike a.decimal b.decimal
text_tells a b = (text_alike a b, λ h. ap num_text (alike_same a b h))
