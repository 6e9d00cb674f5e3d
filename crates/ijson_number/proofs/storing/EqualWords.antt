-- The comparison of two words decides whether their numbers are equal.
use Rattle.ijson_number.proofs.Common.{◌≡◌, Bool, true, false, refl, ap, sym, ◌∙◌, Decimal, form_of, number_eq, is_eq, equal_same, same_equal}
use Rattle.ijson_number.proofs.Common.{tests_equal, false_from_ne_true, IsNum, form_number}
use Rattle.std.specs.Prelude.{IsTrue, IsFalse}
use Rattle.ijson_number.proofs.parsing.Denotes.{same_decimal}
use Rattle.ijson_number.specs.private.Stored.{IsForm, IsOtherWord, stored_decimal, stored_form}
use Rattle.ijson_number.specs.declared.repr.stored.Stored.{Stored}

-- If `is_same` is true only for equal forms, and false only for different forms with the same
-- decimal point, `is_same` is the equality of the numbers.
pub words_tell : (s t : Stored) (is_same : Bool) → IsNum (stored_decimal s) → IsNum (stored_decimal t) → IsForm s → IsForm t
    → (IsTrue is_same → stored_form s ≡ stored_form t) → (IsFalse is_same → IsOtherWord s t) → is_same ≡ number_eq (stored_decimal s) (stored_decimal t)
words_tell s t true _ _ _ _ same _ =
    let is : stored_decimal s ≡ stored_decimal t = ap form_number (same refl) in
    sym (ap is_eq (same_equal (stored_decimal s) (stored_decimal t) (ap (λ (n : Decimal). n.mantissa) is) (ap (λ (n : Decimal). n.exponent) is)))
words_tell s t false k l form form' _ different =
    sym (false_from_ne_true (number_eq (stored_decimal s) (stored_decimal t)) (λ is.
    let parts = equal_same (stored_decimal s) (stored_decimal t) k.plain l.plain (tests_equal _ is) in
    (different refl).form (sym form
    ∙ ap form_of (same_decimal _ _ _ _ _ _ parts.0 parts.1 (different refl).point) ∙ form')))
