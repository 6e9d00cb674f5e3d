use Rattle.ijson_number.proofs.Common.{◌≡◌, ◌∙◌, ◌++◌, ◌≤◌, ◌^◌, ap, sym, subst, arith, nat_abs, Decimal, IsPlain, is_digits, value, abs_signed}
use Rattle.ijson_number.proofs.Common.{spelled_number, canonical_number}
use Rattle.ijson_number.specs.declared.general_reader.CanonicalSpelling.{CanonicalSpelling}
use Rattle.ijson_number.specs.declared.significand.Significand.{Significand}
use Rattle.ijson_number.proofs.AnyAnswer.{where_refused}
use Rattle.ijson_number.proofs.parsing.CanonicalSpellings.{many_digits}
use Rattle.ijson_number.proofs.storing.FormCases.{long_form}
use Rattle.ijson_number.proofs.storing.Significands.{encoded}
use Rattle.ijson_number.proofs.encode.encode_spelling.Goals as goal

-- If a significand and a spelling denote the same number, the magnitude is the value of the spelled
-- digits.
magnitude_is : (s : Significand) (t : CanonicalSpelling) → canonical_number s ≡ spelled_number t → s.magnitude ≡ value (t.front.now ++ t.back.now)
magnitude_is s t is =
    sym (abs_signed s.negative s.magnitude) ∙ ap (λ (n : Decimal). nat_abs n.mantissa) is
    ∙ abs_signed t.negative (value (t.front.now ++ t.back.now))

pub word-requires : goal.word-requires
word-requires c = subst IsPlain (sym c.in-Some.ensures.some) c.requires.num.plain

pub encode_list-requires-clause-many : goal.encode_list-requires-clause-many
encode_list-requires-clause-many c = λ _.
    let s = c.args.spelling.now in
    let large : 2 ^ 64 ≤ value (s.front.now ++ s.back.now) = rw (abs_signed s.negative (value (s.front.now ++ s.back.now))) at
    c.in_default.ensures.none in
    many_digits s.front.now s.back.now c.requires.front c.requires.back (omega (arith, large))

pub returns-in_default : goal.returns-in_default
returns-in_default c =
    let form = long_form (spelled_number c.args.spelling.now) c.in_default.ensures.none in record {
      form = encoded c.encode_list.result _ _ form c.encode_list.ensures;
      refused = where_refused c.encode_list.result (ap is_digits form);
    }

pub encode_list-requires-then-significand-ge-DIGITS_END-clause-many : goal.encode_list-requires-then-significand-ge-DIGITS_END-clause-many
encode_list-requires-then-significand-ge-DIGITS_END-clause-many c = λ _.
    let s = c.args.spelling.now in
    let large = c.if-significand-ge-DIGITS_END.true in
    many_digits s.front.now s.back.now c.requires.front c.requires.back
    (omega (arith, large, magnitude_is c.in-Some.significand s c.in-Some.ensures.some))
