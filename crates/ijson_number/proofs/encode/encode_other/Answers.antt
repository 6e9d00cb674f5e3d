use Rattle.ijson_number.proofs.Common.{◌≡◌, ◌∙◌, ap, sym, subst, rules, arith, ◌<ℤ◌, negsuc, ints, to_z-of_z, w32, IsPlain, form_of, is_digits}
use Rattle.ijson_number.proofs.Common.{digits_form, stripped_number, signed, canonical_number, significand_number, significand_of}
use Rattle.ijson_number.proofs.AnyAnswer.{where_refused}
use Rattle.ijson_number.proofs.storing.Significands.{deep_form, encoded}
use Rattle.ijson_number.proofs.encode.encode_other.Goals.{After-canonical-canonical, Then-exponent-ltminus7}
use Rattle.ijson_number.proofs.encode.encode_other.Goals as goal

number : (c : After-canonical-canonical)
    → canonical_number c.canonical-canonical.result ≡ stripped_number (signed c.args.negative c.args.magnitude) c.args.exponent c.args.point
number c = rw (to_z-of_z w32 c.args.exponent (search rules)) at c.canonical-canonical.ensures.number

pub word-requires : goal.word-requires
word-requires c = subst IsPlain (sym (number c)) c.requires.small.num.plain

pub returns-in-Some-clause-form : goal.returns-in-Some-clause-form
returns-in-Some-clause-form c = c.in-Some.ensures.word ∙ ap form_of (number (goal.at.returns-in-Some-clause-form c).After-canonical-canonical)

-- A number whose fraction has eight or more digits and does not end with 0 is stored as a list of
-- digits.
deep : (c : Then-exponent-ltminus7) → let n = significand_of c.args.negative c.args.magnitude c.args.exponent c.args.point in
    form_of (significand_number n) ≡ digits_form (canonical_number n)
deep c =
    let exact = to_z-of_z w32 c.args.exponent (search rules) in
    let low : c.args.exponent <ℤ negsuc 6 = omega (arith, ints, exact, c.if-exponent-ltminus7.true) in
    deep_form (significand_of c.args.negative c.args.magnitude c.args.exponent c.args.point) c.requires.small low
    (c.requires.stripped (omega (arith, ints)))

pub returns-then-exponent-ltminus7 : goal.returns-then-exponent-ltminus7
returns-then-exponent-ltminus7 c =
    let form = deep (goal.at.returns-then-exponent-ltminus7 c).Then-exponent-ltminus7 in record {
      form = encoded c.block.result _ _ form (rw (to_z-of_z w32 c.args.exponent (search rules)) at c.block.ensures);
      refused = where_refused c.block.result (ap is_digits form);
    }
