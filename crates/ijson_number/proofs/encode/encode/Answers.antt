use Rattle.ijson_number.proofs.Common.{◌≡◌, ◌∙◌, ap, sym, subst, arith, false, true, OnErr, form_of, is_digits, significand_number, IfOk, stored_form}
use Rattle.ijson_number.proofs.storing.Significands.{fewer_tens, integer_form_is, small_less}
use Rattle.ijson_number.proofs.encode.encode.Goals.{After-strip_trailing_zeros-stripped}
use Rattle.ijson_number.proofs.encode.encode.Goals as goal

-- Stripping trailing zeros keeps the number that the significand denotes.
same : (c : After-strip_trailing_zeros-stripped) → significand_number c.strip_trailing_zeros-stripped.result ≡ significand_number c.args.significand
same c =
    let e = c.strip_trailing_zeros-stripped.ensures in
    let small = c.requires.magnitude in
    fewer_tens c.args.significand c.strip_trailing_zeros-stripped.result (omega arith) e.tens e.negative e.point

pub common_word-requires-clause-stripped : goal.common_word-requires-clause-stripped
common_word-requires-clause-stripped c = c.strip_trailing_zeros-stripped.ensures.stripped

pub returns-in-Some-clause-form : goal.returns-in-Some-clause-form
returns-in-Some-clause-form c =
    let s = c.args.significand in
    let small = c.requires.magnitude in
    let no_point : s.point ≡ false = grind arith in
    c.in-Some.ensures.word (significand_number s) ∙ sym (integer_form_is s (omega arith) no_point (c.requires.integer no_point))

pub returns-in-Some-common_word-clause-form : goal.returns-in-Some-common_word-clause-form
returns-in-Some-common_word-clause-form c =
    c.in-Some-common_word.ensures.word
    ∙ ap form_of (same (goal.at.returns-in-Some-common_word-clause-form c).After-strip_trailing_zeros-stripped)

pub encode_wide-requires-2-clause-small : goal.encode_wide-requires-2-clause-small
encode_wide-requires-2-clause-small c =
    let e = c.strip_trailing_zeros-stripped.ensures in
    small_less c.args.significand c.strip_trailing_zeros-stripped.result c.requires e.tens e.most e.negative e.point (grind arith)

pub returns : goal.returns
returns c =
    let r = c.encode_wide-2.result in
    subst (λ n. record { form : IfOk r (λ s. stored_form s ≡ form_of n); refused : OnErr r (is_digits (form_of n) ≡ true) })
    (same (goal.at.returns c).After-strip_trailing_zeros-stripped) c.encode_wide-2.ensures
