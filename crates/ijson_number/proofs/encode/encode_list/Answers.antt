use Rattle.ijson_number.proofs.Common.{◌≡◌, ◌∙◌, ◌++◌, ap, sym, rules, to_z-of_z, w32, spelled_digits, long_form, digits_from_text}
use Rattle.ijson_number.proofs.parsing.CanonicalSpellings.{count_is, joined}
use Rattle.ijson_number.proofs.storing.FormCases.{stored_form}
use Rattle.ijson_number.proofs.encode.encode_list.Goals as goal

pub invariant_of-long : goal.invariant_of-long
invariant_of-long c =
    let s = c.args.spelling.now in
    let is : c.push_values-2.new.digits.items ≡ spelled_digits s =
    joined s.front.now s.back.now c.push_values.new.digits.items c.push_values-2.new.digits.items
    (c.in_ok-push_values.ensures ∙ ap (λ x. x ++ digits_from_text s.front.now) c.in_ok-digits.ensures.items) c.in_ok-push_values-2.ensures in
    record {
      stripped = rw is c.requires.canonical.stored;
      many = λ h. rw (is, count_is s.front.now s.back.now) (c.requires.many (rw (to_z-of_z w32 s.exponent (search rules)) at h));
    }

pub returns : goal.returns
returns c =
    let s = c.args.spelling.now in
    let is : c.push_values-2.new.digits.items ≡ spelled_digits s =
    joined s.front.now s.back.now c.push_values.new.digits.items c.push_values-2.new.digits.items
    (c.in_ok-push_values.ensures ∙ ap (λ x. x ++ digits_from_text s.front.now) c.in_ok-digits.ensures.items) c.in_ok-push_values-2.ensures in
    ap long_form c.in_ok-long.ensures.ok
    ∙ rw (is, to_z-of_z w32 s.exponent (search rules)) (sym (stored_form s.negative (spelled_digits s) s.exponent s.point c.requires.canonical.stored))
