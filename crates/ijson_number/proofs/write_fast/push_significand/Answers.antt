use Rattle.ijson_number.proofs.Common.{◌≡◌, ◌++◌, ◌∙◌, ap, sym, arith, rules, append-nil, pos, true, decimal, string_bytes, ints, to_z-of_z, w8, w32}
use Rattle.ijson_number.proofs.Common.{of_z, to_z, Decimal, stripped_number, stripped_digits, digits_text, canonical_number}
use Rattle.ijson_number.proofs.AnyAnswer.{where_refused}
use Rattle.ijson_number.proofs.writing.Beginnings.{begun_as}
use Rattle.ijson_number.proofs.writing.WordTexts.{digits_shown, none_shown}
use Rattle.ijson_number.proofs.write_fast.push_significand.Goals.{After-canonical-canonical}
use Rattle.ijson_number.proofs.write_fast.push_significand.Goals as goal

pub returns-then-magnitude-eq0-clause-written : goal.returns-then-magnitude-eq0-clause-written
returns-then-magnitude-eq0-clause-written c =
    let a = c.args in
    let old = string_bytes a.out.now in
    sym (ap (λ n. old ++ digits_text (stripped_digits (stripped_number (pos n) a.exponent true))) c.if-magnitude-eq0.true
    ∙ ap (λ l. old ++ l) (none_shown a.exponent true) ∙ append-nil old)

number : (c : After-canonical-canonical)
    → canonical_number c.canonical-canonical.result ≡ stripped_number (pos c.args.magnitude) c.args.exponent true
number c =
    let from : to_z w32 (of_z w32 c.from.result) ≡ c.args.exponent =
    to_z-of_z w32 c.from.result (search rules) ∙ c.from.ensures ∙ to_z-of_z w8 c.args.exponent (search rules) in
    rw from at c.canonical-canonical.ensures.number

shown : (c : After-canonical-canonical) → decimal c.canonical-canonical.result.magnitude
    ≡ digits_text (stripped_digits (stripped_number (pos c.args.magnitude) c.args.exponent true))
shown c =
    let s = c.canonical-canonical in
    let last = s.ensures.stripped c.if-magnitude-eq0.false in
    digits_shown s.result (omega arith) (search rules) ∙ ap (λ n. digits_text (stripped_digits n)) (number c)

pub returns-in_err-push_integer-clause-refused : goal.returns-in_err-push_integer-clause-refused
returns-in_err-push_integer-clause-refused c =
    where_refused _ (begun_as (string_bytes c.args.out.now) (string_bytes c.push_integer.new.out) _ _ c.in_err-push_integer.ensures
    (shown (goal.at.returns-in_err-push_integer-clause-refused c).After-canonical-canonical))

pub returns-clause-written : goal.returns-clause-written
returns-clause-written c = c.in_ok-push_integer.ensures
    ∙ ap (λ l. string_bytes c.args.out.now ++ l) (shown (goal.at.returns-clause-written c).After-canonical-canonical)

pub returns-clause-exponent : goal.returns-clause-exponent
returns-clause-exponent c =
    let is = ap (λ (n : Decimal). n.exponent) (number (goal.at.returns-clause-exponent c).After-canonical-canonical) in
    let exact = to_z-of_z w32 c.canonical-canonical.result.exponent (search rules) in
    omega (arith, ints, is, exact)
