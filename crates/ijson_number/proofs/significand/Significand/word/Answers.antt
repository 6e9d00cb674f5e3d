use Rattle.ijson_number.proofs.Common.{◌≡◌, ◌∙◌, false, sym, rules, arith, to_z-of_z, w32, canonical_number}
use Rattle.std.proofs.lemmas.Option.{IfSome_then}
use Rattle.ijson_number.proofs.storing.Significands.{canonical_integer_form}
use Rattle.ijson_number.proofs.significand.Significand.word.Goals as goal

pub returns-then-not-self-clause-word : goal.returns-then-not-self-clause-word
returns-then-not-self-clause-word c =
    let s = c.args.self in
    let exact = to_z-of_z w32 s.exponent (search rules) in
    let no_point : s.point ≡ false = grind arith in
    IfSome_then c.encode_integer.result c.encode_integer.ensures.word
    (λ t h. h (canonical_number s) ∙ sym (canonical_integer_form s c.in_ok-scaled.field-0 no_point (rw exact at c.in_ok-scaled.ensures.some)))
