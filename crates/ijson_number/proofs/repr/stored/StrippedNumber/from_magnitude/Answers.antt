use Rattle.ijson_number.proofs.Common.{◌≡◌, ◌<◌, ◌-◌, ◌∙◌, length, drop, take, ap, sym, subst, rules, arith, digits_of, length-decimal-le, to_z-of_z}
use Rattle.ijson_number.proofs.Common.{number_digits_of, length-drop, take_all, w8, w32, of_z, to_z, IsNum, stored_number, stripped_number, signed}
use Rattle.ijson_number.proofs.storing.IntegerWords.{zero_is, some_stored}
use Rattle.ijson_number.proofs.storing.BlockDigits.{made}
use Rattle.ijson_number.proofs.repr.stored.StrippedNumber.from_magnitude.Goals.{After-make_digits}
use Rattle.ijson_number.proofs.repr.stored.StrippedNumber.from_magnitude.Goals as goal

pub returns-then-magnitude-eq0 : goal.returns-then-magnitude-eq0
returns-then-magnitude-eq0 c =
    sym (ap (λ n. stripped_number (signed c.args.negative n) c.args.exponent c.args.point) c.if-magnitude-eq0.true
    ∙ zero_is c.args.negative c.args.exponent c.args.point)

pub write_digits-start-requires : goal.write_digits-start-requires
write_digits-start-requires c =
    let s = c.canonical-canonical in
    let last = s.ensures.stripped c.if-magnitude-eq0.false in
    (length-decimal-le 20 s.result.magnitude (omega arith) (omega arith) (search rules), omega arith)

-- The last bytes of the buffer are the canonical digits of the magnitude.
digits_are : (c : After-make_digits) → let start = c.write_digits-start.result in
    take (20 - start) (drop start c.make_digits.new.buffer) ≡ digits_of 10 c.canonical-canonical.result.magnitude
digits_are c =
    let s = c.canonical-canonical in
    let w = c.write_digits-start in
    let buffer = c.make_digits.new.buffer in
    let long : length buffer ≡ 20 = search rules in
    let some : 0 < s.result.magnitude = (let last = s.ensures.stripped c.if-magnitude-eq0.false in omega arith) in
    take_all (20 - w.result) (drop w.result buffer) (omega (arith, length-drop w.result buffer))
    ∙ made s.result.magnitude w.result w.new.buf buffer some (search rules) w.ensures.written c.make_digits.ensures

-- The number equals the number that its canonical digits and its exponent denote.
number_is : (c : After-make_digits) → let start = c.write_digits-start.result in
    let s = c.canonical-canonical.result in
    stripped_number (signed c.args.negative c.args.magnitude) c.args.exponent c.args.point
    ≡ stored_number s.negative (take (20 - start) (drop start c.make_digits.new.buffer)) (to_z w32 (of_z w32 s.exponent)) s.point
number_is c =
    let a = c.args in
    let s = c.canonical-canonical in
    let from : to_z w32 (of_z w32 c.from.result) ≡ a.exponent =
    to_z-of_z w32 c.from.result (search rules) ∙ c.from.ensures ∙ to_z-of_z w8 a.exponent (search rules) in
    let last = s.ensures.stripped c.if-magnitude-eq0.false in
    rw (to_z-of_z w32 s.result.exponent (search rules), digits_are c, number_digits_of 10 s.result.magnitude (omega arith))
    (sym (rw from at s.ensures.number))

pub invariant_of-result-2 : goal.invariant_of-result-2
invariant_of-result-2 c =
    let at = (goal.at.invariant_of-result-2 c).After-make_digits in
    let s = c.canonical-canonical in
    record {
      num = subst IsNum (number_is at) c.requires;
      stripped = rw (digits_are at) (some_stored s.result.magnitude (s.ensures.stripped c.if-magnitude-eq0.false) s.result.negative);
    }

pub returns : goal.returns
returns c = sym (number_is (goal.at.returns c).After-make_digits)
