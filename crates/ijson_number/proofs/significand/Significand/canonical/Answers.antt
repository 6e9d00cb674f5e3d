use Rattle.ijson_number.proofs.Common.{◌≡◌, ◌∙◌, sym, refl, inl, inr, rules, arith, ◌+ℤ◌, pos, ints, to_z-of_z, w32, of_z, to_z}
use Rattle.ijson_number.proofs.storing.Significands.{canonical_is, no_more, zero_number}
use Rattle.ijson_number.proofs.storing.WholeValues.{tens_few}
use Rattle.ijson_number.proofs.significand.Significand.canonical.Goals as goal

pub returns-then-self-eq0-clause-number : goal.returns-then-self-eq0-clause-number
returns-then-self-eq0-clause-number c =
    let s = c.args.self in
    sym (zero_number s.negative s.magnitude s.exponent s.point c.if-self-eq0.true ∙ rw c.if-self-eq0.true refl)

pub returns : goal.returns
returns c =
    let s = c.args.self in
    let t = c.strip_trailing_zeros.result in
    let e = c.strip_trailing_zeros.ensures in
    let low = c.requires.low in
    let high = c.requires.high in
    let end : to_z w32 (of_z w32 (to_z w32 (of_z w32 s.exponent) +ℤ pos 20)) ≡ s.exponent +ℤ pos 20 =
    rw (to_z-of_z w32 s.exponent (search rules)) (to_z-of_z w32 (s.exponent +ℤ pos 20) (omega (arith, ints))) in
    let above = λ (z : t.magnitude ≡ 0). c.if-self-eq0.false (e.tens.magnitude ∙ rw z (omega arith)) in
    let few = tens_few s.magnitude t.magnitude e.tens.count (search rules) above e.tens.magnitude in
    let last = e.stripped (omega (arith, ints, end, few, e.tens.exponent)) in
    record {
      number = canonical_is s t (search rules) c.if-self-eq0.false e.tens last e.negative e.point;
      low = omega (arith, ints, e.tens.exponent);
      high = elim e.most [ inl less ↦ omega (arith, ints, end, less) | inr same ↦ omega (arith, ints, same) ];
      fewer = omega (arith, no_more t.magnitude e.tens.count, e.tens.magnitude);
      stripped = λ _. last;
    }
