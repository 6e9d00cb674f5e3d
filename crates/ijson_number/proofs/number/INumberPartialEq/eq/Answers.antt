use Rattle.ijson_number.proofs.Common.{◌≡◌, ◌∙◌, ap₂, arith, rules, FitsSigned, ints, w32, Num, number_eq}
use Rattle.ijson_number.proofs.storing.FormCases.{same_signs, other_signs, digits_tell, signs_tell, exponents_tell}
use Rattle.ijson_number.proofs.storing.EqualWords.{words_tell}
use Rattle.ijson_number.proofs.number.INumberPartialEq.eq.Goals.{then-a-b-via-then-a-b, then-a-b-via-else-a-b+then-a-b-2}
use Rattle.ijson_number.proofs.number.INumberPartialEq.eq.Goals as goal

pub returns-then-a-b : goal.returns-then-a-b
returns-then-a-b c = elim c.then-a-b.branch [
  | then-a-b-via-then-a-b w ↦
      signs_tell c.stripped-a.result c.stripped-b.result _ _ c.stripped-a.ensures c.stripped-b.ensures (other_signs _ _ w.if-a-b.true)
  | then-a-b-via-else-a-b+then-a-b-2 w ↦
      exponents_tell c.stripped-a.result c.stripped-b.result _ _ c.stripped-a.ensures c.stripped-b.ensures (λ e. w.if-a-b-2.true (cc))
]

pub returns : goal.returns
returns c =
    let x = c.stripped-a.result in
    let y = c.stripped-b.result in
    let f : FitsSigned w32 x.exponent = search rules in
    let g : FitsSigned w32 y.exponent = search rules in
    let same : x.exponent ≡ y.exponent = omega (arith, ints, c.if-a-b-2.false) in
    digits_tell x y _ _ c.stripped-a.ensures c.stripped-b.ensures c.eq.result (same_signs x.negative y.negative c.if-a-b.false) same
    c.eq.ensures

pub returns-in-Some : goal.returns-in-Some
returns-in-Some c =
    words_tell c.self.inside.stored c.other.inside.stored c.in-Some.is_same c.self.inside.num c.other.inside.num c.self.invariant c.other.invariant
    c.in-Some.ensures.same c.in-Some.ensures.different
    ∙ ap₂ (λ (x y : Num). number_eq x.decimal y.decimal) c.self.view_is c.other.view_is
