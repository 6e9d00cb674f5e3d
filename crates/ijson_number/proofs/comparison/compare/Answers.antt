use Rattle.ijson_number.proofs.Common.{◌∙◌, sym}
use Rattle.ijson_number.proofs.comparing.NumberOrder.{signs_cmp, zeros_cmp, below_zero_is, above_zero_is, tests_apart, tests_same}
use Rattle.ijson_number.proofs.comparison.compare.Goals as goal

pub returns-then-ne-clause-order : goal.returns-then-ne-clause-order
returns-then-ne-clause-order g c =
    let a = (g.D.DigitRow.num c.args.a.now).decimal in
    let b = (g.D.DigitRow.num c.args.b.now).decimal in
    c.cmp.ensures ∙ signs_cmp a b c.sign-sign.result c.sign-other_sign.result c.sign-sign.ensures c.sign-other_sign.ensures
    (tests_apart c.sign-sign.result c.sign-other_sign.result c.ne.result c.ne.ensures c.if-ne.true)

-- After the test `sign != other_sign` has failed, the two signs are equal.
pub returns-in-Less-clause-order : goal.returns-in-Less-clause-order
returns-in-Less-clause-order g c =
    c.compare_magnitudes.ensures.order ∙ below_zero_is (g.D.DigitRow.num c.args.a.now) (g.D.DigitRow.num c.args.b.now) _ _
    c.sign-sign.ensures c.sign-other_sign.ensures (tests_same _ _ _ c.ne.ensures c.if-ne.false) c.in-Less.is

pub returns-in-Equal-clause-order : goal.returns-in-Equal-clause-order
returns-in-Equal-clause-order g c =
    sym (zeros_cmp (g.D.DigitRow.num c.args.a.now) (g.D.DigitRow.num c.args.b.now) _ _
    c.sign-sign.ensures c.sign-other_sign.ensures (tests_same _ _ _ c.ne.ensures c.if-ne.false) c.in-Equal.is)

pub returns-in-Greater-clause-order : goal.returns-in-Greater-clause-order
returns-in-Greater-clause-order g c =
    c.compare_magnitudes-in-Greater.ensures.order ∙ above_zero_is (g.D.DigitRow.num c.args.a.now) (g.D.DigitRow.num c.args.b.now) _ _
    c.sign-sign.ensures c.sign-other_sign.ensures (tests_same _ _ _ c.ne.ensures c.if-ne.false) c.in-Greater.is
