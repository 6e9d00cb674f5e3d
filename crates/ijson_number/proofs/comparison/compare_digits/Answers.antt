use Rattle.ijson_number.proofs.Common.{◌∙◌, sym, arith}
use Rattle.ijson_number.proofs.comparing.NumberOrder.{same_digit, row_ends}
use Rattle.ijson_number.proofs.comparison.compare_digits.Goals as goal

pub loop-at-preserved : goal.loop-at-preserved
loop-at-preserved g c = record {
  looks = omega arith;
  same = c.loop-at.invariant.same ∙ same_digit _ _ c.loop-at.at _ _ (omega (arith, c.count-count.ensures))
      (omega (arith, c.count-other_count.ensures)) c.digit-digit.ensures.digit c.digit-other.ensures.digit c.if-digit-other.false;
}

pub returns : goal.returns
returns g c = record {
  order = c.cmp-2.ensures ∙ rw (c.count-count.ensures, c.count-other_count.ensures)
      (sym (c.loop-at.invariant.same ∙ row_ends _ _ c.loop-at.at (omega (arith, c.count-count.ensures, c.count-other_count.ensures))));
  grows = omega arith;
  bounded = omega arith;
}
