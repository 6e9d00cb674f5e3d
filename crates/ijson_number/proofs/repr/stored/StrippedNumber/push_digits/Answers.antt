use Rattle.ijson_number.proofs.Common.{inl, inr, ◌≡◌, ◌∙◌, ap, true, arith, rules, nat_abs, pos, to_z-of_z, common_steps, w32, to_z, of_z}
use Rattle.ijson_number.proofs.BooleanTests.{test_not_le}
use Rattle.ijson_number.proofs.writing.WordTexts.{row_shown}
use Rattle.ijson_number.proofs.repr.stored.StrippedNumber.push_digits.Goals as goal

pub returns-then-self-ge0-clause-rows : goal.returns-then-self-ge0-clause-rows
returns-then-self-ge0-clause-rows c _ rows = elim rows [
  | inl split ↦ (let a = split.below_zero in let b = split.between in grind (arith, common_steps))
  | inr unsplit ↦ c.push_unsplit.ensures.rows unsplit
]

pub returns-clause-pushed : goal.returns-clause-pushed
returns-clause-pushed c =
    let n = c.args.self.now in
    let exact = to_z-of_z w32 n.exponent (search rules) in
    let point : n.point ≡ true = grind arith in
    rw (row_shown n c.unsigned_abs-scale.result point (rw exact at (test_not_le (pos 0) (to_z w32 (of_z w32 n.exponent)) c.if-self-ge0.false))
    (c.unsigned_abs-scale.ensures.value ∙ ap nat_abs exact) c.if-scale-self.false) at c.push_split.ensures
