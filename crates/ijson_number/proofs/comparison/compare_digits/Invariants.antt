use Rattle.ijson_number.proofs.Common.{◌≡◌, ◌+◌, ◌*◌, drop, slice_cmp, nat_cmp, stripped_digits}
use Rattle.ijson_number.proofs.comparison.compare_digits.Given as goal

-- Loop invariant: the digits before index `at` are equal, and two inspections were made for each.
abbrev pub invariant-loop-at : goal.invariant-loop-at
invariant-loop-at g l = record {
  looks : l.looks ≡ l.initial.looks + 2 * l.at;
  same : slice_cmp nat_cmp (stripped_digits (g.D.DigitRow.num l.a).decimal) (stripped_digits (g.D.DigitRow.num l.b).decimal)
      ≡ slice_cmp nat_cmp (drop l.at (stripped_digits (g.D.DigitRow.num l.a).decimal))
      (drop l.at (stripped_digits (g.D.DigitRow.num l.b).decimal));
}
