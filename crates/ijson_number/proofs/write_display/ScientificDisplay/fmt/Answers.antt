use Rattle.ijson_number.proofs.Common.{◌≡◌, arith, length, ints, has_written_of_eq}
use Rattle.ijson_number.proofs.writing.Writing.{one_digit, more_digits}
use Rattle.ijson_number.proofs.write_display.ScientificDisplay.fmt.Goals as goal

pub returns-then-is_empty-clause-writes : goal.returns-then-is_empty-clause-writes
returns-then-is_empty-clause-writes g c = λ p ok.
    let s = c.args.self.now in
    let e = c.split_at.ensures in
    let n : length c.split_at.result.1.now ≡ 0 = grind arith in
    has_written_of_eq _ _ _ _ _
    (one_digit s.digits.now c.split_at.result.0.now c.split_at.result.1.now s.place _ e.front e.back n s.some s.low s.high
    (let l = s.low in let h = s.high in omega (arith, ints))) (c.write.ensures.writes p ok)

pub returns-else-is_empty-clause-writes : goal.returns-else-is_empty-clause-writes
returns-else-is_empty-clause-writes g c = λ p ok.
    let s = c.args.self.now in
    let e = c.split_at.ensures in
    has_written_of_eq _ _ _ _ _
    (more_digits s.digits.now c.split_at.result.0.now c.split_at.result.1.now s.place _ e.front e.back (λ n. grind arith) s.low s.high
    (let l = s.low in let h = s.high in omega (arith, ints))) (c.write-else-is_empty.ensures.writes p ok)
