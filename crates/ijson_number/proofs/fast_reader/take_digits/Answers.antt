use Rattle.ijson_number.proofs.Common.{◌≡◌, ℕ, ◌*◌, ◌+◌, ◌-◌, ◌<◌, ◌^◌, true, get_or, sym, ◌∙◌, arith, nat_tests, IsDigit}
use Rattle.std.specs.Char.{is_ascii_digit}
use Rattle.ijson_number.proofs.parsing.DigitValues.{append_step, digits_more, step_small}
use Rattle.ijson_number.proofs.fast_reader.take_digits.Goals.{Then-is_ascii_digit}
use Rattle.ijson_number.proofs.fast_reader.take_digits.Goals as goal

digit_is : (b : ℕ) → is_ascii_digit b ≡ true → IsDigit b
digit_is b h = (grind (arith, nat_tests), grind (arith, nat_tests))

-- The byte for which `is_ascii_digit` returned `true` is a digit.
digit : (c : Then-is_ascii_digit) → IsDigit (get_or c.args.bytes.now c.loop-count.count 0)
digit c = digit_is (get_or c.args.bytes.now c.loop-count.count 0) (sym c.is_ascii_digit.ensures.value ∙ c.if-is_ascii_digit.true)

-- Appending the digit at index `count` keeps the number below `10 ^ 19`.
small : (c : Then-is_ascii_digit) → c.loop-count.longer * 10 + (get_or c.args.bytes.now c.loop-count.count 0 - 48) < 10 ^ 19
small c =
    let l = c.loop-count in
    rw l.invariant.value
    (step_small c.args.number c.args.bytes.now l.count c.args.most l.invariant.digits c.if-count-bytes.true
    c.loop-count-test.true (digit c) c.requires)

pub overflow_mul-longer : goal.overflow_mul-longer
overflow_mul-longer c = let s = small c in grind (arith, s)

pub overflow_add-longer : goal.overflow_add-longer
overflow_add-longer c =
    let s = small (goal.at.overflow_add-longer c).Then-is_ascii_digit in
    let from = c.from.ensures in
    grind (arith, s, from)

pub loop-count-preserved : goal.loop-count-preserved
loop-count-preserved c =
    let l = c.loop-count in
    record {
      few = omega arith;
      within = omega arith;
      digits = digits_more c.args.bytes.now l.count l.invariant.digits c.if-count-bytes.true
          (digit (goal.at.loop-count-preserved c).Then-is_ascii_digit);
      value = rw (l.invariant.value, c.from.ensures) (append_step c.args.number c.args.bytes.now l.count c.if-count-bytes.true);
    }
