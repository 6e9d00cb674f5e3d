use Rattle.ijson_number.proofs.Common.{◌≡◌, ℕ, ◌+◌, ◌-◌, ◌*◌, ◌^◌, ◌≤◌, min, List, length, take, drop, ap, ◌∙◌, arith, number_from_digits_after}
use Rattle.ijson_number.proofs.Common.{length-take-le, take_rest, chunk, AllDigits, value, digits_from_text, IsCount, IsTaken}
use Rattle.ijson_number.proofs.parsing.PrefixDigits.{at_most_16, few, room_behind, row_digits, row_in_text, row_small, row_taken, row_value}
use Rattle.ijson_number.proofs.parsing.PrefixDigits.{few_fit, few_taken, taken_behind}
use Rattle.ijson_number.proofs.fast_reader.take_lanes.Goals as goal

pub number_of-requires-clause-digits : goal.number_of-requires-clause-digits
number_of-requires-clause-digits c =
    row_digits c.args.number c.args.bytes.now c.args.most c.digit_count.result c.min-count.result (omega arith) c.digit_count.ensures
    c.min-count.ensures

pub take_digits-requires-then-count-lt-FEW : goal.take_digits-requires-then-count-lt-FEW
take_digits-requires-then-count-lt-FEW c =
    few_fit c.args.number c.args.bytes.now c.args.most c.digit_count.result c.min-count.result (omega arith) c.digit_count.ensures
    c.min-count.ensures c.requires

pub returns-then-count-lt-FEW : goal.returns-then-count-lt-FEW
returns-then-count-lt-FEW c =
    few_taken c.args.number c.args.bytes.now c.args.most c.digit_count.result c.min-count.result (omega arith) c.digit_count.ensures
    c.min-count.ensures (omega arith) _ _ c.take_digits-then-count-lt-FEW.ensures

pub overflow_mul-longer : goal.overflow_mul-longer
overflow_mul-longer c =
    let small = row_small c.args.number c.args.bytes.now c.args.most c.digit_count.result c.min-count.result (omega arith)
    c.digit_count.ensures c.min-count.ensures c.requires in
    rw c.power_of_ten.ensures (omega (arith, small))

pub overflow_add-longer : goal.overflow_add-longer
overflow_add-longer c =
    let small = row_small c.args.number c.args.bytes.now c.args.most c.digit_count.result c.min-count.result (omega arith)
    c.digit_count.ensures c.min-count.ensures c.requires in
    rw (c.power_of_ten.ensures, c.number_of.ensures) (omega (arith, small))

pub returns-then-count-lt-LANES : goal.returns-then-count-lt-LANES
returns-then-count-lt-LANES c =
    rw (c.power_of_ten.ensures, c.number_of.ensures)
    (row_taken c.args.number c.args.bytes.now c.args.most c.digit_count.result c.min-count.result (omega arith) c.digit_count.ensures
    c.min-count.ensures c.if-count-lt-LANES.true)

-- In this module, `count` is at least 16, so all 16 bytes of the vector are digits.
module _ (number : ℕ) (bytes : List ℕ) (most found count power read : ℕ) (buffer : 16 ≤ length bytes)
    (is : IsCount (chunk 0 16 bytes) found) (least : count ≡ min found most) (many : 16 ≤ count) (p : power ≡ 10 ^ count)
    (v : read ≡ value (take count (chunk 0 16 bytes))) where
  fits : 16 ≤ most
  fits = omega (arith, few number bytes most found count buffer is least, many)

  whole : count ≡ 16
  whole = omega (arith, many, at_most_16 number bytes most found count buffer is least)

  taken : number * power + read ≡ number_from_digits_after 10 number (digits_from_text (take 16 bytes))
  taken = rw (p, v) (row_value number bytes most found count buffer is least)
      ∙ ap (λ k. number_from_digits_after 10 number (digits_from_text (take k bytes))) whole

  digits : AllDigits (take 16 bytes)
  digits = rw whole at (row_in_text number bytes most found count buffer is least)

  room_left : (number + 1) * 10 ^ most ≤ 10 ^ 19 → (number * power + read + 1) * 10 ^ (most - 16) ≤ 10 ^ 19
  room_left room = rw taken (room_behind number (take 16 bytes) 16 most digits (length-take-le 16 bytes buffer) fits room)

  all_taken : (longest more : ℕ) → IsTaken (number * power + read) (take (length bytes - 16) (drop 16 bytes)) (most - 16) longest more
      → IsTaken number bytes most longest (16 + more)
  all_taken longest more t =
      taken_behind number (number * power + read) bytes 16 most longest more fits buffer digits taken (rw (take_rest bytes 16) at t)

pub take_digits-longest-requires : goal.take_digits-longest-requires
take_digits-longest-requires c =
    room_left c.args.number c.args.bytes.now c.args.most c.digit_count.result c.min-count.result _ _
    (omega arith) c.digit_count.ensures c.min-count.ensures (omega arith) c.power_of_ten.ensures c.number_of.ensures c.requires

pub returns : goal.returns
returns c = all_taken c.args.number c.args.bytes.now c.args.most c.digit_count.result c.min-count.result _ _
    (omega arith) c.digit_count.ensures c.min-count.ensures
    (omega arith) c.power_of_ten.ensures c.number_of.ensures c.take_digits-longest.result.0 c.take_digits-longest.result.1
    c.take_digits-longest.ensures
