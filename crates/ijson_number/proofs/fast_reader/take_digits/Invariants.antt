use Rattle.ijson_number.proofs.Common.{◌≡◌, ◌-◌, ◌≤◌, length, take, number_from_digits_after, AllDigits, digits_from_text}
use Rattle.ijson_number.proofs.fast_reader.take_digits.Given as goal

abbrev pub invariant-loop-count : goal.invariant-loop-count
invariant-loop-count l = record {
  few : l.count ≤ l.most;
  within : l.count ≤ length l.bytes;
  digits : AllDigits (take l.count l.bytes);
  value : l.longer ≡ number_from_digits_after 10 l.number (digits_from_text (take l.count l.bytes));
}

abbrev pub decreases-loop-count : goal.decreases-loop-count
decreases-loop-count l = l.most - l.count
