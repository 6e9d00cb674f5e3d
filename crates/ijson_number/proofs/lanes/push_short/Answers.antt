use Rattle.ijson_number.proofs.Common.{◌≡◌, ◌-◌, ◌*◌, ◌^◌, ◌≤◌, ◌<◌, ◌∙◌, ◌∷◌, ◌++◌, Bool, List, ℕ, ap, drop, length, take, length-append}
use Rattle.ijson_number.proofs.Common.{length-drop, replicate, arith, decimal, IsAscii, length-replicate, length-zip2, IsAscii-append, zip2}
use Rattle.ijson_number.proofs.Common.{bool_byte, minus_text, IsZerosInFront}
use Rattle.ijson_number.specs.private.WordText.{last_digits}
use Rattle.ijson_number.proofs.writing.WrittenLanes.{digits_ascii, sign_ascii, behind_ascii, less, signed_row, signed_shown}
use Rattle.ijson_number.proofs.writing.LastDigits.{number_behind, some_zeros, zero_before, last_count}
use Rattle.ijson_number.proofs.lanes.push_short.Goals.{After-front_of}
use Rattle.ijson_number.proofs.lanes.push_short.Goals as goal

-- Holds if the vector `lanes` is ASCII and its first `count` lanes are `text`.
record IsVector (lanes : List ℕ) (count : ℕ) (text : List ℕ) : Type 0 where
  all : length lanes ≡ 16
  ascii : IsAscii lanes
  is_text : take count lanes ≡ text

-- The subtraction writes the minus sign of a negative number before its digits, in the lane of a
-- leading zero.
signed : (n : ℕ) → n < 10 ^ 15 → (lanes : List ℕ) → lanes ≡ last_digits 16 n → (zeros : ℕ) → IsZerosInFront lanes zeros
    → (negative : Bool) (one minus : ℕ) → one ≡ bool_byte negative → minus ≡ bool_byte negative
    → IsVector (zip2 less (drop (zeros - one) lanes ++ replicate (zeros - one) 0) (3 * minus ∷ replicate 15 0)) (16 - (zeros - one))
    (minus_text negative ++ decimal n)
signed n small lanes is zeros counted negative one minus is_one is_minus =
    let long : length lanes ≡ 16 = rw is (last_count 16 n) in
    let ascii : IsAscii lanes = rw is (digits_ascii 16 n) in
    let few = counted.few in
    let first = some_zeros n small lanes is zeros counted in
    let some : (0 < zeros) × (zeros ≤ 16) = (first, omega arith) in
    let zero = zero_before n small lanes is zeros counted in
    let start : zeros - one ≡ zeros - bool_byte negative = ap (λ m. zeros - m) is_one in
    let row = signed_row lanes long ascii zeros some zero negative (zeros - one) minus start is_minus in
    let front : List ℕ = drop (zeros - one) lanes ++ replicate (zeros - one) 0 in
    let front_long : length front ≡ 16 = simp (length-append, length-drop, length-replicate) (omega arith) in
    record {
      all = length-zip2 less front (3 * minus ∷ replicate 15 0) front_long ∙ front_long;
      ascii = rw row (IsAscii-append (minus_text negative) _ (sign_ascii negative)
          (behind_ascii lanes long ascii zeros some zero (zeros - one)));
      is_text = rw row (signed_shown lanes long ascii zeros some zero negative (zeros - one) start
          ∙ ap (λ l. minus_text negative ++ l) (number_behind n small lanes is zeros counted));
    }

shown : (c : After-front_of) → IsVector (zip2 less c.front_of.result (3 * c.from-2.result ∷ replicate 15 0))
    (16 - (c.zeros_in_front.result - c.from.result)) (minus_text c.args.negative ++ decimal c.args.number)
shown c =
    let lanes = c.lanes_of-lanes in
    rw c.front_of.ensures (signed c.args.number c.requires lanes.result lanes.ensures c.zeros_in_front.result c.zeros_in_front.ensures
    c.args.negative c.from.result c.from-2.result c.from.ensures c.from-2.ensures)

pub overflow_sub-start : goal.overflow_sub-start
overflow_sub-start c =
    let lanes = c.lanes_of-lanes in
    let zeros = c.zeros_in_front in
    omega (
      arith,
      some_zeros c.args.number c.requires lanes.result lanes.ensures zeros.result zeros.ensures,
      c.from.ensures,
      (let one : bool_byte c.args.negative ≤ 1 = grind arith in one),
    )

pub push_lanes-requires-clause-all : goal.push_lanes-requires-clause-all
push_lanes-requires-clause-all c = (shown (goal.at.push_lanes-requires-clause-all c).After-front_of).all

pub push_lanes-requires-clause-ascii : goal.push_lanes-requires-clause-ascii
push_lanes-requires-clause-ascii c = (shown (goal.at.push_lanes-requires-clause-ascii c).After-front_of).ascii

pub returns-clause-written : goal.returns-clause-written
returns-clause-written c = rw (← (shown (goal.at.returns-clause-written c).After-front_of).is_text) c.push_lanes.ensures.written
