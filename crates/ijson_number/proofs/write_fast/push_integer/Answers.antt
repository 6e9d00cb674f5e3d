use Rattle.ijson_number.proofs.Common.{◌≡◌, ◌/◌, ◌%◌, ◌^◌, ◌<◌, ◌≤◌, ◌∙◌, ◌++◌, List, ℕ, append_assoc, drop, refl, take, take_all, arith, decimal}
use Rattle.ijson_number.proofs.Common.{string_bytes, IsAscii-drop, minus_text}
use Rattle.ijson_number.specs.private.WordText.{last_digits}
use Rattle.ijson_number.proofs.writing.WrittenLanes.{digits_ascii}
use Rattle.ijson_number.proofs.writing.Beginnings.{all_or_none, failed, last_append, none_begun}
use Rattle.ijson_number.proofs.writing.LastDigits.{but_first, full_row, wide_decimal, last_count}
use Rattle.ijson_number.proofs.write_fast.push_integer.Goals as goal

-- The text of an integer of more than 15 digits is its leading digits followed by its last 15
-- digits.
wide_text : (minus lanes : List ℕ) (magnitude : ℕ) → lanes ≡ last_digits 16 (magnitude % 10 ^ 15) → magnitude < 2 ^ 64 → 10 ^ 15 ≤ magnitude
    → (minus ++ decimal (magnitude / 10 ^ 15)) ++ take 15 (drop 1 lanes) ≡ minus ++ decimal magnitude
wide_text minus lanes magnitude is word wide =
    let last : ℕ = magnitude % 10 ^ 15 in
    rw (
      is,
      but_first last,
      take_all 15 (last_digits 15 last) (omega (arith, last_count 15 last)),
      append_assoc,
      wide_decimal magnitude 0 (omega arith) word wide,
    ) refl

-- An integer of 16 digits fills a vector.
full : (magnitude : ℕ) (lanes : List ℕ) → 10 ^ 15 ≤ magnitude → magnitude < 10 ^ 16 → lanes ≡ last_digits 16 magnitude
    → take 16 lanes ≡ decimal magnitude
full magnitude lanes wide small is =
    rw is (take_all 16 (last_digits 16 magnitude) (omega (arith, last_count 16 magnitude)) ∙ full_row magnitude wide small)

pub push_lanes-requires-clause-ascii : goal.push_lanes-requires-clause-ascii
push_lanes-requires-clause-ascii c = rw c.lanes_of.ensures (digits_ascii 16 c.args.magnitude)

pub push_lanes-requires-2-clause-ascii : goal.push_lanes-requires-2-clause-ascii
push_lanes-requires-2-clause-ascii c =
    IsAscii-drop c.lanes_of-2.result 1 (rw c.lanes_of-2.ensures (digits_ascii 16 (c.args.magnitude % 10 ^ 15)))

pub returns-then-magnitude-lt-SHORT_END : goal.returns-then-magnitude-lt-SHORT_END
returns-then-magnitude-lt-SHORT_END c = all_or_none _ _ _ _ c.push_short.ensures.written c.push_short.ensures.refused

pub returns-in_err-push_minus : goal.returns-in_err-push_minus
returns-in_err-push_minus c = failed _ _ _ _ c.from_residual.ensures.0 (none_begun _ _ _ c.in_err-push_minus.ensures.refused)

pub returns-then-magnitude-lt-LANES_END : goal.returns-then-magnitude-lt-LANES_END
returns-then-magnitude-lt-LANES_END c =
    let a = c.args in
    let row = full a.magnitude c.lanes_of.result (omega (arith, c.if-magnitude-lt-SHORT_END.false))
    (omega (arith, c.if-magnitude-lt-LANES_END.true)) c.lanes_of.ensures in
    last_append _ (string_bytes a.out.now) (string_bytes c.push_minus.new.out) _ (minus_text a.negative) (take 16 c.lanes_of.result) _
    c.in_ok-push_minus.ensures.written (all_or_none _ _ _ _ c.push_lanes.ensures.written c.push_lanes.ensures.refused) (rw row refl)

pub returns-in_err-push_short : goal.returns-in_err-push_short
returns-in_err-push_short c = failed _ _ _ _ c.from_residual-in_err-push_short.ensures.0 (none_begun _ _ _ c.in_err-push_short.ensures.refused)

pub returns : goal.returns
returns c =
    let a = c.args in
    let wide : 10 ^ 15 ≤ a.magnitude = omega (arith, c.if-magnitude-lt-SHORT_END.false) in
    last_append _ (string_bytes a.out.now) (string_bytes c.push_short-2.new.out) _ (minus_text a.negative ++ decimal (a.magnitude / 10 ^ 15))
    (take 15 (drop 1 c.lanes_of-2.result)) _ c.in_ok-push_short.ensures.written
    (all_or_none _ _ _ _ c.push_lanes-2.ensures.written c.push_lanes-2.ensures.refused)
    (wide_text (minus_text a.negative) c.lanes_of-2.result a.magnitude c.lanes_of-2.ensures c.ranges.magnitude.fits wide)
