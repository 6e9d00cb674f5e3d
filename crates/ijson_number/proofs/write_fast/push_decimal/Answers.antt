use Rattle.ijson_number.proofs.Common.{◌≡◌, ◌/◌, ◌%◌, ◌^◌, ◌∷◌, ◌++◌, ◌-◌, ◌<◌, ◌≤◌, ℕ, Bool, List, drop, length, min, take, append_assoc, refl}
use Rattle.ijson_number.proofs.Common.{arith, IsAscii-drop, decimal, IsAscii, string_bytes, minus_text, pointed_text}
use Rattle.ijson_number.specs.private.WordText.{last_digits}
use Rattle.ijson_number.proofs.writing.Beginnings.{all_or_none, failed, last_append, none_begun}
use Rattle.ijson_number.proofs.writing.LastDigits.{behind_point, but_first, front_is, wide_rest, wide_whole, last_count}
use Rattle.ijson_number.proofs.writing.WrittenLanes.{digits_ascii}
use Rattle.ijson_number.proofs.write_fast.push_decimal.Goals as goal

-- Any part of a vector of ASCII digits is ASCII.
part : (n start : ℕ) (lanes : List ℕ) → lanes ≡ last_digits 16 n → (length lanes ≡ 16) × IsAscii (drop start lanes)
part n start lanes is = rw is (last_count 16 n, IsAscii-drop (last_digits 16 n) start (digits_ascii 16 n))

-- The text of a decimal of more than 15 digits is its leading digits followed by its last 15
-- digits, with the point before the last `scale` digits.
wide_text : (negative : Bool) (magnitude scale : ℕ) (lanes : List ℕ) → lanes ≡ last_digits 16 (magnitude % 10 ^ 15) → scale < 16
    → magnitude < 2 ^ 64 → 10 ^ 15 ≤ magnitude
    → (minus_text negative ++ decimal (magnitude / 10 ^ 15)) ++ (take (15 - scale) (drop 1 lanes) ++ 46 ∷ drop (16 - scale) lanes)
    ≡ pointed_text negative (magnitude / 10 ^ scale) scale (magnitude % 10 ^ scale)
wide_text negative magnitude scale lanes is few word wide =
    let minus = minus_text negative in
    let front = decimal (magnitude / 10 ^ 15) in
    let last : ℕ = magnitude % 10 ^ 15 in
    rw (is, but_first last, behind_point last scale few, wide_rest magnitude scale few word wide)
    (rw (append_assoc minus front, ← append_assoc front, wide_whole magnitude scale few word wide) refl)

pub push_rows-requires-clause-whole : goal.push_rows-requires-clause-whole
push_rows-requires-clause-whole c = part c.args.magnitude c.min-start.result c.lanes_of-lanes.result c.lanes_of-lanes.ensures

pub push_rows-requires-clause-fraction : goal.push_rows-requires-clause-fraction
push_rows-requires-clause-fraction c = part c.args.magnitude (16 - c.args.scale) c.lanes_of-lanes.result c.lanes_of-lanes.ensures

pub returns-then-magnitude-lt-LANES_END : goal.returns-then-magnitude-lt-LANES_END
returns-then-magnitude-lt-LANES_END c =
    let a = c.args in
    let lanes = c.lanes_of-lanes in
    let small : a.magnitude < 10 ^ 16 = omega (arith, c.if-magnitude-lt-LANES_END.true) in
    let start : c.min-start.result ≡ min c.zeros_in_front.result (16 - a.scale - 1) = omega arith in
    all_or_none _ _ _ _ (rw (
      ← front_is a.magnitude a.scale small c.requires.few lanes.result lanes.ensures c.zeros_in_front.result c.zeros_in_front.ensures
          c.min-start.result start,
      ← behind_point a.magnitude a.scale c.requires.few,
      ← lanes.ensures,
    ) c.push_rows.ensures.written) c.push_rows.ensures.refused

pub push_rows-requires-2-clause-whole : goal.push_rows-requires-2-clause-whole
push_rows-requires-2-clause-whole c = part (c.args.magnitude % 10 ^ 15) 1 c.lanes_of-lanes-2.result c.lanes_of-lanes-2.ensures

pub push_rows-requires-2-clause-fraction : goal.push_rows-requires-2-clause-fraction
push_rows-requires-2-clause-fraction c =
    part (c.args.magnitude % 10 ^ 15) (16 - c.args.scale) c.lanes_of-lanes-2.result c.lanes_of-lanes-2.ensures

pub returns-in_err-push_short : goal.returns-in_err-push_short
returns-in_err-push_short c = failed _ _ _ _ c.from_residual.ensures.0 (none_begun _ _ _ c.in_err-push_short.ensures.refused)

pub returns : goal.returns
returns c =
    let a = c.args in
    let lanes = c.lanes_of-lanes-2 in
    let wide : 10 ^ 15 ≤ a.magnitude = omega (arith, c.if-magnitude-lt-LANES_END.false) in
    last_append _ (string_bytes a.out.now) (string_bytes c.push_short.new.out) _ _ _ _ c.in_ok-push_short.ensures.written
    (all_or_none _ _ _ _ c.push_rows-2.ensures.written c.push_rows-2.ensures.refused)
    (wide_text a.negative a.magnitude a.scale lanes.result lanes.ensures c.requires.few c.ranges.magnitude.fits wide)
