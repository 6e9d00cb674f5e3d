use Rattle.ijson_number.proofs.Common.{◌≡◌, ◌-◌, ◌+◌, ◌<◌, ◌≤◌, List, ℕ, length, take, drop, drop-drop, take_all, ◌∙◌, arith, All, drop-map}
use Rattle.ijson_number.proofs.Common.{length-drop, length-take-le, take-map, take-take, All-drop, All-take, IsAscii-drop, IsAscii, digits_text}
use Rattle.ijson_number.proofs.writing.WrittenLanes.{digits_text_ascii, row_text, with_zero}
use Rattle.ijson_number.proofs.writing.Beginnings.{all_or_none}
use Rattle.ijson_number.proofs.writing.DigitTexts.{length_text}
use Rattle.ijson_number.proofs.repr.stored.StrippedNumber.push_split.Goals as goal

-- In this module, there are at most 16 digits, and the vector `lanes` ends with them.
module _ (lanes ds : List ℕ) (few : length ds ≤ 16) (is : drop (16 - length ds) lanes ≡ digits_text ds) (before : ℕ)
    (inside : before ≤ length ds) where
  front : take before (drop (16 - length ds) lanes) ≡ digits_text (take before ds)
  front = rw is (take-map {X = ℕ} {Y = ℕ} (λ d. 48 + d) before ds)

  behind : drop (16 - (length ds - before)) lanes ≡ digits_text (drop before ds)
  behind =
      let at : 16 - (length ds - before) ≡ 16 - length ds + before = omega arith in
      rw (at, ← drop-drop {A = ℕ} before (16 - length ds) lanes, is) (drop-map {X = ℕ} {Y = ℕ} (λ d. 48 + d) before ds)

-- In this module, there are more than 16 digits. One vector holds the first 16 digits, and another
-- holds the last 16.
module _ (ds : List ℕ) (below : All (λ d. d < 10) ds) (many : 16 < length ds) where
  first_is : with_zero (take 16 ds) ≡ digits_text (take 16 ds)
  first_is = row_text (take 16 ds) (length-take-le 16 ds (omega arith)) (All-take (λ d. d < 10) 16 ds below)

  first_row : (length (with_zero (take 16 ds)) ≡ 16) × IsAscii (with_zero (take 16 ds))
  first_row = rw first_is (
    length_text (take 16 ds) ∙ length-take-le 16 ds (omega arith),
    digits_text_ascii (take 16 ds) (All-take (λ d. d < 10) 16 ds below),
  )

  last_is : with_zero (take 16 (take (length ds - (length ds - 16)) (drop (length ds - 16) ds))) ≡ digits_text (drop (length ds - 16) ds)
  last_is =
      let last = drop (length ds - 16) ds in
      let long = length-drop (length ds - 16) ds in
      rw (take_all (length ds - (length ds - 16)) last (omega (arith, long)), take_all 16 last (omega (arith, long)))
      (row_text last (omega (arith, long)) (All-drop (λ d. d < 10) (length ds - 16) ds below))

  last_row : let bytes = take 16 (take (length ds - (length ds - 16)) (drop (length ds - 16) ds)) in
      (length (with_zero bytes) ≡ 16) × IsAscii (with_zero bytes)
  last_row =
      let last = drop (length ds - 16) ds in
      rw last_is (
        omega (arith, length_text last, length-drop (length ds - 16) ds),
        digits_text_ascii last (All-drop (λ d. d < 10) (length ds - 16) ds below),
      )

pub push_rows-requires-clause-whole : goal.push_rows-requires-clause-whole
push_rows-requires-clause-whole c =
    let n = c.args.self.now in (
      c.requires.all,
      rw (c.requires.lanes (omega (arith, c.if-count-le-LANES.true)))
          (digits_text_ascii n.digits.now n.stripped.stripped.below_ten),
    )

pub push_rows-requires-clause-fraction : goal.push_rows-requires-clause-fraction
push_rows-requires-clause-fraction c =
    let n = c.args.self.now in
    let ds = n.digits.now in
    let few : length ds ≤ 16 = omega (arith, c.if-count-le-LANES.true) in (
      c.requires.all,
      rw (behind c.args.lanes ds few (c.requires.lanes few) c.args.before c.requires.inside)
          (digits_text_ascii (drop c.args.before ds) (All-drop (λ d. d < 10) c.args.before ds n.stripped.stripped.below_ten)),
    )

pub returns-then-count-le-LANES : goal.returns-then-count-le-LANES
returns-then-count-le-LANES c =
    let ds = c.args.self.now.digits.now in
    let few : length ds ≤ 16 = omega (arith, c.if-count-le-LANES.true) in
    let lanes = c.requires.lanes few in
    all_or_none _ _ _ _ (rw (
      front c.args.lanes ds few lanes c.args.before c.requires.inside,
      behind c.args.lanes ds few lanes c.args.before c.requires.inside,
    ) at c.push_rows.ensures.written) c.push_rows.ensures.refused

pub push_rows-requires-2-clause-whole : goal.push_rows-requires-2-clause-whole
push_rows-requires-2-clause-whole c =
    let n = c.args.self.now in
    first_row n.digits.now n.stripped.stripped.below_ten (omega (arith, c.if-count-le-LANES.false))

pub push_rows-requires-2-clause-fraction : goal.push_rows-requires-2-clause-fraction
push_rows-requires-2-clause-fraction c =
    let n = c.args.self.now in
    let ds = n.digits.now in
    let row = last_row ds n.stripped.stripped.below_ten (omega (arith, c.if-count-le-LANES.false)) in
    (row.0, IsAscii-drop _ (16 - (length ds - c.args.before)) row.1)

pub returns : goal.returns
returns c =
    let n = c.args.self.now in
    let ds = n.digits.now in
    let before = c.args.before in
    let scale = length ds - before in
    let below = n.stripped.stripped.below_ten in
    let inside = c.requires.inside in
    let many : 16 < length ds = omega (arith, c.if-count-le-LANES.false) in
    let places : length ds - before ≤ 16 = omega (arith, c.if-scale-gt-LANES.false) in
    let whole : before ≤ 16 = omega (arith, c.if-before-gt-LANES.false) in
    let at : length ds - 16 + (16 - (length ds - before)) ≡ before = omega arith in
    all_or_none _ _ _ _ (rw (
      first_is ds below many,
      last_is ds below many,
      take-map {X = ℕ} {Y = ℕ} (λ d. 48 + d) before (take 16 ds),
      take-take before 16 ds whole,
      drop-map {X = ℕ} {Y = ℕ} (λ d. 48 + d) (16 - scale) (drop (length ds - 16) ds),
      drop-drop {A = ℕ} (16 - scale) (length ds - 16) ds,
      at,
    ) at c.push_rows-2.ensures.written) c.push_rows-2.ensures.refused
