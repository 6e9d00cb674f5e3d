use Rattle.ijson_number.proofs.Common.{◌≡◌, ◌+◌, ◌++◌, ℕ, List, length, take, sym, ap, ◌∙◌, append_assoc, rules, arith, pos, neg_ℤ, ints, w32}
use Rattle.ijson_number.proofs.Common.{length-append, length-take-le, take-append-drop, IsCommonFront, Parts, value, IsFewFraction}
use Rattle.ijson_number.proofs.parsing.FrontNumbers.{negated}
use Rattle.ijson_number.proofs.parsing.DigitValues.{joined_value, room_left}
use Rattle.ijson_number.proofs.parsing.DigitRuns.{minus_of}
use Rattle.ijson_number.proofs.parsing.CommonFronts.{plain_tail, whole_taken}
use Rattle.ijson_number.proofs.fast_reader.read_mantissa.Goals.{After-split_at}
use Rattle.ijson_number.proofs.fast_reader.read_mantissa.Goals as goal

pub take_fraction-requires-clause-room : goal.take_fraction-requires-clause-room
take_fraction-requires-clause-room c =
    let t = c.take_lanes-number in
    let count : length (take t.result.1 c.split_sign-negative.result.1.now) ≡ t.result.1 =
    length-take-le t.result.1 c.split_sign-negative.result.1.now t.ensures.within in
    rw t.ensures.value (room_left (take t.result.1 c.split_sign-negative.result.1.now) t.result.1 t.ensures.digits count t.ensures.few)

pub returns-clause-found : goal.returns-clause-found
returns-clause-found c =
    let text = c.args.text.now in
    let t = c.take_lanes-number in
    let unsigned = c.split_sign-negative.result.1.now in
    let whole = c.split_at.result.0.now in
    let behind = c.split_at.result.1.now in
    let tail = c.in_ok-magnitude.ensures.tail in
    let rest = c.in_ok-magnitude.rest.now in
    let few = tail.few in
    let minus = minus_of text unsigned c.split_sign-negative.result.0 c.split_sign-negative.ensures in
    let split : unsigned ≡ whole ++ behind =
    rw (c.split_at.ensures.front, c.split_at.ensures.back) (sym (take-append-drop t.result.1 unsigned)) in
    let front = minus.0 ++ (whole ++ tail.front) in
    let all : text ≡ front ++ rest =
    minus.2 ∙ ap (λ u. minus.0 ++ u) (split ∙ ap (λ b. whole ++ b) tail.text_is ∙ sym (append_assoc whole tail.front rest))
    ∙ sym (append_assoc minus.0 (whole ++ tail.front) rest) in
    let sum : length text ≡ length front + length rest = ap length all ∙ length-append front rest in
    let made : t.result.0 ≡ value whole = t.ensures.value ∙ ap value (sym c.split_at.ensures.front) in
    record {
      minus_text = minus.0;
      whole = whole;
      fraction_text = tail.front;
      fraction = tail.digits;
      text_is = all;
      length_is = omega (arith, sum);
      minus = search (rules, minus.1);
      whole_is = c.is_whole.ensures.0 c.if-not-is_whole.false;
      fraction_is = tail.fraction;
      exponent_is = rw (negated w32 c.in_ok-magnitude.scale (omega (arith, ints, few)) (omega (arith, ints, few))) (ap (λ n. neg_ℤ (pos n)) (sym tail.count));
      magnitude_is = rw made at tail.value ∙ joined_value whole tail.digits;
      few = omega (arith, tail.count, few);
      small = tail.small;
      no_point = tail.no_point;
    }

-- If the fast reader accepts the number at the start of `text`, the leading digits after the sign
-- are the whole part of the number.
taken : (c : After-split_at) (p : Parts) (rest : List ℕ) (f : IsCommonFront c.args.text.now p rest)
    → (c.split_at.result.0.now ≡ p.whole) × (c.split_at.result.1.now ≡ f.fraction_text ++ f.after)
taken c p rest f =
    let t = c.take_lanes-number.ensures in
    let s = c.split_at.ensures in
    whole_taken c.args.text.now _ _ _ _ p rest _ c.split_sign-negative.ensures s.front s.back s.front_len t.digits t.all f

-- If the fast reader accepts the number at the start of `text`, an optional fraction of few digits
-- follows its whole part.
tail : (c : After-split_at) (p : Parts) (rest : List ℕ) (f : IsCommonFront c.args.text.now p rest)
    → IsFewFraction c.take_lanes-number.result.0 c.take_lanes-number.result.1 c.split_at.result.1.now f.fraction_text f.after
tail c p rest f =
    let s = c.split_at.ensures in
    rw (c.take_lanes-number.ensures.value ∙ ap value (sym s.front))
    (plain_tail c.args.text.now c.split_at.result.0.now c.split_at.result.1.now p rest c.take_lanes-number.result.1 s.front_len f
    (taken c p rest f))

pub returns-clause-rest : goal.returns-clause-rest
returns-clause-rest c = λ p rest f.
    let at = goal.at.returns-clause-rest c in
    c.in_ok-magnitude.ensures.rest f.fraction_text f.after (tail at.After-split_at p rest f)

pub returns-then-not-is_whole-clause-none : goal.returns-then-not-is_whole-clause-none
returns-then-not-is_whole-clause-none c = λ p rest f.
    let is = c.is_whole.ensures.1 (rw (taken (goal.at.returns-then-not-is_whole-clause-none c).After-split_at p rest f).0 f.whole) in
    let not = c.if-not-is_whole.true in
    grind (arith, is, not)

pub returns-in_err-magnitude-clause-none : goal.returns-in_err-magnitude-clause-none
returns-in_err-magnitude-clause-none c =
    let at = goal.at.returns-in_err-magnitude-clause-none c in
    rw c.from_residual.ensures
    (λ p rest f. c.in_err-magnitude.ensures.none f.fraction_text f.after
    (tail at.After-split_at p rest f))
