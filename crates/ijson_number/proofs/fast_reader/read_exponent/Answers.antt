use Rattle.ijson_number.proofs.Common.{List, drop, ◌≡◌, ℕ, ◌<◌, ◌^◌, ◌⊎◌, get_or, ap, sym, ◌∙◌, length, refl, arith, pos, w32, to_z, EndsToken}
use Rattle.ijson_number.proofs.Common.{IsExponentTail, signed, common_steps, ints, length-append, take_rest, IsExponentSignTaken}
use Rattle.ijson_number.proofs.parsing.FrontNumbers.{digits_few, power_at, negated}
use Rattle.ijson_number.proofs.parsing.CommonFronts.{letter_continues, power_rest}
use Rattle.ijson_number.proofs.fast_reader.read_exponent.Goals.{After-take_digits-magnitude, then-negative, else-negative}
use Rattle.ijson_number.proofs.fast_reader.read_exponent.Goals.{then-count-eq0-via-then-count-eq0}
use Rattle.ijson_number.proofs.fast_reader.read_exponent.Goals.{then-count-eq0-via-else-count-eq0+then-continues_token}
use Rattle.ijson_number.proofs.fast_reader.read_exponent.Goals as goal

-- The number that `take_digits` returns is below `10 ^ 4`.
small : (c : After-take_digits-magnitude) → c.take_digits-magnitude.result.0 < 10 ^ 4
small c = let t = c.take_digits-magnitude in digits_few c.split_exponent_sign-negative.result.1.now t.result.0 t.result.1 t.ensures

-- `split_exponent_sign` splits the sign off the bytes after the letter `e` or `E`.
sign : (c : After-take_digits-magnitude) → IsExponentSignTaken (drop 1 c.args.bytes.now) c.split_exponent_sign-negative.result.0
    c.split_exponent_sign-negative.result.1.now
sign c = rw (take_rest c.args.bytes.now 1) at c.split_exponent_sign-negative.ensures

-- If `bytes` begins with an exponent of at most four digits, `take_digits` reads all of its digits.
all_taken : (c : After-take_digits-magnitude) (rest : List ℕ) → IsExponentTail c.args.bytes.now rest
    → (EndsToken c.args.bytes.now → ⊥) → let t = c.take_digits-magnitude in (0 < t.result.1) × (drop t.result.1 c.split_exponent_sign-negative.result.1.now ≡ rest)
all_taken c rest p on =
    let t = c.take_digits-magnitude in
    power_rest c.args.bytes.now rest c.split_exponent_sign-negative.result.1.now c.split_exponent_sign-negative.result.0
    t.result.0 t.result.1 (sign c) t.ensures on p

pub overflow_cast-magnitude : goal.overflow_cast-magnitude
overflow_cast-magnitude c = let few = small (goal.at.overflow_cast-magnitude c).After-take_digits-magnitude in omega (arith, ints)

pub overflow_sub-power : goal.overflow_sub-power
overflow_sub-power c = let few = small (goal.at.overflow_sub-power c).After-take_digits-magnitude in omega (arith, ints)

-- `EndsToken` does not hold for the bytes, because they begin with the letter `e` or `E`.
on : (c : After-take_digits-magnitude) → EndsToken c.args.bytes.now → ⊥
on c = letter_continues c.args.bytes.now (grind arith) (grind (arith, common_steps))

pub returns-clause-power : goal.returns-clause-power
returns-clause-power c =
    let bytes = c.args.bytes.now in
    let digits = c.split_exponent_sign-negative.result.1.now in
    let negative = c.split_exponent_sign-negative.result.0 in
    let t = c.take_digits-magnitude in
    let at = (goal.at.returns-clause-power c).After-take_digits-magnitude in
    let few = small at in
    let begins : get_or bytes 0 0 ≡ 101 ⊎ get_or bytes 0 0 ≡ 69 = grind (arith, common_steps) in
    let power : to_z w32 c.if-negative.power-bits ≡ signed negative t.result.0 = elim c.if-negative.branch [
      | then-negative w ↦ w.power-is ∙ negated w32 t.result.0 (omega (arith, ints, few)) (omega (arith, ints, few))
          ∙ ap (λ n. signed n t.result.0) (sym w.if-negative.true)
      | else-negative w ↦ w.power-is ∙ (let e : to_z w32 t.result.0 ≡ pos t.result.0 = omega (arith, ints, few) in e) ∙ ap (λ n. signed n t.result.0) (sym w.if-negative.false)
    ] in
    rw c.split_at.ensures.back
    (power_at bytes digits negative t.result.0 t.result.1 (to_z w32 c.if-negative.power-bits) (grind arith) begins
    (sign at) (omega (arith, c.if-count-eq0.false)) t.ensures power
    (rw c.split_at.ensures.back at c.continues_token.ensures.ends (rw c.if-continues_token.false refl)))

pub returns-clause-rest : goal.returns-clause-rest
returns-clause-rest c = λ rest p.
    let at = (goal.at.returns-clause-rest c).After-take_digits-magnitude in
    let taken = all_taken at rest p (on at) in
    let same : length c.split_at.result.1.now ≡ length rest = ap length (c.split_at.ensures.back ∙ taken.1) in
    omega (arith, same, ap length p.text_is ∙ length-append p.exponent_text rest)

pub returns-then-count-eq0-clause-none : goal.returns-then-count-eq0-clause-none
returns-then-count-eq0-clause-none c = λ rest p.
    let at = (goal.at.returns-then-count-eq0-clause-none c).After-take_digits-magnitude in
    let taken = all_taken at rest p (on at) in
    elim c.then-count-eq0.branch [
      | then-count-eq0-via-then-count-eq0 w ↦ (let none = w.if-count-eq0.true in absurd (omega (arith, taken.0, none)))
      | then-count-eq0-via-else-count-eq0+then-continues_token w ↦
          absurd (w.if-continues_token.ensures.on refl (rw (c.split_at.ensures.back, taken.1) p.ends))
    ]
