use Rattle.ijson_number.proofs.Common.{◌≡◌, ◌≢◌, arith, ◌+ℤ◌, ℤ, pos, ints, to_z-of_z, w32, of_z, to_z}
use Rattle.ijson_number.proofs.parsing.FrontNumbers.{front_with}
use Rattle.ijson_number.proofs.fast_reader.with_exponent.Goals.{then-mantissa-eq0, else-mantissa-eq0}
use Rattle.ijson_number.proofs.fast_reader.with_exponent.Goals as goal

pub returns-in_err-power-clause-none : goal.returns-in_err-power-clause-none
returns-in_err-power-clause-none c = rw c.from_residual.ensures (λ behind t. c.requires.continues (c.in_err-power.ensures.none behind t))

pub returns-clause-front : goal.returns-clause-front
returns-clause-front c = λ text m.
    let e = c.args.front.significand.exponent in
    let magnitude = c.args.front.significand.magnitude in
    let power = c.in_ok-power.power in
    let few = m.few in
    let low = c.in_ok-power.ensures.power.small.0 in
    let high = c.in_ok-power.ensures.power.small.1 in
    let sum : to_z w32 (of_z w32 (to_z w32 (of_z w32 e) +ℤ to_z w32 (of_z w32 power))) ≡ e +ℤ power = rw
    (to_z-of_z w32 e (omega (arith, ints, m.exponent_is)), to_z-of_z w32 power (omega (arith, ints)))
    (to_z-of_z w32 (e +ℤ power) (omega (arith, ints, m.exponent_is))) in
    let exponent : ℤ = to_z w32 c.if-mantissa-eq0.exponent-bits in
    let zero : magnitude ≡ 0 → exponent ≡ pos 0 = λ none. elim c.if-mantissa-eq0.branch [
      | then-mantissa-eq0 w ↦ rw w.exponent-is (omega (arith, ints))
      | else-mantissa-eq0 w ↦ absurd (w.if-mantissa-eq0.false none)
    ] in
    let others : magnitude ≢ 0 → exponent ≡ e +ℤ power = λ some. elim c.if-mantissa-eq0.branch [
      | then-mantissa-eq0 w ↦ absurd (some w.if-mantissa-eq0.true)
      | else-mantissa-eq0 w ↦ rw w.exponent-is sum
    ] in
    front_with text c.args.rest.now c.args.front m power exponent c.in_ok-power.length c.in_ok-power.ensures.power zero others
